use Rattle.tc_link.proofs.Seen.{each_is_seen}
use Rattle.tc_link.proofs.laws.law_of_seen.Goals as goal

pub returns : goal.returns
returns c = each_is_seen
