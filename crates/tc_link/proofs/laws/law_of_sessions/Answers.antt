use Rattle.tc_link.proofs.Promised.{holds_throughout}
use Rattle.tc_link.proofs.laws.law_of_sessions.Goals as goal

pub returns : goal.returns
returns c = holds_throughout
