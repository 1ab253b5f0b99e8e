use Rattle.tc_link.proofs.Outage.{at_most_the_first}
use Rattle.tc_link.proofs.outage_law.law_of_outage.Goals as goal

pub returns : goal.returns
returns c = at_most_the_first
