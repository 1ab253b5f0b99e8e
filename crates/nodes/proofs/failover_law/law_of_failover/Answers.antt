use Rattle.nodes.proofs.Failover.{each_goes_on}
use Rattle.nodes.proofs.failover_law.law_of_failover.Goals as goal

pub returns : goal.returns
returns c = each_goes_on
