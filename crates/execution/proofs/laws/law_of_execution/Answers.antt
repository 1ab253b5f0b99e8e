use Rattle.execution.proofs.Deeds.{each_system}
use Rattle.execution.proofs.laws.law_of_execution.Goals as goal

pub returns : goal.returns
returns c = each_system
