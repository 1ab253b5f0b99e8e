use Rattle.execution.proofs.Deeds.{each_is_own}
use Rattle.execution.proofs.laws.law_of_own_commands.Goals as goal

pub returns : goal.returns
returns c = each_is_own
