use Rattle.command_log.proofs.Steps.{each_is_carried_out}
use Rattle.command_log.proofs.laws.law_of_execution.Goals as goal

pub returns : goal.returns
returns c = each_is_carried_out
