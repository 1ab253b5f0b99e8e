use Rattle.command_log.proofs.History.{each_history}
use Rattle.command_log.proofs.laws.law_of_history.Goals as goal

pub returns : goal.returns
returns c = each_history
