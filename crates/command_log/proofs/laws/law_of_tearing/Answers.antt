use Rattle.command_log.proofs.Torn.{each_torn}
use Rattle.command_log.proofs.laws.law_of_tearing.Goals as goal

pub returns : goal.returns
returns c = each_torn
