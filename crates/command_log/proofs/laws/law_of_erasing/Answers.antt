use Rattle.command_log.proofs.Torn.{each_erased}
use Rattle.command_log.proofs.laws.law_of_erasing.Goals as goal

pub returns : goal.returns
returns c = each_erased
