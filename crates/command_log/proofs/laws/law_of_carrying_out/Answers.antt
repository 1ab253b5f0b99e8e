use Rattle.command_log.proofs.Pair.{each_carries_out}
use Rattle.command_log.proofs.laws.law_of_carrying_out.Goals as goal

pub returns : goal.returns
returns c = each_carries_out
