use Rattle.command_log.proofs.Good.{each_keeps}
use Rattle.command_log.proofs.laws.law_of_keeping.Goals as goal

pub returns : goal.returns
returns c = each_keeps
