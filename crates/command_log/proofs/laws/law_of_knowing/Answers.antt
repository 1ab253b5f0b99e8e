use Rattle.command_log.proofs.Unknown.{each_knows_most}
use Rattle.command_log.proofs.laws.law_of_knowing.Goals as goal

pub returns : goal.returns
returns c = each_knows_most
