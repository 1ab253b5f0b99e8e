use Rattle.std.proofs.Common.{◌∙◌}
use Rattle.command_log.proofs.Division.{check_from_none}
use Rattle.command_log.proofs.crc.check.Goals as goal

pub returns : goal.returns
returns c = c.check_after.ensures ∙ check_from_none c.args.octets.now
