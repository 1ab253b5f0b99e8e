use Rattle.command_log.proofs.Exact.{each_command_is_read, each_read_is_a_command}
use Rattle.command_log.proofs.laws.law_of_commands.Goals as goal

pub returns : goal.returns
returns c = record { read = each_command_is_read; only = each_read_is_a_command }
