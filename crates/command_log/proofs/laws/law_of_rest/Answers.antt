use Rattle.command_log.proofs.Rest.{each_comes_to_rest, each_next}
use Rattle.command_log.proofs.laws.law_of_rest.Goals as goal

pub returns : goal.returns
returns c = record { rest = each_comes_to_rest; next = each_next }
