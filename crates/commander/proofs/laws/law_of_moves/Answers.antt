use Rattle.commander.proofs.Moves.{each_call}
use Rattle.commander.proofs.laws.law_of_moves.Goals as goal

pub returns : goal.returns
returns c = each_call
