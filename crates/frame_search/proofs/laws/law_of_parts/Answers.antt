use Rattle.frame_search.proofs.Steps.{are_parts}
use Rattle.frame_search.proofs.laws.law_of_parts.Goals as goal

pub returns : goal.returns
returns c = are_parts
