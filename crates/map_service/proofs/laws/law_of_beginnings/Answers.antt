use Rattle.map_service.proofs.AssemblerSteps.{assembled_begins}
use Rattle.map_service.proofs.laws.law_of_beginnings.Goals as goal

pub returns : goal.returns
returns c = assembled_begins
