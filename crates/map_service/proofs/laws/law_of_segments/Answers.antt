use Rattle.map_service.proofs.Parts.{segments-joined, segments-parts}
use Rattle.map_service.proofs.Passage.{cuttable_from}
use Rattle.map_service.proofs.laws.law_of_segments.Goals as goal

pub returns-clause-joined : goal.returns-clause-joined
returns-clause-joined c =
    λ limits m octets one none. segments-joined limits.part m octets one (cuttable_from limits octets none).whole

pub returns-clause-each : goal.returns-clause-each
returns-clause-each c = segments-parts
