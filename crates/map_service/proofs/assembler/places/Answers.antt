use Rattle.std.proofs.Common.{refl, arith}
use Rattle.std.specs.Int.Count.{count_leading_zeros}
use Rattle.map_service.proofs.PartLists.{all_places}
use Rattle.map_service.proofs.assembler.places.Goals as goal

pub returns-clause-places : goal.returns-clause-places
returns-clause-places c =
    all_places c.args.limits.now (count_leading_zeros 64 c.args.limits.now.maps) (omega arith) refl
