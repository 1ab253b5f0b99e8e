use Rattle.std.proofs.Common.{◌≡◌, ◌+◌, [], length, drop}
use Rattle.std.specs.Prelude.{slice_get}
use Rattle.map_service.specs.Cutting.{segments_of}
use Rattle.map_service.specs.Packets.{rest_in}
use Rattle.sedgechisel.specs.Cuttings.{octets_before}
use Rattle.sedgechisel.proofs.cutting.place_in.Given as goal

abbrev pub invariant-groups : goal.invariant-groups
invariant-groups l = record {
  whole : rest_in l.rest ≡ [];
  behind : l.rest ≡ drop l.from l.octets;
  within : l.from + length l.rest ≡ length l.octets;
  left : slice_get (segments_of l.part 0 l.rest) l.left ≡ slice_get (segments_of l.part 0 l.octets) l.k;
  before : l.from + octets_before (segments_of l.part 0 l.rest) l.left
      ≡ octets_before (segments_of l.part 0 l.octets) l.k;
}

abbrev pub decreases-groups : goal.decreases-groups
decreases-groups l = length l.rest
