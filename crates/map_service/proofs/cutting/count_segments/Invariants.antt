use Rattle.std.proofs.Common.{◌≡◌, ◌≤◌, ℕ, ◌+◌, [], length}
use Rattle.map_service.specs.Cutting.{segments_of}
use Rattle.map_service.specs.Packets.{rest_in}
use Rattle.map_service.proofs.cutting.count_segments.Given as goal

abbrev pub invariant-groups : goal.invariant-groups
invariant-groups l = record {
  whole : rest_in l.rest ≡ [];
  room : l.count + length l.rest ≤ length l.octets;
  count : (m : ℕ) → l.count + length (segments_of l.part m l.rest) ≡ length (segments_of l.part m l.octets);
}

abbrev pub decreases-groups : goal.decreases-groups
decreases-groups l = length l.rest
