use Rattle.std.proofs.Common.{◌≡◌, ◌++◌, [], length, take}
use Rattle.map_service.specs.Cutting.{segment_views, segments_of}
use Rattle.map_service.specs.Packets.{rest_in}
use Rattle.map_service.proofs.cutting.cut_packets.Given as goal

abbrev pub invariant-groups : goal.invariant-groups
invariant-groups l = record {
  whole : rest_in l.rest ≡ [];
  views : segment_views l.segments.items ++ segments_of l.part l.map l.rest ≡ segment_views l.fn.segments.items
      ++ segments_of l.part l.map l.fn.octets;
  before : take (length l.fn.segments.items) l.segments.items ≡ l.fn.segments.items;
}

abbrev pub decreases-groups : goal.decreases-groups
decreases-groups l = length l.rest
