use Rattle.std.proofs.Common.{◌≡◌, ◌≤◌, ◌++◌, length, take}
use Rattle.map_service.specs.Cutting.{segment_views, pieces_of, later_segments, parts_of}
use Rattle.map_service.proofs.cutting.append_parts.Given as goal

abbrev pub invariant-parts : goal.invariant-parts
invariant-parts l = record {
  some : 1 ≤ length l.rest;
  views : segment_views l.segments.items ++ later_segments l.map (pieces_of l.part l.rest)
      ≡ segment_views l.fn.segments.items ++ parts_of l.part l.map l.fn.octets;
  before : take (length l.fn.segments.items) l.segments.items ≡ l.fn.segments.items;
}

abbrev pub decreases-parts : goal.decreases-parts
decreases-parts l = length l.rest
