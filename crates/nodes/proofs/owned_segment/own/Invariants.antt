use Rattle.std.proofs.Common.{◌≡◌, ◌≤◌, length, take}
use Rattle.std.specs.VecDeque.{deque_capacity}
use Rattle.map_service.specs.Cutting.{segment_views}
use Rattle.nodes.proofs.owned_segment.own.Given as goal

abbrev pub invariant-loop-segment : goal.invariant-loop-segment
invariant-loop-segment l = record {
  items : l.owned.items ≡ segment_views (take l.segment-index l.segments);
  room : length l.segments ≤ deque_capacity l.owned;
}
