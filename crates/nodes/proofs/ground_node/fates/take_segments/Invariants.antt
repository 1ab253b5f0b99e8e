use Rattle.std.proofs.Common.{◌≡◌, ◌≤◌, length}
use Rattle.std.specs.VecDeque.{deque_capacity}
use Rattle.nodes.specs.Fates.{left_after}
use Rattle.nodes.proofs.ground_node.fates.take_segments.Given as goal

abbrev pub invariant-segments : goal.invariant-segments
invariant-segments l = record {
  left : left_after l.more l.left.items ≡ left_after l.fn.segments l.fn.left.items;
  fewer : length l.left.items ≤ l.before;
  capacity : deque_capacity l.left ≡ deque_capacity l.fn.left;
}

abbrev pub decreases-segments : goal.decreases-segments
decreases-segments l = l.more
