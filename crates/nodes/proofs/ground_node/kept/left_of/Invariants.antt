use Rattle.std.proofs.Common.{◌≡◌, ◌≤◌, ◌+◌, take}
use Rattle.std.specs.VecDeque.{deque_capacity}
use Rattle.nodes.proofs.ground_node.kept.left_of.Given as goal

abbrev pub invariant-loop-count : goal.invariant-loop-count
invariant-loop-count l =
    (l.left.items ≡ take l.count-index l.kept.segments) × (l.slots + 127 ≤ deque_capacity l.left)
