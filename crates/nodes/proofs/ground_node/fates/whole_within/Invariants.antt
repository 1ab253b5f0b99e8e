use Rattle.std.proofs.Common.{◌≡◌, ◌≤◌, ◌+◌, ◌-◌, length, drop}
use Rattle.nodes.specs.Fates.{whole_within}
use Rattle.nodes.proofs.ground_node.fates.whole_within.Given as goal

abbrev pub invariant-submissions : goal.invariant-submissions
invariant-submissions l = record {
  counted : l.whole + whole_within l.more (drop l.whole l.left.items)
      ≡ whole_within l.fn.segments l.left.items;
  within : l.whole ≤ length l.left.items;
}

abbrev pub decreases-submissions : goal.decreases-submissions
decreases-submissions l = length l.left.items - l.whole
