use Rattle.std.proofs.Common.{◌≡◌, ◌≤◌, ◌+◌, ◌++◌, ◌-◌, length, take, drop}
use Rattle.nodes.specs.Fates.{whole_within}
use Rattle.nodes.proofs.ground_node.kept.put_whole.Given as goal

abbrev pub invariant-submissions : goal.invariant-submissions
invariant-submissions l = record {
  counted : l.whole + whole_within l.more (drop l.whole l.left.items)
      ≡ whole_within l.fn.sent l.left.items;
  within : l.whole ≤ length l.left.items;
  most : l.whole + l.more ≤ l.fn.sent;
  put : l.out ≡ take l.whole l.left.items ++ drop l.whole l.fn.out;
}

abbrev pub decreases-submissions : goal.decreases-submissions
decreases-submissions l = length l.left.items - l.whole
