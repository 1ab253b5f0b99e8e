use Rattle.std.proofs.Common.{◌≡◌, ◌+◌, drop}
use Rattle.nodes.specs.Fates.{whole_within}
use Rattle.nodes.proofs.ground_node.kept.are_whole.Given as goal

abbrev pub invariant-loop-count : goal.invariant-loop-count
invariant-loop-count l =
    l.count-index + whole_within l.more (drop l.count-index l.segments) ≡ whole_within l.sent l.segments
