use Rattle.std.proofs.Common.{◌≡◌, length}
use Rattle.tm_link.specs.Builder.{left_after}
use Rattle.tm_link.proofs.data_field.pass.Given as goal

abbrev pub invariant-loop-left : goal.invariant-loop-left
invariant-loop-left l = left_after l.room l.left l.sizes.items ≡ left_after l.fn.count l.fn.begun l.fn.sizes.items

abbrev pub decreases-loop-left : goal.decreases-loop-left
decreases-loop-left l = length l.sizes.items
