use Rattle.std.proofs.Common.{◌≡◌, length}
use Rattle.sedgechisel.specs.Builders.{are_whole}
use Rattle.sedgechisel.proofs.telemetry_builder.are_whole.Given as goal

abbrev pub invariant-loop-left : goal.invariant-loop-left
invariant-loop-left l = are_whole l.rest l.left l.room ≡ are_whole l.fn.packets l.fn.begun l.fn.count

abbrev pub decreases-loop-left : goal.decreases-loop-left
decreases-loop-left l = length l.rest
