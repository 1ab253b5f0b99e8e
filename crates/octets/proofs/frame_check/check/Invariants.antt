use Rattle.std.proofs.Common.{◌≡◌, ◌<◌, drop, length}
use Rattle.octets.proofs.Division.{divided}
use Rattle.octets.proofs.frame_check.check.Given as goal

abbrev pub invariant-loop-sixteen : goal.invariant-loop-sixteen
invariant-loop-sixteen l = (l.register < 65536) × (divided l.register 0 l.left ≡ divided 0xffff 0 l.octets)

abbrev pub decreases-loop-sixteen : goal.decreases-loop-sixteen
decreases-loop-sixteen l = length l.left

abbrev pub invariant-loop-eight : goal.invariant-loop-eight
invariant-loop-eight l = (l.register < 65536) × (divided l.register 0 l.left ≡ divided 0xffff 0 l.octets)

abbrev pub decreases-loop-eight : goal.decreases-loop-eight
decreases-loop-eight l = length l.left

abbrev pub invariant-loop-octet : goal.invariant-loop-octet
invariant-loop-octet l =
    (l.register < 65536) × (divided l.register 0 (drop l.octet-index l.octet-items) ≡ divided 0xffff 0 l.octets)
