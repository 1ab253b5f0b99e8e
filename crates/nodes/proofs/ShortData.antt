-- The length of a frame's segment.
use Rattle.std.proofs.Common.{◌≡◌, ◌≤◌, ℕ, suc, ◌-◌, List, length, take, drop, ap, arith}
use Rattle.std.proofs.lemmas.List.{length-drop, length-take-le}
use Rattle.tc_frame.specs.declared.frame.Check.TheVariants.{On}
use Rattle.tc_frame.specs.Layout.{FrameView, body_octets, IsTcFrame}

-- A frame's segment has at most 1,016 octets of data, since the frame has at most 1,024 octets.
pub short_data : (f : FrameView) (b payload : List ℕ) → IsTcFrame On f b
    → length (body_octets f.body) ≡ suc (suc (length payload)) → length payload ≤ 1016
short_data f b payload frame count =
    let rest : length (drop 4 (take (length b - 2) b)) ≡ length (body_octets f.body) = ap length frame.rest in
    let shorter : length (take (length b - 2) b) ≡ length b - 2 = length-take-le (length b - 2) b (omega arith) in
    omega (arith, count, rest, shorter, length-drop 4 (take (length b - 2) b), frame.total)
