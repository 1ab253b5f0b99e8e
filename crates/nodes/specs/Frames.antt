-- Frames as the ground writes them, at the beginning of octets.
use Rattle.std.specs.Prelude.{ℕ, List, ◌++◌, take, drop, Option, Some, None}
use Rattle.tc_frame.specs.declared.frame.Check.TheVariants.{On}
use Rattle.tc_frame.specs.Layout.{FrameView, IsTcFrame}
use Rattle.tc_frame.specs.Encoding.{spelling, total_of}

-- the length of the frame in octets, with its FECF; None if there is no frame
abbrev pub size_of : Option FrameView → Option ℕ
size_of None = None
size_of (Some frame) = Some (total_of On frame)

-- the octets after the frame is written over the first ones
abbrev pub written_over : List ℕ → Option FrameView → List ℕ
written_over octets None = octets
written_over octets (Some frame) = spelling On frame ++ drop (total_of On frame) octets

-- the octets begin with the frame
abbrev pub BeginsWith : List ℕ → Option FrameView → Type 0
BeginsWith octets None = Unit {0}
BeginsWith octets (Some frame) = IsTcFrame On frame (take (total_of On frame) octets)
