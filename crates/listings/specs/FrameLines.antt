-- The lines of TC frames: the fields of each.
use Rattle.std.specs.Prelude.{ℕ, is_ok, List, ◌++◌, codes, decimal, Result, Ok, Err}
use Rattle.tc_frame.specs.declared.frame.Check.{Check}
use Rattle.tc_frame.specs.declared.frame.Command.TheVariants.{Unlock, SetVr}
use Rattle.tc_frame.specs.declared.fault.TcFault.{TcFault}
use Rattle.tc_frame.specs.Layout.{SegmentView, BodyView, Ad, Bd, Bc, FrameView, flags_code}
use Rattle.tc_frame.specs.Decoding.{frame_at}
use Rattle.listings.specs.RefusalLines.{frame_fault_line}
use Rattle.listings.specs.Listing.{Lines}
use Rattle.listings.specs.Text.{octets_line, line_end}

abbrev pub type_word : BodyView → List ℕ
type_word (Ad n segment) = codes "AD"
type_word (Bd segment) = codes "BD"
type_word (Bc command) = codes "BC"

-- the frame's type, and the channel that it came on
abbrev pub channel_text : FrameView → List ℕ
channel_text f =
    type_word f.body ++ (codes " scid=" ++ (decimal f.scid ++ (codes " vcid=" ++ decimal f.vcid)))

-- a segment, up to the end of the line
abbrev pub segment_text : SegmentView → List ℕ
segment_text s =
    codes " seg="
    ++ (decimal (flags_code s.header.flags)
    ++ (codes " map=" ++ (decimal s.header.map ++ (codes " data=" ++ octets_line s.payload))))

-- what the frame carries, up to the end of the line
abbrev pub body_line : BodyView → List ℕ
body_line (Ad n segment) = codes " n=" ++ (decimal n ++ segment_text segment)
body_line (Bd segment) = segment_text segment
body_line (Bc Unlock) = codes " unlock" ++ line_end
body_line (Bc (SetVr x)) = codes " set " ++ (decimal x ++ line_end)

abbrev pub frame_line : ℕ → Result FrameView TcFault → List ℕ
frame_line i (Ok f) = decimal i ++ (codes " " ++ (channel_text f ++ body_line f.body))
frame_line i (Err e) = frame_fault_line i e

-- what is written for frames
abbrev pub frame_lines : Check → Lines (Unit {0}) TcFault
frame_lines check = record {
  line_of = λ s i octets. frame_line i (frame_at check octets);
  after = λ s octets. s;
  is_good = λ octets. is_ok (frame_at check octets);
  fault_line = frame_fault_line;
}
