-- The telecommand transfer frame, and the octets that spell it (CCSDS 232.0-B-4, 4.1).
use Rattle.std.specs.Prelude.{◌≡◌, ◌≤◌, ◌<◌, ℕ, ◌+◌, ◌-◌, ◌*◌, List, [], ◌∷◌, length, take, drop}
use Rattle.std.specs.Prelude.{Bool, true, ◌&&◌, nat_lt, IsTrue}
use Rattle.octets.specs.Number.{number_of}
use Rattle.octets.specs.Check.{HoldsCheck}
use Rattle.tc_frame.specs.declared.frame.Check.{Check}
use Rattle.tc_frame.specs.declared.frame.Check.TheVariants.{On, Off}
use Rattle.tc_frame.specs.declared.frame.SegmentFlags.{SegmentFlags}
use Rattle.tc_frame.specs.declared.frame.SegmentFlags.TheVariants.{First, Continuing, Last, Alone}
use Rattle.tc_frame.specs.declared.frame.SegmentHeader.{SegmentHeader}
use Rattle.tc_frame.specs.declared.frame.Segment.{Segment}
use Rattle.tc_frame.specs.declared.frame.Command.{Command}
use Rattle.tc_frame.specs.declared.frame.Command.TheVariants.{Unlock, SetVr}
use Rattle.tc_frame.specs.declared.frame.Body.{Body}
use Rattle.tc_frame.specs.declared.frame.Body.TheVariants as bodies
use Rattle.tc_frame.specs.declared.frame.TcFrame.{TcFrame}

-- ---- a frame without the place of its payload in memory

pub record SegmentView : Type 0 where
  pub header : SegmentHeader
  pub payload : List ℕ

pub data BodyView : Type 0 where
  Ad : ℕ → SegmentView → BodyView
  Bd : SegmentView → BodyView
  Bc : Command → BodyView

pub record FrameView : Type 0 where
  pub scid : ℕ
  pub vcid : ℕ
  pub body : BodyView

abbrev pub segment_view : Segment → SegmentView
segment_view s = record { header = s.header; payload = s.payload.now }

abbrev pub body_view : Body → BodyView
body_view (bodies.Ad n s) = Ad n (segment_view s)
body_view (bodies.Bd s) = Bd (segment_view s)
body_view (bodies.Bc c) = Bc c

abbrev pub frame_view : TcFrame → FrameView
frame_view f = record { scid = f.scid; vcid = f.vcid; body = body_view f.body }

-- ---- the header's flags (4.1.2.3)

-- 1 for frames that bypass sequence control
abbrev pub bypass_flag : BodyView → ℕ
bypass_flag (Ad n s) = 0
bypass_flag (Bd s) = 1
bypass_flag (Bc c) = 1

-- 1 for frames that carry a control command
abbrev pub control_flag : BodyView → ℕ
control_flag (Ad n s) = 0
control_flag (Bd s) = 0
control_flag (Bc c) = 1

-- ---- the sequence number (4.1.2.8) and the data field (4.1.3)

abbrev pub flags_code : SegmentFlags → ℕ
flags_code Continuing = 0
flags_code First = 1
flags_code Last = 2
flags_code Alone = 3

abbrev pub header_octet : SegmentHeader → ℕ
header_octet h = 64 * flags_code h.flags + h.map

abbrev pub segment_octets : SegmentView → List ℕ
segment_octets s = header_octet s.header ∷ s.payload

abbrev pub command_octets : Command → List ℕ
command_octets Unlock = 0 ∷ []
command_octets (SetVr x) = 0x82 ∷ 0 ∷ x ∷ []

-- N(S), which is 0 in bypass frames, followed by the data field
abbrev pub body_octets : BodyView → List ℕ
body_octets (Ad n s) = n ∷ segment_octets s
body_octets (Bd s) = 0 ∷ segment_octets s
body_octets (Bc c) = 0 ∷ command_octets c

-- the MAP is in range, and there is at least one octet after the segment header
abbrev pub segment_fits : SegmentView → Bool
segment_fits s = nat_lt s.header.map 64 && nat_lt 0 (length s.payload)

abbrev pub body_fits : BodyView → Bool
body_fits (Ad n s) = segment_fits s
body_fits (Bd s) = segment_fits s
body_fits (Bc c) = true

-- ---- the check (4.1.4)

-- the number of octets that the check takes at the end of a frame
abbrev pub check_length : Check → ℕ
check_length On = 2
check_length Off = 0

abbrev pub before_check : Check → List ℕ → List ℕ
before_check check b = take (length b - check_length check) b

abbrev pub HoldsCheckIfOn : Check → List ℕ → Type 0
HoldsCheckIfOn On b = HoldsCheck b
HoldsCheckIfOn Off b = Unit {0}

-- ---- the frame

-- The octets b spell the frame f.
pub record IsTcFrame (check : Check) (f : FrameView) (b : List ℕ) : Type 0 where
  -- octets 0 and 1: version 00, the flags, spare 00, the spacecraft
  pub first : number_of (take 2 b) ≡ 8192 * bypass_flag f.body + 4096 * control_flag f.body + f.scid
  -- octets 2 and 3: the virtual channel, the total number of octets less one
  pub second : number_of (take 2 (drop 2 b)) ≡ 1024 * f.vcid + length b - 1
  -- from octet 4 on
  pub rest : drop 4 (before_check check b) ≡ body_octets f.body
  pub checked : HoldsCheckIfOn check b
  pub scid : f.scid < 1024
  pub vcid : f.vcid < 64
  pub fits : IsTrue (body_fits f.body)
  pub total : length b ≤ 1024
