-- The packets from each frame, by the receiver's table and then by the assembler's, and what is
-- dropped.
use Rattle.std.specs.Prelude.{ℕ, is_ok, Bool, true, false, ◌&&◌, List, [], ◌++◌, map, replicate}
use Rattle.std.specs.Prelude.{codes, decimal, if◌then◌else◌, Option, Some, None, Result, Ok, Err}
use Rattle.std.specs.List.{concat}
use Rattle.tc_frame.specs.declared.frame.Check.{Check}
use Rattle.tc_frame.specs.declared.frame.SegmentFlags.{SegmentFlags}
use Rattle.tc_frame.specs.declared.frame.SegmentFlags.TheVariants.{First, Continuing, Last, Alone}
use Rattle.tc_frame.specs.declared.fault.TcFault.{TcFault}
use Rattle.tc_frame.specs.Layout.{SegmentView, BodyView, Ad, Bd, Bc, FrameView}
use Rattle.tc_frame.specs.Decoding.{frame_at}
use Rattle.cop1.specs.Farm.{FarmState, new_farm, verdict_of}
use Rattle.cop1.specs.declared.farm.Verdict.{Verdict}
use Rattle.cop1.specs.declared.farm.Verdict.TheVariants.{Accepted, Ahead, NoBuffer, Behind, Outside}
use Rattle.cop1.specs.declared.farm.Verdict.TheVariants.{Discarded}
use Rattle.map_service.specs.declared.dropped.Dropped.{Dropped}
use Rattle.map_service.specs.declared.limits.Limits.{Limits}
use Rattle.map_service.specs.Causes.{cause_row}
use Rattle.map_service.specs.Exactness.{AssemblerState, step_at, after_step}
use Rattle.map_service.specs.Packets.{is_packet}
use Rattle.map_service.specs.AssemblerTable.{TakeOutcome}
use Rattle.listings.specs.FarmLines as farms
use Rattle.listings.specs.RefusalLines.{frame_fault_line}
use Rattle.listings.specs.Listing.{Lines}
use Rattle.listings.specs.Text.{octets_line, line_end}

-- the receiver, and the one assembler that takes what the receiver accepts
pub record MapState : Type 0 where
  pub receiver : FarmState
  pub assembler : AssemblerState

-- all MAPs are open, a segment has at most 1,016 octets of data, and a packet at most 65,542
abbrev pub map_limits : Bool → Limits
map_limits blocking =
    record { part = 1016; max_packet = 65542; maps = 18446744073709551615; blocking = blocking }

-- an assembler with no part open
abbrev pub none_open : Bool → AssemblerState
none_open blocking = record { limits = map_limits blocking; parts = replicate 64 None }

-- before the first frame
abbrev pub map_opened : ℕ → ℕ → Bool → MapState
map_opened width vr blocking =
    record { receiver = new_farm width vr; assembler = none_open blocking }

-- ---- what the assembler takes

-- the segment of a Type-AD frame, if the receiver accepts it
abbrev pub if_accepted : Verdict → SegmentView → Option SegmentView
if_accepted Accepted s = Some s
if_accepted Ahead s = None
if_accepted NoBuffer s = None
if_accepted Behind s = None
if_accepted Outside s = None
if_accepted Discarded s = None

-- the segment that a frame gives to the assembler, if it gives one; the buffer on board is free
abbrev pub segment_of : FarmState → BodyView → Option SegmentView
segment_of r (Ad n s) = if_accepted (verdict_of r n true) s
segment_of r (Bd s) = None
segment_of r (Bc command) = None

abbrev pub assembler_after : AssemblerState → Option SegmentView → AssemblerState
assembler_after a None = a
assembler_after a (Some s) = after_step a s

-- the receiver and the assembler after a frame
abbrev pub after_body : MapState → BodyView → MapState
after_body x body = record {
  receiver = farms.after_body x.receiver body;
  assembler = assembler_after x.assembler (segment_of x.receiver body);
}

abbrev pub after_frame : MapState → Result FrameView TcFault → MapState
after_frame x (Ok f) = after_body x f.body
after_frame x (Err e) = x

abbrev pub after_record : Check → MapState → List ℕ → MapState
after_record check x octets = after_frame x (frame_at check octets)

-- ---- lines

-- a frame's number, and why something is dropped
abbrev pub dropped_line : ℕ → List ℕ → List ℕ
dropped_line i cause = decimal i ++ (codes " dropped " ++ (cause ++ line_end))

-- a word, a MAP, and octets that came on it
abbrev pub on_map_line : List ℕ → ℕ → List ℕ → List ℕ
on_map_line word m octets = word ++ (decimal m ++ (codes " " ++ octets_line octets))

abbrev pub cause_text : ℕ → Option Dropped → List ℕ
cause_text i None = []
cause_text i (Some cause) = dropped_line i (cause_row cause).1

abbrev pub map_packets_text : ℕ → List (List ℕ) → List ℕ
map_packets_text m packets = concat (map (on_map_line (codes "packet ") m) packets)

-- what the assembler drops at a segment of MAP m, and then the packets that it delivers
abbrev pub outcome_text : ℕ → ℕ → TakeOutcome → List ℕ
outcome_text i m o = cause_text i o.dropped ++ map_packets_text m o.packets

abbrev pub segment_text : ℕ → AssemblerState → Option SegmentView → List ℕ
segment_text i a None = []
segment_text i a (Some s) = outcome_text i s.header.map (step_at a s)

abbrev pub are_alone : SegmentFlags → Bool
are_alone First = false
are_alone Continuing = false
are_alone Last = false
are_alone Alone = true

-- whether the segment of a Type-BD frame is exactly one whole packet
abbrev pub is_bypass : SegmentView → Bool
is_bypass s = are_alone s.header.flags && is_packet s.payload

abbrev pub bypass_text : ℕ → SegmentView → List ℕ
bypass_text i s =
    if is_bypass s then on_map_line (codes "bypass ") s.header.map s.payload else dropped_line i
    (codes "Bypass")

-- the lines of a frame
abbrev pub body_text : MapState → ℕ → BodyView → List ℕ
body_text x i (Ad n s) = segment_text i x.assembler (if_accepted (verdict_of x.receiver n true) s)
body_text x i (Bd s) = bypass_text i s
body_text x i (Bc command) = []

abbrev pub record_text : MapState → ℕ → Result FrameView TcFault → List ℕ
record_text x i (Ok f) = body_text x i f.body
record_text x i (Err e) = frame_fault_line i e

-- what is written for frames; a frame counts as good even if something is dropped
abbrev pub map_lines : Check → Lines MapState TcFault
map_lines check = record {
  line_of = λ x i octets. record_text x i (frame_at check octets);
  after = after_record check;
  is_good = λ octets. is_ok (frame_at check octets);
  fault_line = frame_fault_line;
}
