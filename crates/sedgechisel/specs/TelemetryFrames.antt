-- Telemetry frames and CLCWs, as C has them.
use Rattle.std.specs.Prelude.{ℕ, List, length, ◌==◌, if◌then◌else◌, Result, Err, ◌≡◌, take, drop}
use Rattle.std.specs.Prelude.{Ok}
use Rattle.clcw.specs.declared.word.Clcw.{Clcw}
use Rattle.clcw.specs.Faults as word_faults
use Rattle.clcw.specs.Decoding.{clcw_at}
use Rattle.clcw.specs.Encoding as writing
use Rattle.tm_link.specs.Faults.{fault_row}
use Rattle.tm_link.specs.Layout.{FrameView, pointer_number}
use Rattle.tm_link.specs.Decoding.{pointer_at, frame_at}
use Rattle.tm_link.specs.Encoding.{encode_answer}
use Rattle.sedgechisel.specs.Answers.{wrong_count, numbered, if_ok}
use Rattle.sedgechisel.specs.declared.telemetry_frame.TelemetryFrame.{TelemetryFrame}
use Rattle.sedgechisel.specs.declared.part.Part.{Part}

-- CLCWs as C has them.

-- the CLCW that octets spell, which must be four
abbrev pub word_read : List ℕ → Result Clcw ℕ
word_read octets =
    if length octets == 4 then numbered word_faults.fault_row (clcw_at octets) else Err wrong_count

-- the octets that spell the CLCW, if the buffer has exactly four
abbrev pub word_written : Clcw → ℕ → Result (List ℕ) ℕ
word_written w room =
    if room == 4 then numbered word_faults.fault_row (writing.encode_answer w) else Err wrong_count

-- Telemetry frames as C has them.

-- the frame that the fields and the data describe; the pointer has its value in the header
abbrev pub frame_described : TelemetryFrame → List ℕ → FrameView
frame_described f payload = record {
  scid = f.scid;
  vcid = f.vcid;
  mc_count = f.mc_count;
  vc_count = f.vc_count;
  pointer = pointer_at f.pointer;
  payload = payload;
  ocf = f.ocf;
}

-- the fields that describe the frame
abbrev pub fields_of : FrameView → TelemetryFrame
fields_of f = record {
  scid = f.scid;
  pointer = pointer_number f.pointer;
  vcid = f.vcid;
  mc_count = f.mc_count;
  vc_count = f.vc_count;
  ocf = f.ocf;
}

-- where the frame's data are, after the header
abbrev pub part_of : FrameView → Part
part_of f = record { from = 6; count = length f.payload }

-- ---- the calls

abbrev pub frame_read : ℕ → List ℕ → Result FrameView ℕ
frame_read total octets = numbered fault_row (frame_at total octets)

-- the frame that is written to a buffer of this size
abbrev pub frame_taken : TelemetryFrame → List ℕ → ℕ → Result FrameView ℕ
frame_taken f payload room =
    if_ok (numbered fault_row (encode_answer (frame_described f payload) room))
    (frame_described f payload)

-- what the fields and the octets at the place describe is the frame that was read
abbrev pub DescribesFrame : ℕ → List ℕ → TelemetryFrame → Part → Type 0
DescribesFrame total octets f part =
    (view : FrameView) → frame_read total octets ≡ Ok view
    → frame_described f (take part.count (drop part.from octets)) ≡ view
