-- The lines of TM frames: the fields of each frame, how many frames are missing before it, and
-- the packets that it finishes.
use Rattle.std.specs.Prelude.{ℕ, is_ok, Bool, true, false, List, [], ◌++◌, map, codes, decimal}
use Rattle.std.specs.Prelude.{Result, Ok, Err}
use Rattle.std.specs.List.{concat}
use Rattle.hex.specs.Hex.{encode_upper}
use Rattle.clcw.specs.Decoding.{clcw_at}
use Rattle.tm_link.specs.declared.fault.TmFault.{TmFault}
use Rattle.tm_link.specs.declared.frame.Pointer.{Pointer}
use Rattle.tm_link.specs.declared.frame.Pointer.TheVariants.{At, NoStart, OnlyIdle}
use Rattle.tm_link.specs.declared.gap.Gap.{Gap}
use Rattle.tm_link.specs.declared.gap.Gap.TheVariants.{First, Lost}
use Rattle.tm_link.specs.Extractor.{ExtractorState, extract_step, new_extractor}
use Rattle.tm_link.specs.Layout.{FrameView}
use Rattle.tm_link.specs.Decoding.{frame_at}
use Rattle.listings.specs.RefusalLines.{telemetry_fault_line}
use Rattle.listings.specs.ReportLines.{field_line}
use Rattle.listings.specs.Listing.{Lines}
use Rattle.listings.specs.Text.{octets_line, line_end}

-- the one extractor that takes all frames, and whether CLCWs have a line
pub record TelemetryState : Type 0 where
  pub reports : Bool
  pub extractor : ExtractorState

-- before the first frame
abbrev pub telemetry_opened : Bool → TelemetryState
telemetry_opened reports = record { reports = reports; extractor = new_extractor }

-- a frame's number, the channel that it came on, and its counts
abbrev pub counts_text : ℕ → FrameView → List ℕ
counts_text i f =
    decimal i ++ (codes " scid="
    ++ (decimal f.scid
    ++ (codes " vcid="
    ++ (decimal f.vcid
    ++ (codes " mc=" ++ (decimal f.mc_count ++ (codes " vc=" ++ decimal f.vc_count)))))))

-- the place where a packet starts, or that none does
abbrev pub pointer_text : Pointer → List ℕ
pointer_text (At place) = decimal place
pointer_text NoStart = codes "none"
pointer_text OnlyIdle = codes "idle"

-- how many frames are missing; this is not known for the first
abbrev pub lost_text : Gap → List ℕ
lost_text First = codes "-"
lost_text (Lost n) = decimal n

abbrev pub frame_line : ℕ → FrameView → Gap → List ℕ
frame_line i f gap =
    counts_text i f
    ++ (codes " pointer="
    ++ (pointer_text f.pointer
    ++ (codes " ocf=" ++ (encode_upper f.ocf ++ (codes " gap=" ++ (lost_text gap ++ line_end))))))

-- the line of a packet that is finished
abbrev pub finished_line : List ℕ → List ℕ
finished_line packet = codes "packet " ++ octets_line packet

abbrev pub finished_lines : List (List ℕ) → List ℕ
finished_lines packets = concat (map finished_line packets)

-- the line of the operational control field, if such lines are requested
abbrev pub report_text : Bool → FrameView → List ℕ
report_text true f = field_line (clcw_at f.ocf)
report_text false f = []

-- the lines of a record, from the extractor before it
abbrev pub record_text : TelemetryState → ℕ → Result FrameView TmFault → List ℕ
record_text x i (Ok f) =
    frame_line i f (extract_step x.extractor f).gap
    ++ (report_text x.reports f ++ finished_lines (extract_step x.extractor f).packets)
record_text x i (Err e) = telemetry_fault_line i e

-- the extractor after a record; it does not take a refused record
abbrev pub after_record : TelemetryState → Result FrameView TmFault → TelemetryState
after_record x (Ok f) = record x { extractor = (extract_step x.extractor f).after }
after_record x (Err e) = x

-- what is written for frames of this many octets; one extractor takes them all
abbrev pub telemetry_lines : ℕ → Lines TelemetryState TmFault
telemetry_lines size = record {
  line_of = λ x i octets. record_text x i (frame_at size octets);
  after = λ x octets. after_record x (frame_at size octets);
  is_good = λ octets. is_ok (frame_at size octets);
  fault_line = telemetry_fault_line;
}
