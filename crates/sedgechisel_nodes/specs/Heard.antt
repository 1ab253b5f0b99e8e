-- What a program in C learns from telemetry and about the sender.
use Rattle.std.specs.Prelude.{ℕ, ◌==◌, if◌then◌else◌, List, length, Option, Some, None, Result, Ok}
use Rattle.std.specs.Prelude.{Err}
use Rattle.clcw.specs.declared.word.Clcw.{Clcw}
use Rattle.clcw.specs.declared.fault.ClcwFault.{ClcwFault}
use Rattle.clcw.specs.Flags.{flags_from}
use Rattle.clcw.specs.Decoding.{clcw_at}
use Rattle.clcw.specs.Faults.{fault_row as word_row}
use Rattle.cop1.specs.declared.vocabulary.Alert.{Alert}
use Rattle.cop1.specs.Names.{alert_row}
use Rattle.tm_link.specs.declared.gap.Gap.{Gap}
use Rattle.tm_link.specs.declared.gap.Gap.TheVariants.{First, Lost}
use Rattle.tm_link.specs.declared.fault.TmFault.{TmFault}
use Rattle.tm_link.specs.Faults.{fault_row}
use Rattle.tm_link.specs.Layout.{FrameView}
use Rattle.nodes.specs.Ground.{GroundState, ControlWord, ground_step}
use Rattle.nodes.specs.declared.heard.Heard.{Heard}
use Rattle.nodes.specs.declared.heard.Heard.TheVariants.{Invalid, Foreign, Frame}
use Rattle.nodes.specs.declared.heard.HeardClcw.{HeardClcw}
use Rattle.nodes.specs.declared.heard.HeardReport.{HeardReport}
use Rattle.nodes.specs.declared.heard.HeardReport.TheVariants.{Used, Refused, OtherChannel}
use Rattle.sedgechisel_nodes.specs.declared.ground_telemetry.KeptHeard.{KeptHeard}

abbrev pub alert_number : Option Alert → ℕ
alert_number None = 0
alert_number (Some alert) = (alert_row alert).0

-- whether a frame came before, and how many are missing since
abbrev pub gap_kept : Gap → ℕ × ℕ
gap_kept First = (1, 0)
gap_kept (Lost n) = (0, n)

abbrev pub report_kept : HeardReport → ℕ × ℕ
report_kept Used = (0, 0)
report_kept (Refused fault) = (1, (word_row fault).0)
report_kept OtherChannel = (2, 0)

-- what was heard, of this kind and with no fault
abbrev pub heard_of : (kind packets : ℕ) (gap report : ℕ × ℕ) (alert : ℕ) → KeptHeard
heard_of kind packets gap report alert = record {
  packets = packets;
  kind = kind;
  fault = 0;
  first = gap.0;
  missing = gap.1;
  report = report.0;
  word_fault = report.1;
  alert = alert;
}

abbrev pub no_heard : KeptHeard
no_heard = heard_of 0 0 (0, 0) (0, 0) 0

abbrev pub heard_kept : Heard → KeptHeard
heard_kept (Invalid fault) = record no_heard { kind = 1; fault = (fault_row fault).0 }
heard_kept Foreign = record no_heard { kind = 2 }
heard_kept (Frame gap packets report alert) =
    heard_of 3 packets (gap_kept gap) (report_kept report) (alert_number alert)

-- a CLCW that came by itself
abbrev pub word_kept : HeardClcw → KeptHeard
word_kept word = heard_of 4 0 (0, 0) (report_kept word.report) (alert_number word.alert)

-- what is written of octets that should be a CLCW, if there are four
abbrev pub word_said : List ℕ → GroundState → Option KeptHeard
word_said octets s =
    if length octets == 4 then Some (word_kept (ground_step s (ControlWord octets)).answer)
    else None

-- ---- the CLCW that a telemetry frame carries

abbrev pub no_word : Clcw
no_word = record { status = 0; vcid = 0; flags = flags_from 0; farm_b = 0; value = 0 }

abbrev pub word_read : Result Clcw ClcwFault → Option Clcw
word_read (Ok word) = Some word
word_read (Err fault) = None

-- the CLCW in octets that are a telemetry frame of this length; none if the octets do not form a
-- valid frame, or if the frame carries no CLCW
abbrev pub report_in : Result FrameView TmFault → Option Clcw
report_in (Ok frame) = word_read (clcw_at frame.ocf)
report_in (Err fault) = None
