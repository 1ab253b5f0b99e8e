-- A commander: how its session ends, what it receives, and what it adds to its ledger.
use Rattle.std.specs.Prelude.{ℕ, ◌+◌, ◌-◌, min, List, length, Bool, true, false, not}
use Rattle.std.specs.Prelude.{◌&&◌, ◌||◌, ◌==◌, nat_lt, if◌then◌else◌}
use Rattle.std.specs.Prelude.{Option, Some, None, Result, Ok, Err}
use Rattle.space_packet.specs.declared.fault.PacketFault.{PacketFault}
use Rattle.space_packet.specs.Layout.{PacketView}
use Rattle.space_packet.specs.Decoding.{packet_at}
use Rattle.command_log.specs.declared.fault.LogFault.{LogFault}
use Rattle.command_log.specs.declared.status.Status.{Status}
use Rattle.command_log.specs.declared.status.Status.TheVariants as statuses
use Rattle.command_log.specs.Status.{status_spelled}
use Rattle.command_ledger.specs.declared.fault.LedgerFault.{LedgerFault}
use Rattle.command_ledger.specs.declared.fault.LedgerFault.TheVariants as faults
use Rattle.command_ledger.specs.declared.state.Tell.{Tell}
use Rattle.command_ledger.specs.declared.state.Tell.TheVariants as tells
use Rattle.command_ledger.specs.State.{Tells}
use Rattle.command_ledger.specs.Ledger.{appended, appended_if, give_fault, news}
use Rattle.clcw.specs.declared.word.Clcw.{Clcw}
use Rattle.clcw.specs.declared.fault.ClcwFault.{ClcwFault}
use Rattle.clcw.specs.Decoding.{clcw_at}
use Rattle.map_service.specs.Assembly.{is_open}
use Rattle.cop1.specs.declared.vocabulary.Alert.{Alert}
use Rattle.cop1.specs.declared.vocabulary.Directive.TheVariants.{Terminate}
use Rattle.tm_link.specs.declared.fault.TmFault.{TmFault}
use Rattle.tm_link.specs.Layout as telemetry
use Rattle.tm_link.specs.Decoding.{frame_at}
use Rattle.nodes.specs.declared.heard.Heard.{Heard}
use Rattle.nodes.specs.declared.heard.Heard.TheVariants.{Invalid, Foreign, Frame}
use Rattle.nodes.specs.declared.heard.HeardClcw.{HeardClcw}
use Rattle.nodes.specs.declared.heard.HeardReport.{HeardReport}
use Rattle.nodes.specs.declared.heard.HeardReport.TheVariants.{Used, Refused, OtherChannel}
use Rattle.nodes.specs.Ground.{GroundState, GroundOutcome, ground_step, Direct, is_closed}
use Rattle.nodes.specs.Ground.{outstanding, TakeTelemetry}
use Rattle.commander.specs.declared.mission.Mission.{Mission}
use Rattle.commander.specs.declared.session.Session.{Session}
use Rattle.commander.specs.declared.commander.Commander.{Commander}

-- ---- silence

-- the ticks of a silence: after this many a round trip has passed
abbrev pub wait : Mission → ℕ
wait m = min (m.round_trip + 1) 4294967295

-- a silence begins
abbrev pub silent : Mission → Session → Session
silent m t = record t { busy = wait m; value = None }

abbrev pub with_ground : Commander → GroundState → Commander
with_ground s g = record s { ground_node = g }

-- the sender has given up, and this must be reported
abbrev pub noted : Commander → Option Alert → Commander
noted s None = s
noted s (Some alert) =
    record s { session = record (silent s.mission s.session) { alert = Some alert } }

-- the session ends
abbrev pub ended : Commander → Commander
ended s =
    record s {
      ground_node = (ground_step s.ground_node (Direct Terminate)).after;
      session = silent s.mission s.session;
    }

-- ---- a tick

abbrev pub ticked : Session → Session
ticked t = record t { busy = t.busy - 1; held = t.held - 1 }

abbrev pub after_tick : Commander → GroundOutcome (Option Alert) → Commander
after_tick s o = noted (record s { ground_node = o.after; session = ticked s.session }) o.answer

-- ---- CLCWs

abbrev pub value_in : Result Clcw ClcwFault → Option ℕ
value_in (Ok word) = Some word.value
value_in (Err fault) = None

-- the value of a CLCW, if the sender used it
abbrev pub value_used : HeardReport → Result Clcw ClcwFault → Option ℕ
value_used Used word = value_in word
value_used (Refused fault) word = None
value_used OtherChannel word = None

abbrev pub value_carried : HeardReport → Result telemetry.FrameView TmFault → Option ℕ
value_carried report (Ok frame) = value_used report (clcw_at frame.ocf)
value_carried report (Err fault) = None

abbrev pub value_heard : Heard → Result telemetry.FrameView TmFault → Option ℕ
value_heard (Frame gap packets report alert) frame = value_carried report frame
value_heard Foreign frame = None
value_heard (Invalid fault) frame = None

abbrev pub alert_of : Heard → Option Alert
alert_of (Frame gap packets report alert) = alert
alert_of Foreign = None
alert_of (Invalid fault) = None

-- the value of a CLCW that was made in a silence
abbrev pub seen : Commander → Option ℕ → Commander
seen s None = s
seen s (Some value) =
    if is_closed s.ground_node.fop.state && (s.session.busy == 0)
    then record s { session = record s.session { value = Some value } } else s

abbrev pub after_hearing : Commander → List ℕ → GroundOutcome Heard → Commander
after_hearing s frame o =
    seen (noted (with_ground s o.after) (alert_of o.answer))
    (value_heard o.answer (frame_at s.ground_node.config.frame_length frame))

abbrev pub after_word : Commander → List ℕ → GroundOutcome HeardClcw → Commander
after_word s octets o =
    seen (noted (with_ground s o.after) o.answer.alert)
    (value_used o.answer.report (clcw_at octets))

-- ---- a status

-- whether the board has not executed all that was submitted, and executes nothing
abbrev pub lacks : Status → (sent waiting : ℕ) → Bool
lacks (statuses.Says kept) sent waiting =
    not kept.begun && ((waiting == 0) && nat_lt kept.last sent)
lacks statuses.Changes sent waiting = false
lacks statuses.Starts sent waiting = false
lacks (statuses.Lost mark) sent waiting = false

-- everything is acknowledged, but the board, in a silence, has not executed everything
abbrev pub is_short : Commander → Status → (waiting : ℕ) → Bool
is_short s status waiting =
    not (is_closed s.ground_node.fop.state)
    && ((s.session.busy == 0)
    && ((length (outstanding s.ground_node) == 0) && lacks status s.session.sent waiting))

abbrev pub ended_if : Bool → Commander → Commander
ended_if true s = ended s
ended_if false s = s

abbrev pub after_status : Commander → Status → (waiting : ℕ) → Commander
after_status s status waiting =
    ended_if (is_short s status waiting)
    (record s { ledger = appended_if s.ledger (news s.ledger status) })

abbrev pub status_taken : Commander → Result (Status × ℕ) LogFault → Commander
status_taken s (Ok p) = after_status s p.0 p.1
status_taken s (Err fault) = s

-- ---- packets of telemetry

-- the octets of the status that the packet contains, if any
abbrev pub status_in : (apid : ℕ) → Result (PacketView × ℕ) PacketFault → Option (List ℕ)
status_in apid (Ok p) =
    if (p.0.apid == apid) && (length p.0.payload == 27) then Some p.0.payload else None
status_in apid (Err fault) = None

abbrev pub first_status : (apid : ℕ) → Option (List ℕ) → Option (List ℕ)
first_status apid (Some packet) = status_in apid (packet_at packet)
first_status apid None = None

abbrev pub status_heard : Commander → Option (List ℕ) → Commander
status_heard s (Some octets) = status_taken s (status_spelled octets)
status_heard s None = s

-- the status in the packet that is taken next is passed to the ledger
abbrev pub first_heard : Commander → Commander
first_heard s =
    status_heard s (first_status s.mission.status (ground_step s.ground_node TakeTelemetry).answer)

abbrev pub packet_taken : Commander → Commander
packet_taken s = with_ground s (ground_step s.ground_node TakeTelemetry).after

-- ---- what is reported

abbrev pub held_back : Commander → Commander
held_back s =
    record s {
      session = record s.session { paused = s.session.paused || s.mission.holds; restarts = false };
    }

abbrev pub after_telling : Commander → Tell → Commander
after_telling s (tells.Executed tag) = s
after_telling s (tells.Unknown tag) = s
after_telling s (tells.Restarted boot) = held_back (ended s)
after_telling s (tells.RecordLost mark) = held_back (ended s)
after_telling s (tells.Foreign first last) = s

abbrev pub told : Commander → Tell → Commander
told s tell = after_telling (record s { ledger = appended s.ledger Tells }) tell

-- ---- commands

-- why a command is refused: no segment carries it, or the ledger's reason
abbrev pub command_fault : Commander → (on_map apid count long : ℕ) → Option LedgerFault
command_fault s on_map apid count long =
    if is_open s.limits on_map && not (apid == 2047)
    then give_fault s.ledger on_map apid count long else Some faults.FieldRange
