-- The next action of a commander.
use Rattle.std.specs.Prelude.{ℕ, ◌+◌, ◌-◌, max, List, [], Bool, true, false, not, ◌&&◌, ◌||◌, ◌==◌}
use Rattle.std.specs.Prelude.{nat_lt, if◌then◌else◌, Option, Some, None, option_map}
use Rattle.std.specs.Prelude.{is_some, is_ok, Result, Ok, Err}
use Rattle.command_log.specs.Packets.{order_octets, order_fits}
use Rattle.command_log.specs.declared.packets.Order.{Order}
use Rattle.command_log.specs.declared.packets.Order.TheVariants.{Restart}
use Rattle.command_ledger.specs.Waiting.{sent_as}
use Rattle.command_ledger.specs.Ledger.{LedgerState, NextView, Nothing, Stores, Says, next_of}
use Rattle.command_ledger.specs.Ledger.{packet_of, order_of}
use Rattle.tc_frame.specs.Layout.{FrameView}
use Rattle.cop1.specs.declared.vocabulary.Alert.{Alert}
use Rattle.cop1.specs.declared.vocabulary.Directive.TheVariants.{SetVs, InitUnlock}
use Rattle.command_ledger.specs.declared.fault.LedgerFault.{LedgerFault}
use Rattle.command_ledger.specs.declared.fault.LedgerFault.TheVariants as ledger_faults
use Rattle.nodes.specs.declared.fault.LinkFault.{LinkFault}
use Rattle.nodes.specs.declared.fault.LinkFault.TheVariants as link_faults
use Rattle.nodes.specs.Ground.{GroundState, GroundOutcome, ground_step, Submit, Bypass, Direct}
use Rattle.nodes.specs.Ground.{Pull, TakeTelemetry, is_closed}
use Rattle.nodes.specs.Frames.{size_of}
use Rattle.commander.specs.declared.session.Session.{Session}
use Rattle.commander.specs.declared.commander.Commander.{Commander}
use Rattle.commander.specs.declared.next.Next.{Next}
use Rattle.commander.specs.declared.next.Next.TheVariants as nexts
use Rattle.commander.specs.Commander.{wait, silent, with_ground}

-- ---- what comes before any frame

abbrev pub telemetry_owed : Option (List ℕ) → Option Next
telemetry_owed (Some packet) = Some nexts.Telemetry
telemetry_owed None = None

abbrev pub alert_owed : Commander → Option Alert → Option Next
alert_owed s (Some alert) = Some (nexts.Alert alert)
alert_owed s None = telemetry_owed (ground_step s.ground_node TakeTelemetry).answer

abbrev pub ledger_owed : Commander → NextView → Option Next
ledger_owed s (Stores octets) = Some nexts.Store
ledger_owed s (Says tell) = Some (nexts.Tell tell)
ledger_owed s Nothing = alert_owed s s.session.alert

-- what is stored, reported or taken before a frame is sent
abbrev pub owed : Commander → Option Next
owed s = ledger_owed s (next_of s.ledger)

abbrev pub alert_told : Next → Session → Session
alert_told (nexts.Alert alert) t = record t { alert = None }
alert_told nexts.Nothing t = t
alert_told nexts.Store t = t
alert_told (nexts.Tell tell) t = t
alert_told nexts.Telemetry t = t
alert_told (nexts.Send count) t = t

-- ---- an order

abbrev pub restart_due : Commander → Option Order
restart_due s =
    if s.session.restarts then Some (Restart s.ledger.state.standing.board.boot) else None

abbrev pub either_order : Commander → Option Order → Option Order
either_order s (Some order) = Some order
either_order s None = restart_due s

-- the order that is sent now: at most one in a round trip
abbrev pub order_due : Commander → Option Order
order_due s =
    if (s.session.held == 0) && order_fits s.mission.orders 0
    then either_order s (order_of s.ledger) else None

abbrev pub after_order : Commander → Result (Unit {0}) LinkFault → GroundState → Commander
after_order s (Ok x) g =
    record s { ground_node = g; session = record s.session { held = wait s.mission } }
after_order s (Err fault) g = with_ground s g

abbrev pub bypass_of : Commander → Order → GroundOutcome (Result (Unit {0}) LinkFault)
bypass_of s order =
    ground_step s.ground_node (Bypass s.mission.map (order_octets s.mission.orders 0 order))

abbrev pub ordered : Commander → Order → Commander
ordered s order = after_order s (bypass_of s order).answer (bypass_of s order).after

-- ---- a session begins

-- the number after this one, if it is at most 64 above those that have a fate
abbrev pub number_after : (below last : ℕ) → Option ℕ
number_after below last =
    if nat_lt (last - below) 64 && nat_lt last 4294967295 then Some (last + 1) else None

abbrev pub has_packet : LedgerState → Option ℕ → Bool
has_packet l (Some number) = is_some (packet_of l number)
has_packet l None = false

-- whether the first command without a fate may be sent
abbrev pub has_first : LedgerState → Bool
has_first l = has_packet l (number_after l.state.standing.below l.state.standing.below)

-- the value with which a session may begin: that of a CLCW that was made in a silence, if there is
-- a command to be sent
abbrev pub opening : Commander → Option ℕ
opening s =
    if is_closed s.ground_node.fop.state && (not s.session.paused && has_first s.ledger)
    then s.session.value else None

abbrev pub ground_begun : GroundState → (value : ℕ) → GroundState
ground_begun g value =
    (ground_step (ground_step g (Direct (SetVs value))).after (Direct InitUnlock)).after

abbrev pub begun : Commander → (value : ℕ) → Commander
begun s value =
    record s {
      ground_node = ground_begun s.ground_node value;
      session = record s.session { sent = s.ledger.state.standing.below; value = None };
    }

-- ---- a command is submitted

-- the number that is submitted next: after those of this session, and those that have a fate
abbrev pub next_number : Commander → Option ℕ
next_number s =
    if is_closed s.ground_node.fop.state || s.session.paused then None
    else number_after s.ledger.state.standing.below
    (max s.session.sent s.ledger.state.standing.below)

-- out of memory is the commander's own fault; after any other refusal the ground is as it was
abbrev pub refusal_of : LinkFault → Result Bool LedgerFault
refusal_of link_faults.Memory = Err ledger_faults.Memory
refusal_of fault = Ok false

abbrev pub submission_of : GroundState → ℕ × List ℕ → GroundOutcome (Result (Unit {0}) LinkFault)
submission_of g p = ground_step g (Submit p.0 p.1)

abbrev pub after_submission : Commander → (number : ℕ) → (taken : Bool) → GroundState → Commander
after_submission s number true g =
    record s { ground_node = g; session = record s.session { sent = number } }
after_submission s number false g = with_ground s g

-- the ledger's packet with this number is submitted to the ground
abbrev pub packet_submitted : Commander → (number : ℕ) → Option (ℕ × List ℕ) → Commander
packet_submitted s number (Some p) =
    after_submission s number (is_ok (submission_of s.ground_node p).answer)
    (submission_of s.ground_node p).after
packet_submitted s number None = s

abbrev pub number_submitted : Commander → Option ℕ → Commander
number_submitted s (Some number) =
    packet_submitted s number (option_map sent_as (packet_of s.ledger number))
number_submitted s None = s

abbrev pub submitted : Commander → Commander
submitted s = number_submitted s (next_number s)

-- ---- a frame

abbrev pub begun_or_submitted : Commander → Option ℕ → Commander
begun_or_submitted s (Some value) = begun s value
begun_or_submitted s None = submitted s

abbrev pub ordered_or_not : Commander → Option Order → Commander
ordered_or_not s (Some order) = ordered s order
ordered_or_not s None = begun_or_submitted s (opening s)

-- an order is passed to the ground, a session begins, a command is submitted, or nothing changes
abbrev pub worked : Commander → Commander
worked s = ordered_or_not s (order_due s)

abbrev pub silent_after : Option FrameView → Commander → Session
silent_after (Some frame) s = silent s.mission s.session
silent_after None s = s.session

abbrev pub sending : Option ℕ → Next
sending (Some count) = nexts.Send count
sending None = nexts.Nothing

-- the frame that is sent, and the commander after it
abbrev pub frame_of : Commander → Option FrameView
frame_of s = (ground_step s.ground_node Pull).answer

abbrev pub pulled : Commander → Commander
pulled s =
    record s {
      ground_node = (ground_step s.ground_node Pull).after;
      session = silent_after (frame_of s) s;
    }

-- ---- the call

abbrev pub next_answer : Commander → Option Next → Next
next_answer s (Some it) = it
next_answer s None = sending (size_of (frame_of (worked s)))

abbrev pub next_frame : Commander → Option Next → Option FrameView
next_frame s (Some it) = None
next_frame s None = frame_of (worked s)

abbrev pub after_next : Commander → Option Next → Commander
after_next s (Some it) = record s { session = alert_told it s.session }
after_next s None = pulled (worked s)

abbrev pub octets_stored : NextView → List ℕ
octets_stored (Stores octets) = octets
octets_stored (Says tell) = []
octets_stored Nothing = []

-- the octets that must be stored
abbrev pub unstored : Commander → List ℕ
unstored s = octets_stored (next_of s.ledger)
