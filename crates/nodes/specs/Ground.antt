-- The ground node: its state, and the return value and the final state of each call.
use Rattle.std.specs.Prelude.{◌≡◌, ℕ, ◌+◌, List, [], ◌∷◌, ◌++◌, length, map, option_to_list, Bool}
use Rattle.std.specs.Prelude.{true, false, not, ◌&&◌, ◌==◌, nat_lt, if◌then◌else◌, Option, Some}
use Rattle.std.specs.Prelude.{None, option_map, IfSome, Result, Ok, Err, OnOk, OnErr, IsOkUnless}
use Rattle.std.specs.Prelude.{is_some}
use Rattle.clcw.specs.declared.word.Clcw.{Clcw}
use Rattle.clcw.specs.declared.fault.ClcwFault.{ClcwFault}
use Rattle.clcw.specs.Decoding.{clcw_at}
use Rattle.tc_frame.specs.declared.frame.SegmentFlags.TheVariants.{Alone}
use Rattle.tc_frame.specs.Layout.{SegmentView, BodyView, Ad, Bd, Bc, FrameView}
use Rattle.map_service.specs.Assembly.{is_open, is_too_long}
use Rattle.map_service.specs.Cutting.{alone_segment, segment_with, segments_of}
use Rattle.map_service.specs.Packets.{packets_in, is_some_over}
use Rattle.cop1.specs.declared.fault.CopFault.{CopFault}
use Rattle.cop1.specs.declared.vocabulary.FopMode.{FopMode}
use Rattle.cop1.specs.declared.vocabulary.FopMode.TheVariants.{S6}
use Rattle.cop1.specs.declared.vocabulary.Alert.{Alert}
use Rattle.cop1.specs.declared.vocabulary.Directive.{Directive}
use Rattle.cop1.specs.declared.vocabulary.Directive.TheVariants.{SetVs, InitUnlock}
use Rattle.cop1.specs.Accepted.{accepted_beyond}
use Rattle.cop1.specs.Modulo.{ahead_by}
use Rattle.cop1.specs.Units.{FopState, new_fop, FopOutcome}
use Rattle.cop1.specs.FopPull.{PulledUnit, NothingPulled, ControlPulled, BypassPulled}
use Rattle.cop1.specs.FopPull.{SequencePulled}
use Rattle.cop1.specs.UnitsStep as sender
use Rattle.tm_link.specs.declared.fault.TmFault.{TmFault}
use Rattle.tm_link.specs.Layout as telemetry
use Rattle.tm_link.specs.Decoding.{frame_at}
use Rattle.tm_link.specs.Extractor.{ExtractorState, Extracted, new_extractor, extract_step}
use Rattle.nodes.specs.declared.config.Config.{Config}
use Rattle.nodes.specs.declared.fault.LinkFault.{LinkFault}
use Rattle.nodes.specs.declared.fault.LinkFault.TheVariants.{NotOpen, ClosedMap, NotCommand}
use Rattle.nodes.specs.declared.fault.LinkFault.TheVariants.{TooLong, QueueFull, Memory, NotKnown}
use Rattle.nodes.specs.declared.heard.Heard.{Heard}
use Rattle.nodes.specs.declared.heard.Heard.TheVariants.{Invalid, Foreign, Frame}
use Rattle.nodes.specs.declared.heard.HeardClcw.{HeardClcw}
use Rattle.nodes.specs.declared.heard.HeardReport.TheVariants.{Used, Refused, OtherChannel}
use Rattle.nodes.specs.CommandPackets.{are_commands}
use Rattle.nodes.specs.Fates.{Fates, new_fates, with_submission, whole_with, after_acknowledging}
use Rattle.nodes.specs.Fates.{after_obeying, beside_alert}
use Rattle.nodes.specs.Parameters.{limits_of}
use Rattle.nodes.specs.Steps.{Outcome}

-- a ground node
pub record GroundState : Type 0 where
  pub config : Config
  -- the sender, FOP-1, whose units are segments
  pub fop : FopState SegmentView
  -- the segments behind the sender's wait queue, the oldest first
  pub pending : List SegmentView
  -- the extractor of packets from telemetry frames, and the packets that wait to be taken, the
  -- oldest first
  pub extractor : ExtractorState
  pub telemetry : List (List ℕ)
  -- the progress of the session's submissions
  pub fates : Fates

abbrev pub GroundOutcome : Type 0 → Type 0
GroundOutcome A = Outcome GroundState A

abbrev pub new_ground : Config → GroundState
new_ground c = record {
  config = c;
  fop = new_fop c.width c.window c.limit c.timer;
  pending = [];
  extractor = new_extractor;
  telemetry = [];
  fates = new_fates false;
}

-- ---- what is pending

-- the oldest pending segment goes into the wait queue where its one place is free
abbrev pub after_moving_up : GroundState → Option SegmentView → List SegmentView → GroundState
after_moving_up s (Some waiting) pending = s
after_moving_up s None [] = s
after_moving_up s None (segment ∷ pending) =
    record s { fop = record s.fop { waiting = Some segment }; pending = pending }

-- S6, in which submissions are refused; an alert leads to S6
abbrev pub is_closed : FopMode → Bool
is_closed S6 = true
is_closed _ = false

-- in S6 nothing is pending; in the other states the oldest pending segment moves up
abbrev pub refill_step : GroundState → GroundState
refill_step s =
    if is_closed s.fop.state then record s { pending = [] }
    else after_moving_up s s.fop.waiting s.pending

-- the ground with this sender, refilled
abbrev pub with_fop : GroundState → FopState SegmentView → GroundState
with_fop s fop = refill_step (record s { fop = fop })

-- the segments that were not sent, and those that are not acknowledged, the oldest first
abbrev pub unsent_segments : GroundState → List SegmentView
unsent_segments s = option_to_list s.fop.waiting ++ s.pending

abbrev pub outstanding : GroundState → List SegmentView
outstanding s = map (λ u. u.unit) s.fop.sent ++ unsent_segments s

-- how many segments were sent and are not acknowledged; this counts after an alert too
abbrev pub sent_beyond : GroundState → ℕ
sent_beyond s = ahead_by s.fop.vs s.fop.nn

-- ---- packets are submitted

abbrev pub segments_on : GroundState → ℕ → List ℕ → List SegmentView
segments_on s m octets = segments_of s.config.part m octets

-- the unsent segments together with the new ones exceed the queue slots
abbrev pub is_over_slots : GroundState → ℕ → List ℕ → Bool
is_over_slots s m octets =
    nat_lt s.config.queue_slots (length (unsent_segments s) + length (segments_on s m octets))

-- the first fault that applies
abbrev pub submit_fault : GroundState → ℕ → List ℕ → Option LinkFault
submit_fault s m octets =
    if is_closed s.fop.state then Some NotOpen
    else if not (is_open (limits_of s.config) m) then Some ClosedMap
    else if not (are_commands (s.config.blocking == 1) octets) then Some NotCommand
    else if is_some_over s.config.max_packet (packets_in octets) then Some TooLong
    else if is_over_slots s m octets then Some QueueFull
    else None

abbrev pub after_submission : GroundState → ℕ → List ℕ → GroundState
after_submission s m octets =
    refill_step (record s {
      pending = s.pending ++ segments_on s m octets;
      fates = with_submission (length (segments_on s m octets)) s.fates;
    })

-- the call is refused and changes nothing, or it leaves the next state
abbrev pub unless_refused : Option LinkFault → GroundState → GroundState
    → GroundOutcome (Result (Unit {0}) LinkFault)
unless_refused None s next = record { answer = Ok tt; after = next }
unless_refused (Some fault) s next = record { answer = Err fault; after = s }

-- The result of a call that submits, and the ground before and after it. The call is refused with
-- this fault, or it has this outcome, or it runs out of memory and the ground is unchanged.
pub record Submits (fault : Option LinkFault)
    (outcome : GroundOutcome (Result (Unit {0}) LinkFault)) (old new : GroundState)
    (result : Result (Unit {0}) LinkFault) : Type 0 where
  pub after : OnOk result (new ≡ outcome.after)
  pub taken : OnOk result (outcome.answer ≡ Ok tt)
  pub refused : IfSome fault (λ fault. result ≡ Err fault)
  pub memory : fault ≡ None → IsOkUnless result Memory
  pub err : OnErr result (new ≡ old)

-- ---- packets are sent by bypass (Type-BD), each as one segment flagged alone

abbrev pub bypass_fault : GroundState → ℕ → List ℕ → Option LinkFault
bypass_fault s m octets =
    if not (is_open (limits_of s.config) m) then Some ClosedMap
    else if not (are_commands false octets) then Some NotCommand
    else if is_too_long (limits_of s.config) octets then Some TooLong
    else if not (is_some (alone_segment s.config.part m octets)) then Some TooLong
    else if nat_lt s.config.queue_slots (length s.fop.bypass + 1) then Some QueueFull
    else None

abbrev pub after_bypass : GroundState → ℕ → List ℕ → GroundState
after_bypass s m octets =
    record s { fop = (sender.fop_step s.fop (sender.Bypass (segment_with Alone m octets))).after }

-- ---- directives and ticks

-- the sender's answer, and the ground after its step
abbrev pub sender_outcome : {A : Type 0} → GroundState → FopOutcome SegmentView A → GroundOutcome A
sender_outcome s outcome = record { answer = outcome.answer; after = with_fop s outcome.after }

-- a refused directive changes nothing
abbrev pub after_directive : GroundState → Directive → Result (Option Alert) CopFault
    → FopState SegmentView → GroundState
after_directive s directive (Ok alert) fop =
    with_fop (record s { fates = after_obeying s.fates directive }) fop
after_directive s directive (Err fault) fop = s

abbrev pub directive_outcome : GroundState → Directive
    → FopOutcome SegmentView (Result (Option Alert) CopFault)
    → GroundOutcome (Result (Option Alert) CopFault)
directive_outcome s directive outcome = record {
  answer = outcome.answer;
  after = after_directive s directive outcome.answer outcome.after;
}

abbrev pub ground_directive : GroundState → Directive
    → GroundOutcome (Result (Option Alert) CopFault)
ground_directive s directive =
    directive_outcome s directive (sender.fop_step s.fop (sender.Direct directive))

-- ---- the next session resumes after an alert

-- How many submissions are known, from a CLCW with this value, to be on board whole, modulo 2^64.
-- They are those that are acknowledged, and those whose segments were all accepted according to the
-- CLCW. None if nothing is known.
abbrev pub known_on_board : GroundState → ℕ → Option ℕ
known_on_board s value =
    if s.fates.kept
    then option_map (λ k. whole_with k s.fates) (accepted_beyond s.fop.nn s.fop.vs value)
    else None

-- the same number in S6, from which the next session may begin; None in any other state
abbrev pub known_at_end : GroundState → ℕ → Option ℕ
known_at_end s value = if is_closed s.fop.state then known_on_board s value else None

abbrev pub can_resume : GroundState → ℕ → Bool
can_resume s value = is_some (known_at_end s value)

-- V(S) is set to the value, and a session begins with Unlock
abbrev pub after_resuming : GroundState → ℕ → GroundState
after_resuming s value =
    (ground_directive (ground_directive s (SetVs value)).after InitUnlock).after

-- resumes if it is known how many submissions of the session that ended are on board; else refuses
abbrev pub resumed_from : GroundState → ℕ → Option ℕ → GroundOutcome (Result ℕ LinkFault)
resumed_from s value (Some whole) = record { answer = Ok whole; after = after_resuming s value }
resumed_from s value None = record { answer = Err NotKnown; after = s }

abbrev pub ground_resume : GroundState → ℕ → GroundOutcome (Result ℕ LinkFault)
ground_resume s value = resumed_from s value (known_at_end s value)

abbrev pub ground_tick : GroundState → GroundOutcome (Option Alert)
ground_tick s = sender_outcome s (sender.fop_step s.fop sender.Tick)

-- ---- the next frame to be sent (CCSDS 232.0-B-4, 4.1)

abbrev pub frame_of : Config → BodyView → FrameView
frame_of c body = record { scid = c.scid; vcid = c.vcid; body = body }

abbrev pub frame_to_send : Config → PulledUnit SegmentView → Option FrameView
frame_to_send c NothingPulled = None
frame_to_send c (ControlPulled command) = Some (frame_of c (Bc command))
frame_to_send c (BypassPulled segment) = Some (frame_of c (Bd segment))
frame_to_send c (SequencePulled n segment) = Some (frame_of c (Ad n segment))

abbrev pub ground_pull : GroundState → GroundOutcome (Option FrameView)
ground_pull s = record {
  answer = frame_to_send s.config (sender.fop_step s.fop sender.Pull).answer;
  after = with_fop s (sender.fop_step s.fop sender.Pull).after;
}

-- ---- telemetry arrives

-- the ground after it has extracted a frame's packets
abbrev pub after_extraction : GroundState → Extracted → GroundState
after_extraction s x = record s { extractor = x.after; telemetry = s.telemetry ++ x.packets }

-- how many segments are acknowledged when NN(R) moves from the old number to the new one
abbrev pub moved_by : (new old : ℕ) → ℕ
moved_by new old = if new == old then 0 else ahead_by new old

-- the sender processes a CLCW, which may acknowledge segments and may raise an alert
abbrev pub acknowledging : GroundState → FopOutcome SegmentView (Option Alert) → GroundState
acknowledging s o = record s {
  fates = beside_alert o.answer (after_acknowledging (moved_by o.after.nn s.fop.nn) s.fates);
}

abbrev pub after_report : GroundState → FopOutcome SegmentView (Option Alert) → GroundState
after_report s o = with_fop (acknowledging s o) o.after

-- a CLCW reaches the sender if it is of this ground's virtual channel
abbrev pub report_outcome : GroundState → Result Clcw ClcwFault → GroundOutcome HeardClcw
report_outcome s (Err fault) = record {
  answer = record { report = Refused fault; alert = None };
  after = s;
}
report_outcome s (Ok report) =
    if report.vcid == s.config.vcid then record {
      answer = record {
        report = Used;
        alert = (sender.fop_step s.fop (sender.Report report)).answer;
      };
      after = after_report s (sender.fop_step s.fop (sender.Report report));
    }
    else record { answer = record { report = OtherChannel; alert = None }; after = s }

-- the CLCW's outcome, with the packets of its frame
abbrev pub beside_packets : Extracted → GroundOutcome HeardClcw → GroundOutcome Heard
beside_packets x o = record {
  answer = Frame x.gap (length x.packets) o.answer.report o.answer.alert;
  after = o.after;
}

abbrev pub own_frame_outcome : GroundState → Extracted → Result Clcw ClcwFault → GroundOutcome Heard
own_frame_outcome s x report = beside_packets x (report_outcome (after_extraction s x) report)

abbrev pub receive_frame_step : GroundState → telemetry.FrameView → GroundOutcome Heard
receive_frame_step s frame =
    own_frame_outcome s (extract_step s.extractor frame) (clcw_at frame.ocf)

-- a frame of this spacecraft's virtual channel
abbrev pub is_own_telemetry : Config → telemetry.FrameView → Bool
is_own_telemetry c frame = (frame.scid == c.scid) && (frame.vcid == c.tm_vcid)

abbrev pub telemetry_outcome : GroundState → Result telemetry.FrameView TmFault
    → GroundOutcome Heard
telemetry_outcome s (Err fault) = record { answer = Invalid fault; after = s }
telemetry_outcome s (Ok frame) =
    if is_own_telemetry s.config frame then receive_frame_step s frame
    else record { answer = Foreign; after = s }

abbrev pub ground_telemetry : GroundState → List ℕ → GroundOutcome Heard
ground_telemetry s octets = telemetry_outcome s (frame_at s.config.frame_length octets)

-- The octets that arrive finish no packet. They do not form a valid frame, or the frame is of
-- another spacecraft or virtual channel, or it finishes no packet.
abbrev pub FinishesNothing : GroundState → Result telemetry.FrameView TmFault → Type 0
FinishesNothing s (Err fault) = Unit {0}
FinishesNothing s (Ok frame) =
    is_own_telemetry s.config frame ≡ true → (extract_step s.extractor frame).packets ≡ []

-- ---- packets of telemetry are taken

abbrev pub ground_take_telemetry : GroundState → List (List ℕ) → GroundOutcome (Option (List ℕ))
ground_take_telemetry s [] = record { answer = None; after = s }
ground_take_telemetry s (packet ∷ left) = record {
  answer = Some packet;
  after = record s { telemetry = left };
}

-- the extractor begins anew, and what waits to be taken stays
abbrev pub after_forgetting : GroundState → GroundState
after_forgetting s = record s { extractor = new_extractor }

-- ---- all calls

pub data GroundEvent : Type 0 where
  Submit : (on_map : ℕ) (octets : List ℕ) → GroundEvent
  Bypass : (on_map : ℕ) (octets : List ℕ) → GroundEvent
  Direct : (directive : Directive) → GroundEvent
  -- the next session resumes after an alert, from the value of a CLCW
  Resume : (value : ℕ) → GroundEvent
  Pull : GroundEvent
  Tick : GroundEvent
  Telemetry : (octets : List ℕ) → GroundEvent
  -- a CLCW that arrives by itself, without a telemetry frame
  ControlWord : (octets : List ℕ) → GroundEvent
  TakeTelemetry : GroundEvent
  ForgetTelemetry : GroundEvent

-- the type of each call's return value; a pull returns the frame that is sent
abbrev pub GroundAnswer : GroundEvent → Type 0
GroundAnswer (Submit m octets) = Result (Unit {0}) LinkFault
GroundAnswer (Bypass m octets) = Result (Unit {0}) LinkFault
GroundAnswer (Direct directive) = Result (Option Alert) CopFault
GroundAnswer (Resume value) = Result ℕ LinkFault
GroundAnswer Pull = Option FrameView
GroundAnswer Tick = Option Alert
GroundAnswer (Telemetry octets) = Heard
GroundAnswer (ControlWord octets) = HeardClcw
GroundAnswer TakeTelemetry = Option (List ℕ)
GroundAnswer ForgetTelemetry = Unit {0}

abbrev pub ground_step : GroundState → (event : GroundEvent) → GroundOutcome (GroundAnswer event)
ground_step s (Submit m octets) =
    unless_refused (submit_fault s m octets) s (after_submission s m octets)
ground_step s (Bypass m octets) =
    unless_refused (bypass_fault s m octets) s (after_bypass s m octets)
ground_step s (Direct directive) = ground_directive s directive
ground_step s (Resume value) = ground_resume s value
ground_step s Pull = ground_pull s
ground_step s Tick = ground_tick s
ground_step s (Telemetry octets) = ground_telemetry s octets
ground_step s (ControlWord octets) = report_outcome s (clcw_at octets)
ground_step s TakeTelemetry = ground_take_telemetry s s.telemetry
ground_step s ForgetTelemetry = record { answer = tt; after = after_forgetting s }
