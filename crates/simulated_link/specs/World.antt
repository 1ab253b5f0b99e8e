-- A simulated link: its world, and the answer and the final state of each event. Each direction
-- keeps the order of frames, and loses or damages frames only detectably for the receiver.
use Rattle.std.specs.Prelude.{◌≡◌, ◌⊎◌, option_map, ℕ, List, [], ◌∷◌, ◌++◌, length, take, drop, map}
use Rattle.std.specs.Prelude.{flat_map, filter, Bool, true, false, ◌&&◌, ◌||◌, ◌==◌, if◌then◌else◌}
use Rattle.std.specs.Prelude.{◌+◌, Option, Some, None, Result, Ok, Err}
use Rattle.std.specs.List.{list_all}
use Rattle.clcw.specs.declared.word.Clcw.{Clcw}
use Rattle.clcw.specs.declared.fault.ClcwFault.{ClcwFault}
use Rattle.clcw.specs.Flags.{flags_number}
use Rattle.clcw.specs.Decoding.{clcw_at}
use Rattle.tc_frame.specs.declared.frame.Check.TheVariants.{On}
use Rattle.tc_frame.specs.declared.fault.TcFault.{TcFault}
use Rattle.tc_frame.specs.Layout.{SegmentView, BodyView, Ad, Bd, Bc, FrameView, segment_octets}
use Rattle.tc_frame.specs.Decoding as command
use Rattle.tc_frame.specs.Encoding.{spelling}
use Rattle.map_service.specs.Assembly.{assembled}
use Rattle.map_service.specs.Packets.{packets_in}
use Rattle.cop1.specs.Modulo.{ahead_by}
use Rattle.cop1.specs.Report.{report_of}
use Rattle.cop1.specs.declared.fault.CopFault.{CopFault}
use Rattle.cop1.specs.declared.vocabulary.Alert.{Alert}
use Rattle.cop1.specs.declared.vocabulary.Directive.{Directive}
use Rattle.cop1.specs.declared.vocabulary.Directive.TheVariants.{InitWithoutCheck, InitUnlock}
use Rattle.cop1.specs.declared.vocabulary.Directive.TheVariants.{SetVs}
use Rattle.cop1.specs.declared.vocabulary.FopMode.{FopMode}
use Rattle.cop1.specs.declared.vocabulary.FopMode.TheVariants.{S1, S4, S5}
use Rattle.cop1.specs.FopDirective.{is_initiation}
use Rattle.tm_link.specs.declared.fault.TmFault.{TmFault}
use Rattle.tm_link.specs.Layout as telemetry
use Rattle.tm_link.specs.Decoding as telemetry_reading
use Rattle.tm_link.specs.Encoding as telemetry_writing
use Rattle.nodes.specs.declared.config.Config.{Config}
use Rattle.nodes.specs.declared.event.Event.{Event}
use Rattle.nodes.specs.declared.event.Event.TheVariants as events
use Rattle.nodes.specs.declared.fault.LinkFault.{LinkFault}
use Rattle.nodes.specs.declared.heard.Heard.{Heard}
use Rattle.nodes.specs.declared.heard.Heard.TheVariants as heard_cases
use Rattle.nodes.specs.declared.heard.HeardClcw.{HeardClcw}
use Rattle.nodes.specs.declared.received.Received.{Received}
use Rattle.nodes.specs.declared.received.Received.TheVariants as received_cases
use Rattle.simulated_link.specs.declared.session_start.Opening.{Opening}
use Rattle.simulated_link.specs.declared.fault.SimFault.{SimFault}
use Rattle.simulated_link.specs.declared.fault.SimFault.TheVariants.{NothingInTransit}
use Rattle.simulated_link.specs.declared.fault.SimFault.TheVariants.{NotDetectable}
use Rattle.nodes.specs.Parameters.{limits_of}
use Rattle.nodes.specs.Packets.{PacketOn, packet_on}
use Rattle.nodes.specs.Ground.{GroundState, GroundOutcome, is_closed, can_resume, new_ground}
use Rattle.nodes.specs.Ground.{ground_step}
use Rattle.nodes.specs.Ground as ground_calls
use Rattle.nodes.specs.Spacecraft.{SpacecraftState, SpacecraftOutcome, new_spacecraft}
use Rattle.nodes.specs.Spacecraft.{spacecraft_step}
use Rattle.nodes.specs.Spacecraft as spacecraft_calls
use Rattle.simulated_link.specs.Replies.{ReplyView, Nothing, Lost, Refused, Sent, Reported, Up}
use Rattle.simulated_link.specs.Replies.{Down, DownClcw, Resumed}
use Rattle.simulated_link.specs.declared.reply.NodeFault.TheVariants.{Link}
use Rattle.simulated_link.specs.Replies.{reply_to_submission, reply_to_directive, reply_to_alert}
use Rattle.simulated_link.specs.Replies.{reply_to_taking, reply_to_telemetry}

-- the records of the session, which lasts until the next one begins; at first none has begun
pub record Session : Type 0 where
  pub opening : Option Opening
  -- a CLCW has taken the ground from S4 or S5 to S1
  pub confirmed : Bool
  -- the octets of each accepted submission, with its MAP
  pub submissions : List PacketOn
  -- the data fields of Type-AD frames, in the order in which they were first sent; how many of
  -- them, from the first, are acknowledged
  pub sent : List (List ℕ)
  pub acknowledged : ℕ
  -- the number of segments that had been accepted on board when the session began
  pub before : ℕ

-- the two nodes, the frames in transit in each direction, the oldest first, and the records
pub record World : Type 0 where
  pub ground_node : GroundState
  pub spacecraft : SpacecraftState
  pub up : List (List ℕ)
  pub down : List (List ℕ)
  pub session : Session

-- the answer to an event, and the world after it
pub record WorldOutcome : Type 0 where
  pub answer : Result ReplyView SimFault
  pub after : World

abbrev pub no_session : Session
no_session = record {
  opening = None;
  confirmed = false;
  submissions = [];
  sent = [];
  acknowledged = 0;
  before = 0;
}

abbrev pub new_world : Config → World
new_world c = record {
  ground_node = new_ground c;
  spacecraft = new_spacecraft c;
  up = [];
  down = [];
  session = no_session;
}

-- ---- the records

-- the packets that were submitted on a MAP
abbrev pub submitted : World → ℕ → List (List ℕ)
submitted w m =
    flat_map (λ (p : PacketOn). packets_in p.octets)
    (filter (λ (p : PacketOn). p.on_map == m) w.session.submissions)

-- the data fields of the frames that were accepted on board since the session began
abbrev pub accepted : World → List (List ℕ)
accepted w = map segment_octets (drop w.session.before w.spacecraft.accepted)

-- the packets assembled on a MAP from segments, such as those accepted in the whole run
abbrev pub assembled_on : World → ℕ → List SegmentView → List (List ℕ)
assembled_on w m segments = assembled (limits_of w.spacecraft.config) m segments

-- the packets that became ready on board on a MAP since the session began, taken or not
abbrev pub delivered : World → ℕ → List (List ℕ)
delivered w m =
    drop (length (assembled_on w m (take w.session.before w.spacecraft.accepted)))
    (assembled_on w m w.spacecraft.accepted)

-- ---- properties of a session

-- the session began clean
abbrev pub IsClean : World → Type 0
IsClean w = option_map (λ (o : Opening). o.clean) w.session.opening ≡ Some true

-- the session had an idle start
abbrev pub IsIdle : World → Type 0
IsIdle w = option_map (λ (o : Opening). o.idle) w.session.opening ≡ Some true

-- the directive that began the session
abbrev pub directive_of : World → Option Directive
directive_of w = option_map (λ (o : Opening). o.directive) w.session.opening

-- a CLCW has confirmed the session, or it began without CLCW check
abbrev pub IsSettled : World → Type 0
IsSettled w = (w.session.confirmed ≡ true) ⊎ (directive_of w ≡ Some InitWithoutCheck)

abbrev pub is_none : {A : Type 0} → List A → Bool
is_none [] = true
is_none (x ∷ xs) = false

-- nothing is in transit in either direction
abbrev pub is_quiet : World → Bool
is_quiet w = is_none w.up && is_none w.down

-- an initiation may begin a clean session or a session with an idle start; without CLCW check only
-- if V(R) = V(S)
abbrev pub may_begin : World → Directive → Bool
may_begin w InitWithoutCheck = w.spacecraft.farm.vr == w.ground_node.fop.vs
may_begin w directive = is_initiation directive

-- an initiation begins a clean session in a quiet world
abbrev pub begins_clean : World → Directive → Bool
begins_clean w directive = may_begin w directive && is_quiet w

-- a CLCW has the value and the flags of this one; its FARM-B may differ
abbrev pub says_as : Clcw → Result Clcw ClcwFault → Bool
says_as now (Ok report) =
    (report.value == now.value) && (flags_number report.flags == flags_number now.flags)
says_as now (Err fault) = false

-- a telemetry frame carries such a CLCW
abbrev pub reports_as : Clcw → Result telemetry.FrameView TmFault → Bool
reports_as now (Ok frame) = says_as now (clcw_at frame.ocf)
reports_as now (Err fault) = false

-- the receiver's current CLCW
abbrev pub report_now : World → Clcw
report_now w = report_of w.spacecraft.farm w.spacecraft.config.vcid

-- nothing is in transit on the uplink, and each frame in transit on the downlink carries a CLCW
-- with the receiver's current value and flags
abbrev pub is_idle : World → Bool
is_idle w =
    is_none w.up && list_all (λ (octets : List ℕ). reports_as (report_now w)
    (telemetry_reading.frame_at w.ground_node.config.frame_length octets)) w.down

-- an initiation begins a session with an idle start in such a world
abbrev pub begins_idle : World → Directive → Bool
begins_idle w directive = may_begin w directive && is_idle w

-- An event begins no session. It is neither an initiation nor a resumption, or an initiation while
-- the sender is not in S6, or a refused resumption.
abbrev pub BeginsNoSession : World → Event → Type 0
BeginsNoSession w (events.Directive directive) =
    is_initiation directive ≡ true → is_closed w.ground_node.fop.state ≡ false
BeginsNoSession w (events.Resume value) = can_resume w.ground_node value ≡ false
BeginsNoSession w _ = Unit {0}

-- the records when a session begins
abbrev pub session_begun : World → Opening → Session
session_begun w opening = record {
  opening = Some opening;
  confirmed = false;
  submissions = [];
  sent = [];
  acknowledged = 0;
  before = length w.spacecraft.accepted;
}

-- the records when an initiation begins a session
abbrev pub session_begun_by : World → Directive → Session
session_begun_by w directive =
    session_begun w (record {
      directive = directive;
      clean = begins_clean w directive;
      idle = begins_idle w directive;
    })

abbrev pub is_initialising : FopMode → Bool
is_initialising S4 = true
is_initialising S5 = true
is_initialising _ = false

-- a CLCW takes the ground from S4 or S5 to S1
abbrev pub is_confirmation : FopMode → FopMode → Bool
is_confirmation old S1 = is_initialising old
is_confirmation old _ = false

-- ---- events

abbrev pub world_refusal : World → SimFault → WorldOutcome
world_refusal w fault = record { answer = Err fault; after = w }

abbrev pub world_reply : ReplyView → World → WorldOutcome
world_reply reply after = record { answer = Ok reply; after = after }

-- the outcome for the first frame in transit and the frames after it; refused if there is none
abbrev pub at_first : World → List (List ℕ) → (List ℕ → List (List ℕ) → WorldOutcome) → WorldOutcome
at_first w [] outcome = world_refusal w NothingInTransit
at_first w (octets ∷ way) outcome = outcome octets way

-- packets are submitted

abbrev pub submission_of : PacketOn → Result (Unit {0}) LinkFault → List PacketOn
submission_of p (Ok done) = p ∷ []
submission_of p (Err fault) = []

abbrev pub world_after_submission : World → PacketOn → GroundOutcome (Result (Unit {0}) LinkFault)
    → WorldOutcome
world_after_submission w p o = world_reply (reply_to_submission o.answer) (record w {
  ground_node = o.after;
  session = record w.session { submissions = w.session.submissions ++ submission_of p o.answer };
})

abbrev pub world_after_bypass : World → GroundOutcome (Result (Unit {0}) LinkFault) → WorldOutcome
world_after_bypass w o =
    world_reply (reply_to_submission o.answer) (record w { ground_node = o.after })

-- a directive

abbrev pub session_after_directive : World → Directive → Result (Option Alert) CopFault → Session
session_after_directive w directive (Ok alert) =
    if is_initiation directive then session_begun_by w directive
    else w.session
session_after_directive w directive (Err fault) = w.session

abbrev pub world_after_directive : World → Directive
    → GroundOutcome (Result (Option Alert) CopFault) → WorldOutcome
world_after_directive w directive o =
    world_reply (reply_to_directive o.answer) (record w {
      ground_node = o.after;
      session = session_after_directive w directive o.answer;
    })

-- a resumption after an alert: V(S) is set to a CLCW's value, and a session begins with Unlock

abbrev pub directed : World → Directive → World
directed w directive =
    (world_after_directive w directive
    (ground_step w.ground_node (ground_calls.Direct directive))).after

abbrev pub resumed : World → ℕ → World
resumed w value = directed (directed w (SetVs value)) InitUnlock

abbrev pub world_after_resuming : World → ℕ → Result ℕ LinkFault → WorldOutcome
world_after_resuming w value (Ok whole) = world_reply (Resumed whole) (resumed w value)
world_after_resuming w value (Err fault) = world_reply (Refused (Link fault)) w

-- the ground sends a frame; a Type-AD frame is sent for the first time if its number is V(S)

abbrev pub first_sent : ℕ → BodyView → List (List ℕ)
first_sent vs (Ad n segment) = if n == vs then segment_octets segment ∷ [] else []
first_sent vs (Bd segment) = []
first_sent vs (Bc command) = []

-- the data field of the next frame, if there is one and it is sent for the first time
abbrev pub first_in : ℕ → Option FrameView → List (List ℕ)
first_in vs None = []
first_in vs (Some frame) = first_sent vs frame.body

abbrev pub world_after_pull : World → GroundState → Option FrameView → WorldOutcome
world_after_pull w after None = world_reply Nothing (record w { ground_node = after })
world_after_pull w after (Some frame) = world_reply (Sent (spelling On frame)) (record w {
  ground_node = after;
  up = w.up ++ spelling On frame ∷ [];
  session =
      record w.session { sent = w.session.sent ++ first_sent w.ground_node.fop.vs frame.body };
})

abbrev pub world_after_send : World → GroundOutcome (Option FrameView) → WorldOutcome
world_after_send w o = world_after_pull w o.after o.answer

-- the first frame in transit on the uplink arrives, is lost or is damaged

abbrev pub world_after_receipt : World → List (List ℕ) → SpacecraftOutcome Received → WorldOutcome
world_after_receipt w up o = world_reply (Up o.answer) (record w { up = up; spacecraft = o.after })

abbrev pub up_deliver_step : World → List (List ℕ) → WorldOutcome
up_deliver_step w way = at_first w way (λ octets up. world_after_receipt w up
    (spacecraft_step w.spacecraft (spacecraft_calls.Receive octets)))

abbrev pub up_lose_step : World → List (List ℕ) → WorldOutcome
up_lose_step w way = at_first w way (λ octets up. world_reply Lost (record w { up = up }))

abbrev pub up_damage_outcome : World → List (List ℕ) → Result FrameView TcFault → WorldOutcome
up_damage_outcome w up (Ok frame) = world_refusal w NotDetectable
up_damage_outcome w up (Err fault) =
    world_reply (Up (received_cases.Invalid fault)) (record w { up = up })

abbrev pub up_damage_step : World → List (List ℕ) → List ℕ → WorldOutcome
up_damage_step w way damaged =
    at_first w way (λ octets up. up_damage_outcome w up (command.frame_at On damaged))

-- the spacecraft sends a telemetry frame

abbrev pub world_after_report : World → SpacecraftOutcome telemetry.FrameView → WorldOutcome
world_after_report w o =
    world_reply (Reported (report_of w.spacecraft.farm w.spacecraft.config.vcid)) (record w {
      spacecraft = o.after;
      down = w.down ++ telemetry_writing.spelling o.answer ∷ [];
    })

-- the first frame in transit on the downlink arrives, is lost or is damaged; the records count the
-- acknowledged frames by NN(R)

abbrev pub session_after_report : Session → GroundState → GroundState → Session
session_after_report s old new = record s {
  confirmed = s.confirmed || is_confirmation old.fop.state new.fop.state;
  acknowledged = s.acknowledged + ahead_by new.fop.nn old.fop.nn;
}

abbrev pub world_after_telemetry : World → List (List ℕ) → GroundOutcome Heard → WorldOutcome
world_after_telemetry w down o =
    world_reply (Down o.answer) (record w {
      ground_node = o.after;
      down = down;
      session = session_after_report w.session w.ground_node o.after;
    })

abbrev pub down_deliver_step : World → List (List ℕ) → WorldOutcome
down_deliver_step w way = at_first w way (λ octets down. world_after_telemetry w down
    (ground_step w.ground_node (ground_calls.Telemetry octets)))

abbrev pub down_lose_step : World → List (List ℕ) → WorldOutcome
down_lose_step w way = at_first w way (λ octets down. world_reply Lost (record w { down = down }))

abbrev pub down_damage_outcome : World → List (List ℕ) → Result telemetry.FrameView TmFault
    → WorldOutcome
down_damage_outcome w down (Ok frame) = world_refusal w NotDetectable
down_damage_outcome w down (Err fault) =
    world_reply (Down (heard_cases.Invalid fault)) (record w { down = down })

abbrev pub down_damage_step : World → List (List ℕ) → List ℕ → WorldOutcome
down_damage_step w way damaged = at_first w way (λ octets down. down_damage_outcome w down
    (telemetry_reading.frame_at w.ground_node.config.frame_length damaged))

-- The first downlink frame arrives, but only its CLCW reaches the ground, as from a front end that
-- forwards CLCWs. The frame's other contents are lost.

abbrev pub world_after_word : World → List (List ℕ) → GroundOutcome HeardClcw → WorldOutcome
world_after_word w down o =
    world_reply (DownClcw o.answer) (record w {
      ground_node = o.after;
      down = down;
      session = session_after_report w.session w.ground_node o.after;
    })

-- octets that do not form a valid frame have no CLCW
abbrev pub down_word_outcome : World → List (List ℕ) → Result telemetry.FrameView TmFault
    → WorldOutcome
down_word_outcome w down (Ok frame) =
    world_after_word w down (ground_step w.ground_node (ground_calls.ControlWord frame.ocf))
down_word_outcome w down (Err fault) =
    world_reply (Down (heard_cases.Invalid fault)) (record w { down = down })

abbrev pub down_clcw_step : World → List (List ℕ) → WorldOutcome
down_clcw_step w way = at_first w way (λ octets down. down_word_outcome w down
    (telemetry_reading.frame_at w.ground_node.config.frame_length octets))

-- a tick passes, a packet is taken on board, or telemetry is queued on board

abbrev pub world_after_tick : World → GroundOutcome (Option Alert) → WorldOutcome
world_after_tick w o = world_reply (reply_to_alert o.answer) (record w { ground_node = o.after })

abbrev pub world_after_take : World → SpacecraftOutcome (Option PacketOn) → WorldOutcome
world_after_take w o = world_reply (reply_to_taking o.answer) (record w { spacecraft = o.after })

abbrev pub world_after_queueing : World → SpacecraftOutcome (Result (Unit {0}) TmFault)
    → WorldOutcome
world_after_queueing w o =
    world_reply (reply_to_telemetry o.answer) (record w { spacecraft = o.after })

-- ---- all events

abbrev pub world_step : World → Event → WorldOutcome
world_step w (events.Submit m octets) =
    world_after_submission w (packet_on m octets.now)
    (ground_step w.ground_node (ground_calls.Submit m octets.now))
world_step w (events.Bypass m octets) =
    world_after_bypass w (ground_step w.ground_node (ground_calls.Bypass m octets.now))
world_step w (events.Directive directive) =
    world_after_directive w directive (ground_step w.ground_node (ground_calls.Direct directive))
world_step w (events.Resume value) =
    world_after_resuming w value
    (ground_step w.ground_node (ground_calls.Resume value)).answer
world_step w events.Send = world_after_send w (ground_step w.ground_node ground_calls.Pull)
world_step w events.UpDeliver = up_deliver_step w w.up
world_step w events.UpLose = up_lose_step w w.up
world_step w (events.UpDamage octets) = up_damage_step w w.up octets.now
world_step w events.Report =
    world_after_report w (spacecraft_step w.spacecraft spacecraft_calls.Report)
world_step w events.DownDeliver = down_deliver_step w w.down
world_step w events.DownLose = down_lose_step w w.down
world_step w (events.DownDamage octets) = down_damage_step w w.down octets.now
world_step w events.DownClcw = down_clcw_step w w.down
world_step w events.Tick = world_after_tick w (ground_step w.ground_node ground_calls.Tick)
world_step w events.Take = world_after_take w (spacecraft_step w.spacecraft spacecraft_calls.Take)
world_step w events.TakeBypass =
    world_after_take w (spacecraft_step w.spacecraft spacecraft_calls.TakeBypass)
world_step w (events.Telemetry octets) =
    world_after_queueing w (spacecraft_step w.spacecraft (spacecraft_calls.Telemetry octets.now))

-- ---- a run: the world after it, and the answer to each event

abbrev pub world_run : World → List Event → World
world_run w [] = w
world_run w (event ∷ more) = world_run (world_step w event).after more

abbrev pub run_answers : World → List Event → List (Result ReplyView SimFault)
run_answers w [] = []
run_answers w (event ∷ more) =
    (world_step w event).answer ∷ run_answers (world_step w event).after more

-- none of these events begins a session
abbrev pub KeepsSession : World → List Event → Type 0
KeepsSession w [] = Unit {0}
KeepsSession w (event ∷ more) =
    BeginsNoSession w event × KeepsSession (world_step w event).after more
