-- A loop of your own: a program calls the ground on one machine and the spacecraft on another, and
-- octets are in transit between them. The loop is defined by the calls of the two nodes and by two
-- lists. There is no simulated link, and there are no records of a session.
use Rattle.std.specs.Prelude.{◌≡◌, ℕ, List, [], ◌∷◌, ◌++◌, Option, Some, None, Result, Ok, Err}
use Rattle.std.specs.Prelude.{IsErr}
use Rattle.std.specs.List.{AllByRecursion}
use Rattle.clcw.specs.declared.fault.ClcwFault.{ClcwFault}
use Rattle.clcw.specs.declared.word.Clcw.{Clcw}
use Rattle.clcw.specs.Decoding.{clcw_at}
use Rattle.tc_frame.specs.declared.frame.Check.TheVariants.{On}
use Rattle.tc_frame.specs.Decoding as command
use Rattle.tc_frame.specs.Encoding.{spelling}
use Rattle.tc_frame.specs.Layout.{FrameView}
use Rattle.tm_link.specs.declared.fault.TmFault.{TmFault}
use Rattle.tm_link.specs.Decoding as telemetry_reading
use Rattle.tm_link.specs.Encoding as telemetry_writing
use Rattle.tm_link.specs.Layout as telemetry
use Rattle.nodes.specs.declared.config.Config.{Config}
use Rattle.nodes.specs.declared.event.Event.{Event}
use Rattle.nodes.specs.declared.event.Event.TheVariants as events
use Rattle.nodes.specs.declared.fault.LinkFault.{LinkFault}
use Rattle.nodes.specs.declared.heard.Heard.TheVariants as heard_cases
use Rattle.nodes.specs.Ground.{GroundState, GroundOutcome, new_ground, ground_step}
use Rattle.nodes.specs.Ground as ground_calls
use Rattle.nodes.specs.Parameters.{IsConfig}
use Rattle.nodes.specs.Spacecraft.{SpacecraftState, SpacecraftOutcome, new_spacecraft}
use Rattle.nodes.specs.Spacecraft.{restarted_spacecraft, spacecraft_step}
use Rattle.nodes.specs.Spacecraft as spacecraft_calls
use Rattle.simulated_link.specs.declared.fault.SimFault.{SimFault}
use Rattle.simulated_link.specs.declared.fault.SimFault.TheVariants.{NothingInTransit}
use Rattle.simulated_link.specs.declared.reply.NodeFault.TheVariants.{Link}
use Rattle.simulated_link.specs.Replies.{ReplyView, Nothing, Lost, Refused, Sent, Reported, Up}
use Rattle.simulated_link.specs.Replies.{Down, DownClcw, Resumed, reply_to_submission}
use Rattle.simulated_link.specs.Replies.{reply_to_directive, reply_to_alert, reply_to_taking}
use Rattle.simulated_link.specs.Replies.{reply_to_telemetry}
use Rattle.simulated_link.specs.World.{World, new_world, world_step}
use Rattle.tc_link.specs.AnyPast.{LinkStep, Happens, TakeTelemetry, Receives, Hears, HearsReport}
use Rattle.tc_link.specs.AnyPast.{ForgetTelemetry, NewGround, NewSpacecraft, IsLinkStep, link_run}
use Rattle.tc_link.specs.Reached.{IsEvent}
use Rattle.tc_link.specs.Seen.{IsPromisedOfSeen, seen}
use Rattle.tc_link.specs.SeenTelemetry.{StepAnswer, OfEvent, OfTaking, IsTelemetrySeen}
use Rattle.tc_link.specs.SeenTelemetry.{telemetry_seen}
use Rattle.tc_link.specs.Telemetry.{DownlinkStep, IsDownlinkStep}
use Rattle.tc_link.specs.Telemetry as downlink

-- the two nodes, and the octets in transit between them, the oldest first
pub record Loop : Type 0 where
  pub ground_node : GroundState
  pub spacecraft : SpacecraftState
  pub up : List (List ℕ)
  pub down : List (List ℕ)

abbrev pub new_loop : Config → Loop
new_loop c = record {
  ground_node = new_ground c;
  spacecraft = new_spacecraft c;
  up = [];
  down = [];
}

-- the answer, and the loop after it
pub record LoopOutcome : Type 0 where
  pub answer : Result ReplyView SimFault
  pub after : Loop

-- ---- the answer of a call, as a reply

abbrev pub reply_to_resuming : Result ℕ LinkFault → ReplyView
reply_to_resuming (Ok whole) = Resumed whole
reply_to_resuming (Err fault) = Refused (Link fault)

abbrev pub reply_to_pull : Option FrameView → ReplyView
reply_to_pull None = Nothing
reply_to_pull (Some frame) = Sent (spelling On frame)

-- the reply with the CLCW that a telemetry frame carries
abbrev pub reply_to_report : Result Clcw ClcwFault → ReplyView
reply_to_report (Ok report) = Reported report
reply_to_report (Err fault) = Nothing

-- ---- a call of a node

abbrev pub on_ground : {A : Type 0} → Loop → (A → ReplyView) → GroundOutcome A → LoopOutcome
on_ground l reply o =
    record { answer = Ok (reply o.answer); after = record l { ground_node = o.after } }

abbrev pub on_board : {A : Type 0} → Loop → (A → ReplyView) → SpacecraftOutcome A → LoopOutcome
on_board l reply o =
    record { answer = Ok (reply o.answer); after = record l { spacecraft = o.after } }

-- the frame that a pull returns goes to the end of the uplink
abbrev pub pulled : Loop → Option FrameView → Loop
pulled l None = l
pulled l (Some frame) = record l { up = l.up ++ spelling On frame ∷ [] }

abbrev pub on_pull : Loop → GroundOutcome (Option FrameView) → LoopOutcome
on_pull l o = record {
  answer = Ok (reply_to_pull o.answer);
  after = pulled (record l { ground_node = o.after }) o.answer;
}

-- a telemetry frame goes to the end of the downlink
abbrev pub on_report : Loop → SpacecraftOutcome telemetry.FrameView → LoopOutcome
on_report l o = record {
  answer = Ok (reply_to_report (clcw_at o.answer.ocf));
  after = record l {
    spacecraft = o.after;
    down = l.down ++ telemetry_writing.spelling o.answer ∷ [];
  };
}

-- octets arrive at a node
abbrev pub comes_up : Loop → List ℕ → LoopOutcome
comes_up l octets = on_board l Up (spacecraft_step l.spacecraft (spacecraft_calls.Receive octets))

abbrev pub comes_down : Loop → List ℕ → LoopOutcome
comes_down l octets = on_ground l Down (ground_step l.ground_node (ground_calls.Telemetry octets))

-- only the CLCW of a telemetry frame arrives at the ground; octets that do not form a frame have
-- none
abbrev pub word_comes : Loop → Result telemetry.FrameView TmFault → LoopOutcome
word_comes l (Ok frame) =
    on_ground l DownClcw (ground_step l.ground_node (ground_calls.ControlWord frame.ocf))
word_comes l (Err fault) = record { answer = Ok (Down (heard_cases.Invalid fault)); after = l }

-- ---- what is in transit

-- the first octets in transit, and those after them; if there are none, nothing arrives
abbrev pub first_of : Loop → List (List ℕ) → (List ℕ → List (List ℕ) → LoopOutcome) → LoopOutcome
first_of l [] comes = record { answer = Err NothingInTransit; after = l }
first_of l (octets ∷ way) comes = comes octets way

abbrev pub with_up : Loop → List (List ℕ) → Loop
with_up l way = record l { up = way }

abbrev pub with_down : Loop → List (List ℕ) → Loop
with_down l way = record l { down = way }

abbrev pub is_lost : Loop → LoopOutcome
is_lost l = record { answer = Ok Lost; after = l }

-- ---- each event

abbrev pub loop_event : Loop → Event → LoopOutcome
loop_event l (events.Submit m octets) =
    on_ground l reply_to_submission
    (ground_step l.ground_node (ground_calls.Submit m octets.now))
loop_event l (events.Bypass m octets) =
    on_ground l reply_to_submission
    (ground_step l.ground_node (ground_calls.Bypass m octets.now))
loop_event l (events.Directive directive) =
    on_ground l reply_to_directive
    (ground_step l.ground_node (ground_calls.Direct directive))
loop_event l (events.Resume value) =
    on_ground l reply_to_resuming (ground_step l.ground_node (ground_calls.Resume value))
loop_event l events.Tick =
    on_ground l reply_to_alert (ground_step l.ground_node ground_calls.Tick)
loop_event l events.Send = on_pull l (ground_step l.ground_node ground_calls.Pull)
loop_event l events.UpDeliver =
    first_of l l.up (λ octets way. comes_up (with_up l way) octets)
loop_event l events.UpLose = first_of l l.up (λ octets way. is_lost (with_up l way))
loop_event l (events.UpDamage damaged) =
    first_of l l.up (λ octets way. comes_up (with_up l way) damaged.now)
loop_event l events.Report =
    on_report l (spacecraft_step l.spacecraft spacecraft_calls.Report)
loop_event l events.DownDeliver =
    first_of l l.down (λ octets way. comes_down (with_down l way) octets)
loop_event l events.DownLose = first_of l l.down (λ octets way. is_lost (with_down l way))
loop_event l (events.DownDamage damaged) =
    first_of l l.down (λ octets way. comes_down (with_down l way) damaged.now)
loop_event l events.DownClcw =
    first_of l l.down (λ octets way. word_comes (with_down l way)
    (telemetry_reading.frame_at l.ground_node.config.frame_length octets))
loop_event l events.Take =
    on_board l reply_to_taking (spacecraft_step l.spacecraft spacecraft_calls.Take)
loop_event l events.TakeBypass =
    on_board l reply_to_taking (spacecraft_step l.spacecraft spacecraft_calls.TakeBypass)
loop_event l (events.Telemetry octets) =
    on_board l reply_to_telemetry
    (spacecraft_step l.spacecraft (spacecraft_calls.Telemetry octets.now))

-- ---- and each other step: telemetry is taken, octets come from outside, or a node is new

abbrev pub loop_step : Loop → LinkStep → Loop
loop_step l (Happens event) = (loop_event l event).after
loop_step l TakeTelemetry =
    record l { ground_node = (ground_step l.ground_node ground_calls.TakeTelemetry).after }
loop_step l ForgetTelemetry =
    record l { ground_node = (ground_step l.ground_node ground_calls.ForgetTelemetry).after }
loop_step l (Receives octets) = (comes_up l octets).after
loop_step l (Hears octets) = (comes_down l octets).after
loop_step l (HearsReport octets) =
    (on_ground l DownClcw (ground_step l.ground_node (ground_calls.ControlWord octets))).after
loop_step l NewGround = record l { ground_node = new_ground l.ground_node.config }
loop_step l (NewSpacecraft kept) =
    record l { spacecraft = restarted_spacecraft l.spacecraft.config kept }

abbrev pub loop_run : Loop → List LinkStep → Loop
loop_run l [] = l
loop_run l (step ∷ more) = loop_run (loop_step l step) more

abbrev pub loop_answers : Loop → List Event → List (Result ReplyView SimFault)
loop_answers l [] = []
loop_answers l (event ∷ more) =
    (loop_event l event).answer ∷ loop_answers (loop_event l event).after more

-- takes of telemetry on the ground may come among the events
abbrev pub as_link_step : DownlinkStep → LinkStep
as_link_step (downlink.Happens event) = Happens event
as_link_step downlink.TakeTelemetry = TakeTelemetry

abbrev pub loop_answer : Loop → DownlinkStep → StepAnswer
loop_answer l (downlink.Happens event) = OfEvent (loop_event l event).answer
loop_answer l downlink.TakeTelemetry =
    OfTaking (ground_step l.ground_node ground_calls.TakeTelemetry).answer

abbrev pub loop_downlink_answers : Loop → List DownlinkStep → List StepAnswer
loop_downlink_answers l [] = []
loop_downlink_answers l (step ∷ more) =
    loop_answer l step ∷ loop_downlink_answers (loop_step l (as_link_step step)) more

-- ---- the premise of the link: damage is detected by the receiver's decoder

abbrev pub IsDetected : Config → Event → Type 0
IsDetected c (events.UpDamage damaged) = IsErr (command.frame_at On damaged.now)
IsDetected c (events.DownDamage damaged) =
    IsErr (telemetry_reading.frame_at c.frame_length damaged.now)
IsDetected c _ = Unit {0}

abbrev pub IsDetectedAt : Config → LinkStep → Type 0
IsDetectedAt c (Happens event) = IsDetected c event
IsDetectedAt c _ = Unit {0}

-- ---- it is the link of the promises

-- the nodes of a world and what is in transit, without the records of its session
abbrev pub without_records : World → Loop
without_records w = record {
  ground_node = w.ground_node;
  spacecraft = w.spacecraft;
  up = w.up;
  down = w.down;
}

-- Wherever such steps lead, the nodes and what is in transit are those of the world to which they
-- lead. So each promise after any past holds of the nodes of such a loop.
abbrev pub EachLoopIsALink : Type 0
EachLoopIsALink =
    (c : Config) (steps : List LinkStep) → IsConfig c → AllByRecursion IsLinkStep steps
    → AllByRecursion (IsDetectedAt c) steps
    → loop_run (new_loop c) steps ≡ without_records (link_run (new_world c) steps)

-- The calls answer each event as the world does.
abbrev pub EachAnswersAsALink : Type 0
EachAnswersAsALink =
    (c : Config) (steps : List LinkStep) (event : Event) → IsConfig c
    → AllByRecursion IsLinkStep steps → AllByRecursion (IsDetectedAt c) steps
    → IsDetected c event
    → (loop_event (loop_run (new_loop c) steps) event).answer
    ≡ (world_step (link_run (new_world c) steps) event).answer

-- So what is promised in terms of what a program sees holds of the answers of its own calls, for
-- commands and for telemetry.
abbrev pub EachLoopIsSeen : Type 0
EachLoopIsSeen =
    (c : Config) (events : List Event) → IsConfig c → AllByRecursion IsEvent events
    → AllByRecursion (IsDetected c) events
    → IsPromisedOfSeen c.blocking (seen events (loop_answers (new_loop c) events))

abbrev pub EachLoopSeesTelemetry : Type 0
EachLoopSeesTelemetry =
    (c : Config) (steps : List DownlinkStep) → IsConfig c → AllByRecursion IsDownlinkStep steps
    → AllByRecursion (λ (step : DownlinkStep). IsDetectedAt c (as_link_step step)) steps
    → IsTelemetrySeen (telemetry_seen steps (loop_downlink_answers (new_loop c) steps))
