-- What a program sees of telemetry, and nothing else: the steps of a run, and the answer to each.
use Rattle.std.specs.Prelude.{ℕ, List, [], ◌∷◌, ◌++◌, Bool, Option, option_to_list, Result}
use Rattle.std.specs.List.{AllByRecursion}
use Rattle.tm_link.specs.Stream.{IsClose}
use Rattle.nodes.specs.declared.config.Config.{Config}
use Rattle.nodes.specs.Ground.{ground_step}
use Rattle.nodes.specs.Ground as ground_calls
use Rattle.nodes.specs.Parameters.{IsConfig}
use Rattle.simulated_link.specs.declared.fault.SimFault.{SimFault}
use Rattle.simulated_link.specs.Replies.{ReplyView}
use Rattle.simulated_link.specs.World.{world_step}
use Rattle.tc_link.specs.Telemetry.{Downlink, DownlinkStep, Happens, TakeTelemetry, IsDownlinkStep}
use Rattle.tc_link.specs.Telemetry.{new_downlink, downlink_step, queued_by, came_by, AreSomeOf}

-- the answer to a step: to an event, or to taking a packet on the ground
pub data StepAnswer : Type 0 where
  OfEvent : (answer : Result ReplyView SimFault) → StepAnswer
  OfTaking : (packet : Option (List ℕ)) → StepAnswer

-- what a program knows from the steps so far and their answers
pub record SeenTelemetry : Type 0 where
  -- the packets that were queued on board, according to the answers
  pub queued : List (List ℕ)
  -- For each frame that is no longer in transit, whether this frame arrived. A frame did not arrive
  -- if it was lost or damaged, or if only its CLCW reached the ground.
  pub came : List Bool
  -- the packets that were taken on the ground
  pub taken : List (List ℕ)

-- before any step
abbrev pub no_telemetry : SeenTelemetry
no_telemetry = record { queued = []; came = []; taken = [] }

-- what a program knows after one more step, from its answer
abbrev pub telemetry_seen_step : SeenTelemetry → DownlinkStep → StepAnswer → SeenTelemetry
telemetry_seen_step s (Happens event) (OfEvent answer) = record s {
  queued = s.queued ++ queued_by event answer;
  came = s.came ++ came_by event answer;
}
telemetry_seen_step s TakeTelemetry (OfTaking packet) =
    record s { taken = s.taken ++ option_to_list packet }
telemetry_seen_step s _ _ = s

-- the same after several steps
abbrev pub telemetry_seen_from : SeenTelemetry → List DownlinkStep → List StepAnswer → SeenTelemetry
telemetry_seen_from s (step ∷ more) (answer ∷ answers) =
    telemetry_seen_from (telemetry_seen_step s step answer) more answers
telemetry_seen_from s _ _ = s

abbrev pub telemetry_seen : List DownlinkStep → List StepAnswer → SeenTelemetry
telemetry_seen steps answers = telemetry_seen_from no_telemetry steps answers

-- ---- what is promised

-- The packets that were taken are packets that were queued, in order, each once, octet for octet.
-- The premise is that fewer than 256 frames in a row did not arrive between two that did.
abbrev pub IsTelemetrySeen : SeenTelemetry → Type 0
IsTelemetrySeen s = IsClose s.came → AreSomeOf s.taken s.queued

-- the link's answer to a step, and its answers to several
abbrev pub answer_to : Downlink → DownlinkStep → StepAnswer
answer_to d (Happens event) = OfEvent (world_step d.world event).answer
answer_to d TakeTelemetry =
    OfTaking (ground_step d.world.ground_node ground_calls.TakeTelemetry).answer

abbrev pub downlink_answers : Downlink → List DownlinkStep → List StepAnswer
downlink_answers d [] = []
downlink_answers d (step ∷ more) = answer_to d step ∷ downlink_answers (downlink_step d step) more

-- This holds for every configuration in its ranges, for any steps and the answers of the link.
abbrev pub TelemetryIsSeen : Type 0
TelemetryIsSeen =
    (c : Config) (steps : List DownlinkStep) → IsConfig c → AllByRecursion IsDownlinkStep steps
    → IsTelemetrySeen (telemetry_seen steps (downlink_answers (new_downlink c) steps))
