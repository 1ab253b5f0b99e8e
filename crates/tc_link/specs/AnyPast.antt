-- A run of the link in which more may happen than its events. Octets from outside the link may
-- reach a node, and a new node may replace one.
use Rattle.std.specs.Prelude.{◌≡◌, ◌<◌, ◌==◌, ℕ, List, [], ◌∷◌, length, map, Result, Ok, Err}
use Rattle.std.specs.Prelude.{Bool, true, false, not, ◌&&◌, if◌then◌else◌}
use Rattle.std.specs.List.{AllByRecursion}
use Rattle.cop1.specs.Farm.{FarmState}
use Rattle.cop1.specs.declared.farm.FarmMode.{FarmMode}
use Rattle.cop1.specs.declared.farm.FarmMode.TheVariants.{Open, Wait, Lockout}
use Rattle.cop1.specs.Report.{report_of}
use Rattle.nodes.specs.declared.config.Config.{Config}
use Rattle.nodes.specs.declared.heard.Heard.{Heard}
use Rattle.nodes.specs.declared.heard.Heard.TheVariants as heard_cases
use Rattle.nodes.specs.declared.heard.HeardClcw.{HeardClcw}
use Rattle.nodes.specs.declared.heard.HeardReport.{HeardReport}
use Rattle.nodes.specs.declared.heard.HeardReport.TheVariants.{Used}
use Rattle.nodes.specs.declared.received.Received.{Received}
use Rattle.nodes.specs.Ground.{GroundState, GroundOutcome, new_ground, ground_step}
use Rattle.nodes.specs.Ground as ground_calls
use Rattle.nodes.specs.Parameters.{IsConfig}
use Rattle.nodes.specs.declared.spacecraft.KeptNumbers.{KeptNumbers}
use Rattle.nodes.specs.Spacecraft.{SpacecraftState, SpacecraftOutcome, restarted_spacecraft}
use Rattle.nodes.specs.Spacecraft.{kept_numbers, spacecraft_step, spacecraft_report}
use Rattle.nodes.specs.Spacecraft as spacecraft_calls
use Rattle.nodes.specs.declared.event.Event.{Event}
use Rattle.nodes.specs.declared.event.Event.TheVariants as events
use Rattle.simulated_link.specs.Replies.{ReplyView, Down, DownClcw}
use Rattle.simulated_link.specs.declared.fault.SimFault.{SimFault}
use Rattle.tc_link.specs.Promises.{HoldsAt}
use Rattle.tc_link.specs.Reached.{IsEvent}
use Rattle.simulated_link.specs.World.{World, new_world, no_session, world_step, world_run}

pub data LinkStep : Type 0 where
  -- an event happens
  Happens : (event : Event) → LinkStep
  -- a packet of telemetry is taken on the ground
  TakeTelemetry : LinkStep
  -- any octets from outside the link reach the spacecraft or the ground: noise, damage that a
  -- decoder does not detect, a frame out of order or repeated, a frame of another sender
  Receives : (octets : List ℕ) → LinkStep
  Hears : (octets : List ℕ) → LinkStep
  -- a CLCW from outside the link, or a repeated one, reaches the ground by itself
  HearsReport : (octets : List ℕ) → LinkStep
  -- the ground begins again to extract packets from telemetry
  ForgetTelemetry : LinkStep
  -- A new node replaces the ground or the spacecraft: the node restarts, or another takes over the
  -- link. The new spacecraft may have any numbers. They may be those kept of the previous one, as
  -- after a restart on purpose, or zeros, as in a new one.
  NewGround : LinkStep
  NewSpacecraft : (kept : KeptNumbers) → LinkStep

-- the numbers that a spacecraft may have
pub record AreNumbers (kept : KeptNumbers) : Type 0 where
  pub vr : kept.vr < 256
  pub farm_b : kept.farm_b < 4
  pub mc_count : kept.mc_count < 256
  pub vc_count : kept.vc_count < 256

abbrev pub IsLinkStep : LinkStep → Type 0
IsLinkStep (Happens event) = IsEvent event
IsLinkStep (NewSpacecraft kept) = AreNumbers kept
IsLinkStep _ = Unit {0}

-- these nodes are on the link, with no session; what is in transit stays
abbrev pub with_nodes : World → GroundState → SpacecraftState → World
with_nodes w ground_node spacecraft = record w {
  ground_node = ground_node;
  spacecraft = spacecraft;
  session = record no_session { before = length spacecraft.accepted };
}

-- whether the receiver has this state, and a flag this value
abbrev pub is_mode : FarmMode → FarmMode → Bool
is_mode Open Open = true
is_mode Wait Wait = true
is_mode Lockout Lockout = true
is_mode _ _ = false

abbrev pub is_flag : Bool → Bool → Bool
is_flag true flag = flag
is_flag false flag = not flag

-- whether the receiver is as it was except for FARM-B: V(R), its state, which the lockout flag and
-- the wait flag determine, and the retransmit flag
abbrev pub is_left : FarmState → FarmState → Bool
is_left old new =
    (new.vr == old.vr) && (is_mode old.state new.state && is_flag old.retransmit new.retransmit)

-- A session continues with octets that leave the receiver so. On board, they change nothing except
-- FARM-B and the bypass packets.
abbrev pub after_receiving : World → SpacecraftState → World
after_receiving w after =
    if is_left w.spacecraft.farm after.farm then record w { spacecraft = after }
    else with_nodes w w.ground_node after

-- a session continues with a CLCW that does not reach the sender
abbrev pub after_report : World → GroundState → HeardReport → World
after_report w after Used = with_nodes w after w.spacecraft
after_report w after _ = record w { ground_node = after }

abbrev pub after_hearing : World → GroundState → Heard → World
after_hearing w after (heard_cases.Frame gap packets report alert) = after_report w after report
after_hearing w after _ = record w { ground_node = after }

abbrev pub received : World → SpacecraftOutcome Received → World
received w o = after_receiving w o.after

abbrev pub heard : World → GroundOutcome Heard → World
heard w o = after_hearing w o.after o.answer

-- what the ground makes of a CLCW by itself
abbrev pub word_step : World → List ℕ → GroundOutcome HeardClcw
word_step w octets = ground_step w.ground_node (ground_calls.ControlWord octets)

abbrev pub heard_word : World → GroundOutcome HeardClcw → World
heard_word w o = after_report w o.after o.answer.report

abbrev pub link_step : World → LinkStep → World
link_step w (Happens event) = (world_step w event).after
link_step w TakeTelemetry =
    record w { ground_node = (ground_step w.ground_node ground_calls.TakeTelemetry).after }
link_step w (Receives octets) =
    received w (spacecraft_step w.spacecraft (spacecraft_calls.Receive octets))
link_step w (Hears octets) = heard w (ground_step w.ground_node (ground_calls.Telemetry octets))
link_step w (HearsReport octets) = heard_word w (word_step w octets)
link_step w ForgetTelemetry =
    record w { ground_node = (ground_step w.ground_node ground_calls.ForgetTelemetry).after }
link_step w NewGround = with_nodes w (new_ground w.ground_node.config) w.spacecraft
link_step w (NewSpacecraft kept) =
    with_nodes w w.ground_node (restarted_spacecraft w.spacecraft.config kept)

abbrev pub link_run : World → List LinkStep → World
link_run w [] = w
link_run w (step ∷ more) = link_run (link_step w step) more

-- a run of such steps leads from a new world to this one
pub record HasAnyPast (w : World) : Type 0 where
  pub config : Config
  pub ranges : IsConfig config
  pub steps : List LinkStep
  pub numbers : AllByRecursion IsLinkStep steps
  pub led : link_run (new_world config) steps ≡ w

-- for every configuration in its ranges, list of such steps and next event
abbrev pub HoldsAfterAnyPast : Type 0
HoldsAfterAnyPast =
    (c : Config) (steps : List LinkStep) (event : Event) → IsConfig c
    → AllByRecursion IsLinkStep steps → IsEvent event
    → HoldsAt (link_run (new_world c) steps) event

-- a run of events only is one of these
abbrev pub RunsAsEvents : Type 0
RunsAsEvents =
    (c : Config) (events : List Event)
    → link_run (new_world c) (map (λ event. Happens event) events) ≡ world_run (new_world c) events

-- ---- a spacecraft that is restarted with its own numbers

abbrev pub restarted_as_kept : SpacecraftState → SpacecraftState
restarted_as_kept s = restarted_spacecraft s.config (kept_numbers s)

-- Whatever the spacecraft held, the next telemetry frame has the counts that were next, so no frame
-- is missing between it and the previous one. It reports the same V(R) and FARM-B as before.
pub record GoesOnAsKept (s : SpacecraftState) : Type 0 where
  pub mc_count : (spacecraft_report (restarted_as_kept s)).answer.mc_count
      ≡ (spacecraft_report s).answer.mc_count
  pub vc_count : (spacecraft_report (restarted_as_kept s)).answer.vc_count
      ≡ (spacecraft_report s).answer.vc_count
  pub value : (report_of (restarted_as_kept s).farm s.config.vcid).value
      ≡ (report_of s.farm s.config.vcid).value
  pub farm_b : (report_of (restarted_as_kept s).farm s.config.vcid).farm_b
      ≡ (report_of s.farm s.config.vcid).farm_b

abbrev pub EachGoesOnAsKept : Type 0
EachGoesOnAsKept = (s : SpacecraftState) → GoesOnAsKept s

-- ---- a CLCW by itself

-- the answer to a telemetry frame and the answer to its CLCW agree about the CLCW, or both are
-- refused
abbrev pub SaysAs : (frame word : Result ReplyView SimFault) → Type 0
SaysAs (Ok (Down (heard_cases.Frame gap packets report alert))) (Ok (DownClcw word)) =
    (word.report ≡ report) × (word.alert ≡ alert)
SaysAs (Err fault) (Err other) = other ≡ fault
SaysAs _ _ = ⊥

-- the world, with telemetry as in another world
abbrev pub with_telemetry_of : World → World → World
with_telemetry_of v w = record w {
  ground_node = record w.ground_node {
    extractor = v.ground_node.extractor;
    telemetry = v.ground_node.telemetry;
  };
}

-- After any past, a CLCW that arrives by itself does what its telemetry frame would do, except for
-- telemetry, and is answered accordingly.
pub record DoesAsItsFrame (w : World) : Type 0 where
  pub after : (world_step w events.DownClcw).after
      ≡ with_telemetry_of w (world_step w events.DownDeliver).after
  pub answer : SaysAs (world_step w events.DownDeliver).answer
      (world_step w events.DownClcw).answer

abbrev pub ReportsDoAsFrames : Type 0
ReportsDoAsFrames = (w : World) → HasAnyPast w → DoesAsItsFrame w
