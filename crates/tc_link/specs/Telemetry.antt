-- Telemetry on a simulated link: what was queued and sent, what became of it, and what is promised.
use Rattle.std.specs.Prelude.{◌≡◌, ◌≤◌, ℕ, List, [], ◌∷◌, ◌++◌, length, drop, map, option_to_list}
use Rattle.std.specs.Prelude.{Bool, true, false, Option, Result, Ok}
use Rattle.std.specs.List.{AllByRecursion}
use Rattle.tm_link.specs.Builder.{held_by}
use Rattle.tm_link.specs.Layout.{FrameView}
use Rattle.tm_link.specs.Stream.{IsLaidOut, IsClose, arrived_packets}
use Rattle.tm_link.specs.Encoding.{spelling}
use Rattle.nodes.specs.declared.config.Config.{Config}
use Rattle.nodes.specs.Ground.{ground_step}
use Rattle.nodes.specs.Ground as ground_calls
use Rattle.nodes.specs.Parameters.{IsConfig}
use Rattle.nodes.specs.Spacecraft.{spacecraft_step}
use Rattle.nodes.specs.Spacecraft as spacecraft_calls
use Rattle.nodes.specs.declared.event.Event.{Event}
use Rattle.nodes.specs.declared.event.Event.TheVariants as events
use Rattle.simulated_link.specs.declared.fault.SimFault.{SimFault}
use Rattle.tc_link.specs.Reached.{IsEvent}
use Rattle.simulated_link.specs.Replies.{ReplyView, Done}
use Rattle.simulated_link.specs.World.{World, WorldOutcome, new_world, world_step, world_run}

-- ---- the history of a link's telemetry

-- a link, and the history of its telemetry
pub record Downlink : Type 0 where
  pub world : World
  -- the packets that were queued on board, and the frames that were sent
  pub queued : List (List ℕ)
  pub sent : List FrameView
  -- for each frame that is no longer in transit, whether it arrived
  pub came : List Bool
  -- the packets that were taken on the ground
  pub taken : List (List ℕ)

abbrev pub new_downlink : Config → Downlink
new_downlink c = record { world = new_world c; queued = []; sent = []; came = []; taken = [] }

-- an event happens on the link, or a packet of telemetry is taken on the ground
pub data DownlinkStep : Type 0 where
  Happens : (event : Event) → DownlinkStep
  TakeTelemetry : DownlinkStep

abbrev pub IsDownlinkStep : DownlinkStep → Type 0
IsDownlinkStep (Happens event) = IsEvent event
IsDownlinkStep TakeTelemetry = Unit {0}

-- the packet that an event with this answer queues, and the frame that it sends
abbrev pub queued_by : Event → Result ReplyView SimFault → List (List ℕ)
queued_by (events.Telemetry octets) (Ok Done) = octets.now ∷ []
queued_by _ _ = []

abbrev pub sent_by : World → Event → List FrameView
sent_by w events.Report = (spacecraft_step w.spacecraft spacecraft_calls.Report).answer ∷ []
sent_by w _ = []

-- whether the frame that is no longer in transit arrived; if only its CLCW reached the ground, the
-- rest of it is lost
abbrev pub came_by : Event → Result ReplyView SimFault → List Bool
came_by events.DownDeliver (Ok reply) = true ∷ []
came_by events.DownLose (Ok reply) = false ∷ []
came_by events.DownClcw (Ok reply) = false ∷ []
came_by (events.DownDamage octets) (Ok reply) = false ∷ []
came_by _ _ = []

abbrev pub after_event : Downlink → Event → WorldOutcome → Downlink
after_event d event o = record {
  world = o.after;
  queued = d.queued ++ queued_by event o.answer;
  sent = d.sent ++ sent_by d.world event;
  came = d.came ++ came_by event o.answer;
  taken = d.taken;
}

abbrev pub after_taking : Downlink → ground_calls.GroundOutcome (Option (List ℕ)) → Downlink
after_taking d o = record d {
  world = record d.world { ground_node = o.after };
  taken = d.taken ++ option_to_list o.answer;
}

abbrev pub downlink_step : Downlink → DownlinkStep → Downlink
downlink_step d (Happens event) = after_event d event (world_step d.world event)
downlink_step d TakeTelemetry =
    after_taking d (ground_step d.world.ground_node ground_calls.TakeTelemetry)

abbrev pub downlink_run : Downlink → List DownlinkStep → Downlink
downlink_run d [] = d
downlink_run d (step ∷ more) = downlink_run (downlink_step d step) more

-- ---- what is promised

-- the packets on the ground: those that were taken, and those that wait
abbrev pub packets_down : Downlink → List (List ℕ)
packets_down d = d.taken ++ d.world.ground_node.telemetry

-- some of these packets, in order, each once
pub data AreSomeOf {P : Type 0} : List P → List P → Type 0 where
  none : AreSomeOf [] []
  one : {p : P} {some all : List P} → AreSomeOf some all → AreSomeOf (p ∷ some) (p ∷ all)
  without : {p : P} {some all : List P} → AreSomeOf some all → AreSomeOf some (p ∷ all)

pub record IsTelemetryInOrder (d : Downlink) : Type 0 where
  -- the frames that were sent lay out the packets that were queued, up to what the builder holds
  pub laid : IsLaidOut d.queued d.sent (held_by d.world.spacecraft.builder)
  -- the frames in transit are the last of them
  pub down : map spelling (drop (length d.came) d.sent) ≡ d.world.down
  pub counted : length d.came ≤ length d.sent
  -- while fewer than 256 frames are lost between two that arrive, the packets on the ground are
  -- those all of whose octets arrived
  pub arrived : IsClose d.came → packets_down d ≡ arrived_packets laid.all d.sent d.came
  -- the packets on the ground then are packets that were queued, in order, each once, octet for
  -- octet
  pub in_order : IsClose d.came → AreSomeOf (packets_down d) d.queued
  -- if no frame was lost, none is in transit and the builder holds nothing, they are all the
  -- packets that were queued
  pub complete : AllByRecursion (λ (came : Bool). came ≡ true) d.came → d.world.down ≡ []
      → held_by d.world.spacecraft.builder ≡ [] → packets_down d ≡ d.queued

-- this holds at every moment of a run
abbrev pub TelemetryComesDown : Type 0
TelemetryComesDown =
    (c : Config) (steps : List DownlinkStep) → IsConfig c → AllByRecursion IsDownlinkStep steps
    → IsTelemetryInOrder (downlink_run (new_downlink c) steps)

-- a run of events only
abbrev pub downlink_of : Config → List Event → Downlink
downlink_of c events = downlink_run (new_downlink c) (map (λ event. Happens event) events)

-- its link is that of the run of these events, and no packet is taken
abbrev pub RunsAsTheLink : Type 0
RunsAsTheLink =
    (c : Config) (events : List Event)
    → ((downlink_of c events).world ≡ world_run (new_world c) events)
    × ((downlink_of c events).taken ≡ [])
