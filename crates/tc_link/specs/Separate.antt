-- Bypass packets and telemetry leave commanding under sequence control as it is.
use Rattle.std.specs.Prelude.{◌≡◌, Option, Some, None, Result, Ok}
use Rattle.tc_frame.specs.Layout.{BodyView, Bd, FrameView}
use Rattle.nodes.specs.Ground.{ground_step, Pull}
use Rattle.nodes.specs.declared.event.Event.{Event}
use Rattle.nodes.specs.declared.event.Event.TheVariants as events
use Rattle.nodes.specs.declared.received.Received.TheVariants.{Bypass}
use Rattle.simulated_link.specs.declared.fault.SimFault.{SimFault}
use Rattle.simulated_link.specs.Replies.{ReplyView, Up}
use Rattle.simulated_link.specs.World.{World, world_step}
use Rattle.tc_link.specs.AnyPast.{HasAnyPast}

-- the frame that is sent is a Type-BD frame
abbrev pub IsBypassBody : BodyView → Type 0
IsBypassBody (Bd segment) = Unit {0}
IsBypassBody body = ⊥

abbrev pub IsBypassFrame : Option FrameView → Type 0
IsBypassFrame None = ⊥
IsBypassFrame (Some frame) = IsBypassBody frame.body

-- a Type-BD frame arrives on board, according to the answer
abbrev pub BringsBypass : Result ReplyView SimFault → Type 0
BringsBypass (Ok (Up (Bypass kept))) = Unit {0}
BringsBypass answer = ⊥

-- an event of bypass packets or of telemetry: a bypass packet is submitted, sent, received or
-- taken, a packet of telemetry is queued, or a telemetry frame is sent
abbrev pub IsSeparate : World → Event → Type 0
IsSeparate w (events.Bypass m octets) = Unit {0}
IsSeparate w events.Send = IsBypassFrame (ground_step w.ground_node Pull).answer
IsSeparate w events.UpDeliver = BringsBypass (world_step w events.UpDeliver).answer
IsSeparate w events.TakeBypass = Unit {0}
IsSeparate w (events.Telemetry octets) = Unit {0}
IsSeparate w events.Report = Unit {0}
IsSeparate w event = ⊥

-- Everything in the nodes and the records is as it was, except for the ground's bypass queue and,
-- on board, FARM-B, the bypass packets and what builds telemetry frames. So V(S), NN(R), V(R), the
-- flags, and the segments sent, waiting and accepted are as they were.
pub record LeavesCommanding (old new : World) : Type 0 where
  pub ground_node : new.ground_node ≡ record old.ground_node {
    fop = record old.ground_node.fop { bypass = new.ground_node.fop.bypass };
  }
  pub spacecraft : new.spacecraft ≡ record old.spacecraft {
    farm = record old.spacecraft.farm { farm_b = new.spacecraft.farm.farm_b };
    bypass = new.spacecraft.bypass;
    builder = new.spacecraft.builder;
  }
  pub session : new.session ≡ old.session

-- this holds after any past
abbrev pub EachIsSeparate : Type 0
EachIsSeparate =
    (w : World) (event : Event) → HasAnyPast w → IsSeparate w event
    → LeavesCommanding w (world_step w event).after
