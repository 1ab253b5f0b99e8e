-- Bypass packets: which packets the ground accepted for bypass, and where they are.
use Rattle.std.specs.Prelude.{List, [], ◌∷◌, ◌++◌, map, flat_map, Result, Ok}
use Rattle.std.specs.List.{AllByRecursion}
use Rattle.tc_frame.specs.declared.frame.Check.TheVariants.{On}
use Rattle.tc_frame.specs.Layout.{SegmentView, BodyView, Ad, Bd, Bc}
use Rattle.tc_frame.specs.Decoding as command
use Rattle.nodes.specs.Packets.{PacketOn, packet_on}
use Rattle.nodes.specs.declared.event.Event.{Event}
use Rattle.nodes.specs.declared.event.Event.TheVariants as events
use Rattle.simulated_link.specs.declared.fault.SimFault.{SimFault}
use Rattle.simulated_link.specs.Replies.{ReplyView, Done, Packet}
use Rattle.simulated_link.specs.World.{World, world_step}
use Rattle.tc_link.specs.AnyPast.{LinkStep, Happens, Receives, IsLinkStep, HasAnyPast, link_step}
use Rattle.tc_link.specs.AnyPast.{link_run}
use Rattle.tc_link.specs.InTransit.{in_frame}
use Rattle.tc_link.specs.Telemetry.{AreSomeOf}

-- ---- where they are: on board, in transit on the uplink, on the ground

-- the packet of an unsegmented segment
abbrev pub packet_of : SegmentView → PacketOn
packet_of segment = packet_on segment.header.map segment.payload

abbrev pub packet_in : BodyView → List PacketOn
packet_in (Ad n segment) = []
packet_in (Bd segment) = packet_of segment ∷ []
packet_in (Bc command) = []

-- the packets of the Type-BD frames in transit on the uplink
abbrev pub bypass_up : World → List PacketOn
bypass_up w = flat_map (λ octets. in_frame packet_in (command.frame_at On octets)) w.up

-- the packets that wait on the ground to be sent
abbrev pub bypass_queued : World → List PacketOn
bypass_queued w = map packet_of w.ground_node.fop.bypass

-- the packets that wait on board to be taken, those in transit, and those on the ground
abbrev pub bypass_held : World → List PacketOn
bypass_held w = w.spacecraft.bypass ++ (bypass_up w ++ bypass_queued w)

-- ---- which packets were accepted on the ground, and which were taken on board

-- by an event with this answer
abbrev pub bypass_accepted_by : Event → Result ReplyView SimFault → List PacketOn
bypass_accepted_by (events.Bypass m octets) (Ok Done) = packet_on m octets.now ∷ []
bypass_accepted_by _ _ = []

abbrev pub bypass_taken_by : Event → Result ReplyView SimFault → List PacketOn
bypass_taken_by events.TakeBypass (Ok (Packet packet)) = packet ∷ []
bypass_taken_by _ _ = []

-- by a step of a run
abbrev pub by_step : (Event → Result ReplyView SimFault → List PacketOn) → World → LinkStep
    → List PacketOn
by_step packets w (Happens event) = packets event (world_step w event).answer
by_step packets w _ = []

-- by these steps
abbrev pub bypass_accepted : World → List LinkStep → List PacketOn
bypass_accepted w [] = []
bypass_accepted w (step ∷ more) =
    by_step bypass_accepted_by w step ++ bypass_accepted (link_step w step) more

abbrev pub bypass_taken : World → List LinkStep → List PacketOn
bypass_taken w [] = []
bypass_taken w (step ∷ more) =
    by_step bypass_taken_by w step ++ bypass_taken (link_step w step) more

-- ---- what is promised

-- no octets from outside the link reach the spacecraft
abbrev pub ReceivesNothingElse : LinkStep → Type 0
ReceivesNothingElse (Receives octets) = ⊥
ReceivesNothingElse _ = Unit {0}

-- Since any moment, after any past: the packets taken, followed by those held now, are, in order,
-- some of those held at that moment, followed by some of those accepted since.
abbrev pub BypassKeepsOrder : Type 0
BypassKeepsOrder =
    (w : World) (since : List LinkStep) → HasAnyPast w → AllByRecursion IsLinkStep since
    → AllByRecursion ReceivesNothingElse since
    → AreSomeOf (bypass_taken w since ++ bypass_held (link_run w since))
    (bypass_held w ++ bypass_accepted w since)
