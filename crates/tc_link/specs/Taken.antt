-- What is taken on board in a session, and how it relates to what is delivered.
use Rattle.std.specs.Prelude.{◌≡◌, ◌≤◌, length, ℕ, List, [], ◌∷◌, ◌++◌, flat_map, true, Result, Ok}
use Rattle.std.specs.List.{AllByRecursion}
use Rattle.octets.specs.Beginning.{IsBeginning}
use Rattle.map_service.specs.Packets.{packets_in}
use Rattle.cop1.specs.declared.vocabulary.FopMode.TheVariants.{S1, S6}
use Rattle.cop1.specs.FopDirective.{is_initiation}
use Rattle.nodes.specs.Delivery.{packets_of_map}
use Rattle.nodes.specs.Ground.{is_closed, can_resume, outstanding}
use Rattle.nodes.specs.Packets.{PacketOn, put_on_map}
use Rattle.nodes.specs.declared.event.Event.{Event}
use Rattle.nodes.specs.declared.event.Event.TheVariants as events
use Rattle.simulated_link.specs.declared.fault.SimFault.{SimFault}
use Rattle.tc_link.specs.AnyPast.{HasAnyPast, LinkStep, Happens, IsLinkStep, link_step, link_run}
use Rattle.tc_link.specs.Beside.{SessionLasts}
use Rattle.tc_link.specs.InTransit.{numbers_up}
use Rattle.tc_link.specs.Reached.{IsEvent}
use Rattle.simulated_link.specs.Replies.{ReplyView, Packet}
use Rattle.simulated_link.specs.World.{World, IsIdle, accepted, submitted, delivered, world_step}

-- The event begins a session. It is an initiation while the sender is in S6, or a resumption that
-- is not refused.
abbrev pub BeginsSession : World → Event → Type 0
BeginsSession w (events.Directive directive) =
    (is_initiation directive ≡ true) × (is_closed w.ground_node.fop.state ≡ true)
BeginsSession w (events.Resume value) = can_resume w.ground_node value ≡ true
BeginsSession w _ = ⊥

-- the packet that an event takes from those that are ready
abbrev pub handed_out : Event → Result ReplyView SimFault → List PacketOn
handed_out events.Take (Ok (Packet packet)) = packet ∷ []
handed_out _ _ = []

-- the packets that one step of the link takes, and the packets that several steps take, in order
abbrev pub handed_by : World → LinkStep → List PacketOn
handed_by w (Happens event) = handed_out event (world_step w event).answer
handed_by w _ = []

abbrev pub taken : World → List LinkStep → List PacketOn
taken w [] = []
taken w (step ∷ more) = handed_by w step ++ taken (link_step w step) more

-- the packets that were taken since this moment on a MAP, in order
abbrev pub taken_since : World → List LinkStep → ℕ → List (List ℕ)
taken_since w since m = packets_of_map m (taken w since)

-- the packets that wait to be taken on a MAP, the oldest first
abbrev pub ready_on : World → ℕ → List (List ℕ)
ready_on w m = packets_of_map m w.spacecraft.ready

-- Let R be the packets on a MAP that were ready at this moment, T those taken since, and N those
-- ready after these steps. T followed by N is R followed by what the session has delivered.
abbrev pub HandsOut : World → List LinkStep → ℕ → Type 0
HandsOut w since m =
    taken_since w since m ++ ready_on (link_run w since) m
    ≡ ready_on w m ++ delivered (link_run w since) m

-- `HandsOut` holds on each MAP from the beginning of a session on, whatever came before
abbrev pub HandsOutWhatIsDelivered : Type 0
HandsOutWhatIsDelivered =
    (w : World) (initiation : Event) (since : List LinkStep) (m : ℕ) → BeginsSession w initiation
    → SessionLasts (world_step w initiation).after since
    → HandsOut (world_step w initiation).after since m

-- The packets taken on a MAP since this moment are a prefix of those that were ready then, followed
-- by those submitted in the session.
abbrev pub HandsOutInOrder : World → List LinkStep → ℕ → Type 0
HandsOutInOrder w since m =
    IsBeginning (taken_since w since m) (ready_on w m ++ submitted (link_run w since) m)

-- this holds after any past, if the session had an idle start
abbrev pub HandsOutWhatIsSubmitted : Type 0
HandsOutWhatIsSubmitted =
    (w : World) (initiation : Event) (since : List LinkStep) (m : ℕ) → HasAnyPast w
    → BeginsSession w initiation → SessionLasts (world_step w initiation).after since
    → IsEvent initiation → AllByRecursion IsLinkStep since
    → IsIdle (world_step w initiation).after
    → HandsOutInOrder (world_step w initiation).after since m

-- the packets of what was submitted in the session, each with its MAP, in the order of submission
-- over all MAPs
abbrev pub all_submitted : World → List PacketOn
all_submitted w =
    flat_map (λ (p : PacketOn). put_on_map p.on_map (packets_in p.octets)) w.session.submissions

-- Let R, T and N be as in `HandsOut`, but over all MAPs. T followed by N is R followed by a prefix
-- of the packets submitted. In S1 with nothing outstanding, this prefix is everything submitted.
pub record HandsOutInOneOrder (w : World) (since : List LinkStep) : Type 0 where
  pub passed : List PacketOn
  pub order : taken w since ++ (link_run w since).spacecraft.ready
      ≡ w.spacecraft.ready ++ passed
  pub begins : IsBeginning passed (all_submitted (link_run w since))
  pub complete : (link_run w since).ground_node.fop.state ≡ S1
      → outstanding (link_run w since).ground_node ≡ []
      → passed ≡ all_submitted (link_run w since)

-- this holds after any past, if the session had an idle start
abbrev pub HandsOutAsSubmitted : Type 0
HandsOutAsSubmitted =
    (w : World) (initiation : Event) (since : List LinkStep) → HasAnyPast w
    → BeginsSession w initiation → SessionLasts (world_step w initiation).after since
    → IsEvent initiation → AllByRecursion IsLinkStep since
    → IsIdle (world_step w initiation).after
    → HandsOutInOneOrder (world_step w initiation).after since

-- From one world to another, the spacecraft accepts at most as many more segments as Type-AD frames
-- were in transit on the uplink.
pub record AcceptsAtMost (old new : World) : Type 0 where
  pub more : List (List ℕ)
  pub after : accepted new ≡ accepted old ++ more
  pub most : length more ≤ length (numbers_up old)

-- `AcceptsAtMost` holds in S6, after any past, until a session begins. With no Type-AD frame in
-- transit on the uplink, nothing more is therefore delivered.
abbrev pub EachAcceptsAtMost : Type 0
EachAcceptsAtMost =
    (w : World) (since : List LinkStep) → HasAnyPast w → w.ground_node.fop.state ≡ S6
    → AllByRecursion IsLinkStep since → SessionLasts w since → AcceptsAtMost w (link_run w since)
