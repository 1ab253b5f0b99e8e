-- A session in which no frame is lost on the uplink, no tick passes and the receiver never waits:
-- each segment is sent once.
use Rattle.std.specs.Prelude.{◌≡◌, ℕ, List, [], ◌∷◌, false, Some}
use Rattle.std.specs.List.{AllByRecursion}
use Rattle.tc_frame.specs.Layout.{SegmentView, Ad, FrameView}
use Rattle.nodes.specs.Ground.{ground_step, Pull}
use Rattle.nodes.specs.declared.event.Event.{Event}
use Rattle.nodes.specs.declared.event.Event.TheVariants as events
use Rattle.simulated_link.specs.World.{World, BeginsNoSession, IsIdle, directive_of, world_step}
use Rattle.simulated_link.specs.World.{world_run}
use Rattle.tc_link.specs.AnyPast.{HasAnyPast}
use Rattle.tc_link.specs.Confirmation.{IsChecking}
use Rattle.tc_link.specs.Reached.{IsEvent}
use Rattle.tc_link.specs.Taken.{BeginsSession}

-- the event is no tick, and neither loses nor damages a frame on the uplink; CLCWs may be lost
abbrev pub IsSmooth : Event → Type 0
IsSmooth events.Tick = ⊥
IsSmooth events.UpLose = ⊥
IsSmooth (events.UpDamage octets) = ⊥
IsSmooth event = Unit {0}

-- each of these events meets `IsSmooth`, begins no session, and leaves the receiver without the
-- wait flag
abbrev pub GoesSmoothly : World → List Event → Type 0
GoesSmoothly w [] = Unit {0}
GoesSmoothly w (event ∷ more) =
    IsSmooth event × BeginsNoSession w event
    × ((world_step w event).after.spacecraft.farm.wait ≡ false)
    × GoesSmoothly (world_step w event).after more

-- If the ground sends a Type-AD frame now, its N(S) is V(S). Its segment was therefore not sent
-- before.
abbrev pub SendsNothingAgain : World → Type 0
SendsNothingAgain w =
    (frame : FrameView) (n : ℕ) (segment : SegmentView)
    → (ground_step w.ground_node Pull).answer ≡ Some frame → frame.body ≡ Ad n segment
    → n ≡ w.ground_node.fop.vs

-- This holds after any past, in a session that had an idle start and began by CLCW check, Unlock or
-- Set V(R). The receiver may have had any flags before.
abbrev pub EachIsSentOnce : Type 0
EachIsSentOnce =
    (w : World) (initiation : Event) (since : List Event) → HasAnyPast w
    → BeginsSession w initiation → IsEvent initiation → AllByRecursion IsEvent since
    → IsIdle (world_step w initiation).after
    → IsChecking (directive_of (world_step w initiation).after)
    → GoesSmoothly (world_step w initiation).after since
    → SendsNothingAgain (world_run (world_step w initiation).after since)
