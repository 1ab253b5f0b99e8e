-- In a session, V(S) and NN(R) count from what V(S) was when the session began.
use Rattle.std.specs.Prelude.{◌≡◌, ℕ, ◌+◌, ◌%◌, List, length}
use Rattle.std.specs.List.{AllByRecursion}
use Rattle.nodes.specs.declared.event.Event.{Event}
use Rattle.tc_link.specs.AnyPast.{HasAnyPast, LinkStep, IsLinkStep, link_run}
use Rattle.tc_link.specs.Beside.{SessionLasts, SetsNone}
use Rattle.tc_link.specs.Reached.{IsEvent}
use Rattle.tc_link.specs.Taken.{BeginsSession}
use Rattle.simulated_link.specs.World.{World, IsIdle, world_step}

-- V(S) is this number plus the number of segments sent, and NN(R) is this number plus the number of
-- segments acknowledged, modulo 256. So the two are equal only if all that was sent is
-- acknowledged.
pub record CountsFrom (base : ℕ) (w : World) : Type 0 where
  pub vs : w.ground_node.fop.vs ≡ (base + length w.session.sent) % 256
  pub nn : w.ground_node.fop.nn ≡ (base + w.session.acknowledged) % 256
  pub all : w.ground_node.fop.vs ≡ w.ground_node.fop.nn
      → w.session.acknowledged ≡ length w.session.sent

-- They count from V(S) as it was when a session with an idle start began. This holds in each state
-- and after each alert, while no directive sets V(S).
abbrev pub KeepsWhatIsKnown : Type 0
KeepsWhatIsKnown =
    (w : World) (initiation : Event) (since : List LinkStep) → HasAnyPast w
    → BeginsSession w initiation → SessionLasts (world_step w initiation).after since
    → SetsNone (world_step w initiation).after since → IsEvent initiation
    → AllByRecursion IsLinkStep since → IsIdle (world_step w initiation).after
    → CountsFrom (world_step w initiation).after.ground_node.fop.vs
    (link_run (world_step w initiation).after since)
