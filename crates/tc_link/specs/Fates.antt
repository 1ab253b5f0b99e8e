-- How far the submissions of a session have come, and what the ground states about it.
use Rattle.std.specs.Prelude.{◌≡◌, ℕ, ◌%◌, ◌^◌, List, length, Some}
use Rattle.std.specs.List.{AllByRecursion}
use Rattle.nodes.specs.Fates.{whole_within, whole_with, submitted as submissions_of}
use Rattle.nodes.specs.Ground.{known_on_board, sent_beyond}
use Rattle.nodes.specs.declared.event.Event.{Event}
use Rattle.simulated_link.specs.World.{World, IsIdle, accepted, world_step}
use Rattle.tc_link.specs.AnyPast.{HasAnyPast, LinkStep, IsLinkStep, link_run}
use Rattle.tc_link.specs.Beside.{SessionLasts, SetsNone, ShowsNone}
use Rattle.tc_link.specs.Reached.{IsEvent}
use Rattle.tc_link.specs.Taken.{BeginsSession}
use Rattle.tc_link.specs.Whole.{segments_each}

-- the number of first submissions that are whole within the first k segments, as far as a ground
-- counts
abbrev pub whole_first : World → ℕ → ℕ
whole_first w k = whole_within k (segments_each w) % 2 ^ 64

-- The ground's numbers of submissions, of those sent whole and of those acknowledged whole are
-- those of the records. (Both sides count by `whole_within`, as the code does. `DeliversWhole` ties
-- that count to packets: what is delivered is the packets of the submissions that it counts as
-- whole.)
pub record CountsSubmissions (w : World) : Type 0 where
  pub submitted : submissions_of w.ground_node.fates ≡ length w.session.submissions % 2 ^ 64
  pub sent : whole_with (sent_beyond w.ground_node) w.ground_node.fates
      ≡ whole_first w (length w.session.sent)
  pub acknowledged : whole_with 0 w.ground_node.fates ≡ whole_first w w.session.acknowledged

-- By V(R), the value of a CLCW made now, the ground's number of submissions that are on board whole
-- is that of the records.
abbrev pub KnowsOnBoard : World → Type 0
KnowsOnBoard w =
    known_on_board w.ground_node w.spacecraft.farm.vr ≡ Some (whole_first w (length (accepted w)))

-- This holds from the beginning of a session that had an idle start, whatever came before it, while
-- no directive sets V(S). It holds in each state and after each alert. The ground knows what is on
-- board while no alert shows that a condition is broken.
abbrev pub KnowsFates : Type 0
KnowsFates =
    (w : World) (initiation : Event) (since : List LinkStep) → HasAnyPast w
    → BeginsSession w initiation → SessionLasts (world_step w initiation).after since
    → SetsNone (world_step w initiation).after since → IsEvent initiation
    → AllByRecursion IsLinkStep since → IsIdle (world_step w initiation).after
    → let now : World = link_run (world_step w initiation).after since in
    CountsSubmissions now
    × (ShowsNone (world_step w initiation).after since → KnowsOnBoard now)
