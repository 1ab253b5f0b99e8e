-- The plain link of a session is unique, from one moment to the next.
use Rattle.std.specs.Prelude.{◌≡◌, ℕ, ◌%◌, List, []}
use Rattle.std.specs.List.{AllByRecursion}
use Rattle.nodes.specs.Parameters.{IsConfig}
use Rattle.nodes.specs.declared.event.Event.{Event}
use Rattle.tc_link.specs.History.{IsHistory}
use Rattle.tc_link.specs.PlainLink.{PlainLink, PlainRun, AtMostOneStep, new_link}
use Rattle.tc_link.specs.AnyPast.{HasAnyPast, LinkStep, IsLinkStep, link_run}
use Rattle.tc_link.specs.Beside.{SessionLasts}
use Rattle.tc_link.specs.Reached.{IsEvent}
use Rattle.simulated_link.specs.World.{World, IsIdle, IsSettled, BeginsNoSession, world_step}

-- Each plain link whose history the one world has is so related to each plain link whose history
-- the other world has. Their bases are equal modulo 256.
abbrev pub HistoriesAre : (PlainLink → PlainLink → Type 0) → World → World → Type 0
HistoriesAre Related old new =
    (b c : ℕ) (p q : PlainLink) → IsHistory old b p → IsHistory new c q
    → Related p q × (b % 256 ≡ c % 256)

-- once a session is settled, its plain link is unique
abbrev pub HasOneLink : World → Type 0
HasOneLink w = IsSettled w → HistoriesAre (λ p q. p ≡ q) w w

-- nothing was sent: the plain link has units, and only numbers 0 in transit on the downlink
pub record IsUnsent (plain : PlainLink) : Type 0 where
  pub a : plain.a ≡ 0
  pub r : plain.r ≡ 0
  pub n : plain.n ≡ 0
  pub up : plain.up ≡ []
  pub down : AllByRecursion (λ v. v ≡ 0) plain.down

-- before anything is sent, nothing is known of the plain link except its units
abbrev pub HasUnsentLink : World → Type 0
HasUnsentLink w =
    w.session.sent ≡ [] → (base : ℕ) (plain : PlainLink) → IsHistory w base plain → IsUnsent plain

-- The one plain link continues while the session does.
pub record GoesOnAsOne (w : World) : Type 0 where
  -- a run leads to it
  pub ran : (base : ℕ) (plain : PlainLink) → IsHistory w base plain → PlainRun new_link plain
  -- an event takes it on by at most one step
  pub steps : (event : Event) → IsEvent event → BeginsNoSession w event
      → HistoriesAre AtMostOneStep w (world_step w event).after
  -- steps with which the session continues take it on by a run
  pub runs : (since : List LinkStep) → AllByRecursion IsLinkStep since → SessionLasts w since
      → HistoriesAre PlainRun w (link_run w since)

-- this holds in all worlds
abbrev pub EachHasOneLink : Type 0
EachHasOneLink = (w : World) → IsConfig w.ground_node.config → HasOneLink w × HasUnsentLink w

-- this holds in each world that any past leads to, from an idle start on
abbrev pub EachGoesOnAsOne : Type 0
EachGoesOnAsOne = (w : World) → HasAnyPast w → IsIdle w → IsSettled w → GoesOnAsOne w
