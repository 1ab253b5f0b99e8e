-- What the CLCWs in transit show of the segments that were sent and are not acknowledged. They show
-- it after an alert too, when the sender uses no CLCW.
use Rattle.std.specs.Prelude.{◌≡◌, ◌≢◌, ◌≤◌, ◌⊎◌, ℕ, ◌+◌, List, [], length, take, Option, Some}
use Rattle.std.specs.List.{AllByRecursion}
use Rattle.cop1.specs.Accepted.{accepted_beyond}
use Rattle.cop1.specs.declared.vocabulary.FopMode.TheVariants.{S6}
use Rattle.cop1.specs.FopVariables.{IsActive}
use Rattle.nodes.specs.declared.event.Event.{Event}
use Rattle.tc_link.specs.InTransit.{numbers_up, values_down}
use Rattle.tc_link.specs.Reached.{IsEvent}
use Rattle.simulated_link.specs.World.{World, world_run, IsSettled, KeepsSession, accepted}

-- V(S) and NN(R) are the session's: the sender is Active, or the two differ. (A directive that sets
-- V(S) sets NN(R) to the same number.)
abbrev pub KeepsNumbers : World → Type 0
KeepsNumbers w =
    IsActive w.ground_node.fop.state ⊎ (w.ground_node.fop.vs ≢ w.ground_node.fop.nn)

-- the first k segments of those that were sent and are not acknowledged were accepted
abbrev pub WereAccepted : World → ℕ → Type 0
WereAccepted w k =
    (w.session.acknowledged + k ≤ length (accepted w))
    × (take (w.session.acknowledged + k) w.session.sent
    ≡ take (w.session.acknowledged + k) (accepted w))

-- how many of these segments were accepted, according to a CLCW of this value
abbrev pub said_by : World → ℕ → Option ℕ
said_by w value = accepted_beyond w.ground_node.fop.nn w.ground_node.fop.vs value

-- the value gives a number, and that many segments were accepted
abbrev pub SaysHowMany : World → ℕ → Type 0
SaysHowMany w value = (k : ℕ) × (said_by w value ≡ Some k) × WereAccepted w k

-- whatever the events, no more segments are accepted until a session begins
abbrev pub AcceptsNoMore : World → Type 0
AcceptsNoMore w =
    (events : List Event) → AllByRecursion IsEvent events → KeepsSession w events
    → accepted (world_run w events) ≡ accepted w

pub record SaysWhatWasAccepted (w : World) : Type 0 where
  -- Each CLCW gives a number, and that many segments were accepted, in any state and whatever the
  -- directives. While V(S) and NN(R) are the session's, `HasPlainHistory` states that this is
  -- exactly the number accepted when the CLCW was made.
  pub each : IsSettled w → AllByRecursion (SaysHowMany w) (values_down w)
  -- while they are the session's, V(R), the value of a CLCW made now, gives exactly the number
  -- accepted so far
  pub now : IsSettled w → KeepsNumbers w
      → (k : ℕ) × (said_by w w.spacecraft.farm.vr ≡ Some k)
      × (w.session.acknowledged + k ≡ length (accepted w))
  -- in S6, with no Type-AD frame in transit on the uplink, this number is final
  pub no_more : w.ground_node.fop.state ≡ S6 → numbers_up w ≡ [] → AcceptsNoMore w
