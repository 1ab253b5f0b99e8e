-- The plain link whose history the records of a session are. Its numbers, modulo 256, are those on
-- the link.
use Rattle.std.specs.Prelude.{◌≡◌, ◌<◌, ◌≤◌, ℕ, ◌+◌, ◌-◌, ◌/◌, ◌%◌, List, [], ◌∷◌, length, take}
use Rattle.std.specs.Prelude.{map, flat_map, Some}
use Rattle.std.specs.List.{AllByRecursion}
use Rattle.tc_frame.specs.Layout.{SegmentView, segment_octets}
use Rattle.map_service.specs.Cutting.{segments_of}
use Rattle.nodes.specs.Packets.{PacketOn}
use Rattle.tc_link.specs.Accepted.{KeepsNumbers, said_by}
use Rattle.simulated_link.specs.World.{World, IsSettled, accepted}
use Rattle.tc_link.specs.InTransit.{units_up, values_down}
use Rattle.tc_link.specs.PlainLink.{PlainLink, PlainRun, AtMostOneStep, new_link}

-- the segments into which the submissions are cut, in their order across all MAPs
abbrev pub units_submitted : World → List SegmentView
units_submitted w =
    flat_map (λ (p : PacketOn). segments_of w.ground_node.config.part p.on_map p.octets)
    w.session.submissions

-- the number on the link of a unit of the plain link, if the first unit has the number `base`
abbrev pub number_of : ℕ → ℕ → ℕ
number_of base i = (base + i) % 256

abbrev pub numbered : ℕ → ℕ × SegmentView → ℕ × SegmentView
numbered base x = (number_of base x.0, x.1)

-- a unit was sent, and is at most half the window's width below the expected one
abbrev pub IsNear : PlainLink → ℕ → ℕ × SegmentView → Type 0
IsNear p half x = (x.0 < p.n) × (p.r ≤ x.0 + half)

-- the numbers lie within `low` to `high`, in rising order
abbrev pub Rises : ℕ → List ℕ → ℕ → Type 0
Rises low [] high = low ≤ high
Rises low (v ∷ vs) high = (low ≤ v) × Rises v vs high

-- The records of the session, what is in transit, and the nodes' numbers are those of a plain link.
pub record IsHistory (w : World) (base : ℕ) (plain : PlainLink) : Type 0 where
  -- of the units that were submitted, the first n were sent, the first r were accepted, and the
  -- first a are acknowledged
  pub units : plain.units ≡ units_submitted w
  pub sent : w.session.sent ≡ map segment_octets (take plain.n plain.units)
  pub accepted_so : accepted w ≡ map segment_octets (take plain.r plain.units)
  pub acknowledged : w.session.acknowledged ≡ plain.a
  pub order : (plain.a ≤ plain.r) × (plain.r ≤ plain.n) × (plain.n ≤ length plain.units)
  pub window : plain.n ≤ plain.a + w.ground_node.config.width / 2
  -- the Type-AD frames in transit on the uplink are its units
  pub up : units_up w ≡ map (numbered base) plain.up
  pub near : AllByRecursion (IsNear plain (w.ground_node.config.width / 2)) plain.up
  -- once the session is settled, the CLCWs in transit on the downlink have its numbers
  pub down : IsSettled w → values_down w ≡ map (number_of base) plain.down
  pub rises : Rises plain.a plain.down plain.r
  -- and V(R), V(S) and NN(R) have its numbers too
  pub vr : IsSettled w → w.spacecraft.farm.vr ≡ number_of base plain.r
  pub ends : IsSettled w → KeepsNumbers w
      → (w.ground_node.fop.vs ≡ number_of base plain.n)
      × (w.ground_node.fop.nn ≡ number_of base plain.a)
  -- A CLCW with the plain link's number v shows that v - a segments beyond the acknowledged ones
  -- were accepted. These are exactly those accepted when the CLCW was made.
  pub says : IsSettled w → KeepsNumbers w
      → map (said_by w) (values_down w) ≡ map (λ v. Some (v - plain.a)) plain.down

-- They are those of a plain link that a run leads to.
pub record HasPlainHistory (w : World) : Type 0 where
  pub base : ℕ
  pub plain : PlainLink
  pub ran : PlainRun new_link plain
  pub is : IsHistory w base plain

-- An event takes this one run on by at most one step.
pub record GoesOnByAStep (old new : World) : Type 0 where
  pub base : ℕ
  pub before : PlainLink
  pub ran : PlainRun new_link before
  pub was : IsHistory old base before
  pub after : PlainLink
  pub step : AtMostOneStep before after
  pub is : IsHistory new base after
