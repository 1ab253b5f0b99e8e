-- Submissions that are on board whole: all their segments were accepted. What is delivered is the
-- packets of these submissions.
use Rattle.std.specs.Prelude.{◌≡◌, ◌≢◌, ◌≤◌, ℕ, suc, List, length, take, map}
use Rattle.std.specs.Prelude.{flat_map, filter, ◌==◌}
use Rattle.std.specs.List.{AllByRecursion}
use Rattle.octets.specs.Beginning.{IsBeginning}
use Rattle.map_service.specs.Cutting.{groups_of, segments_of}
use Rattle.map_service.specs.Packets.{packets_in}
use Rattle.nodes.specs.Fates.{whole_within}
use Rattle.nodes.specs.Packets.{PacketOn}
use Rattle.simulated_link.specs.World.{World, accepted, delivered}

-- the number of segments of each submission of the session, in order across all MAPs
abbrev pub segments_each : World → List ℕ
segments_each w =
    map (λ (p : PacketOn). length (segments_of w.ground_node.config.part p.on_map p.octets))
    w.session.submissions

-- the number of first submissions of the session that are on board whole
abbrev pub on_board : World → ℕ
on_board w = whole_within (length (accepted w)) (segments_each w)

-- the packets on a MAP of the first j submissions of the session
abbrev pub submitted_first : ℕ → World → ℕ → List (List ℕ)
submitted_first j w m =
    flat_map (λ (p : PacketOn). packets_in p.octets)
    (filter (λ (p : PacketOn). p.on_map == m) (take j w.session.submissions))

-- the packets of a submission are one group: one packet, or packets that fit into one segment
-- together
abbrev pub IsOneGroup : ℕ → PacketOn → Type 0
IsOneGroup part p = length (groups_of part (packets_in p.octets)) ≡ 1

-- this holds of each submission of the session
abbrev pub AreSingle : World → Type 0
AreSingle w = AllByRecursion (IsOneGroup w.ground_node.config.part) w.session.submissions

-- Whole submissions are delivered.
pub record DeliversWhole (w : World) : Type 0 where
  -- if each submission is one group, what is delivered on a MAP is exactly the packets on it of the
  -- submissions that are on board whole
  pub exactly : AreSingle w → (m : ℕ) → delivered w m ≡ submitted_first (on_board w) w m
  -- without blocking each submission is one group, since it is one packet
  pub single : w.ground_node.config.blocking ≢ 1 → AreSingle w
  -- in any case the packets of those submissions are delivered, followed by at most first packets
  -- of the next submission
  pub least : (m : ℕ) → IsBeginning (submitted_first (on_board w) w m) (delivered w m)
  pub most : (m : ℕ) → IsBeginning (delivered w m) (submitted_first (suc (on_board w)) w m)
  -- a submission that is acknowledged whole is on board whole, and one on board whole was sent
  -- whole
  pub acknowledged : whole_within w.session.acknowledged (segments_each w) ≤ on_board w
  pub sent : on_board w ≤ whole_within (length w.session.sent) (segments_each w)
