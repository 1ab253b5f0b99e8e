-- The world that the fields of a simulated link represent, and the invariant of the fields.
use Rattle.std.specs.Prelude.{◌≡◌, ◌≤◌, ◌<◌, ◌==◌, ℕ, ◌+◌, List, [], map, length, if◌then◌else◌}
use Rattle.std.specs.Prelude.{Option, Some, None}
use Rattle.std.specs.declared.vec.Vec.{Vec}
use Rattle.std.specs.Vec.{vec_len, vec_capacity}
use Rattle.tc_frame.specs.Layout.{segment_octets}
use Rattle.tm_link.specs.Extractor.{octets_of}
use Rattle.simulated_link.specs.declared.world.World.TheInside.{Inside}
use Rattle.simulated_link.specs.declared.session.Session.{Session as SessionFields}
use Rattle.simulated_link.specs.declared.acceptance.Acceptance.{Acceptance}
use Rattle.simulated_link.specs.Acceptance.{AcceptanceView}
use Rattle.simulated_link.specs.MapLists.{packets_at, HasRoom}
use Rattle.nodes.specs.Packets.{packet_view}
use Rattle.simulated_link.specs.World.{Session, World, submitted, delivered}

abbrev pub session_of : SessionFields → Session
session_of s = record {
  opening = s.opening;
  confirmed = s.confirmed;
  submissions = map packet_view s.submissions.items;
  sent = octets_of s.sent.items;
  acknowledged = s.acknowledged;
  before = s.before;
}

abbrev pub world_of : Inside → World
world_of s = record {
  ground_node = s.ground_node;
  spacecraft = s.spacecraft;
  up = octets_of s.up.items;
  down = octets_of s.down.items;
  session = session_of s.session;
}

-- the invariant of the fields
pub record IsSound (s : Inside) : Type 0 where
  -- the data fields of all accepted Type-AD frames
  pub accepted : octets_of s.accepted.items ≡ map segment_octets s.spacecraft.accepted
  pub before : s.session.before ≤ length s.accepted.items
  -- the acknowledged units and the units in the sent queue are together at most as many as the sent
  -- data fields
  pub counted : s.session.acknowledged + length s.ground_node.fop.sent ≤ length s.session.sent.items
  -- the packets of the session on each MAP
  pub submitted_on : (m : ℕ) → packets_at s.session.submitted m ≡ submitted (world_of s) m
  pub delivered_on : (m : ℕ) → packets_at s.session.delivered m ≡ delivered (world_of s) m

-- the packets that an acceptance makes ready on a MAP
abbrev pub packets_accepted_on : ℕ → Option AcceptanceView → List (List ℕ)
packets_accepted_on m None = []
packets_accepted_on m (Some more) = if more.on_map == m then more.packets else []

-- there is room for what will be accepted
abbrev pub HasRoomFor : {Y Z W : Type 0} → Vec (Vec ℕ Y) Z → List (Vec (Vec ℕ Y) W)
    → Option Acceptance → Type 0
HasRoomFor accepted delivered None = Unit {0}
HasRoomFor accepted delivered (Some f) =
    (f.map < 64) × (vec_len accepted < vec_capacity accepted)
    × HasRoom delivered f.map (length f.packets.items)
