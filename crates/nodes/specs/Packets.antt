-- Packets, each with its MAP.
use Rattle.std.specs.Prelude.{ℕ, List, map, length, ◌≤◌}
use Rattle.std.specs.List.{AllByRecursion}
use Rattle.std.specs.Borrow.{Bor}
use Rattle.std.specs.declared.vec.Vec.{Vec}

-- a packet on a MAP
pub record PacketOn : Type 0 where
  pub on_map : ℕ
  pub octets : List ℕ

abbrev pub packet_on : ℕ → List ℕ → PacketOn
packet_on m octets = record { on_map = m; octets = octets }

abbrev pub put_on_map : ℕ → List (List ℕ) → List PacketOn
put_on_map m packets = map (packet_on m) packets

-- each packet has at most this many octets
abbrev pub AreWithin : ℕ → List PacketOn → Type 0
AreWithin most packets = AllByRecursion (λ (p : PacketOn). length p.octets ≤ most) packets

-- a packet as a call returns it, without its place in memory
abbrev pub packet_view : {Z : Type 0} → ℕ × Vec ℕ Z → PacketOn
packet_view p = packet_on p.0 p.1.items

-- a packet as a call lends it
abbrev pub lent_packet : ℕ × Bor (List ℕ) → PacketOn
lent_packet p = packet_on p.0 p.1.now
