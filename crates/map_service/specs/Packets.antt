-- Octets as whole packets, one after another.
use Rattle.std.specs.Prelude.{◌≡◌, ◌≤◌, ℕ, List, length, Bool, ◌&&◌, ◌==◌, nat_lt, if◌then◌else◌}
use Rattle.std.specs.List.{AllByRecursion, concat, list_any}
use Rattle.space_packet.specs.Layout.{IsSomePacket}
pub use Rattle.space_packet.specs.Packets.{first_packet, packets_in, rest_in, is_packet}

-- one or more whole packets, and nothing after them
abbrev pub are_packets : List ℕ → Bool
are_packets octets = nat_lt 0 (length octets) && (length (rest_in octets) == 0)

-- what a sender submits in one call, and what a segment that is not a part contains: exactly one
-- packet, or with blocking one or more
abbrev pub are_taken : Bool → List ℕ → Bool
are_taken blocking octets = if blocking then are_packets octets else is_packet octets

-- one of these packets has more octets than this
abbrev pub is_some_over : ℕ → List (List ℕ) → Bool
is_some_over most packets = list_any (λ p. nat_lt most (length p)) packets

-- the octets are these packets, one or more, one after another; each is given by the octets that
-- spell it
pub record ArePackets (octets : List ℕ) (packets : List (List ℕ)) : Type 0 where
  pub some : 1 ≤ length packets
  pub each : AllByRecursion IsSomePacket packets
  pub joined : concat packets ≡ octets
