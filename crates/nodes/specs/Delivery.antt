-- What a spacecraft has delivered: the packets assembled from the segments of all accepted frames.
-- A packet is delivered at the moment when it is ready, whether it has been taken or not.
use Rattle.std.specs.Prelude.{◌≡◌, ℕ, List, ◌++◌, map, filter, ◌==◌}
use Rattle.map_service.specs.Assembly.{assembled}
use Rattle.nodes.specs.Parameters.{limits_of}
use Rattle.nodes.specs.Packets.{PacketOn}
use Rattle.nodes.specs.Spacecraft.{SpacecraftState, spacecraft_step, Receive}

-- the packets delivered on MAP m
abbrev pub delivered_on : ℕ → SpacecraftState → List (List ℕ)
delivered_on m s = assembled (limits_of s.config) m s.accepted

-- the packets in this list that are on MAP m
abbrev pub packets_of_map : ℕ → List PacketOn → List (List ℕ)
packets_of_map m packets =
    map (λ (p : PacketOn). p.octets) (filter (λ (p : PacketOn). p.on_map == m) packets)

-- Some more packets are ready, and exactly these were delivered, each on its MAP.
pub record HasDelivered (old new : SpacecraftState) : Type 0 where
  pub more : List PacketOn
  pub ready : new.ready ≡ old.ready ++ more
  pub delivered : (m : ℕ) → delivered_on m new ≡ delivered_on m old ++ packets_of_map m more

-- this holds for all octets that a spacecraft receives
abbrev pub DeliversWhatItReceives : Type 0
DeliversWhatItReceives =
    (s : SpacecraftState) (octets : List ℕ)
    → HasDelivered s (spacecraft_step s (Receive octets)).after
