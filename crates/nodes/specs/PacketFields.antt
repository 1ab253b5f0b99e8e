-- The packet that the fields of a packet on board represent, and which packets these are.
use Rattle.std.specs.Prelude.{◌≡◌, ◌<◌, true}
use Rattle.map_service.specs.Packets.{is_packet}
use Rattle.nodes.specs.Packets.{PacketOn}
use Rattle.nodes.specs.declared.map_packet.MapPacket.TheInside.{Inside}

abbrev pub state_of : Inside → PacketOn
state_of p = record { on_map = p.map; octets = p.octets.items }

-- exactly one packet (CCSDS 133.0-B-2, 4.1), on one of the 64 MAPs (CCSDS 232.0-B-4, 4.1.3.2)
pub record IsPacketOn (p : PacketOn) : Type 0 where
  pub on_map : p.on_map < 64
  pub packet : is_packet p.octets ≡ true

abbrev pub IsSound : Inside → Type 0
IsSound p = IsPacketOn (state_of p)
