-- The space packet, and the octets that spell it (CCSDS 133.0-B-2, 4.1).
use Rattle.std.specs.Prelude.{◌≡◌, ◌≤◌, ◌<◌, ℕ, ◌+◌, ◌-◌, ◌*◌, List, length, take, drop, Bool, true}
use Rattle.std.specs.Prelude.{false, ◌&&◌, ◌==◌}
use Rattle.octets.specs.Number.{number_of}
use Rattle.space_packet.specs.declared.packet.PacketKind.{PacketKind}
use Rattle.space_packet.specs.declared.packet.PacketKind.TheVariants.{Telemetry, Telecommand}
use Rattle.space_packet.specs.declared.packet.Packet.{Packet}

-- a packet without the place of its payload in memory
pub record PacketView : Type 0 where
  pub kind : PacketKind
  pub secondary : Bool
  pub apid : ℕ
  pub flags : ℕ
  pub count : ℕ
  pub payload : List ℕ

abbrev pub packet_view : Packet → PacketView
packet_view p =
    record {
      kind =
          p.kind;
      secondary =
          p.secondary;
      apid = p.apid;
      flags = p.flags;
      count = p.count;
      payload = p.payload.now;
    }

-- ---- the packet identification (4.1.3.3)

abbrev pub type_bit : PacketKind → ℕ
type_bit Telemetry = 0
type_bit Telecommand = 1

abbrev pub secondary_bit : Bool → ℕ
secondary_bit true = 1
secondary_bit false = 0

-- the APID of idle packets (4.1.3.3.4)
abbrev pub is_idle_apid : ℕ → Bool
is_idle_apid apid = apid == 2047

-- an idle packet with a secondary header
abbrev pub is_idle_with_secondary : ℕ → Bool → Bool
is_idle_with_secondary apid secondary = is_idle_apid apid && secondary

-- ---- the packet

-- The octets b, all of them, spell the packet p.
pub record IsPacket (p : PacketView) (b : List ℕ) : Type 0 where
  -- octets 0 and 1: version 000, the type, the secondary header flag, the APID
  pub first : number_of (take 2 b) ≡ 4096 * type_bit p.kind + 2048 * secondary_bit p.secondary
      + p.apid
  -- octets 2 and 3: the sequence flags, the count or name
  pub second : number_of (take 2 (drop 2 b)) ≡ 16384 * p.flags + p.count
  -- octets 4 and 5: the number of octets in the data field, less one
  pub third : number_of (take 2 (drop 4 b)) ≡ length p.payload - 1
  -- from octet 6 on
  pub rest : drop 6 b ≡ p.payload
  pub apid : p.apid < 2048
  pub flags : p.flags < 4
  pub count : p.count < 16384
  pub least : 7 ≤ length b
  pub most : length b ≤ 65542
  pub idle : is_idle_with_secondary p.apid p.secondary ≡ false

-- The octets b, all of them, spell some packet, idle or not.
abbrev pub IsSomePacket : List ℕ → Type 0
IsSomePacket b = (p : PacketView) × IsPacket p b

-- The first n of the octets b spell the packet p, whatever follows them.
pub record IsFirstPacket (p : PacketView) (n : ℕ) (b : List ℕ) : Type 0 where
  pub within : n ≤ length b
  pub spells : IsPacket p (take n b)
