-- The one spelling of a packet, and which packets have one.
use Rattle.std.specs.Prelude.{ℕ, ◌+◌, ◌-◌, ◌*◌, List, ◌++◌, length, Bool, not, ◌&&◌, nat_lt, nat_le}
use Rattle.std.specs.Prelude.{Result}
use Rattle.byteorder.specs.Endian.{big_bytes}
use Rattle.octets.specs.Outcome.{count_written}
use Rattle.space_packet.specs.declared.fault.PacketFault.{PacketFault}
use Rattle.space_packet.specs.declared.fault.PacketFault.TheVariants as faults
use Rattle.space_packet.specs.Layout.{PacketView, type_bit, secondary_bit, is_idle_with_secondary}

-- all octets of the packet
abbrev pub total_of : PacketView → ℕ
total_of p = 6 + length p.payload

-- the numbers of the header's octets, two by two (CCSDS 133.0-B-2, 4.1.3)
abbrev pub first_number : PacketView → ℕ
first_number p = 4096 * type_bit p.kind + 2048 * secondary_bit p.secondary + p.apid

abbrev pub second_number : PacketView → ℕ
second_number p = 16384 * p.flags + p.count

abbrev pub third_number : PacketView → ℕ
third_number p = length p.payload - 1

abbrev pub header_octets : PacketView → List ℕ
header_octets p =
    big_bytes 2 (first_number p) ++ (big_bytes 2 (second_number p) ++ big_bytes 2 (third_number p))

abbrev pub spelling : PacketView → List ℕ
spelling p = header_octets p ++ p.payload

-- each field is in range, and an idle packet has no secondary header
abbrev pub packet_fits : PacketView → Bool
packet_fits p =
    nat_lt p.apid 2048 && nat_lt p.flags 4 && nat_lt p.count 16384 && nat_lt 0 (length p.payload)
    && nat_le (length p.payload) 65536
    && not (is_idle_with_secondary p.apid p.secondary)

-- the number of octets that are written if there is room for this many, or why none are written
abbrev pub encode_answer : PacketView → ℕ → Result ℕ PacketFault
encode_answer p room =
    count_written (packet_fits p) (total_of p) room faults.FieldRange faults.Room
