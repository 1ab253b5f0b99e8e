-- Space packets as C has them.
use Rattle.std.specs.Prelude.{◌≡◌, ℕ, List, length, take, drop, ◌&&◌, ◌==◌, nat_lt, if◌then◌else◌}
use Rattle.std.specs.Prelude.{Bool, Option, Some, None, Result, Ok, Err, replicate}
use Rattle.std.specs.Prelude.{slice_index, slice_set}
use Rattle.octets.specs.Outcome.{map_ok}
use Rattle.space_packet.specs.declared.fault.PacketFault.TheVariants.{FieldRange}
use Rattle.space_packet.specs.Counters.{gap_after}
use Rattle.space_packet.specs.Faults.{fault_row}
use Rattle.space_packet.specs.Layout.{PacketView, type_bit, secondary_bit}
use Rattle.space_packet.specs.Decoding.{kind_at, extent_at, packet_at}
use Rattle.space_packet.specs.Encoding.{encode_answer}
use Rattle.sedgechisel.specs.declared.packet.KeptGaps.{KeptGaps}
use Rattle.sedgechisel.specs.declared.packet.PacketFields.{PacketFields}
use Rattle.sedgechisel.specs.declared.part.Part.{Part}
use Rattle.sedgechisel.specs.Answers.{damaged, if_there, numbered, and_then, if_ok}

-- the packet that the fields and the data describe; kind 0 is telemetry, 1 telecommand
abbrev pub packet_described : PacketFields → List ℕ → Result PacketView ℕ
packet_described p payload =
    if nat_lt p.kind 2 && nat_lt p.secondary 2 then Ok (record {
      kind = kind_at p.kind;
      secondary = p.secondary == 1;
      apid = p.apid;
      flags = p.flags;
      count = p.count;
      payload = payload;
    })
    else Err damaged

-- the fields that describe the packet
abbrev pub fields_of : PacketView → PacketFields
fields_of p = record {
  apid = p.apid;
  count = p.count;
  kind = type_bit p.kind;
  secondary = secondary_bit p.secondary;
  flags = p.flags;
}

-- where the packet's data are, after the header
abbrev pub part_of : PacketView → Part
part_of p = record { from = 6; count = length p.payload }

-- ---- the calls

-- the packet at the beginning of octets
abbrev pub packet_read : List ℕ → Result PacketView ℕ
packet_read octets = map_ok (λ found. found.0) (numbered fault_row (packet_at octets))

-- the packet that is written to a buffer of this size
abbrev pub packet_taken : PacketFields → List ℕ → ℕ → Result PacketView ℕ
packet_taken p payload room =
    and_then (packet_described p payload) (λ view. if_ok
    (numbered fault_row (encode_answer view room)) view)

-- the declared length of the packet that begins with these octets; 1 Truncated for fewer than 6
abbrev pub total_declared : List ℕ → Result ℕ ℕ
total_declared octets =
    if nat_lt (length octets) 6 then Err 1
    else numbered fault_row (extent_at (take 6 octets))

-- the last count in an entry, if one was seen
abbrev pub count_seen : ℕ → Option ℕ
count_seen last = if nat_lt last 16384 then Some last else None

-- whether these are an APID and a packet count in range
abbrev pub is_counted : ℕ → ℕ → Bool
is_counted apid count = nat_lt apid 2048 && nat_lt count 16384

-- how many packets are missing before a packet, if these counts were seen last
abbrev pub gap_seen : List ℕ → ℕ → ℕ → Result ℕ ℕ
gap_seen last apid count =
    if is_counted apid count then if_there (gap_after (count_seen (slice_index last apid)) count)
    else Err (fault_row FieldRange).0

-- the check of counts before any packet was seen, and after this packet
abbrev pub new_gaps : KeptGaps
new_gaps = record { last = replicate 2048 65535 }

abbrev pub gaps_after : KeptGaps → ℕ → ℕ → KeptGaps
gaps_after check apid count =
    if is_counted apid count then record { last = slice_set check.last apid count } else check

-- what the fields and the octets at the place describe is the packet that was read
abbrev pub DescribesPacket : List ℕ → PacketFields → Part → Type 0
DescribesPacket octets p part =
    (view : PacketView) → packet_read octets ≡ Ok view
    → packet_described p (take part.count (drop part.from octets)) ≡ Ok view
