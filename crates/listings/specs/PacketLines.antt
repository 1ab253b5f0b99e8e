-- The lines of packets: the fields of each packet, and how many packets of its application process
-- are missing before it.
use Rattle.std.specs.Prelude.{ℕ, is_ok, List, ◌++◌, codes, decimal, get_or, replicate, Option, Some}
use Rattle.std.specs.Prelude.{None, Result, Ok, Err}
use Rattle.space_packet.specs.declared.packet.PacketKind.{PacketKind}
use Rattle.space_packet.specs.declared.packet.PacketKind.TheVariants.{Telemetry, Telecommand}
use Rattle.space_packet.specs.declared.fault.PacketFault.{PacketFault}
use Rattle.space_packet.specs.Counters.{gap_after, counts_seen}
use Rattle.space_packet.specs.Layout.{PacketView, secondary_bit}
use Rattle.space_packet.specs.Decoding.{packet_at}
use Rattle.listings.specs.RefusalLines.{packet_fault_line}
use Rattle.listings.specs.Listing.{Lines}
use Rattle.listings.specs.Text.{octets_line}

unfoldable pub kind_word : PacketKind → List ℕ
kind_word Telemetry = codes "TM"
kind_word Telecommand = codes "TC"

-- the packet identification, from a word for the type and the flag as a number
abbrev pub process_text : List ℕ → ℕ → ℕ → List ℕ
process_text kind secondary apid =
    kind ++ (codes " secondary=" ++ (decimal secondary ++ (codes " apid=" ++ decimal apid)))

-- the packet sequence control
abbrev pub sequence_text : PacketView → List ℕ
sequence_text p = codes " flags=" ++ (decimal p.flags ++ (codes " count=" ++ decimal p.count))

-- how many packets are missing; this is not known for the first packet of an application process
abbrev pub gap_text : Option ℕ → List ℕ
gap_text None = codes " gap=- data="
gap_text (Some n) = codes " gap=" ++ (decimal n ++ codes " data=")

-- no packet of any APID was seen
unfoldable pub none_seen : List (Option ℕ)
none_seen = replicate 2048 None

-- the gap before a packet, from the last counts by APID
abbrev pub gap_before : List (Option ℕ) → PacketView → Option ℕ
gap_before seen p = gap_after (get_or seen p.apid None) p.count

abbrev pub packet_line : List (Option ℕ) → ℕ → Result (PacketView × ℕ) PacketFault → List ℕ
packet_line seen i (Ok (p, n)) =
    decimal i ++ (codes " "
    ++ (process_text (kind_word p.kind) (secondary_bit p.secondary) p.apid
    ++ (sequence_text p ++ (gap_text (gap_before seen p) ++ octets_line p.payload))))
packet_line seen i (Err e) = packet_fault_line i e

-- the last counts after a packet
abbrev pub after_packet : List (Option ℕ) → Result (PacketView × ℕ) PacketFault → List (Option ℕ)
after_packet seen (Ok (p, n)) = counts_seen seen p.apid p.count
after_packet seen (Err e) = seen

-- what is written for packets
abbrev pub packet_lines : Lines (List (Option ℕ)) PacketFault
packet_lines = record {
  line_of = λ seen i octets. packet_line seen i (packet_at octets);
  after = λ seen octets. after_packet seen (packet_at octets);
  is_good = λ octets. is_ok (packet_at octets);
  fault_line = packet_fault_line;
}
