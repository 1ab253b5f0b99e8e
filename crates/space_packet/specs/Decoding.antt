-- The packet that octets begin with, or the first fault.
use Rattle.std.specs.Prelude.{ℕ, ◌+◌, ◌/◌, ◌%◌, List, length, take, drop, not, ◌==◌, nat_lt}
use Rattle.std.specs.Prelude.{if◌then◌else◌, Result, Ok, Err}
use Rattle.octets.specs.Number.{number_of}
use Rattle.space_packet.specs.declared.packet.PacketKind.{PacketKind}
use Rattle.space_packet.specs.declared.packet.PacketKind.TheVariants.{Telemetry, Telecommand}
use Rattle.space_packet.specs.declared.packet.Packet.{Packet}
use Rattle.space_packet.specs.declared.fault.PacketFault.{PacketFault}
use Rattle.space_packet.specs.declared.fault.PacketFault.TheVariants as faults
use Rattle.space_packet.specs.Layout.{PacketView, packet_view, is_idle_with_secondary}

-- a packet and its number of octets, without the place of its payload in memory
abbrev pub found_view : Packet × ℕ → PacketView × ℕ
found_view f = (packet_view f.0, f.1)

-- the number of octets of the packet that begins with this header (CCSDS 133.0-B-2, 4.1.3), or why
-- no packet begins with it
unfoldable pub extent_at : List ℕ → Result ℕ PacketFault
extent_at head =
    let first : ℕ = number_of (take 2 head) in
    if not (first / 8192 == 0) then Err faults.Version
    else if is_idle_with_secondary (first % 2048) (first / 2048 % 2 == 1) then Err
    faults.IdleWithSecondary
    else Ok (number_of (take 2 (drop 4 head)) + 7)

abbrev pub kind_at : ℕ → PacketKind
kind_at bit = if bit == 0 then Telemetry else Telecommand

-- the packet from the numbers of octets 0 and 1, of octets 2 and 3, and the data field
abbrev pub packet_with : ℕ → ℕ → List ℕ → PacketView
packet_with first second payload = record {
  kind = kind_at (first / 4096 % 2);
  secondary = first / 2048 % 2 == 1;
  apid = first % 2048;
  flags = second / 16384;
  count = second % 16384;
  payload = payload;
}

-- the packet of this extent, if its octets are all there
abbrev pub packet_of : List ℕ → Result ℕ PacketFault → Result (PacketView × ℕ) PacketFault
packet_of b (Err e) = Err e
packet_of b (Ok n) =
    if nat_lt (length b) n then Err faults.Truncated
    else Ok (
      packet_with (number_of (take 2 b)) (number_of (take 2 (drop 2 b))) (drop 6 (take n b)),
      n,
    )

unfoldable pub packet_at : List ℕ → Result (PacketView × ℕ) PacketFault
packet_at b =
    if nat_lt (length b) 6 then Err faults.Truncated else packet_of b (extent_at (take 6 b))
