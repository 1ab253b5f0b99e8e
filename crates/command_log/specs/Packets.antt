-- Command packets and orders: unsegmented telecommand packets with no secondary header (CCSDS
-- 133.0-B-2, 4.1), which end with their check.
use Rattle.std.specs.Prelude.{ℕ, ◌+◌, ◌-◌, ◌*◌, ◌/◌, ◌%◌, ◌^◌, List, ◌∷◌, ◌++◌, length}
use Rattle.std.specs.Prelude.{take, drop, slice_index, Bool, ◌&&◌, ◌==◌, not, nat_lt, nat_le}
use Rattle.std.specs.Prelude.{if◌then◌else◌, Result, Ok, Err}
use Rattle.byteorder.specs.Endian.{big_number, big_bytes}
use Rattle.octets.specs.Outcome.{count_written}
use Rattle.command_log.specs.Check.{sealed, holds_check}
use Rattle.command_log.specs.declared.fault.LogFault.{LogFault}
use Rattle.command_log.specs.declared.fault.LogFault.TheVariants as faults
use Rattle.command_log.specs.declared.packets.Command.{Command}
use Rattle.command_log.specs.declared.packets.Order.{Order}
use Rattle.command_log.specs.declared.packets.Order.TheVariants.{Restart, Rebuild}

-- the header of a packet with this many octets of data
abbrev pub header_octets : (apid count long : ℕ) → List ℕ
header_octets apid count long =
    big_bytes 2 (4096 + apid) ++ (big_bytes 2 (49152 + count) ++ big_bytes 2 (long - 1))

-- a packet with these data, followed by its check
abbrev pub packet_octets : (apid count : ℕ) → List ℕ → List ℕ
packet_octets apid count content = sealed (header_octets apid count (length content + 4) ++ content)

-- at least this many octets, which are exactly one such packet
abbrev pub is_framed : ℕ → List ℕ → Bool
is_framed least octets =
    nat_le least (length octets) && (slice_index octets 0 / 8 == 2)
    && (slice_index octets 2 / 64 == 3)
    && (big_number 2 (drop 4 octets) + 7 == length octets)

-- ---- commands: the number, the mission's data, the check

pub record CommandView : Type 0 where
  pub apid : ℕ
  pub count : ℕ
  pub number : ℕ
  pub content : List ℕ

-- a command packet without its place in memory
abbrev pub command_view : Command → CommandView
command_view c =
    record { apid = c.apid; count = c.count; number = c.number; content = c.content.now }

abbrev pub command_octets : CommandView → List ℕ
command_octets c = packet_octets c.apid c.count (big_bytes 4 c.number ++ c.content)

abbrev pub command_fits : CommandView → Bool
command_fits c =
    nat_lt c.apid 2048 && nat_lt c.count 16384 && nat_lt 0 c.number && nat_lt c.number (2 ^ 32)
    && nat_le (length c.content) 65528

abbrev pub number_in : List ℕ → ℕ
number_in octets = big_number 4 (drop 6 octets)

abbrev pub content_in : List ℕ → List ℕ
content_in octets = take (length octets - 14) (drop 10 octets)

abbrev pub command_in : List ℕ → CommandView
command_in octets =
    record {
      apid = slice_index octets 0 % 8 * 256 + slice_index octets 1;
      count = slice_index octets 2 % 64 * 256 + slice_index octets 3;
      number = number_in octets;
      content = content_in octets;
    }

-- the check holds, and the number is not 0
abbrev pub is_sound : List ℕ → Bool
is_sound octets = holds_check octets && nat_lt 0 (number_in octets)

-- a whole command packet
abbrev pub is_command : List ℕ → Bool
is_command octets = is_framed 14 octets && is_sound octets

abbrev pub command_at : List ℕ → Result CommandView LogFault
command_at octets =
    if not (is_framed 14 octets) then Err faults.Layout
    else if not (is_sound octets) then Err faults.Check
    else Ok (command_in octets)

-- the number of octets that are written if there is room for this many, or why none are written
abbrev pub command_answer : CommandView → ℕ → Result ℕ LogFault
command_answer c room =
    count_written (command_fits c) (length c.content + 14) room faults.FieldRange faults.Room

-- ---- orders: the kind, the boot count, the last number, the mark, the check

abbrev pub kind_of : Order → ℕ
kind_of (Restart boot) = 1
kind_of (Rebuild mark boot last) = 2

abbrev pub boot_of : Order → ℕ
boot_of (Restart boot) = boot
boot_of (Rebuild mark boot last) = boot

abbrev pub last_of : Order → ℕ
last_of (Restart boot) = 0
last_of (Rebuild mark boot last) = last

abbrev pub mark_of : Order → ℕ
mark_of (Restart boot) = 0
mark_of (Rebuild mark boot last) = mark

abbrev pub order_front : Order → List ℕ
order_front order = kind_of order ∷ (big_bytes 4 (boot_of order) ++ (big_bytes 4
    (last_of order) ++ big_bytes 4 (mark_of order)))

abbrev pub order_octets : (apid count : ℕ) → Order → List ℕ
order_octets apid count order = packet_octets apid count (order_front order)

abbrev pub order_fits : (apid count : ℕ) → Bool
order_fits apid count = nat_lt apid 2048 && nat_lt count 16384

-- the order of this kind with these fields; the last number and the mark of a restart are 0
abbrev pub order_with : (kind boot last mark : ℕ) → Result Order LogFault
order_with kind boot last mark =
    if kind == 2 then Ok (Rebuild mark boot last)
    else if (kind == 1) && (last == 0) && (mark == 0) then Ok (Restart boot)
    else Err faults.Check

abbrev pub order_at : List ℕ → Result Order LogFault
order_at octets =
    if not (is_framed 23 octets && (length octets == 23)) then Err faults.Layout
    else if not (holds_check octets) then Err faults.Check
    else order_with (slice_index octets 6) (big_number 4 (drop 7 octets)) (big_number 4
    (drop 11 octets))
    (big_number 4 (drop 15 octets))
