-- The record in octets: boot count (4), last number (4), what is known (8), history (4), whether
-- the next command has begun (1), and the check of all these (4).
use Rattle.std.specs.Prelude.{ℕ, ◌<◌, ◌^◌, List, [], ◌∷◌, ◌++◌, if◌then◌else◌, drop, ◌==◌}
use Rattle.std.specs.Prelude.{slice_index, length, not, Option, Some, None, Result, Ok, Err}
use Rattle.std.specs.Str.{bytes_eq}
use Rattle.byteorder.specs.Endian.{big_bytes, big_number}
use Rattle.command_log.specs.Check.{sealed}
use Rattle.command_log.specs.declared.fault.LogFault.{LogFault}
use Rattle.command_log.specs.declared.fault.LogFault.TheVariants as faults
use Rattle.command_log.specs.declared.record.Record.{Record}

abbrev pub front_octets : Record → List ℕ
front_octets kept =
    big_bytes 4 kept.boot ++
    (big_bytes 4 kept.last ++ (big_bytes 8 kept.known ++
    (big_bytes 4 kept.history ++ (if kept.begun then 1 else 0) ∷ [])))

abbrev pub spelling : Record → List ℕ
spelling kept = sealed (front_octets kept)

-- the octets at a place: the record twice
abbrev pub place_octets : Record → List ℕ
place_octets kept = spelling kept ++ spelling kept

pub record IsInRange (kept : Record) : Type 0 where
  pub boot : kept.boot < 2 ^ 32
  pub last : kept.last < 2 ^ 32
  pub known : kept.known < 2 ^ 64
  pub history : kept.history < 2 ^ 32

-- the fields, whether or not the check holds
abbrev pub fields_of : List ℕ → Record
fields_of octets =
    record {
      boot = big_number 4 octets;
      last = big_number 4 (drop 4 octets);
      begun = slice_index octets 20 == 1;
      known = big_number 8 (drop 8 octets);
      history = big_number 4 (drop 16 octets);
    }

-- the record that the octets at a place spell, or why they do not spell a record
abbrev pub record_spelled : List ℕ → Result Record LogFault
record_spelled octets =
    if not (length octets == 50) then Err faults.Layout
    else if bytes_eq (place_octets (fields_of octets)) octets then Ok (fields_of octets)
    else Err faults.Check

abbrev pub copy_if : Result Record LogFault → Option Record
copy_if (Ok kept) = Some kept
copy_if (Err e) = None

-- the copy at a place, if its octets spell a record
abbrev pub copy_at : List ℕ → Option Record
copy_at octets = copy_if (record_spelled octets)
