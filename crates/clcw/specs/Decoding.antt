-- Reading four octets as a CLCW (CCSDS 232.0-B-4, 4.2.1), or the first fault.
use Rattle.std.specs.Prelude.{ℕ, ◌*◌, ◌/◌, ◌%◌, List, not, ◌==◌, slice_index, if◌then◌else◌, Result}
use Rattle.std.specs.Prelude.{Ok, Err}
use Rattle.clcw.specs.declared.word.Clcw.{Clcw}
use Rattle.clcw.specs.declared.fault.ClcwFault.{ClcwFault}
use Rattle.clcw.specs.declared.fault.ClcwFault.TheVariants.{Kind, Version, Cop, Spare}
use Rattle.clcw.specs.Flags.{flags_from}

-- the fields, if nothing is wrong
abbrev pub fields_at : ℕ → ℕ → ℕ → ℕ → Clcw
fields_at first second third fourth =
    record {
      status =
          first / 4 % 8;
      vcid =
          second / 4;
      flags = flags_from (third / 8 * 8);
      farm_b = third / 2 % 4;
      value = fourth;
    }

abbrev pub word_at : ℕ → ℕ → ℕ → ℕ → Result Clcw ClcwFault
word_at first second third fourth =
    if not (first / 128 == 0) then Err Kind
    else (if not (first / 32 % 4 == 0) then Err Version
    else (if not (first % 4 == 1) then Err Cop
    else (if not (second % 4 == 0) then Err Spare
    else (if not (third % 2 == 0) then Err Spare
    else Ok (fields_at first second third fourth)))))

-- the CLCW that the octets spell, or the first fault in this order
unfoldable pub clcw_at : List ℕ → Result Clcw ClcwFault
clcw_at octets =
    word_at (slice_index octets 0) (slice_index octets 1) (slice_index octets 2)
    (slice_index octets 3)
