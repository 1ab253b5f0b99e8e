-- The one spelling of each CLCW (CCSDS 232.0-B-4, 4.2.1), and when there is one.
use Rattle.std.specs.Prelude.{ℕ, ◌+◌, ◌*◌, ◌%◌, List, [], ◌∷◌, Bool, ◌&&◌, ◌==◌, nat_lt}
use Rattle.std.specs.Prelude.{if◌then◌else◌, Result, Ok, Err}
use Rattle.clcw.specs.declared.word.Clcw.{Clcw}
use Rattle.clcw.specs.declared.fault.ClcwFault.{ClcwFault}
use Rattle.clcw.specs.declared.fault.ClcwFault.TheVariants.{Range}
use Rattle.clcw.specs.Flags.{flags_number}

-- each field is in range, and each flag bit has a name
abbrev pub fits : Clcw → Bool
fits word = nat_lt word.status 8 && nat_lt word.vcid 64 && nat_lt word.farm_b 4
    && (flags_number word.flags % 8 == 0)

abbrev pub spelling : Clcw → List ℕ
spelling word =
    (4 * word.status + 1) ∷ (4 * word.vcid) ∷ (flags_number word.flags + 2 * word.farm_b)
    ∷ word.value ∷ []

-- the answer when a CLCW is written
abbrev pub encode_answer : Clcw → Result (List ℕ) ClcwFault
encode_answer word = if fits word then Ok (spelling word) else Err Range
