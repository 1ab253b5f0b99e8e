-- The five flags of a CLCW: bits 16 to 20 (CCSDS 232.0-B-4, 4.2.1.8), as the bits of its third
-- octet.
use Rattle.std.specs.Prelude.{ℕ, Bool, List, [], ◌∷◌, ◌==◌, codes}
use Rattle.std.specs.Int.RustNames.{bit_and}
use Rattle.clcw.specs.declared.flags.ClcwFlags.{ClcwFlags}

-- the flags' names and values
abbrev pub flag_table : List (List ℕ × ℕ)
flag_table =
    (codes "NO_RF_AVAILABLE", 128) ∷ (codes "NO_BIT_LOCK", 64) ∷ (codes "LOCKOUT", 32)
    ∷ (codes "WAIT", 16) ∷ (codes "RETRANSMIT", 8) ∷ []

-- the flags as a number, the sum of the values of those that are set
abbrev pub flags_number : ClcwFlags → ℕ
flags_number flags = flags.0

-- the flags of this number
abbrev pub flags_from : ℕ → ClcwFlags
flags_from bits = record { 0 = bits }

-- whether the flag of this value is among the flags
abbrev pub has_flag : ClcwFlags → ℕ → Bool
has_flag flags value = bit_and (flags_number flags) value == value

abbrev pub has_lockout : ClcwFlags → Bool
has_lockout flags = has_flag flags 32

abbrev pub has_wait : ClcwFlags → Bool
has_wait flags = has_flag flags 16

abbrev pub has_retransmit : ClcwFlags → Bool
has_retransmit flags = has_flag flags 8
