-- The number that octets spell (the bit numbering convention of CCSDS 132.0-B, 133.0-B and 232.0-B,
-- 1.6).
use Rattle.std.specs.Prelude.{ℕ, ◌+◌, ◌*◌, ◌^◌, ◌<◌, List, [], ◌∷◌, length, slice_index}

-- each octet times 256 to the power of the octets after it, summed
abbrev pub number_of : List ℕ → ℕ
number_of [] = 0
number_of (b ∷ bs) = b * 256 ^ length bs + number_of bs

-- each number is one octet's
abbrev pub IsOctets : List ℕ → Type 0
IsOctets octets = (i : ℕ) → slice_index octets i < 256
