-- Pieces of the tool's lines.
use Rattle.std.specs.Prelude.{ℕ, List, [], ◌∷◌, ◌++◌, codes, decimal, ◌≡◌, take, Result, OnOk, ◌+◌}
use Rattle.std.specs.Prelude.{◌/◌, ◌%◌, Bool, true, false, zero, suc}
use Rattle.hex.specs.Hex.{encode_upper}
use Rattle.listings.specs.declared.text.Text.{Text}

-- a line feed
abbrev pub line_end : List ℕ
line_end = 10 ∷ []

-- the line of a refused record, or of a rest, with its fault
abbrev pub invalid_line : ℕ → ℕ × List ℕ → List ℕ
invalid_line i (number, name) =
    decimal i ++ (codes " invalid " ++ (decimal number ++ (codes " " ++ (name ++ line_end))))

-- octets as upper-case hexadecimal digits, at the end of a line
abbrev pub octets_line : List ℕ → List ℕ
octets_line octets = encode_upper octets ++ line_end

-- a flag as 0 or 1
abbrev pub flag_number : Bool → ℕ
flag_number true = 1
flag_number false = 0

-- The contents of a text.

-- the octets of a text
abbrev pub written : Text → List ℕ
written t = take t.len t.octets.items

-- if the call succeeds, these octets follow those that the text had
abbrev pub Appends : {T E : Type 0} → Result T E → Text → Text → List ℕ → Type 0
Appends result old new octets = OnOk result (written new ≡ written old ++ octets)

-- Four decimal digits, with leading zeros.

abbrev pub four_digits : ℕ → List ℕ
four_digits n = (48 + n / 1000) ∷ (48 + n / 100 % 10) ∷ (48 + n / 10 % 10) ∷ (48 + n % 10) ∷ []

-- the decimal digits of a number before its last one, from its tens
abbrev pub leading_digits : ℕ → List ℕ
leading_digits zero = []
leading_digits (suc t) = decimal (suc t)
