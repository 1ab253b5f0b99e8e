-- Octets as a word: two hexadecimal digits for each, and `-` for none.
use Rattle.std.specs.Prelude.{◌≡◌, ◌<◌, ◌/◌, ◌%◌, ◌⊎◌, ℕ, List, [], ◌∷◌, codes, slice_index}

-- a digit of this value; letters are of either case
abbrev pub IsHexDigit : ℕ → ℕ → Type 0
IsHexDigit value digit =
    (slice_index (codes "0123456789abcdef") value ≡ digit)
    ⊎ (slice_index (codes "0123456789ABCDEF") value ≡ digit)

-- two digits for each octet, the high one first
pub data IsPairs : List ℕ → List ℕ → Type 0 where
  no_pair : IsPairs [] []
  pair : {octet high low : ℕ} {octets digits : List ℕ} → octet < 256 → IsHexDigit (octet / 16) high
      → IsHexDigit (octet % 16) low
      → IsPairs octets digits → IsPairs (octet ∷ octets) (high ∷ low ∷ digits)

-- octets as a word
pub data IsHex : List ℕ → List ℕ → Type 0 where
  no_octets : IsHex [] (codes "-")
  some_octets : {octet : ℕ} {octets digits : List ℕ} → IsPairs (octet ∷ octets) digits
      → IsHex (octet ∷ octets) digits
