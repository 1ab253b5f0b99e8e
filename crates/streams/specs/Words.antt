-- The words of a line, which one space separates, and numbers and octets as words.
use Rattle.std.specs.Prelude.{ℕ, ◌==◌, ◌&&◌, nat_le, not, if◌then◌else◌, Bool, true, false, List}
use Rattle.std.specs.Prelude.{[], ◌∷◌, codes, length, take, drop, Option, Some, None}
use Rattle.std.specs.Char.{is_ascii_digit}
use Rattle.std.specs.List.{slice_split, list_all}
use Rattle.std.specs.Option.{unwrap_or}
use Rattle.std.specs.Result.{result_ok}
use Rattle.std.specs.Str.{bytes_eq}
use Rattle.std.specs.Str.Parse.{digits_value}
use Rattle.hex.specs.Hex.{decode_of}

-- the words of a line
abbrev pub words_in : List ℕ → List (List ℕ)
words_in line = slice_split (λ octet. octet == 32) line

-- the octets up to a mark and, after it, the parts of what follows
abbrev pub parts_from : ℕ → List ℕ → Option (List ℕ) → List (List ℕ)
parts_from mark part None = part ∷ []
parts_from mark part (Some rest) = part ∷ slice_split (λ octet. octet == mark) rest

abbrev pub both : List (List ℕ) → Option (List ℕ × List ℕ)
both (first ∷ second ∷ []) = Some (first, second)
both words = None

-- the words of octets, if there are exactly two
unfoldable pub two_words : List ℕ → Option (List ℕ × List ℕ)
two_words octets = both (words_in octets)

-- what follows these words, if a line begins with them
unfoldable pub rest_after : List ℕ → List ℕ → Option (List ℕ)
rest_after words line =
    if bytes_eq (take (length words) line) words then Some (drop (length words) line) else None

-- what is read from the rest, if there is one, and otherwise `other`
abbrev pub after_words : {A : Type 0} → (List ℕ → Option A) → Option (List ℕ) → Option A
    → Option A
after_words read (Some rest) other = read rest
after_words read None other = other

-- a word of one octet or more; if it has several, the first is not the digit 0
abbrev pub starts_well : List ℕ → Bool
starts_well [] = false
starts_well (only ∷ []) = true
starts_well (first ∷ second ∷ more) = not (first == 48)

-- decimal digits, without a leading zero
abbrev pub is_numeral : List ℕ → Bool
is_numeral word = starts_well word && list_all is_ascii_digit word

-- the number that a word spells, if it is not greater than `most`
unfoldable pub number_in_word : ℕ → List ℕ → Option ℕ
number_in_word most word =
    if is_numeral word
    && nat_le (digits_value 10 word) most then Some (digits_value 10 word) else None

-- the octets that a word spells, as pairs of digits of either case; `-` spells no octets
unfoldable pub octets_in_word : List ℕ → Option (List ℕ)
octets_in_word word =
    if bytes_eq word (codes "-") then Some []
    else if length word == 0 then None
    else result_ok (decode_of word)

-- the octets that digits spell, and no octets if the word does not spell octets
abbrev pub octets_of_digits : List ℕ → List ℕ
octets_of_digits digits = unwrap_or (octets_in_word digits) []
