-- The fields of a line: words that consist of a key, and a number or octets after it.
use Rattle.std.specs.Prelude.{ℕ, ◌==◌, if◌then◌else◌, List, [], ◌∷◌, Option, Some, None}
use Rattle.std.specs.Prelude.{option_and_then, is_some}
use Rattle.std.specs.Result.{result_ok}
use Rattle.std.specs.Str.{bytes_eq}
use Rattle.hex.specs.Hex.{decode_of, encode_upper}
use Rattle.streams.specs.Words.{number_in_word}

-- what follows a key in a word that begins with it
abbrev pub after_key : List ℕ → List ℕ → Option (List ℕ)
after_key [] word = Some word
after_key (letter ∷ key) [] = None
after_key (letter ∷ key) (octet ∷ word) =
    if octet == letter then after_key key word else None

-- the octets that a word spells, with upper-case digits
unfoldable pub octets_of_digits : List ℕ → Option (List ℕ)
octets_of_digits word =
    option_and_then (λ octets. if bytes_eq word (encode_upper octets) then Some octets else None)
    (result_ok (decode_of word))

-- the number after a key, if it is not greater than this
abbrev pub number_after : List ℕ → ℕ → List ℕ → Option ℕ
number_after key most word = option_and_then (number_in_word most) (after_key key word)

-- the octets after a key
abbrev pub octets_after : List ℕ → List ℕ → Option (List ℕ)
octets_after key word = option_and_then octets_of_digits (after_key key word)

-- the words of a line without the number before them, if there is one
abbrev pub without_number : List (List ℕ) → List (List ℕ)
without_number [] = []
without_number (word ∷ words) =
    if is_some (number_in_word 18446744073709551615 word) then words else word ∷ words
