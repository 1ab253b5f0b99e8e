-- Where the words of a text end.
use Rattle.std.specs.Prelude.{ℕ, suc, ◌+◌, if◌then◌else◌, List, [], ◌∷◌, ◌++◌}
use Rattle.std.specs.Prelude.{Option, Some, None, drop, take}
use Rattle.std.specs.Option.{option_map}
use Rattle.listings.specs.Totals.{parts_words}

-- the place of the octet that ends a word that has begun with these octets
abbrev pub word_end : List ℕ → List ℕ → Option ℕ
word_end word [] = None
word_end word (octet ∷ octets) =
    if parts_words word octet then Some 0
    else option_map (λ n. suc n) (word_end (word ++ octet ∷ []) octets)

-- the same for the first word of a text, from the octet at this place on
abbrev pub word_end_after : List ℕ → ℕ → Option ℕ
word_end_after text at = option_map (λ n. at + n) (word_end (take at text) (drop at text))
