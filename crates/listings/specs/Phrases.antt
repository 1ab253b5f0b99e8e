-- How the words of a text are counted by phrases, which are words that follow each other.
use Rattle.std.specs.Prelude.{◌≡◌, ◌<◌, ◌≤◌, ℕ, suc, zero, if◌then◌else◌, List, [], ◌∷◌, ◌++◌}
use Rattle.std.specs.Prelude.{length, map, min, take, Vec, Bool, true, ◌&&◌}
use Rattle.listings.specs.Listing.{is_empty}
use Rattle.listings.specs.Totals.{Tallied, is_counted, parts_words, shown, with_word}
use Rattle.listings.specs.declared.totals.Tally.{Tally}
use Rattle.listings.specs.declared.phrases.Phrase.{Phrase}

-- the words that end in a text; these octets of the first word have come before
abbrev pub words_in : List ℕ → List ℕ → List (List ℕ)
words_in word [] = []
words_in word (octet ∷ octets) =
    if parts_words word octet then word ∷ words_in [] octets
    else words_in (word ++ octet ∷ []) octets

-- the word that has begun when a text ends
abbrev pub begun_in : List ℕ → List ℕ → List ℕ
begun_in word [] = word
begun_in word (octet ∷ octets) =
    if parts_words word octet then begun_in [] octets else begun_in (word ++ octet ∷ []) octets

-- a table, with no word begun
abbrev pub none_begun : List (List ℕ × ℕ) → Tallied
none_begun rows = record { rows = rows; word = [] }

-- a table with a word n times more
abbrev pub with_words : List (List ℕ × ℕ) → List ℕ → ℕ → List (List ℕ × ℕ)
with_words rows word zero = rows
with_words rows word (suc n) = with_word (with_words rows word n) word

-- the same, if the word is one that is counted
abbrev pub with_ended_times : List (List ℕ × ℕ) → List ℕ → ℕ → List (List ℕ × ℕ)
with_ended_times rows word n = if is_counted word then with_words rows (shown word) n else rows

-- with each of these words n times more
abbrev pub with_each : List (List ℕ × ℕ) → List (List ℕ) → ℕ → List (List ℕ × ℕ)
with_each rows [] n = rows
with_each rows (word ∷ words) n = with_each (with_ended_times rows word n) words n

-- with the words of phrases, each as often as its phrase has come
abbrev pub of_phrases : List (List ℕ × ℕ) → List (List ℕ × ℕ) → List (List ℕ × ℕ)
of_phrases rows [] = rows
of_phrases rows (phrase ∷ more) =
    of_phrases (with_each rows (words_in [] phrase.0) phrase.1) more

-- the words of a phrase as the code has it
abbrev pub phrase_words : Phrase → List ℕ
phrase_words phrase = take (min phrase.len 64) phrase.octets

-- with the words of such phrases
abbrev pub with_phrases : List (List ℕ × ℕ) → List Phrase → List (List ℕ × ℕ)
with_phrases rows phrases =
    of_phrases rows (map (λ phrase. (phrase_words phrase, phrase.times)) phrases)

-- a row of a table, whose word or phrase is a vector
abbrev pub row_of : {A : Type 0} → Vec ℕ A × ℕ → List ℕ × ℕ
row_of row = (row.0.items, row.1)

-- with the phrases of a table, and with these phrases
abbrev pub counted : {A : Type 0} → List (List ℕ × ℕ) → List (Vec ℕ A × ℕ) → List Phrase
    → List (List ℕ × ℕ)
counted rows entries phrases = with_phrases (of_phrases rows (map row_of entries)) phrases

abbrev pub tallied_in : Tally → Tallied
tallied_in t = record {
  rows = counted (map row_of t.words.entries) t.phrases.entries t.recent;
  word = t.word.items;
}

-- each phrase ends with a word
abbrev pub are_whole : List Phrase → Bool
are_whole [] = true
are_whole (phrase ∷ more) = is_empty (begun_in [] (phrase_words phrase)) && are_whole more

abbrev pub AreWhole : List Phrase → Type 0
AreWhole phrases = are_whole phrases ≡ true

-- The first octets of a text are words, and the phrases now have these words once more.
pub record HaveOnceMore (old new : List Phrase) (text : List ℕ) (n : ℕ) : Type 0 where
  pub some : 0 < n
  pub within : n ≤ length text
  pub whole : begun_in [] (take n text) ≡ []
  pub counted : (rows : List (List ℕ × ℕ))
      → with_phrases rows new ≡ with_each (with_phrases rows old) (words_in [] (take n text)) 1
