-- What is written instead of lines: how often each of their words occurs in them.
use Rattle.std.specs.Prelude.{ℕ, ◌+◌, ◌==◌, Bool, false, ◌&&◌, ◌||◌, not, if◌then◌else◌, List, []}
use Rattle.std.specs.Prelude.{◌∷◌, ◌++◌, codes, decimal, drop, nat_le}
use Rattle.std.specs.Bool.{nat_eq}
use Rattle.std.specs.Cmp.Lexicographic.{slice_cmp}
use Rattle.std.specs.List.{fold, list_any, starts_with}
use Rattle.std.specs.Ordering.{match_ordering, nat_cmp}
use Rattle.listings.specs.Text.{line_end}

-- a word that is only a spacecraft, such as `scid=1`
abbrev pub is_spacecraft : List ℕ → Bool
is_spacecraft word = starts_with nat_eq word (codes "scid=") && not (list_any (nat_eq 32) word)

-- what separates words: a line feed, and a space unless it follows a spacecraft. A spacecraft and
-- the virtual channel after it are one word, such as `scid=1 vcid=2`.
abbrev pub parts_words : List ℕ → ℕ → Bool
parts_words word octet = (octet == 10) || ((octet == 32) && not (is_spacecraft word))

-- what follows `scid=`, with a slash instead of ` vcid=`
abbrev pub with_slash : List ℕ → List ℕ
with_slash [] = []
with_slash (octet ∷ octets) =
    if octet == 32 then 47 ∷ drop 5 octets else octet ∷ with_slash octets

-- a word as it is written; a spacecraft and its virtual channel become `channel=1/2`
abbrev pub shown : List ℕ → List ℕ
shown word =
    if starts_with nat_eq word (codes "scid=") then codes "channel=" ++ with_slash (drop 5 word)
    else word

abbrev pub is_digit : ℕ → Bool
is_digit octet = nat_le 48 octet && nat_le octet 57

-- fields whose values differ from record to record
abbrev pub fields_left_out : List (List ℕ)
fields_left_out =
    codes "n=" ∷ codes "vr=" ∷ codes "b=" ∷ codes "mc=" ∷ codes "vc=" ∷ codes "pointer="
    ∷ codes "ocf=" ∷ codes "count=" ∷ codes "data=" ∷ []

-- whether a word is counted; numbers, octets in hexadecimal and these fields are not
abbrev pub is_counted : List ℕ → Bool
is_counted [] = false
is_counted (octet ∷ octets) =
    not (is_digit octet || list_any (starts_with nat_eq (octet ∷ octets)) fields_left_out)

-- A table contains the words in the order of their octets, each with its count.

-- with one word more; a new word has count 1
abbrev pub with_word : List (List ℕ × ℕ) → List ℕ → List (List ℕ × ℕ)
with_word [] word = (word, 1) ∷ []
with_word (row ∷ rows) word =
    match_ordering (slice_cmp nat_cmp word row.0)
    ((word, 1) ∷ row ∷ rows)
    ((row.0, row.1 + 1) ∷ rows)
    (row ∷ with_word rows word)

-- with one word more, if the word is counted
abbrev pub with_ended : List (List ℕ × ℕ) → List ℕ → List (List ℕ × ℕ)
with_ended rows word = if is_counted word then with_word rows (shown word) else rows

-- The table of the words that have ended, and the word that has begun.
pub record Tallied : Type 0 where
  pub rows : List (List ℕ × ℕ)
  pub word : List ℕ

abbrev pub none_tallied : Tallied
none_tallied = record { rows = []; word = [] }

-- with one octet more
abbrev pub with_octet : Tallied → ℕ → Tallied
with_octet t octet =
    if parts_words t.word octet then record { rows = with_ended t.rows t.word; word = [] }
    else record { rows = t.rows; word = t.word ++ octet ∷ [] }

-- of a text whose lines have all ended
abbrev pub tallied : List ℕ → Tallied
tallied text = fold with_octet none_tallied text

-- What is written.

abbrev pub total_line : List ℕ → ℕ → List ℕ
total_line word count = word ++ (codes " " ++ (decimal count ++ line_end))

abbrev pub total_lines : List (List ℕ × ℕ) → List ℕ
total_lines [] = []
total_lines (row ∷ rows) = total_line row.0 row.1 ++ total_lines rows

-- the totals of this many records and octets, whose lines are this text
abbrev pub totals_of : ℕ → ℕ → List ℕ → List ℕ
totals_of records octets text =
    total_line (codes "records") records
    ++ (total_line (codes "octets") octets ++ total_lines (tallied text).rows)
