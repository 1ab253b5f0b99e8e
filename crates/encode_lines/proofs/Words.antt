-- Lines of words, fields as words, words that spell a frame, and what is found if a test or a chain of fields
-- answers.
use Rattle.hex.specs.Hex.{IsBytes, decode_of, encode_upper, encode_with, decode_pairs}
use Rattle.std.proofs.Common.{◌≡◌, ℕ, Bool, true, false, cond, List, Option, Some, None, refl, ◌∙◌, ◌<◌, ◌≤◌, ◌^◌}
use Rattle.std.proofs.Common.{◌++◌, suc, [], ◌∷◌, length, ap, inr, arith, inl, sym, subst, append_assoc}
use Rattle.hex.proofs.HexLemmas.{decode_of-encode_upper}
use Rattle.std.specs.Prelude.{decimal, codes, is_some, IfSome}
use Rattle.std.specs.Str.{bytes_eq}
use Rattle.std.proofs.lemmas.Slice.Eq.{bytes_eq-Decides}
use Rattle.std.proofs.lemmas.Option.{same_Some}
use Rattle.std.specs.Result.{result_ok}
use Rattle.std.proofs.lemmas.Bool.{and_parts}
use Rattle.std.specs.List.{join_with_byte, list_all}
use Rattle.std.proofs.lemmas.List.{append_cancel_right}
use Rattle.std.proofs.lemmas.List.Splits.{join_with_byte-slice_split}
use Rattle.tc_frame.specs.Layout.{FrameView, BodyView, Ad, Bd, Bc}
use Rattle.streams.specs.Words.{number_in_word, words_in}
use Rattle.streams.specs.Hex.{IsPairs, no_pair, pair, some_octets}
use Rattle.streams.proofs.SpelledWords.{read, printed, is_word, hex_word, one_word, more_words, number_word, chained}
use Rattle.encode_lines.specs.Fields.{after_key, number_after, octets_after, octets_of_digits, without_number}
use Rattle.encode_lines.specs.Listed.{IsLineOf}
use Rattle.encode_lines.specs.Frames.{frame_of, frame_in, body_decoded, frame_decoded, digits_of}
use Rattle.encode_lines.specs.Packets.{packet_in}

-- What is found if a test or a chain of fields answers.

-- a test that lets a value through
pub passed : {A : Type 0} (test : Bool) (o : Option A) (a : A) → cond test o None ≡ Some a
    → (test ≡ true) × (o ≡ Some a)
passed true o a e = (refl, e)
passed false o a e = cc e

-- words that are the same
pub same_word : (word name : List ℕ) → bytes_eq word name ≡ true → word ≡ name
same_word word name e = (bytes_eq-Decides word name).0 e

-- Fields as words: what they are read as, and how they are spelled.

-- ---- keys

pub key_read : (key word rest : List ℕ) → after_key key word ≡ Some rest → word ≡ key ++ rest
key_read [] word rest h = same_Some word rest h
key_read (letter ∷ key) [] rest h = cc h
key_read (letter ∷ key) (octet ∷ word) rest h = grind (arith, key_read key word rest, h)

pub key_spelled : (key rest : List ℕ) → after_key key (key ++ rest) ≡ Some rest
key_spelled [] rest = refl
key_spelled (letter ∷ key) rest = grind (arith, key_spelled key rest)

-- ---- numbers

pub number_read : (key : List ℕ) (most : ℕ) (word : List ℕ) (n : ℕ) → most < 2 ^ 64
    → number_after key most word ≡ Some n → (word ≡ key ++ decimal n) × (n ≤ most)
number_read key most word n small h =
    let it = chained (number_in_word most) (after_key key word) n h in
    let number = read most n it.value small it.gives in
    (key_read key word it.value it.is ∙ ap (λ (w : List ℕ). key ++ w) number.0, number.1)

number_within_as : (key : List ℕ) (most : ℕ) (word : List ℕ) (o : Option ℕ) → most < 2 ^ 64
    → number_after key most word ≡ o → IfSome o (λ n. n ≤ most)
number_within_as key most word None small is = tt
number_within_as key most word (Some n) small is = (number_read key most word n small is).1

pub number_within : (key : List ℕ) (most : ℕ) (word : List ℕ) → most < 2 ^ 64
    → IfSome (number_after key most word) (λ n. n ≤ most)
number_within key most word small = number_within_as key most word (number_after key most word) small refl

pub number_spelled : (key : List ℕ) (most n : ℕ) → most < 2 ^ 64 → n ≤ most
    → number_after key most (key ++ decimal n) ≡ Some n
number_spelled key most n small le = rw (key_spelled key (decimal n)) (printed most n small le)

-- ---- octets

pub octets_read : (word octets : List ℕ) → octets_of_digits word ≡ Some octets → word ≡ encode_upper octets
unfolding octets_of_digits
octets_read word octets h =
    let it = chained (λ (os : List ℕ). cond (bytes_eq word (encode_upper os)) (Some os) None)
    (result_ok (decode_of word)) octets h in
    let test = passed (bytes_eq word (encode_upper it.value)) (Some it.value) octets it.gives in
    same_word word (encode_upper it.value) test.0 ∙ ap encode_upper (same_Some it.value octets test.1)

pub octets_spelled : (octets : List ℕ) → IsBytes octets → octets_of_digits (encode_upper octets) ≡ Some octets
unfolding octets_of_digits
octets_spelled octets fits =
    rw (decode_of-encode_upper octets fits, (bytes_eq-Decides (encode_upper octets) (encode_upper octets)).1 refl) refl

pub data_read : (key word octets : List ℕ) → octets_after key word ≡ Some octets → word ≡ key ++ encode_upper octets
data_read key word octets h =
    let it = chained octets_of_digits (after_key key word) octets h in
    key_read key word it.value it.is ∙ ap (λ (w : List ℕ). key ++ w) (octets_read it.value octets it.gives)

pub data_spelled : (key octets : List ℕ) → IsBytes octets → octets_after key (key ++ encode_upper octets) ≡ Some octets
data_spelled key octets fits = rw (key_spelled key (encode_upper octets)) (octets_spelled octets fits)

upper_pairs : (octets : List ℕ) → IsBytes octets → IsPairs octets (encode_upper octets)
unfolding encode_with
upper_pairs [] fits = no_pair
upper_pairs (octet ∷ octets) fits =
    pair (fits 0) (inr refl) (inr refl) (upper_pairs octets (λ i. fits (suc i)))

-- digits have no space among them
pub digits_word : (octets : List ℕ) → 0 < length octets → IsBytes octets → is_word (encode_upper octets) ≡ true
digits_word [] some fits = absurd (omega arith)
digits_word (octet ∷ octets) some fits = hex_word (some_octets (upper_pairs (octet ∷ octets) fits))

-- Lines that are words, with or without a number before them.

-- words, joined and ended
abbrev pub ended : List (List ℕ) → List ℕ
ended words = join_with_byte 32 words ++ 10 ∷ []

-- words that are joined are the words of that line
pub joined_words : (first : List ℕ) (rest : List (List ℕ)) → list_all is_word (first ∷ rest) ≡ true
    → words_in (join_with_byte 32 (first ∷ rest)) ≡ first ∷ rest
joined_words first [] all = one_word first (and_parts (is_word first) true all).0
joined_words first (next ∷ rest) all =
    let parts = and_parts (is_word first) (list_all is_word (next ∷ rest)) all in
    more_words first (join_with_byte 32 (next ∷ rest)) parts.0
    ∙ ap (λ (ws : List (List ℕ)). first ∷ ws) (joined_words next rest parts.1)

-- ---- the meaning of a line, from what follows its number

module _ {A : Type 0} (in_words : List (List ℕ) → Option A) (text_of : A → List ℕ) (none : in_words [] ≡ None)
    (reads : (words : List (List ℕ)) (a : A) → in_words words ≡ Some a → ended words ≡ text_of a) where
  numbered : (word : List ℕ) (words : List (List ℕ)) (a : A) (i : ℕ) → number_in_word 18446744073709551615 word ≡ Some i
      → in_words words ≡ Some a → IsLineOf (text_of a) (join_with_byte 32 (word ∷ words))
  numbered word [] a i found e = let no = none in cc e
  numbered word (next ∷ words) a i found e =
      let number = read 18446744073709551615 i word (omega arith) found in
      inr (
        i,
        omega (arith, number.1),
        rw (
          append_assoc word (32 ∷ join_with_byte 32 (next ∷ words)) (10 ∷ []),
          reads (next ∷ words) a e,
          number.0,
        ) refl,
      )

  numbered_or_not : (word : List ℕ) (words : List (List ℕ)) (a : A) (found : Option ℕ)
      → number_in_word 18446744073709551615 word ≡ found → in_words (cond (is_some found) words (word ∷ words)) ≡ Some a
      → IsLineOf (text_of a) (join_with_byte 32 (word ∷ words))
  numbered_or_not word words a (Some i) is e = numbered word words a i is e
  numbered_or_not word words a None is e = inl (reads (word ∷ words) a e)

  with_words : (words : List (List ℕ)) (a : A) → in_words (without_number words) ≡ Some a
      → IsLineOf (text_of a) (join_with_byte 32 words)
  with_words [] a e = inl (reads [] a e)
  with_words (word ∷ words) a e =
      numbered_or_not word words a (number_in_word 18446744073709551615 word) refl e

  pub line_read : (line : List ℕ) (a : A) → in_words (without_number (words_in line)) ≡ Some a
      → IsLineOf (text_of a) line
  line_read line a e =
      subst (IsLineOf (text_of a)) (join_with_byte-slice_split 32 line) (with_words (words_in line) a e)

-- ---- the words of a line

module _ (first : List ℕ) (rest : List (List ℕ)) (text : List ℕ) (all : list_all is_word (first ∷ rest) ≡ true)
    (plain : number_in_word 18446744073709551615 first ≡ None) (spells : ended (first ∷ rest) ≡ text) where
  bare : (line : List ℕ) → line ++ 10 ∷ [] ≡ text → without_number (words_in line) ≡ first ∷ rest
  bare line e =
      let is : line ≡ join_with_byte 32 (first ∷ rest) =
      append_cancel_right line (join_with_byte 32 (first ∷ rest)) (10 ∷ []) (e ∙ sym spells) in
      rw (is, joined_words first rest all, plain) refl

  behind_number : (line : List ℕ) (i : ℕ) → i < 2 ^ 64 → line ++ 10 ∷ [] ≡ decimal i ++ (codes " " ++ text)
      → without_number (words_in line) ≡ first ∷ rest
  behind_number line i small e =
      let joined : List ℕ = join_with_byte 32 (first ∷ rest) in
      let whole : line ++ 10 ∷ [] ≡ (decimal i ++ 32 ∷ joined) ++ 10 ∷ [] =
      e ∙ ap (λ (t : List ℕ). decimal i ++ 32 ∷ t) (sym spells)
      ∙ sym (append_assoc (decimal i) (32 ∷ joined) (10 ∷ [])) in
      let is : line ≡ decimal i ++ 32 ∷ joined = append_cancel_right line (decimal i ++ 32 ∷ joined) (10 ∷ []) whole in
      rw (
        is,
        more_words (decimal i) joined (number_word i small),
        joined_words first rest all,
        printed 18446744073709551615 i (omega arith) (omega arith),
      ) refl

  pub line_words : (line : List ℕ) → IsLineOf text line → without_number (words_in line) ≡ first ∷ rest
  line_words line (inl e) = bare line e
  line_words line (inr e) = behind_number line e.0 e.1 e.2

-- Words that spell a frame, and words that spell none.

-- if there is no body, there is no frame
pub frame_of_none : (scid vcid : List ℕ) → frame_of scid vcid None ≡ None
frame_of_none scid vcid = grind arith

-- no line of a frame has fewer than four words
pub frame_in-few : (words : List (List ℕ)) → length words < 4 → frame_in words ≡ None
frame_in-few (a ∷ b ∷ c ∷ d ∷ more) few = absurd (omega arith)
frame_in-few words few = refl

-- no line of a frame has more than seven words
pub frame_in-many : (words : List (List ℕ)) → 7 < length words → frame_in words ≡ None
frame_in-many (a ∷ b ∷ c ∷ d ∷ e ∷ f ∷ g ∷ h ∷ more) many = refl
frame_in-many words many = absurd (omega arith)

-- no line of a packet has fewer than seven words
pub packet_in-few : (words : List (List ℕ)) → length words < 7 → packet_in words ≡ None
packet_in-few (a ∷ b ∷ c ∷ d ∷ e ∷ f ∷ g ∷ more) few = absurd (omega arith)
packet_in-few words few = refl

-- no line of a packet has more than seven words
pub packet_in-many : (words : List (List ℕ)) → 7 < length words → packet_in words ≡ None
packet_in-many (a ∷ b ∷ c ∷ d ∷ e ∷ f ∷ g ∷ h ∷ more) many = refl
packet_in-many words many = absurd (omega arith)

pub no_octets : octets_of_digits [] ≡ Some []
unfolding octets_of_digits decode_pairs encode_with
no_octets = refl

-- if the digits of a body spell no octets, the body is not decoded
body_decoded-none : (b : BodyView) → octets_of_digits (digits_of b) ≡ None → body_decoded b ≡ None
body_decoded-none (Ad n s) e = rw e refl
body_decoded-none (Bd s) e = rw e refl
body_decoded-none (Bc command) e = let some = no_octets in cc

pub frame_decoded-none : (f : FrameView) → octets_of_digits (digits_of f.body) ≡ None → frame_decoded f ≡ None
frame_decoded-none f e = rw (body_decoded-none f.body e) refl
