-- Words that are numerals, octets in hexadecimal, or separated by one space, and how they are read.
use Rattle.hex.specs.Hex.{decode_of, decode_pairs, digit_or_error, hex_digit_value, lower_digits, upper_digits}
use Rattle.hex.specs.Hex.{pair_value, value_at, ◌>>=◌}
use Rattle.hex.specs.declared.error.FromHexError.{FromHexError}
use Rattle.std.proofs.Common.{ap, sym, ◌∙◌, ◌≡◌, ◌<◌, ◌^◌, ℕ, Bool, true, false, ◌&&◌, List, [], ◌∷◌, length, refl}
use Rattle.std.proofs.Common.{arith, rules, Result, Ok, Err, ◌≤◌, cond, Some, None, Option, get_or, leb, eqb, zero, suc}
use Rattle.std.proofs.Common.{take, drop, ◌+◌, ◌*◌, ◌/◌, ◌%◌, ◌==◌, ◌||◌, inl, inr, slice_index, subst, ◌++◌, not}
use Rattle.hex.proofs.HexLemmas.{decode_of-even, decode_of-ok, IsDigits-lower_digits, IsDigits-upper_digits}
use Rattle.hex.proofs.Pairs.{cons_byte, decode_pairs-ok_pair}
use Rattle.std.specs.Prelude.{decimal, ◌↔◌, codes, option_map, option_and_then}
use Rattle.std.proofs.lemmas.Option.{same_Some}
use Rattle.std.specs.Option.{unwrap_or, SomeIff}
use Rattle.std.proofs.lemmas.Bool.{leb-true, le-leb, and_parts, cases_lt, not-true}
use Rattle.std.proofs.lemmas.Fmt.{decimal-digits_value, digits_value-decimal, digits_decimal, first_decimal}
use Rattle.std.proofs.lemmas.Fmt.{decimal_nonempty, decimal_digit}
use Rattle.std.specs.Char.{is_ascii_digit}
use Rattle.std.specs.List.{list_all, All, join_with_byte}
use Rattle.std.proofs.lemmas.List.{take-append-drop}
use Rattle.std.proofs.lemmas.List.Splits.{join_with_byte-slice_split}
use Rattle.std.specs.Result.{OkIff, result_ok, result_unwrap_or}
use Rattle.std.specs.Str.{IsAscii, IsUtf8, bytes_eq}
use Rattle.std.specs.Str.Parse.{digits_value, ParsesUnsigned}
use Rattle.std.proofs.lemmas.Str.{IsUtf8-from_ascii}
use Rattle.std.proofs.lemmas.Str.Ascii.{IsAscii-nil, IsAscii-cons}
use Rattle.std.proofs.lemmas.Str.Parse.{IsNumeralModel, numerals_by_value, parse_digits}
use Rattle.std.proofs.lemmas.Grind.{common_steps}
use Rattle.std.proofs.lemmas.Slice.Eq.{bytes_eq-Decides}
use Rattle.std.proofs.lemmas.List.Splits.{slice_split_at, slice_split_none}
use Rattle.std.proofs.lemmas.List.Sums.{AllPass-from_list_all}
use Rattle.streams.specs.Words.{starts_well, is_numeral, number_in_word, octets_in_word, words_in, both}
use Rattle.streams.specs.Words.{two_words, rest_after}
use Rattle.streams.specs.Hex.{IsHexDigit, IsPairs, no_pair, pair, IsHex, no_octets, some_octets}

-- What is found if a chain of options succeeds.

pub record Mapped {A B : Type 0} (f : A → B) (o : Option A) (b : B) : Type 0 where
  pub value : A
  pub is : o ≡ Some value
  pub gives : f value ≡ b

pub mapped : {A B : Type 0} (f : A → B) (o : Option A) (b : B) → option_map f o ≡ Some b → Mapped f o b
mapped f (Some a) b e = record { value = a; is = refl; gives = same_Some (f a) b e }
mapped f None b e = cc e

pub record Chained {A B : Type 0} (f : A → Option B) (o : Option A) (b : B) : Type 0 where
  pub value : A
  pub is : o ≡ Some value
  pub gives : f value ≡ Some b

pub chained : {A B : Type 0} (f : A → Option B) (o : Option A) (b : B) → option_and_then f o ≡ Some b → Chained f o b
chained f (Some a) b e = record { value = a; is = refl; gives = e }
chained f None b e = cc e

-- Numerals, and what `parse` makes of them.

abbrev IsDigits : List ℕ → Type 0
IsDigits ds = list_all is_ascii_digit ds ≡ true

own : IsNumeralModel IsDigits (digits_value 10)
own = numerals_by_value _ (search rules)

pub digits_ascii : (word : List ℕ) → IsDigits word → IsAscii word
digits_ascii [] h = IsAscii-nil
digits_ascii (c ∷ cs) h =
    let parts = and_parts (is_ascii_digit c) (list_all is_ascii_digit cs) h in
    let digit = parts.0 in
    IsAscii-cons c cs (grind (arith, common_steps)) (digits_ascii cs parts.1)

some : (word : List ℕ) → starts_well word ≡ true → 0 < length word
some [] h = cc h
some (c ∷ cs) h = omega arith

pub numeral_utf8 : (word : List ℕ) → is_numeral word ≡ true → IsUtf8 word
numeral_utf8 word h =
    IsUtf8-from_ascii word (digits_ascii word (and_parts (starts_well word) (list_all is_ascii_digit word) h).1)

-- a numeral is parsed, unless its number is too great
pub numeral_parsed : {E : Type 0} (word : List ℕ) (r : Result ℕ E) → is_numeral word ≡ true
    → ParsesUnsigned 64 10 word r → OkIff r (digits_value 10 word < 2 ^ 64) (digits_value 10 word)
numeral_parsed word r h p =
    let parts = and_parts (starts_well word) (list_all is_ascii_digit word) h in
    grind (arith, some word parts.0, parse_digits own 64 word r p parts.1)

pub ok_some : {E : Type 0} (r : Result ℕ E) (Q : Type 0) (v : ℕ) → OkIff r Q v → SomeIff (result_ok r) Q v
ok_some (Ok x) Q v h = h
ok_some (Err e) Q v h = h

-- ---- a number is read exactly when it is spelled as it is printed

chosen : {A : Type 0} (b : Bool) (v n : A) → cond b (Some v) None ≡ Some n → (b ≡ true) × (v ≡ n)
chosen true v n e = (refl, same_Some v n e)
chosen false v n e = cc e

leads : (word : List ℕ) → starts_well word ≡ true → get_or word 0 0 ≡ 48 → length word ≡ 1
leads [] h e = cc h
leads (c ∷ []) h e = refl
leads (a ∷ b ∷ cs) h e = grind (arith, common_steps)

well : (word : List ℕ) → 0 < length word → 48 < get_or word 0 0 → starts_well word ≡ true
well [] some first = absurd (omega arith)
well (c ∷ []) some first = refl
well (a ∷ b ∷ cs) some first = grind (arith, common_steps)

pub read : (most n : ℕ) (word : List ℕ) → most < 2 ^ 64 → number_in_word most word ≡ Some n
    → (word ≡ decimal n) × (n ≤ most)
unfolding number_in_word
read most n word small e =
    let took = chosen (is_numeral word && leb (digits_value 10 word) most) (digits_value 10 word) n e in
    let tests = and_parts (is_numeral word) (leb (digits_value 10 word) most) took.0 in
    let parts = and_parts (starts_well word) (list_all is_ascii_digit word) tests.0 in
    let most_is : digits_value 10 word ≤ most = leb-true _ _ tests.1 in
    let spelled = decimal-digits_value own word parts.1 (some word parts.0) (leads word parts.0) (omega arith) in
    (sym spelled ∙ ap decimal took.1, omega (arith, took.1))

first_of : (n : ℕ) (z : Bool) → eqb n 0 ≡ z → n < 2 ^ 64 → starts_well (decimal n) ≡ true
first_of n true is small = ap starts_well (decimal_digit n (grind (arith, common_steps)))
first_of n false is small =
    well (decimal n) (decimal_nonempty n small) (first_decimal n (grind (arith, common_steps)) small)

-- a number is printed in digits
pub printed_digits : (n : ℕ) → n < 2 ^ 64 → list_all is_ascii_digit (decimal n) ≡ true
printed_digits = digits_decimal own

pub printed : (most n : ℕ) → most < 2 ^ 64 → n ≤ most → number_in_word most (decimal n) ≡ Some n
unfolding number_in_word
printed most n small le =
    let fits : n < 2 ^ 64 = omega arith in
    let value = digits_value-decimal own n fits in
    let digits = digits_decimal own n fits in
    let first = first_of n (eqb n 0) refl fits in
    let below : leb n most ≡ true = le-leb _ _ le in
    rw (value, first, digits, below) refl

-- numbers have neither a sign nor a leading zero
pub numbers : (most n : ℕ) (word : List ℕ) → most < 2 ^ 64
    → (number_in_word most word ≡ Some n) ↔ ((word ≡ decimal n) × (n ≤ most))
numbers most n word small =
    (read most n word small, λ spelled. ap (number_in_word most) spelled.0 ∙ printed most n small spelled.1)

-- A word is read as octets exactly when it spells them.

-- ---- digits

pub spelled_digit : (value digit : ℕ) → value < 16 → IsHexDigit value digit → hex_digit_value digit ≡ Some value
spelled_digit value digit small (inl e) = ap hex_digit_value (sym e) ∙ IsDigits-lower_digits value small
spelled_digit value digit small (inr e) = ap hex_digit_value (sym e) ∙ IsDigits-upper_digits value small

-- whether a table contains a digit at its value; this computes
abbrev stands : ℕ → Option ℕ → Bool
stands digit None = true
stands digit (Some value) = (slice_index lower_digits value == digit) || (slice_index upper_digits value == digit)

abbrev all_stand : ℕ → Bool
all_stand zero = true
all_stand (suc n) = stands n (hex_digit_value n) && all_stand n

stand : (n digit : ℕ) → all_stand n ≡ true → digit < n → stands digit (hex_digit_value digit) ≡ true
stand zero digit all small = absurd (omega arith)
stand (suc n) digit all small =
    let parts = and_parts (stands n (hex_digit_value n)) (all_stand n) all in
    elim (cases_lt digit n) [
      | inl below ↦ stand n digit parts.1 below
      | inr top ↦ (let e : digit ≡ n = omega arith in rw e parts.0)
    ]

read_digit : (value digit : ℕ) → hex_digit_value digit ≡ Some value → IsHexDigit value digit
read_digit value digit e =
    let small : digit < 128 = grind (arith) in
    let there = stand 128 digit refl small in
    grind (arith, common_steps, rw e at there)

-- ---- pairs

spelled_pairs : {octets digits : List ℕ} (i : ℕ) → IsPairs octets digits → decode_pairs i digits ≡ Ok octets
unfolding decode_pairs
spelled_pairs i no_pair = refl
spelled_pairs i (pair {octet} {high} {low} {octets} {digits} fits is_high is_low more) =
    let ha : value_at high i ≡ Ok (octet / 16) =
    ap (digit_or_error high i) (spelled_digit (octet / 16) high (omega arith) is_high) in
    let hb : value_at low (i + 1) ≡ Ok (octet % 16) =
    ap (digit_or_error low (i + 1)) (spelled_digit (octet % 16) low (omega arith) is_low) in
    let one : pair_value high low i ≡ Ok (octet / 16 * 16 + octet % 16) = rw (ha, hb) refl in
    let whole : octet / 16 * 16 + octet % 16 ≡ octet = omega arith in
    decode_pairs-ok_pair i high low _ digits one
    ∙ ap (cons_byte (octet / 16 * 16 + octet % 16)) (spelled_pairs (i + 2) more)
    ∙ ap (λ (v : ℕ). Ok (v ∷ octets)) whole

even_pairs : {octets digits : List ℕ} → IsPairs octets digits → length digits % 2 ≡ 0
even_pairs no_pair = refl
even_pairs (pair fits is_high is_low more) = let e = even_pairs more in omega (arith, e)

bind_ok : {A B : Type 0} (r : Result A FromHexError) (f : A → Result B FromHexError) (y : B) → (r >>= f) ≡ Ok y
    → (x : A) × (r ≡ Ok x) × (f x ≡ Ok y)
bind_ok (Ok x) f y h = (x, refl, h)
bind_ok (Err e) f y h = cc h

value_read : (digit i value : ℕ) (o : Option ℕ) → digit_or_error digit i o ≡ Ok value → o ≡ Some value
value_read digit i value (Some v) h = ap Some (ap (λ (r : Result ℕ FromHexError). result_unwrap_or r 0) h)
value_read digit i value None h = cc h

small_value : (digit value : ℕ) → hex_digit_value digit ≡ Some value → value < 16
small_value digit value h = grind (arith)

read_pairs : (i : ℕ) (digits octets : List ℕ) → decode_pairs i digits ≡ Ok octets → IsPairs octets digits
unfolding decode_pairs
read_pairs i [] octets h =
    let e : [] ≡ octets = ap (λ (r : Result (List ℕ) FromHexError). result_unwrap_or r []) h in
    subst (λ (os : List ℕ). IsPairs os []) e no_pair
read_pairs i (a ∷ []) octets h = cc h
read_pairs i (a ∷ b ∷ digits) octets h =
    let p0 = bind_ok (pair_value a b i) _ octets h in
    let p1 = bind_ok (value_at a i) _ p0.0 p0.1 in
    let p2 = bind_ok (value_at b (i + 1)) _ p0.0 p1.2 in
    let p3 = bind_ok (decode_pairs (i + 2) digits) _ octets p0.2 in
    let more = read_pairs (i + 2) digits p3.0 p3.1 in
    let e : p0.0 ∷ p3.0 ≡ octets = ap (λ (r : Result (List ℕ) FromHexError). result_unwrap_or r []) p3.2 in
    let high = value_read a i p1.0 (hex_digit_value a) p1.1 in
    let low = value_read b (i + 1) p2.0 (hex_digit_value b) p2.1 in
    let va = small_value a p1.0 high in
    let vb = small_value b p2.0 low in
    let byte : p1.0 * 16 + p2.0 ≡ p0.0 = ap (λ (r : Result ℕ FromHexError). result_unwrap_or r 0) p2.2 in
    let first : p1.0 ≡ p0.0 / 16 = omega (arith, byte) in
    let second : p2.0 ≡ p0.0 % 16 = omega (arith, byte) in
    subst (λ (os : List ℕ). IsPairs os (a ∷ b ∷ digits)) e
    (pair (omega (arith, byte)) (subst (λ (v : ℕ). IsHexDigit v a) first (read_digit p1.0 a high))
    (subst (λ (v : ℕ). IsHexDigit v b) second (read_digit p2.0 b low)) more)

-- ---- words

spelled_some : (octet : ℕ) (octets digits : List ℕ) → IsPairs (octet ∷ octets) digits
    → octets_in_word digits ≡ Some (octet ∷ octets)
unfolding octets_in_word
spelled_some octet octets digits (pair {high = high} {low = low} {digits = rest} fits is_high is_low more) =
    let even = even_pairs more in
    let decoded : decode_of (high ∷ low ∷ rest) ≡ Ok (octet ∷ octets) =
    decode_of-even (high ∷ low ∷ rest) (omega (arith, even)) ∙ spelled_pairs 0 (pair fits is_high is_low more) in
    let other : bytes_eq (high ∷ low ∷ rest) (codes "-") ≡ false = grind arith in
    let long : (length (high ∷ low ∷ rest) == 0) ≡ false = grind (arith) in
    rw (other, decoded, long) refl

pub spelled_octets : (octets digits : List ℕ) → IsHex octets digits → octets_in_word digits ≡ Some octets
unfolding octets_in_word
spelled_octets octets digits no_octets = refl
spelled_octets octets digits (some_octets pairs) = spelled_some _ _ digits pairs

octets_some : (octets : List ℕ) (r : Result (List ℕ) FromHexError) → result_ok r ≡ Some octets → r ≡ Ok octets
octets_some octets (Ok os) e = ap Ok (ap (λ (o : Option (List ℕ)). unwrap_or o []) e)
octets_some octets (Err f) e = cc e

some_pairs : (octets digits : List ℕ) → (length digits == 0) ≡ false → IsPairs octets digits → IsHex octets digits
some_pairs octets digits long no_pair = cc long
some_pairs octets digits long (pair fits high low more) = some_octets (pair fits high low more)

read_behind : (digits octets : List ℕ) (none : Bool) → (length digits == 0) ≡ none
    → cond none None (result_ok (decode_of digits)) ≡ Some octets → IsHex octets digits
read_behind digits octets true long e = cc e
read_behind digits octets false long e =
    let decoded = octets_some octets (decode_of digits) e in
    let even = (decode_of-ok digits octets decoded).0 in
    some_pairs octets digits long (read_pairs 0 digits octets (sym (decode_of-even digits even) ∙ decoded))

read_word : (digits octets : List ℕ) (dash : Bool) → bytes_eq digits (codes "-") ≡ dash
    → cond dash (Some []) (cond (length digits == 0) None (result_ok (decode_of digits))) ≡ Some octets
    → IsHex octets digits
read_word digits octets true is e =
    let same : digits ≡ codes "-" = (bytes_eq-Decides digits (codes "-")).0 is in
    let none : [] ≡ octets = cc e in
    rw (same, ← none) no_octets
read_word digits octets false is e = read_behind digits octets (length digits == 0) refl e

pub read_octets : (octets digits : List ℕ) → octets_in_word digits ≡ Some octets → IsHex octets digits
unfolding octets_in_word
read_octets octets digits e = read_word digits octets (bytes_eq digits (codes "-")) refl e

-- a word is these octets exactly when it spells them
pub octets_as_words : (octets digits : List ℕ) → (octets_in_word digits ≡ Some octets) ↔ IsHex octets digits
octets_as_words octets digits = (read_octets octets digits, spelled_octets octets digits)

-- Words that are separated by one space.

abbrev no_space : ℕ → Bool
no_space octet = not (octet == 32)

abbrev pub is_word : List ℕ → Bool
is_word word = list_all no_space word

passes : (word : List ℕ) → is_word word ≡ true → All (λ (octet : ℕ). (octet == 32) ≡ false) word
passes word h = λ k d less. not-true _ (AllPass-from_list_all no_space word h k d less)

pub one_word : (word : List ℕ) → is_word word ≡ true → words_in word ≡ word ∷ []
one_word word h = slice_split_none (λ (octet : ℕ). octet == 32) word (passes word h)

pub more_words : (word more : List ℕ) → is_word word ≡ true → words_in (word ++ 32 ∷ more) ≡ word ∷ words_in more
more_words word more h = slice_split_at (λ (octet : ℕ). octet == 32) word 32 more (passes word h) refl

pub spelled_two : (name word : List ℕ) → is_word name ≡ true → is_word word ≡ true
    → two_words (name ++ 32 ∷ word) ≡ Some (name, word)
unfolding two_words
spelled_two name word h k = rw (more_words name word h, one_word word k) refl

joined : (words : List (List ℕ)) (two : List ℕ × List ℕ) → both words ≡ Some two
    → join_with_byte 32 words ≡ two.0 ++ 32 ∷ two.1
joined (name ∷ word ∷ []) two e = ap (λ t. t.0 ++ 32 ∷ t.1) (same_Some (name, word) two e)
joined words two e = cc e

pub read_two : (octets : List ℕ) (two : List ℕ × List ℕ) → two_words octets ≡ Some two
    → octets ≡ two.0 ++ 32 ∷ two.1
unfolding two_words
read_two octets two e = sym (join_with_byte-slice_split 32 octets) ∙ joined (words_in octets) two e

-- a line consists of what it begins with, followed by the rest
pub begins : (words line rest : List ℕ) → rest_after words line ≡ Some rest → line ≡ words ++ rest
unfolding rest_after
begins words line rest e =
    let found = chosen (bytes_eq (take (length words) line) words) (drop (length words) line) rest e in
    sym (take-append-drop (length words) line)
    ∙ ap (λ front. front ++ drop (length words) line)
    ((bytes_eq-Decides (take (length words) line) words).0 found.0)
    ∙ ap (λ back. words ++ back) found.1

-- ---- numbers and octets are words

digit_no_space : (octet : ℕ) → is_ascii_digit octet ≡ true → no_space octet ≡ true
digit_no_space octet h = grind (arith, common_steps)

digits_word : (word : List ℕ) → list_all is_ascii_digit word ≡ true → is_word word ≡ true
digits_word [] h = refl
digits_word (octet ∷ more) h =
    let parts = and_parts (is_ascii_digit octet) (list_all is_ascii_digit more) h in
    let first = digit_no_space octet parts.0 in
    let rest = digits_word more parts.1 in
    rw (first, rest) refl

pub number_word : (n : ℕ) → n < 2 ^ 64 → is_word (decimal n) ≡ true
number_word n fits = digits_word (decimal n) (printed_digits n fits)

hex_no_space : (value digit : ℕ) → hex_digit_value digit ≡ Some value → no_space digit ≡ true
hex_no_space value digit h = grind (arith, common_steps)

pairs_word : {octets digits : List ℕ} → IsPairs octets digits → is_word digits ≡ true
pairs_word no_pair = refl
pairs_word (pair {octet} {high} {low} fits is_high is_low more) =
    let first = hex_no_space _ high (spelled_digit _ high (omega arith) is_high) in
    let second = hex_no_space _ low (spelled_digit _ low (omega arith) is_low) in
    let rest = pairs_word more in
    rw (first, second, rest) refl

pub hex_word : {octets hex : List ℕ} → IsHex octets hex → is_word hex ≡ true
hex_word no_octets = refl
hex_word (some_octets pairs) = pairs_word pairs
