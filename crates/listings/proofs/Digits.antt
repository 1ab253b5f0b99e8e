-- The decimal digits of small numbers, and the hexadecimal digits of sixteen octets at a time.
use Rattle.hex.specs.Hex.{encode_upper, encode_with, upper_digits}
use lib.Lanes.{zip2, Each1}
use Rattle.std.proofs.Common.{◌≡◌, ◌∙◌, ℕ, ◌+◌, ◌<◌, ◌≤◌, ◌++◌, List, [], ◌∷◌, ap, arith, decimal, refl, append_assoc}
use Rattle.std.proofs.Common.{length, length-append, sym, zero, suc, eqb, Bool, true, false, take, drop, get_or}
use Rattle.std.proofs.Common.{length-take-le, length-drop, take-add, take-take, take_all, take-append-drop, subst, inl}
use Rattle.std.proofs.Common.{inr, ◌*◌, ◌/◌, ◌%◌, ◌^◌, map, replicate, bit_and, w8, Fits}
use Rattle.std.specs.Prelude.{◌-◌, ◌&&◌, nat_lt, if◌then◌else◌, slice_index}
use Rattle.std.proofs.lemmas.Bool.{and_parts, eqb-true, ltb-true, cases_lt, lt-ltb, le-ltb}
use Rattle.std.proofs.Math.Seq.{take-append-add}
use Rattle.std.proofs.lemmas.List.{drop-drop, drop-take, take_rest, get_or-map, length-map, ext_get_or}
use Rattle.std.proofs.lemmas.Fmt.{decimal_digit, decimal_step, length-decimal-le}
use Rattle.std.proofs.lemmas.List.FromFn.{get_or-map-range_with_len, length-map-range_with_len}
use Rattle.std.proofs.lemmas.Nat.{and_le_r, and_mask}
use Rattle.std.proofs.lemmas.Simd.{Each1-all, Each1-weaker, Each1-zip2, Each2-splat, below_from_Fits, length-zip2}
use Rattle.std.proofs.lemmas.Simd.{swz_l, SwzOk, SwzOk-from_below, length-swz_l, get_or-swz_l_below}
use Rattle.std.specs.List.{range_with_len}
use Rattle.listings.specs.declared.parts.TheConstants.{OCTETS}
use Rattle.listings.specs.Text.{four_digits, leading_digits}

-- Decimal digits of small numbers.

abbrev pub two_digits : ℕ → List ℕ
two_digits n = (48 + n / 10) ∷ (48 + n % 10) ∷ []

-- four digits are two and two
pub four_are : (n : ℕ) → four_digits n ≡ two_digits (n / 100) ++ two_digits (n % 100)
four_are n =
    let thousands : n / 1000 ≡ n / 100 / 10 = omega arith in
    let tens : n / 10 % 10 ≡ n % 100 / 10 = omega arith in
    let ones : n % 10 ≡ n % 100 % 10 = omega arith in
    rw (thousands, tens, ones)

are_two : (n : ℕ) → 10 ≤ n → n < 100 → decimal n ≡ two_digits n
are_two n low high =
    decimal_step n low (omega arith) ∙ ap (λ ds. ds ++ ((48 + n % 10) ∷ [])) (decimal_digit (n / 10) (omega arith))

-- the last digit of a longer number, and the last two
pub then_one : (n : ℕ) → 10 ≤ n → n < 2 ^ 64 → decimal n ≡ decimal (n / 10) ++ ((48 + n % 10) ∷ [])
then_one n low high = decimal_step n low high

pub one_more : (n : ℕ) → 10 ≤ n → n < 2 ^ 64 → length (decimal n) ≡ length (decimal (n / 10)) + 1
one_more n low high = ap length (then_one n low high) ∙ length-append (decimal (n / 10)) ((48 + n % 10) ∷ [])

pub then_two : (n : ℕ) → 100 ≤ n → n < 2 ^ 64 → decimal n ≡ decimal (n / 100) ++ two_digits (n % 100)
then_two n low high =
    let q : n / 10 / 10 ≡ n / 100 = omega arith in
    let tens : n / 10 % 10 ≡ n % 100 / 10 = omega arith in
    let ones : n % 10 ≡ n % 100 % 10 = omega arith in
    let front = decimal_step (n / 10) (omega arith) (omega arith) in
    rw (decimal_step n (omega arith) high, front, append_assoc, q, tens, ones)

pub two_more : (n : ℕ) → 100 ≤ n → n < 2 ^ 64 → length (decimal n) ≡ length (decimal (n / 100)) + 2
two_more n low high =
    ap length (then_two n low high) ∙ length-append (decimal (n / 100)) (two_digits (n % 100))

three_digits : (n : ℕ) → 100 ≤ n → n < 1000 → decimal n ≡ (48 + n / 100) ∷ two_digits (n % 100)
three_digits n low high =
    then_two n low (omega arith) ∙ ap (λ ds. ds ++ two_digits (n % 100)) (decimal_digit (n / 100) (omega arith))

-- the last four digits of a longer number
pub then_four : (n : ℕ) → 10000 ≤ n → n < 2 ^ 64 → decimal n ≡ decimal (n / 10000) ++ four_digits (n % 10000)
then_four n low high =
    let q : n / 100 / 100 ≡ n / 10000 = omega arith in
    let upper : n / 100 % 100 ≡ n % 10000 / 100 = omega arith in
    let lower : n % 100 ≡ n % 10000 % 100 = omega arith in
    rw (then_two n (omega arith) high, then_two (n / 100) (omega arith) (omega arith), append_assoc, q, upper, lower)
    (ap (λ ds. decimal (n / 10000) ++ ds) (sym (four_are (n % 10000))))

pub four_more : (n : ℕ) → 10000 ≤ n → n < 2 ^ 64 → length (decimal n) ≡ length (decimal (n / 10000)) + 4
four_more n low high = ap length (then_four n low high) ∙ length-append (decimal (n / 10000)) (four_digits (n % 10000))

pub at_most_twenty : (n : ℕ) → n < 2 ^ 64 → length (decimal n) ≤ 20
at_most_twenty n small = length-decimal-le 20 n (omega arith) (omega arith) small

-- one part after another
pub joined : (t x y : List ℕ) {u v z : List ℕ} → u ≡ t ++ x → v ≡ u ++ y → z ≡ x ++ y → v ≡ t ++ z
joined t x y first second both = second ∙ ap (λ s. s ++ y) first ∙ append_assoc t x y ∙ ap (λ s. t ++ s) (sym both)

pub at_most_nineteen : (t : ℕ) → 10 * t < 2 ^ 64 → length (decimal t) ≤ 19
at_most_nineteen t small = length-decimal-le 19 t (omega arith) (omega arith) (omega arith)

pub at_most_five : (n : ℕ) → n < 2 ^ 16 → length (decimal n) ≤ 5
at_most_five n small = length-decimal-le 5 n (omega arith) (omega arith) (omega arith)

-- ---- octets that are written over others

pub take_past : (i n : ℕ) (xs ys : List ℕ) → length xs ≡ i → take (i + n) (xs ++ ys) ≡ xs ++ take n ys
take_past i n xs ys long = rw (← long) (take-append-add xs ys n)

-- the first `half` octets of a word, and its last `last` octets written after them, are the whole
-- word
pub ends_put : (a b c word : List ℕ) (at half last : ℕ) → at ≤ length a → half ≤ length word → last ≤ half
    → last + half ≡ length word
    → take (at + half) b ≡ take at a ++ take half word
    → take ((at + last) + half) c ≡ take (at + last) b ++ take half (drop last word)
    → take (at + length word) c ≡ take at a ++ word
ends_put a b c word at half last within fits covers whole first second =
    let end : at + length word ≡ (at + last) + half = omega arith in
    let front : take (at + last) b ≡ take at a ++ take last word =
    sym (take-take (at + last) (at + half) b (omega arith)) ∙ ap (take (at + last)) first
    ∙ take_past at last (take at a) (take half word) (length-take-le at a within)
    ∙ ap (λ l. take at a ++ l) (take-take last half word covers) in
    let back : take half (drop last word) ≡ drop last word =
    take_all half (drop last word) (omega (arith, length-drop last word)) in
    ap (λ n. take n c) end ∙ second ∙ ap (λ l. l ++ take half (drop last word)) front
    ∙ ap (λ l. (take at a ++ take last word) ++ l) back
    ∙ append_assoc (take at a) (take last word) (drop last word)
    ∙ ap (λ l. take at a ++ l) (take-append-drop last word)

-- ---- the table of octets

abbrev same : List ℕ → List ℕ → Bool
same [] [] = true
same (x ∷ xs) (y ∷ ys) = eqb x y && same xs ys
same [] (y ∷ ys) = false
same (x ∷ xs) [] = false

same-is : (xs ys : List ℕ) → same xs ys ≡ true → xs ≡ ys
same-is [] [] e = refl
same-is (x ∷ xs) (y ∷ ys) e =
    let both = and_parts _ _ e in
    ap (λ k. k ∷ xs) (eqb-true x y both.0) ∙ ap (λ l. y ∷ l) (same-is xs ys both.1)
same-is _ _ e = absurd cc

-- the digits of a number that has at most three
abbrev places : ℕ → List ℕ
places i =
    if nat_lt i 10 then (48 + i) ∷ []
    else if nat_lt i 100 then two_digits i
    else (48 + i / 100) ∷ two_digits (i % 100)

places-are : (i : ℕ) → i < 1000 → places i ≡ decimal i
places-are i lt =
    elim (cases_lt i 10) [
      | inl few ↦ rw (lt-ltb i 10 few) (sym (decimal_digit i few))
      | inr more ↦ rw (le-ltb i 10 more) (elim (cases_lt i 100) [
        | inl few ↦ rw (lt-ltb i 100 few) (sym (are_two i more few))
        | inr many ↦ rw (le-ltb i 100 many) (sym (three_digits i many lt))
      ])
    ]

-- these four octets are three places, and how many of the places hold the digits of a number
abbrev is_entry : List ℕ → ℕ → Bool
is_entry (a ∷ b ∷ c ∷ n ∷ xs) i = same (take n (a ∷ b ∷ c ∷ [])) (places i) && nat_lt n 4
is_entry _ i = false

-- the same holds of the first n entries, for the numbers from i on
abbrev entries_hold : ℕ → ℕ → List ℕ → Bool
entries_hold zero i xs = true
entries_hold (suc n) i xs = is_entry xs i && entries_hold n (i + 1) (drop 4 xs)

entry_is : (n i : ℕ) (xs : List ℕ) (k : ℕ) → entries_hold n i xs ≡ true → k < n
    → is_entry (drop (4 * k) xs) (i + k) ≡ true
entry_is zero i xs k e lt = absurd (omega arith)
entry_is (suc n) i xs zero e lt =
    let place : i + 0 ≡ i = omega arith in
    ap (is_entry xs) place ∙ (and_parts _ _ e).0
entry_is (suc n) i xs (suc k) e lt =
    let place : i + suc k ≡ (i + 1) + k = omega arith in
    let four : 4 * suc k ≡ 4 + 4 * k = omega arith in
    rw (place, four, ← drop-drop (4 * k) 4 xs) (entry_is n (i + 1) (drop 4 xs) k (and_parts _ _ e).1 (omega arith))

-- what an entry is
pub record IsEntry (xs : List ℕ) (i : ℕ) : Type 0 where
  pub room : 4 ≤ length xs
  pub digits : take (get_or xs 3 0) xs ≡ decimal i
  pub count : get_or xs 3 0 ≡ length (decimal i)
  pub few : get_or xs 3 0 ≤ 3

is_entry-is : (xs : List ℕ) (i : ℕ) → i < 1000 → is_entry xs i ≡ true → IsEntry xs i
is_entry-is (a ∷ b ∷ c ∷ n ∷ xs) i lt e =
    let both = and_parts _ _ e in
    let few : n < 4 = ltb-true n 4 both.1 in
    let digits : take n (a ∷ b ∷ c ∷ []) ≡ decimal i = same-is _ _ both.0 ∙ places-are i lt in record {
      room = omega arith;
      digits = sym (take-take n 3 (a ∷ b ∷ c ∷ n ∷ xs) (omega arith)) ∙ digits;
      count = sym (length-take-le n (a ∷ b ∷ c ∷ []) (omega arith)) ∙ ap length digits;
      few = omega arith;
    }
is_entry-is _ i lt e = absurd cc

pub octet_entry : (j k : ℕ) → j ≡ k → k < 256 → IsEntry (take (1024 - 4 * j) (drop (4 * j) OCTETS)) k
octet_entry j k same lt =
    let place : 0 + j ≡ j = omega arith in
    let holds : is_entry (drop (4 * j) OCTETS) j ≡ true =
    ap (is_entry (drop (4 * j) OCTETS)) (sym place) ∙ entry_is 256 0 OCTETS j refl (omega arith) in
    let all : take (1024 - 4 * j) (drop (4 * j) OCTETS) ≡ drop (4 * j) OCTETS = take_rest OCTETS (4 * j) in
    subst (λ l. IsEntry l k) (sym all) (subst (IsEntry (drop (4 * j) OCTETS)) same
    (is_entry-is (drop (4 * j) OCTETS) j (omega arith) holds))

-- the first n of N octets that are put
pub front_put : (before after octets : List ℕ) (at n N : ℕ) → at ≤ length before → n ≤ N
    → take (at + N) after ≡ take at before ++ take N octets → take (at + n) after ≡ take at before ++ take n octets
front_put before after octets at n N within few put =
    sym (take-take (at + n) (at + N) after (omega arith)) ∙ ap (take (at + n)) put
    ∙ take_past at n (take at before) (take N octets) (length-take-le at before within)
    ∙ ap (λ l. take at before ++ l) (take-take n N octets few)

-- the digits among three places that are put
pub digits_put : (before after entry : List ℕ) (at k : ℕ) → at ≤ length before
    → take (at + 4) after ≡ take at before ++ take 4 entry → get_or entry 3 0 ≤ 3
    → take (get_or entry 3 0) entry ≡ decimal k → take (at + get_or entry 3 0) after ≡ take at before ++ decimal k
digits_put before after entry at k within put few digits =
    front_put before after entry at (get_or entry 3 0) 4 within (omega arith) put
    ∙ ap (λ l. take at before ++ l) digits

-- the last two of three digits
pub last_two : (entry : List ℕ) (x : ℕ) → x < 100 → take (get_or entry 3 0) entry ≡ decimal (x + 100)
    → get_or entry 3 0 ≡ length (decimal (x + 100)) → take 2 (drop 1 entry) ≡ two_digits x
last_two entry x lt digits count =
    let three = three_digits (x + 100) (omega arith) (omega arith) in
    let rest : (x + 100) % 100 ≡ x = omega arith in
    sym (drop-take 1 2 entry) ∙ ap (λ n. drop 1 (take n entry)) (sym (count ∙ ap length three))
    ∙ ap (drop 1) (digits ∙ three) ∙ ap two_digits rest

-- ---- the digits before the last one, and the last one

pub last_after : (t d : ℕ) → 48 ≤ d → d ≤ 57 → 10 * t + (d - 48) < 2 ^ 64
    → leading_digits t ++ (d ∷ []) ≡ decimal (10 * t + (d - 48))
last_after zero d low high small =
    let digit : 48 + (d - 48) ≡ d = omega arith in
    ap (λ k. k ∷ []) (sym digit) ∙ sym (decimal_digit (d - 48) (omega arith)) ∙ ap decimal (omega arith)
last_after (suc t) d low high small =
    let n = 10 * suc t + (d - 48) in
    let front : n / 10 ≡ suc t = omega arith in
    let digit : 48 + n % 10 ≡ d = omega arith in
    sym (decimal_step n (omega arith) small ∙ ap (λ k. decimal k ++ ((48 + n % 10) ∷ [])) front
    ∙ ap (λ k. decimal (suc t) ++ (k ∷ [])) digit)

pub leading_of_more : (t : ℕ) → leading_digits (t + 1) ≡ decimal (t + 1)
leading_of_more t =
    let more : t + 1 ≡ suc t = omega arith in
    ap leading_digits more ∙ ap decimal (sym more)

-- The hexadecimal digits of sixteen octets at a time: lanes that are looked up in a table of sixteen, and pieces
-- of what is written.

-- sixteen octets
abbrev pub IsBlock : List ℕ → Type 0
IsBlock v = (length v ≡ 16) × Each1 (Fits w8) v

lane_fits : (v : List ℕ) (i : ℕ) → Each1 (Fits w8) v → get_or v i 0 < 256
lane_fits [] i h = omega arith
lane_fits (x ∷ xs) zero h = h.0.fits
lane_fits (x ∷ xs) (suc i) h = lane_fits xs i h.1

abbrev pub shifted : ℕ → ℕ → ℕ
shifted a b = a / 2 ^ b

-- the upper four bits of each octet are a place in a table of sixteen
pub high_ok : (v : List ℕ) → IsBlock v → SwzOk w8 16 16 0 (zip2 shifted v (replicate 16 4))
high_ok v fits =
    let small = Each1-weaker (λ a. a < 256) (λ a. a / 16 < 16) (λ a h. omega arith) v (below_from_Fits w8 v fits.1) in
    SwzOk-from_below w8 16 1 16 0 (zip2 shifted v (replicate 16 4)) refl
    (omega (arith, length-zip2 shifted v (replicate 16 4) fits.0))
    (Each1-zip2 shifted (λ j. j < 16) v (replicate 16 4) (Each2-splat (λ a b. shifted a b < 16) v 16 4 small))

-- and so are the lower four
pub low_ok : (v : List ℕ) → IsBlock v → SwzOk w8 16 16 0 (zip2 bit_and v (replicate 16 15))
low_ok v fits =
    let small = Each1-all (λ a. bit_and a 15 < 16) (λ a. omega (arith, and_le_r a 15)) v in
    SwzOk-from_below w8 16 1 16 0 (zip2 bit_and v (replicate 16 15)) refl
    (omega (arith, length-zip2 bit_and v (replicate 16 15) fits.0))
    (Each1-zip2 bit_and (λ j. j < 16) v (replicate 16 15) (Each2-splat (λ a b. bit_and a b < 16) v 16 15 small))

-- the lower four bits of each
pub masked : (v : List ℕ) → map (λ x. bit_and x 15) v ≡ map (λ x. x % 16) v
masked [] = refl
masked (x ∷ xs) = ap (λ l. bit_and x 15 ∷ l) (masked xs) ∙ ap (λ n. n ∷ map (λ y. y % 16) xs) (low_bits x)
  where
    low_bits : (n : ℕ) → bit_and n 15 ≡ n % 16
    low_bits n = and_mask n 4

-- a table that is read at a place below 16 for each octet
pub looked_up : (table : List ℕ) (place : ℕ → ℕ) (v js : List ℕ) → IsBlock v → js ≡ map place v
    → ((x : ℕ) → x < 256 → place x < 16) → swz_l w8 16 table 0 js ≡ map (λ x. get_or table (place x) 0) v
looked_up table place v js fits e small =
    let long : length js ≡ 16 = ap length e ∙ length-map v place ∙ fits.0 in
    let same : length (swz_l w8 16 table 0 js) ≡ length (map (λ x. get_or table (place x) 0) v) =
    length-swz_l w8 16 table 0 js ∙ long ∙ sym (length-map v (λ x. get_or table (place x) 0) ∙ fits.0) in
    ext_get_or 0 _ _ same (λ i h.
    let lt : i < 16 = omega (arith, length-swz_l w8 16 table 0 js) in
    let within : i < length v = omega (arith, fits.0) in
    let is : get_or js i 0 ≡ place (get_or v i 0) = ap (λ l. get_or l i 0) e ∙ get_or-map place v i 0 0 within in
    let below : get_or js i 0 < 16 = omega (arith, small (get_or v i 0) (lane_fits v i fits.1)) in
    get_or-swz_l_below w8 16 table 0 js i (omega arith) below ∙ ap (λ k. get_or table k 0) (omega arith ∙ is)
    ∙ sym (get_or-map (λ x. get_or table (place x) 0) v i 0 0 within))

-- ---- the digits of sixteen octets

abbrev first_digits : List ℕ → List ℕ
first_digits v = map (λ x. slice_index upper_digits (x / 16)) v

abbrev second_digits : List ℕ → List ℕ
second_digits v = map (λ x. slice_index upper_digits (x % 16)) v

-- sixteen lanes and sixteen more in turn, as the `shuffle` of `digits_of_sixteen` orders them
abbrev pub in_turn : List ℕ → List ℕ
in_turn lanes =
    map (λ k. get_or lanes k 0)
    (0 ∷ 16 ∷ 1 ∷ 17 ∷ 2 ∷ 18 ∷ 3 ∷ 19 ∷ 4 ∷ 20 ∷ 5 ∷ 21 ∷ 6 ∷ 22 ∷ 7 ∷ 23
    ∷ 8 ∷ 24 ∷ 9 ∷ 25 ∷ 10 ∷ 26 ∷ 11 ∷ 27 ∷ 12 ∷ 28 ∷ 13 ∷ 29 ∷ 14 ∷ 30 ∷ 15 ∷ 31 ∷ [])

abbrev sixteen_of : (ℕ → ℕ) → List ℕ
sixteen_of element = map element (range_with_len 0 16)

are_elements : (v : List ℕ) → length v ≡ 16 → v ≡ sixteen_of (λ i. get_or v i 0)
are_elements v long =
    ext_get_or 0 v (sixteen_of (λ i. get_or v i 0)) (long ∙ sym (length-map-range_with_len (λ i. get_or v i 0) 0 16))
    (λ i h. sym (get_or-map-range_with_len (λ j. get_or v j 0) 0 16 i i 0 (omega arith) (omega arith)))

elements_in_turn : (element : ℕ → ℕ)
    → in_turn (first_digits (sixteen_of element) ++ second_digits (sixteen_of element))
    ≡ encode_upper (sixteen_of element)
unfolding encode_with
elements_in_turn element = refl

pub digits_in_turn : (v first second : List ℕ) → length v ≡ 16
    → first ≡ first_digits v → second ≡ second_digits v → in_turn (first ++ second) ≡ encode_upper v
digits_in_turn v first second long is_first is_second =
    ap (λ l. in_turn (l ++ second)) is_first ∙ ap (λ l. in_turn (first_digits v ++ l)) is_second
    ∙ subst (λ u. in_turn (first_digits u ++ second_digits u) ≡ encode_upper u) (sym (are_elements v long))
    (elements_in_turn (λ i. get_or v i 0))

-- ---- pieces of what is written

encode_append : (t xs ys : List ℕ) → encode_with t (xs ++ ys) ≡ encode_with t xs ++ encode_with t ys
unfolding encode_with
encode_append t [] ys = refl
encode_append t (x ∷ xs) ys = ap (λ l. slice_index t (x / 16) ∷ slice_index t (x % 16) ∷ l) (encode_append t xs ys)

twice : (n : ℕ) → 2 * suc n ≡ suc (suc (2 * n))
twice n = omega arith

encode_take : (t : List ℕ) (n : ℕ) (xs : List ℕ) → take (2 * n) (encode_with t xs) ≡ encode_with t (take n xs)
unfolding encode_with
encode_take t zero xs = refl
encode_take t (suc n) [] = rw (twice n) refl
encode_take t (suc n) (x ∷ xs) =
    rw (twice n) (ap (λ l. slice_index t (x / 16) ∷ slice_index t (x % 16) ∷ l) (encode_take t n xs))

-- before the first sixteen
pub none_yet : (t input digits : List ℕ) → take (2 * (16 * 0)) digits ≡ encode_with t (take (16 * 0) input)
unfolding encode_with
none_yet t input digits = refl

-- sixteen more octets are written
pub sixteen_more : (t input before after : List ℕ) (i : ℕ)
    → take (2 * (i + 16)) after ≡ take (2 * i) before ++ encode_with t (take 16 (drop i input))
    → take (2 * i) before ≡ encode_with t (take i input)
    → take (2 * (i + 16)) after ≡ encode_with t (take (i + 16) input)
sixteen_more t input before after i written inv =
    written ∙ ap (λ l. l ++ encode_with t (take 16 (drop i input))) inv
    ∙ sym (encode_append t (take i input) (take 16 (drop i input))) ∙ ap (encode_with t) (sym (take-add i 16 input))

-- fewer than those that are written
fewer_sixteen : (t input digits : List ℕ) (i j : ℕ) → j ≤ i → take (2 * i) digits ≡ encode_with t (take i input)
    → take (2 * j) digits ≡ encode_with t (take j input)
fewer_sixteen t input digits i j le inv =
    sym (take-take (2 * j) (2 * i) digits (omega arith)) ∙ ap (take (2 * j)) inv
    ∙ encode_take t j (take i input) ∙ ap (encode_with t) (take-take j i input le)

-- the last sixteen octets are written, some of them perhaps for the second time
pub all_sixteen : (t input before after : List ℕ) (i j : ℕ)
    → j ≤ i → j + 16 ≡ length input → length after ≡ 2 * length input
    → take (2 * (j + 16)) after ≡ take (2 * j) before ++ encode_with t (take 16 (drop j input))
    → take (2 * i) before ≡ encode_with t (take i input)
    → after ≡ encode_with t input
all_sixteen t input before after i j le whole long written inv =
    let done = sixteen_more t input before after j written (fewer_sixteen t input before i j le inv) in
    sym (take_all (2 * (j + 16)) after (omega arith)) ∙ done
    ∙ ap (encode_with t) (take_all (j + 16) input (omega arith))
