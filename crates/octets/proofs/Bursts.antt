-- A burst of up to 16 bits changes the remainder.
use Rattle.std.proofs.Common.{◌≡◌, ◌≤◌, ℕ, zero, suc, ◌+◌, ◌-◌, ◌*◌, ◌%◌, ◌^◌, Bool, true, false, List, [], ◌∷◌, ◌++◌}
use Rattle.std.proofs.Common.{length, take, drop, refl, sym, ap, subst, ◌∙◌, arith, length-append, length-take}
use Rattle.std.proofs.Common.{length-drop}
use Rattle.std.specs.Prelude.{replicate}
use Rattle.std.proofs.lemmas.List.{take-append-drop, append-nil, length-replicate}
use Rattle.std.proofs.lemmas.List.Concat.{flat_map-cons, flat_map-append}
use Rattle.std.proofs.lemmas.Nat.{pow-add}
use Rattle.std.proofs.Math.Nat.{add-mul}
use Rattle.std.proofs.Math.Seq.{take-append-add, drop-append-add, take-nil, drop-nil}
use Rattle.octets.specs.Number.{number_of, IsOctets}
use Rattle.octets.specs.Check.{bits_of, bit_sum, sum_without_carries, number_of_bits, octet_bits, generator_rest}
use Rattle.octets.specs.Check.{remainder, check_of, HoldsCheck}
use Rattle.octets.specs.Check.{DiffersInTwoOctets, DiffersInBurst}
use Rattle.octets.proofs.Bits.{sum-assoc, sum-comm, sum-zeros, sum-apart, number_of_bits-bits_of}
use Rattle.octets.proofs.Checked.{drop_fits}
use Rattle.octets.proofs.Checked.{number_of_bits-below, length-sum, length-remainder, length-octet_bits}

-- ---- the difference of two lists of bits

sum-self : (xs : List Bool) → sum_without_carries xs xs ≡ replicate (length xs) false
sum-self [] = refl
sum-self (true ∷ xs) = ap (λ (r : List Bool). false ∷ r) (sum-self xs)
sum-self (false ∷ xs) = ap (λ (r : List Bool). false ∷ r) (sum-self xs)

sum-none : (xs : List Bool) → sum_without_carries xs [] ≡ xs
sum-none [] = refl
sum-none (x ∷ xs) = refl

sum-drop : (k : ℕ) (xs ys : List Bool)
    → drop k (sum_without_carries xs ys) ≡ sum_without_carries (drop k xs) (drop k ys)
sum-drop zero xs ys = refl
sum-drop (suc k) [] ys = refl
sum-drop (suc k) (x ∷ xs) [] = sym (sum-none (drop k xs))
sum-drop (suc k) (x ∷ xs) (y ∷ ys) = sum-drop k xs ys

sum-take : (k : ℕ) (xs ys : List Bool)
    → take k (sum_without_carries xs ys) ≡ sum_without_carries (take k xs) (take k ys)
sum-take zero xs ys = refl
sum-take (suc k) [] ys = refl
sum-take (suc k) (x ∷ xs) [] = refl
sum-take (suc k) (x ∷ xs) (y ∷ ys) = ap (λ (r : List Bool). bit_sum x y ∷ r) (sum-take k xs ys)

-- no bit is 1
abbrev IsZero : List Bool → Type 0
IsZero [] = Unit {0}
IsZero (true ∷ bits) = ⊥
IsZero (false ∷ bits) = IsZero bits

zeros-IsZero : (n : ℕ) → IsZero (replicate n false)
zeros-IsZero zero = tt
zeros-IsZero (suc n) = zeros-IsZero n

sum-IsZero : (xs ys : List Bool) → xs ≡ ys → IsZero (sum_without_carries xs ys)
sum-IsZero xs ys e =
    subst (λ (z : List Bool). IsZero (sum_without_carries xs z)) e
    (subst IsZero (sym (sum-self xs)) (zeros-IsZero (length xs)))

same_from_zero : (xs ys : List Bool) → length xs ≡ length ys → IsZero (sum_without_carries xs ys) → xs ≡ ys
same_from_zero [] [] e h = refl
same_from_zero [] (y ∷ ys) e h = absurd (omega arith)
same_from_zero (x ∷ xs) [] e h = absurd (omega arith)
same_from_zero (true ∷ xs) (true ∷ ys) e h = ap (λ (r : List Bool). true ∷ r) (same_from_zero xs ys (omega arith) h)
same_from_zero (true ∷ xs) (false ∷ ys) e h = absurd h
same_from_zero (false ∷ xs) (true ∷ ys) e h = absurd h
same_from_zero (false ∷ xs) (false ∷ ys) e h = ap (λ (r : List Bool). false ∷ r) (same_from_zero xs ys (omega arith) h)

-- ---- the remainder of a burst

last_bit : (bits : List Bool) → 1 ≤ length bits → IsZero bits
    → IsZero (sum_without_carries (drop 15 generator_rest) bits) → ⊥
last_bit [] long low h = absurd (omega arith)
last_bit (true ∷ bits) long low h = low
last_bit (false ∷ bits) long low h = h

one_more : (k : ℕ) (bits : List Bool) → IsZero (drop k bits) → IsZero (drop (suc k) bits)
one_more zero [] h = tt
one_more zero (true ∷ bits) h = absurd h
one_more zero (false ∷ bits) h = h
one_more (suc k) [] h = tt
one_more (suc k) (b ∷ bits) h = one_more k bits h

behind_next : (place : ℕ) (b : Bool) (bits : List Bool) → IsZero (drop (suc place + 16) (b ∷ bits))
    → IsZero (drop (place + 16) bits)
behind_next place b bits h = let e : suc place + 16 ≡ suc (place + 16) = omega arith in rw e at h

-- if the bits from the 16th on are 0, subtracting a generator would leave its last bit
no_generator : (bits : List Bool) → 16 ≤ length bits → IsZero (drop 15 bits)
    → IsZero (drop 15 (sum_without_carries generator_rest bits)) → ⊥
no_generator bits long low h =
    last_bit (drop 15 bits) (omega (arith, length-drop 15 bits)) low (subst IsZero (sum-drop 15 generator_rest bits) h)

drop-IsZero : (k : ℕ) (bits : List Bool) → IsZero bits → IsZero (drop k bits)
drop-IsZero zero bits h = h
drop-IsZero (suc k) [] h = tt
drop-IsZero (suc k) (true ∷ bits) h = absurd h
drop-IsZero (suc k) (false ∷ bits) h = drop-IsZero k bits h

-- a burst whose remainder is 0 has no bit set
no_burst : (n place : ℕ) (bits : List Bool) → length bits ≡ n + 16 → IsZero (take place bits)
    → IsZero (drop (place + 16) bits) → IsZero (remainder n bits) → IsZero bits
unfolding remainder
no_burst zero place bits e before behind h = h
no_burst (suc n) place [] e before behind h = absurd (omega arith)
no_burst (suc n) (suc place) (true ∷ bits) e before behind h = absurd before
no_burst (suc n) (suc place) (false ∷ bits) e before behind h =
    no_burst n place bits (omega arith) before (behind_next place false bits behind) h
no_burst (suc n) zero (false ∷ bits) e before behind h = no_burst n 0 bits (omega arith) tt (one_more 15 bits behind) h
no_burst (suc n) zero (true ∷ bits) e before behind h =
    let next : List Bool = sum_without_carries generator_rest bits in
    let len : length next ≡ n + 16 = length-sum generator_rest bits (omega arith) ∙ omega arith in
    let low : IsZero (drop 16 next) = subst IsZero (sym (sum-drop 16 generator_rest bits)) (one_more 15 bits behind) in
    let all = no_burst n 0 next len tt low h in
    absurd (no_generator bits (omega arith) behind (drop-IsZero 15 next all))

-- ---- division is linear

-- what is added to either part of a sum is added to the sum
into_second : (c xs ys : List Bool)
    → sum_without_carries xs (sum_without_carries c ys) ≡ sum_without_carries c (sum_without_carries xs ys)
into_second c xs ys =
    sym (sum-assoc xs c ys) ∙ ap (λ (z : List Bool). sum_without_carries z ys) (sum-comm xs c) ∙ sum-assoc c xs ys

-- what is added to both parts of a sum cancels out
into_both : (c xs ys : List Bool) → length c ≤ length xs → length xs ≡ length ys
    → sum_without_carries (sum_without_carries c xs) (sum_without_carries c ys) ≡ sum_without_carries xs ys
into_both c xs ys long same =
    let sum : List Bool = sum_without_carries xs ys in
    let len : length sum ≡ length ys = length-sum xs ys (omega arith) in
    sum-assoc c xs (sum_without_carries c ys) ∙ ap (sum_without_carries c) (into_second c xs ys)
    ∙ sym (sum-assoc c c sum)
    ∙ ap (λ (z : List Bool). sum_without_carries z sum) (sum-self c) ∙ sum-zeros (length c) sum (omega arith)

remainder-sum : (n : ℕ) (xs ys : List Bool) → length xs ≡ n + 16 → length ys ≡ n + 16
    → remainder n (sum_without_carries xs ys) ≡ sum_without_carries (remainder n xs) (remainder n ys)
unfolding remainder
remainder-sum zero xs ys p q = refl
remainder-sum (suc n) [] ys p q = absurd (omega arith)
remainder-sum (suc n) (x ∷ xs) [] p q = absurd (omega arith)
remainder-sum (suc n) (false ∷ xs) (false ∷ ys) p q = remainder-sum n xs ys (omega arith) (omega arith)
remainder-sum (suc n) (true ∷ xs) (false ∷ ys) p q =
    let len = length-sum generator_rest xs (omega arith) in
    ap (remainder n) (sym (sum-assoc generator_rest xs ys))
    ∙ remainder-sum n (sum_without_carries generator_rest xs) ys (omega arith) (omega arith)
remainder-sum (suc n) (false ∷ xs) (true ∷ ys) p q =
    let len = length-sum generator_rest ys (omega arith) in
    ap (remainder n) (sym (into_second generator_rest xs ys))
    ∙ remainder-sum n xs (sum_without_carries generator_rest ys) (omega arith) (omega arith)
remainder-sum (suc n) (true ∷ xs) (true ∷ ys) p q =
    let first = length-sum generator_rest xs (omega arith) in
    let second = length-sum generator_rest ys (omega arith) in
    ap (remainder n) (sym (into_both generator_rest xs ys (omega arith) (omega arith)))
    ∙ remainder-sum n (sum_without_carries generator_rest xs) (sum_without_carries generator_rest ys) (omega arith)
    (omega arith)

remainder_behind : (n : ℕ) (bits : List Bool) → remainder n (replicate n false ++ bits) ≡ bits
unfolding remainder
remainder_behind zero bits = refl
remainder_behind (suc n) bits = remainder_behind n bits

-- ---- octets that end with their check

number_of_bits-append : (xs ys : List Bool)
    → number_of_bits (xs ++ ys) ≡ number_of_bits xs * 2 ^ length ys + number_of_bits ys
number_of_bits-append [] ys = omega arith
number_of_bits-append (false ∷ xs) ys =
    let rest = number_of_bits-append xs ys in omega (arith, add-mul 0 (number_of_bits xs) (2 ^ length ys))
number_of_bits-append (true ∷ xs) ys =
    let rest = number_of_bits-append xs ys in
    let power : 2 ^ length (xs ++ ys) ≡ 2 ^ length xs * 2 ^ length ys =
    ap (λ (k : ℕ). 2 ^ k) (length-append xs ys) ∙ pow-add 2 (length xs) (length ys) in
    omega (arith, power, rest, add-mul (2 ^ length xs) (number_of_bits xs) (2 ^ length ys))

-- bits are determined by their number and their count
bits_are : (xs ys : List Bool) → length xs ≡ length ys → number_of_bits xs ≡ number_of_bits ys → xs ≡ ys
bits_are [] [] e h = refl
bits_are [] (y ∷ ys) e h = absurd (omega arith)
bits_are (x ∷ xs) [] e h = absurd (omega arith)
bits_are (false ∷ xs) (false ∷ ys) e h = ap (λ (r : List Bool). false ∷ r) (bits_are xs ys (omega arith) (omega arith))
bits_are (true ∷ xs) (true ∷ ys) e h =
    let power : 2 ^ length xs ≡ 2 ^ length ys = ap (λ (k : ℕ). 2 ^ k) (omega arith) in
    ap (λ (r : List Bool). true ∷ r) (bits_are xs ys (omega arith) (omega arith))
bits_are (true ∷ xs) (false ∷ ys) e h =
    let power : 2 ^ length xs ≡ 2 ^ length ys = ap (λ (k : ℕ). 2 ^ k) (omega arith) in
    let below = number_of_bits-below ys in absurd (omega arith)
bits_are (false ∷ xs) (true ∷ ys) e h =
    let power : 2 ^ length xs ≡ 2 ^ length ys = ap (λ (k : ℕ). 2 ^ k) (omega arith) in
    let below = number_of_bits-below xs in absurd (omega arith)

octet_bits-two : (octets : List ℕ) → length octets ≡ 2 → IsOctets octets
    → number_of_bits (octet_bits octets) ≡ number_of octets
octet_bits-two [] e fits = absurd (omega arith)
octet_bits-two (x ∷ []) e fits = absurd (omega arith)
octet_bits-two (x ∷ y ∷ []) e fits =
    let bits : octet_bits (x ∷ y ∷ []) ≡ bits_of 8 x ++ bits_of 8 y =
    flat_map-cons (bits_of 8) x (y ∷ [])
    ∙ ap (λ (z : List Bool). bits_of 8 x ++ z) (flat_map-cons (bits_of 8) y [] ∙ append-nil (bits_of 8 y)) in
    ap number_of_bits bits
    ∙ omega (
      arith,
      number_of_bits-append (bits_of 8 x) (bits_of 8 y),
      number_of_bits-bits_of 8 x,
      number_of_bits-bits_of 8 y,
      fits 0,
      fits 1,
    )
octet_bits-two (x ∷ y ∷ z ∷ rest) e fits = absurd (omega arith)

-- The inverted bits of octets that end with their check have the remainder 0 (the decoding
-- procedure).
no_remainder : (front tail : List ℕ) → length tail ≡ 2 → IsOctets tail → number_of tail ≡ check_of front
    → IsZero (remainder (8 * length front) (sum_without_carries (replicate 16 true) (octet_bits (front ++ tail))))
unfolding check_of
no_remainder front tail e fits h =
    let n : ℕ = 8 * length front in
    let a : List Bool = octet_bits front ++ replicate 16 false in
    let b : List Bool = octet_bits tail in
    let inverted : List Bool = sum_without_carries (replicate 16 true) a in
    let front_long : length (octet_bits front) ≡ n = length-octet_bits front in
    let tail_long : length b ≡ 16 = omega (arith, length-octet_bits tail) in
    let a_long : length a ≡ n + 16 = omega (arith, length-append (octet_bits front) (replicate 16 false)) in
    let zeros_long : length (replicate n false ++ b) ≡ n + 16 =
    omega (arith, length-append (replicate n false) b, length-replicate n false) in
    let inverted_long : length inverted ≡ n + 16 = length-sum (replicate 16 true) a (omega arith) ∙ a_long in
    let parts : octet_bits (front ++ tail) ≡ sum_without_carries a (replicate n false ++ b) =
    flat_map-append (bits_of 8) front tail ∙ sym (sum-apart (octet_bits front) b 16 (omega arith))
    ∙ ap (λ (k : ℕ). sum_without_carries a (replicate k false ++ b)) front_long in
    let whole : remainder n (sum_without_carries (replicate 16 true) (octet_bits (front ++ tail)))
    ≡ sum_without_carries (remainder n inverted) b =
    ap (λ (z : List Bool). remainder n (sum_without_carries (replicate 16 true) z)) parts
    ∙ ap (remainder n) (sym (sum-assoc (replicate 16 true) a (replicate n false ++ b)))
    ∙ remainder-sum n inverted (replicate n false ++ b) inverted_long zeros_long
    ∙ ap (sum_without_carries (remainder n inverted)) (remainder_behind n b) in
    let same : remainder n inverted ≡ b =
    bits_are (remainder n inverted) b (length-remainder n inverted inverted_long ∙ sym tail_long)
    (sym h ∙ sym (octet_bits-two tail e fits)) in
    subst IsZero (sym whole) (sum-IsZero (remainder n inverted) b same)

IsZero-sum : (xs ys : List Bool) → IsZero xs → IsZero ys → IsZero (sum_without_carries xs ys)
IsZero-sum [] ys p q = q
IsZero-sum (true ∷ xs) ys p q = absurd p
IsZero-sum (false ∷ xs) [] p q = p
IsZero-sum (false ∷ xs) (true ∷ ys) p q = absurd q
IsZero-sum (false ∷ xs) (false ∷ ys) p q = IsZero-sum xs ys p q

held_no_remainder : (octets : List ℕ) (n : ℕ) → n + 2 ≡ length octets → IsOctets octets → HoldsCheck octets
    → IsZero (remainder (8 * n) (sum_without_carries (replicate 16 true) (octet_bits octets)))
held_no_remainder octets n e fits h =
    let place : length octets - 2 ≡ n = omega arith in
    let front : length (take n octets) ≡ n = omega (arith, length-take n octets) in
    let same : number_of (drop n octets) ≡ check_of (take n octets) = rw place at h.same in
    let zero = no_remainder (take n octets) (drop n octets) (omega (arith, length-drop n octets))
    (drop_fits octets n fits) same in
    rw (take-append-drop n octets, front) at zero

octet_bits-are : (xs ys : List ℕ) → length xs ≡ length ys → IsOctets xs → IsOctets ys → octet_bits xs ≡ octet_bits ys
    → xs ≡ ys
octet_bits-are [] [] e p q h = refl
octet_bits-are [] (y ∷ ys) e p q h = absurd (omega arith)
octet_bits-are (x ∷ xs) [] e p q h = absurd (omega arith)
octet_bits-are (x ∷ xs) (y ∷ ys) e p q h =
    let bits : bits_of 8 x ++ octet_bits xs ≡ bits_of 8 y ++ octet_bits ys =
    sym (flat_map-cons (bits_of 8) x xs) ∙ h ∙ flat_map-cons (bits_of 8) y ys in
    let first : bits_of 8 x ≡ bits_of 8 y = ap (take 8) bits in
    let number : x % 2 ^ 8 ≡ y % 2 ^ 8 =
    sym (number_of_bits-bits_of 8 x) ∙ ap number_of_bits first ∙ number_of_bits-bits_of 8 y in
    let one : x ≡ y = omega (arith, p 0, q 0) in
    let rest : xs ≡ ys = octet_bits-are xs ys (omega arith) (λ i. p (suc i)) (λ i. q (suc i)) (ap (drop 8) bits) in
    cc

-- octets that end with their check do not differ by a burst from others that do
pub burst_seen : (xs ys : List ℕ) → IsOctets xs → IsOctets ys → DiffersInBurst xs ys → HoldsCheck xs → HoldsCheck ys
    → xs ≡ ys
burst_seen xs ys p q d h k =
    let n : ℕ = length xs - 2 in
    let long : n + 2 ≡ length xs = omega (arith, h.long) in
    let a : List Bool = octet_bits xs in
    let b : List Bool = octet_bits ys in
    let ones : List Bool = replicate 16 true in
    let a_long : length a ≡ 8 * n + 16 = omega (arith, length-octet_bits xs) in
    let b_long : length b ≡ 8 * n + 16 = omega (arith, length-octet_bits ys, d.long) in
    let same : length a ≡ length b = omega arith in
    let a_inverted : length (sum_without_carries ones a) ≡ 8 * n + 16 = length-sum ones a (omega arith) ∙ a_long in
    let b_inverted : length (sum_without_carries ones b) ≡ 8 * n + 16 = length-sum ones b (omega arith) ∙ b_long in
    let left = held_no_remainder xs n long p h in
    let right = held_no_remainder ys n (long ∙ d.long) q k in
    let both = IsZero-sum (remainder (8 * n) (sum_without_carries ones a))
    (remainder (8 * n) (sum_without_carries ones b)) left right in
    let zero : IsZero (remainder (8 * n) (sum_without_carries a b)) =
    subst (λ (z : List Bool). IsZero (remainder (8 * n) z)) (into_both ones a b (omega arith) same)
    (subst IsZero (sym (remainder-sum (8 * n) (sum_without_carries ones a) (sum_without_carries ones b) a_inverted
    b_inverted)) both) in
    let before : IsZero (take d.place (sum_without_carries a b)) =
    subst IsZero (sym (sum-take d.place a b)) (sum-IsZero _ _ d.before) in
    let behind : IsZero (drop (d.place + 16) (sum_without_carries a b)) =
    subst IsZero (sym (sum-drop (d.place + 16) a b)) (sum-IsZero _ _ d.behind) in
    let none = no_burst (8 * n) d.place (sum_without_carries a b) (length-sum a b (omega arith) ∙ b_long) before behind
    zero in
    octet_bits-are xs ys d.long p q (same_from_zero a b same none)

-- the bits of the first octets, and those of the octets after them
cut-octet_bits : (i : ℕ) (octets : List ℕ) → (take (8 * i) (octet_bits octets) ≡ octet_bits (take i octets))
    × (drop (8 * i) (octet_bits octets) ≡ octet_bits (drop i octets))
cut-octet_bits zero octets = (refl, refl)
cut-octet_bits (suc i) [] = (take-nil (8 * suc i), drop-nil (8 * suc i))
cut-octet_bits (suc i) (x ∷ xs) =
    let count : 8 * suc i ≡ length (bits_of 8 x) + 8 * i = omega arith in
    let rest = cut-octet_bits i xs in
    rw (count, flat_map-cons (bits_of 8) x xs, flat_map-cons (bits_of 8) x (take i xs)) (
      take-append-add (bits_of 8 x) (octet_bits xs) (8 * i) ∙ ap (λ (z : List Bool). bits_of 8 x ++ z) rest.0,
      drop-append-add (bits_of 8 x) (octet_bits xs) (8 * i) ∙ rest.1,
    )

-- two neighbouring octets are 16 neighbouring bits
pub two_octets_burst : (xs ys : List ℕ) → DiffersInTwoOctets xs ys → DiffersInBurst xs ys
two_octets_burst xs ys d =
    let count : 8 * d.place + 16 ≡ 8 * (d.place + 2) = omega arith in
    record {
      place = 8 * d.place;
      long = d.long;
      before = (cut-octet_bits d.place xs).0 ∙ ap octet_bits d.before ∙ sym (cut-octet_bits d.place ys).0;
      behind = rw count ((cut-octet_bits (d.place + 2) xs).1 ∙ ap octet_bits d.behind
          ∙ sym (cut-octet_bits (d.place + 2) ys).1);
    }
