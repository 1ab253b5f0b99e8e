-- The 16-bit register: one step for each bit, and each step is linear.
use Rattle.std.proofs.Common.{◌≡◌, ℕ, zero, suc, ◌+◌, ◌*◌, ◌/◌, ◌%◌, ◌^◌, ◌<◌, Bool, true, false}
use Rattle.std.proofs.Common.{cond, eqb, refl, sym, ap, ◌∙◌, arith, ◌≤◌, List, [], ◌∷◌, ◌++◌}
use Rattle.std.proofs.Common.{length, drop, append_assoc, length-append}
use Rattle.std.specs.Prelude.{bit_xor, replicate}
use Rattle.std.specs.Int.Bits.{xor_assoc, xor_zero_r, xor_block}
use Rattle.std.proofs.lemmas.Nat.{xor_comm, xor_mod, xor_shr, xor_lt}
use Rattle.std.specs.Int.{bit_at}
use Rattle.std.proofs.lemmas.List.{drop_all}
use Rattle.std.proofs.lemmas.List.Concat.{flat_map-cons}
use Rattle.octets.specs.Check.{bits_of, sum_without_carries, number_of_bits, octet_bits}
use Rattle.octets.specs.Check.{generator_rest, remainder, check_of}
use Rattle.octets.proofs.Bits.{sum-assoc, sum-comm, sum-zeros, sum-longer, sum-apart, bit_sum-false}
use Rattle.octets.proofs.Bits.{length-bits_of, bits_of-xor, bits_of-mod, bits_of-shifted}
use Rattle.octets.proofs.Bits.{number_of_bits-bits_of}

-- the register after one more bit
abbrev pub register_step : ℕ → ℕ
register_step r = cond (eqb (r / 2 ^ 15) 1) (bit_xor (r * 2 % 2 ^ 16) 0x1021) (r * 2 % 2 ^ 16)

-- the register after n more bits
abbrev pub register_after : ℕ → ℕ → ℕ
register_after zero r = r
register_after (suc n) r = register_after n (register_step r)

-- a step moves the bits on: linear
double-xor : (a b : ℕ) → bit_xor (a * 2) (b * 2) ≡ bit_xor a b * 2
double-xor a b =
    let h : bit_xor (a * 2 ^ 1 + 0) (b * 2 ^ 1 + 0) ≡ bit_xor a b * 2 ^ 1 + bit_xor 0 0 =
    xor_block 1 a b 0 0 (omega arith) (omega arith) in
    let left : a * 2 ^ 1 + 0 ≡ a * 2 = omega arith in
    let right : b * 2 ^ 1 + 0 ≡ b * 2 = omega arith in
    let out : bit_xor a b * 2 ^ 1 + 0 ≡ bit_xor a b * 2 = omega arith in
    sym (ap (λ (x : ℕ). bit_xor x (b * 2)) left) ∙ sym (ap (λ (x : ℕ). bit_xor (a * 2 ^ 1 + 0) x) right) ∙ h ∙ out

shifted-xor : (a b : ℕ) → bit_xor (a * 2 % 2 ^ 16) (b * 2 % 2 ^ 16) ≡ bit_xor a b * 2 % 2 ^ 16
shifted-xor a b = sym (xor_mod (a * 2) (b * 2) 16) ∙ ap (λ (x : ℕ). x % 2 ^ 16) (double-xor a b)

-- the generator if the bit is set
abbrev taken : ℕ → ℕ
taken b = cond (eqb b 1) 0x1021 0

chosen : (b : Bool) (m : ℕ) → cond b (bit_xor m 0x1021) m ≡ bit_xor m (cond b 0x1021 0)
chosen true m = refl
chosen false m = sym (xor_zero_r m)

chosen-fits : (b : Bool) (m : ℕ) → m < 2 ^ 16 → cond b (bit_xor m 0x1021) m < 2 ^ 16
chosen-fits true m h = xor_lt 16 m 0x1021 h (omega arith)
chosen-fits false m h = h

step-is : (r : ℕ) → register_step r ≡ bit_xor (r * 2 % 2 ^ 16) (taken (r / 2 ^ 15))
step-is r = chosen (eqb (r / 2 ^ 15) 1) (r * 2 % 2 ^ 16)

taken-xor : (a b : ℕ) → a < 2 → b < 2 → taken (bit_xor a b) ≡ bit_xor (taken a) (taken b)
taken-xor zero zero p q = refl
taken-xor zero (suc zero) p q = refl
taken-xor (suc zero) zero p q = refl
taken-xor (suc zero) (suc zero) p q = refl
taken-xor (suc (suc a)) b p q = absurd (omega arith)
taken-xor a (suc (suc b)) p q = absurd (omega arith)

swap-middle : (a b c d : ℕ) → bit_xor (bit_xor a b) (bit_xor c d) ≡ bit_xor (bit_xor a c) (bit_xor b d)
swap-middle a b c d =
    xor_assoc a b (bit_xor c d)
    ∙ ap (bit_xor a) (sym (xor_assoc b c d) ∙ ap (λ (x : ℕ). bit_xor x d) (xor_comm b c) ∙ xor_assoc c b d)
    ∙ sym (xor_assoc a c (bit_xor b d))

pub step-xor : (a b : ℕ) → a < 2 ^ 16 → b < 2 ^ 16
    → register_step (bit_xor a b) ≡ bit_xor (register_step a) (register_step b)
step-xor a b p q =
    let top : bit_xor a b / 2 ^ 15 ≡ bit_xor (a / 2 ^ 15) (b / 2 ^ 15) = xor_shr a b 15 in
    step-is (bit_xor a b)
    ∙ ap (λ (x : ℕ). bit_xor (bit_xor a b * 2 % 2 ^ 16) (taken x)) top
    ∙ ap (bit_xor (bit_xor a b * 2 % 2 ^ 16)) (taken-xor (a / 2 ^ 15) (b / 2 ^ 15) (omega arith) (omega arith))
    ∙ ap (λ (x : ℕ). bit_xor x (bit_xor (taken (a / 2 ^ 15)) (taken (b / 2 ^ 15)))) (sym (shifted-xor a b))
    ∙ swap-middle (a * 2 % 2 ^ 16) (b * 2 % 2 ^ 16) (taken (a / 2 ^ 15)) (taken (b / 2 ^ 15))
    ∙ sym (ap (λ (x : ℕ). bit_xor x (bit_xor (b * 2 % 2 ^ 16) (taken (b / 2 ^ 15)))) (step-is a))
    ∙ sym (ap (bit_xor (register_step a)) (step-is b))

pub step-fits : (r : ℕ) → register_step r < 2 ^ 16
step-fits r = chosen-fits (eqb (r / 2 ^ 15) 1) (r * 2 % 2 ^ 16) (omega arith)

pub after-xor : (n a b : ℕ) → a < 2 ^ 16 → b < 2 ^ 16
    → register_after n (bit_xor a b) ≡ bit_xor (register_after n a) (register_after n b)
after-xor zero a b p q = refl
after-xor (suc n) a b p q =
    ap (register_after n) (step-xor a b p q)
    ∙ after-xor n (register_step a) (register_step b) (step-fits a) (step-fits b)

-- The register performs the division.

-- the bits still to be divided: the zeros of an octet whose bits are in the register, the octets, and 16 zeros
abbrev bits_left : ℕ → List ℕ → List Bool
bits_left zeros octets = replicate zeros false ++ (octet_bits octets ++ replicate 16 false)

-- the rest of the division, with the register over the bits that are left
unfoldable pub divided : ℕ → ℕ → List ℕ → List Bool
divided register zeros octets =
    remainder (zeros + 8 * length octets) (sum_without_carries (bits_of 16 register) (bits_left zeros octets))

bits_left-long : (zeros : ℕ) (octets : List ℕ) → 16 ≤ length (bits_left zeros octets)
bits_left-long zeros octets =
    omega (
      arith,
      length-append (replicate zeros false) (octet_bits octets ++ replicate 16 false),
      length-append
          (octet_bits octets) (replicate 16 false),
    )

-- the register with an octet in its first half
pub takes_octet : (r x : ℕ) (xs : List ℕ) → divided (bit_xor r (x * 2 ^ 8)) 8 xs ≡ divided r 0 (x ∷ xs)
unfolding divided
takes_octet r x xs =
    let rest : List Bool = octet_bits xs ++ replicate 16 false in
    let long : 8 ≤ length rest = omega (arith, length-append (octet_bits xs) (replicate 16 false)) in
    let moved : sum_without_carries (bits_of 16 (x * 2 ^ 8)) (replicate 8 false ++ rest) ≡ bits_of 8 x ++ rest =
    ap (λ (b : List Bool). sum_without_carries b (replicate 8 false ++ rest)) (bits_of-shifted 8 x 8)
    ∙ sum-apart (bits_of 8 x) rest 8 long in
    let whole : octet_bits (x ∷ xs) ++ replicate 16 false ≡ bits_of 8 x ++ rest =
    ap (λ (b : List Bool). b ++ replicate 16 false) (flat_map-cons (bits_of 8) x xs)
    ∙ append_assoc (bits_of 8 x) (octet_bits xs) (replicate 16 false) in
    let sums : sum_without_carries (bits_of 16 (bit_xor r (x * 2 ^ 8))) (replicate 8 false ++ rest)
    ≡ sum_without_carries (bits_of 16 r) (octet_bits (x ∷ xs) ++ replicate 16 false) =
    ap (λ (b : List Bool). sum_without_carries b (replicate 8 false ++ rest)) (bits_of-xor 16 r (x * 2 ^ 8))
    ∙ sum-assoc (bits_of 16 r) (bits_of 16 (x * 2 ^ 8)) (replicate 8 false ++ rest)
    ∙ ap (sum_without_carries (bits_of 16 r)) (moved ∙ sym whole) in
    let count : 8 + 8 * length xs ≡ 0 + 8 * length (x ∷ xs) = omega arith in
    ap (remainder (8 + 8 * length xs)) sums
    ∙ ap (λ (n : ℕ). remainder n (sum_without_carries (bits_of 16 r) (octet_bits (x ∷ xs) ++ replicate 16 false)))
    count

-- one step of the division, if the next bit that comes in is 0
one_step : (b : Bool) (low : List Bool) (n : ℕ) (rest : List Bool)
    → remainder (suc n) (sum_without_carries (b ∷ low) (false ∷ rest))
    ≡ remainder n (cond b (sum_without_carries generator_rest (sum_without_carries low rest))
    (sum_without_carries low rest))
unfolding remainder
one_step b low n rest =
    ap (λ (c : Bool). remainder n (cond c (sum_without_carries generator_rest (sum_without_carries low rest))
    (sum_without_carries low rest))) (bit_sum-false b)

-- the register shifted by one bit, as bits
moved_on : (r : ℕ) (rest : List Bool) → 16 ≤ length rest
    → sum_without_carries (bits_of 16 (r * 2 % 2 ^ 16)) rest ≡ sum_without_carries (bits_of 15 r) rest
moved_on r rest h =
    let bits : bits_of 16 (r * 2 % 2 ^ 16) ≡ bits_of 15 r ++ false ∷ [] =
    bits_of-mod 16 16 (r * 2) (omega arith) ∙ bits_of-shifted 15 r 1 in
    ap (λ (b : List Bool). sum_without_carries b rest) bits ∙ sum-longer (bits_of 15 r) rest h

-- either case of the register's step
stepped : (b : Bool) (r : ℕ) (rest : List Bool) → 16 ≤ length rest
    → sum_without_carries (bits_of 16 (cond b (bit_xor (r * 2 % 2 ^ 16) 0x1021) (r * 2 % 2 ^ 16))) rest
    ≡ cond b (sum_without_carries generator_rest (sum_without_carries (bits_of 15 r) rest))
    (sum_without_carries (bits_of 15 r) rest)
stepped false r rest h = moved_on r rest h
stepped true r rest h =
    let m : ℕ = r * 2 % 2 ^ 16 in
    ap (λ (b : List Bool). sum_without_carries b rest)
    (bits_of-xor 16 m 0x1021 ∙ sum-comm (bits_of 16 m) generator_rest)
    ∙ sum-assoc generator_rest (bits_of 16 m) rest
    ∙ ap (sum_without_carries generator_rest) (moved_on r rest h)

-- one more bit
pub takes_bit : (r zeros : ℕ) (xs : List ℕ) → r < 2 ^ 16 → divided (register_step r) zeros xs ≡ divided r (suc zeros) xs
unfolding divided
takes_bit r zeros xs lt =
    let top : r / 2 ^ 15 % 2 ≡ r / 2 ^ 15 = omega arith in
    let b : Bool = eqb (r / 2 ^ 15) 1 in
    let rest : List Bool = bits_left zeros xs in
    let n : ℕ = zeros + 8 * length xs in
    let count : suc zeros + 8 * length xs ≡ suc n = omega arith in
    let bit : eqb (bit_at r 15) 1 ≡ b = ap (λ (k : ℕ). eqb k 1) top in
    let whole : sum_without_carries (bits_of 16 r) (bits_left (suc zeros) xs)
    ≡ sum_without_carries (b ∷ bits_of 15 r) (false ∷ rest) =
    ap (λ (c : Bool). sum_without_carries (c ∷ bits_of 15 r) (false ∷ rest)) bit in
    ap (remainder n) (stepped b r rest (bits_left-long zeros xs))
    ∙ sym (one_step b (bits_of 15 r) n rest)
    ∙ ap (remainder (suc n)) (sym whole)
    ∙ ap (λ (k : ℕ). remainder k (sum_without_carries (bits_of 16 r) (bits_left (suc zeros) xs))) (sym count)

-- only the register is left
pub divided_all : (r : ℕ) → r < 2 ^ 16 → number_of_bits (divided r 0 []) ≡ r
unfolding divided remainder
divided_all r lt =
    let long : 16 ≤ length (bits_of 16 r) = omega (arith, length-bits_of 16 r) in
    let bits : sum_without_carries (bits_of 16 r) (replicate 16 false) ≡ bits_of 16 r =
    sum-comm (bits_of 16 r) (replicate 16 false) ∙ sum-zeros 16 (bits_of 16 r) long in
    let whole : r % 2 ^ 16 ≡ r = omega arith in
    ap number_of_bits bits ∙ number_of_bits-bits_of 16 r ∙ whole

-- at first the register is all ones
pub divided_first : (octets : List ℕ) → number_of_bits (divided 0xffff 0 octets) ≡ check_of octets
unfolding divided check_of
divided_first octets =
    let count : 0 + 8 * length octets ≡ 8 * length octets = omega arith in
    ap (λ (n : ℕ). number_of_bits (remainder n
    (sum_without_carries (replicate 16 true) (octet_bits octets ++ replicate 16 false)))) count

-- the end of a loop over the octets that are left
pub check_from : (r i : ℕ) (left octets : List ℕ) → r < 2 ^ 16 → length left ≤ i
    → divided r 0 (drop i left) ≡ divided 0xffff 0 octets → r ≡ check_of octets
check_from r i left octets fits le e =
    sym (divided_all r fits) ∙ ap (λ (xs : List ℕ). number_of_bits (divided r 0 xs)) (sym (drop_all i left le))
    ∙ ap number_of_bits e ∙ divided_first octets
