-- The 32-bit register performs the division bit by bit.
use Rattle.std.proofs.Common.{◌≡◌, ℕ, zero, suc, ◌+◌, ◌-◌, ◌*◌, ◌/◌, ◌%◌, ◌^◌, ◌<◌, ◌≤◌, Bool, true, false, cond, eqb}
use Rattle.std.proofs.Common.{List, [], ◌∷◌, ◌++◌, length, drop, refl, sym, ap, ◌∙◌, arith, append_assoc}
use Rattle.std.proofs.Common.{length-append}
use Rattle.std.specs.Prelude.{bit_xor, replicate, slice_index}
use Rattle.std.proofs.lemmas.Nat.{xor_mod, xor_shr, xor_lt}
use Rattle.std.proofs.lemmas.List.{drop_all, drop_more}
use Rattle.std.proofs.lemmas.List.Concat.{flat_map-cons}
use Rattle.std.proofs.Math.Nat.{pow-suc}
use Rattle.octets.specs.Check.{bit_sum, sum_without_carries}
use Rattle.octets.proofs.Bits.{bit_sum-false, sum-assoc, sum-comm, sum-zeros, sum-longer, sum-apart}
use Rattle.command_log.specs.Check.{low_bits, number_of_low_bits, octet_bits, generator_rest, remainder, check_of}
use Rattle.command_log.specs.Check.{check_after, register_step, register_after}

step_fits : (b : Bool) (half : ℕ) → half < 2 ^ 32 → cond b (bit_xor half 0xEDB88320) half < 2 ^ 32
step_fits true half h = xor_lt 32 half 0xEDB88320 h (omega arith)
step_fits false half h = h

pub register_fits : (r : ℕ) → r < 2 ^ 32 → register_step r < 2 ^ 32
register_fits r h = step_fits (eqb (r % 2) 1) (r / 2) (omega arith)

-- ---- bits, the lowest first

pub length-low_bits : (n x : ℕ) → length (low_bits n x) ≡ n
length-low_bits zero x = refl
length-low_bits (suc n) x = ap suc (length-low_bits n (x / 2))

parity : (a b : ℕ) → a < 2 → b < 2 → eqb (bit_xor a b) 1 ≡ bit_sum (eqb a 1) (eqb b 1)
parity zero zero p q = refl
parity zero (suc zero) p q = refl
parity (suc zero) zero p q = refl
parity (suc zero) (suc zero) p q = refl
parity (suc (suc a)) b p q = absurd (omega arith)
parity a (suc (suc b)) p q = absurd (omega arith)

pub low_bits-xor : (n a b : ℕ) → low_bits n (bit_xor a b) ≡ sum_without_carries (low_bits n a) (low_bits n b)
low_bits-xor zero a b = refl
low_bits-xor (suc n) a b =
    let lowest : bit_xor a b % 2 ≡ bit_xor (a % 2) (b % 2) = xor_mod a b 1 in
    let half : bit_xor a b / 2 ≡ bit_xor (a / 2) (b / 2) = xor_shr a b 1 in
    let bit : eqb (bit_xor a b % 2) 1 ≡ bit_sum (eqb (a % 2) 1) (eqb (b % 2) 1) =
    ap (λ (k : ℕ). eqb k 1) lowest ∙ parity (a % 2) (b % 2) (omega arith) (omega arith) in
    rw (bit, half, low_bits-xor n (a / 2) (b / 2)) refl

low_bits-zero : (n : ℕ) → low_bits n 0 ≡ replicate n false
low_bits-zero zero = refl
low_bits-zero (suc n) = ap (λ (bits : List Bool). false ∷ bits) (low_bits-zero n)

-- a small number has zeros in its higher bits
low_bits-small : (k n x : ℕ) → x < 2 ^ k → low_bits (k + n) x ≡ low_bits k x ++ replicate n false
low_bits-small zero n x h =
    let none : x ≡ 0 = omega arith in
    let count : 0 + n ≡ n = omega arith in
    rw (none, count) (low_bits-zero n)
low_bits-small (suc k) n x h =
    let power : 2 ^ suc k ≡ 2 ^ k * 2 = pow-suc 2 k in
    let count : suc k + n ≡ suc (k + n) = omega arith in
    let rest : low_bits (k + n) (x / 2) ≡ low_bits k (x / 2) ++ replicate n false =
    low_bits-small k n (x / 2) (omega arith) in
    rw (count, rest) refl

bit_value : (b half : ℕ) → b < 2 → cond (eqb b 1) 1 0 + 2 * half ≡ b + 2 * half
bit_value zero half h = refl
bit_value (suc zero) half h = refl
bit_value (suc (suc b)) half h = absurd (omega arith)

pub number_again : (n x : ℕ) → x < 2 ^ n → number_of_low_bits (low_bits n x) ≡ x
number_again zero x h = omega arith
number_again (suc n) x h =
    let power : 2 ^ suc n ≡ 2 ^ n * 2 = pow-suc 2 n in
    let rest : number_of_low_bits (low_bits n (x / 2)) ≡ x / 2 = number_again n (x / 2) (omega arith) in
    rw rest (bit_value (x % 2) (x / 2) (omega arith) ∙ omega arith)

-- ---- the division

-- the bits still to be divided: the zeros of an octet whose bits are in the register, the octets, and 32 zeros
abbrev bits_left : ℕ → List ℕ → List Bool
bits_left zeros octets = replicate zeros false ++ (octet_bits octets ++ replicate 32 false)

-- the rest of the division, with the register over the bits that are left
unfoldable pub divided : ℕ → ℕ → List ℕ → List Bool
divided register zeros octets =
    remainder (zeros + 8 * length octets) (sum_without_carries (low_bits 32 register) (bits_left zeros octets))

bits_left-long : (zeros : ℕ) (octets : List ℕ) → 32 ≤ length (bits_left zeros octets)
bits_left-long zeros octets =
    omega (
      arith,
      length-append (replicate zeros false) (octet_bits octets ++ replicate 32 false),
      length-append (octet_bits octets) (replicate 32 false),
    )

-- the register with an octet in it
pub takes_octet : (r x : ℕ) (xs : List ℕ) → x < 2 ^ 8 → divided (bit_xor r x) 8 xs ≡ divided r 0 (x ∷ xs)
unfolding divided
takes_octet r x xs small =
    let rest : List Bool = octet_bits xs ++ replicate 32 false in
    let long : 24 ≤ length rest = omega (arith, length-append (octet_bits xs) (replicate 32 false)) in
    let moved : sum_without_carries (low_bits 32 x) (replicate 8 false ++ rest) ≡ low_bits 8 x ++ rest =
    ap (λ (b : List Bool). sum_without_carries b (replicate 8 false ++ rest)) (low_bits-small 8 24 x small)
    ∙ sum-apart (low_bits 8 x) rest 24 long in
    let whole : octet_bits (x ∷ xs) ++ replicate 32 false ≡ low_bits 8 x ++ rest =
    ap (λ (b : List Bool). b ++ replicate 32 false) (flat_map-cons (low_bits 8) x xs)
    ∙ append_assoc (low_bits 8 x) (octet_bits xs) (replicate 32 false) in
    let sums : sum_without_carries (low_bits 32 (bit_xor r x)) (replicate 8 false ++ rest)
    ≡ sum_without_carries (low_bits 32 r) (octet_bits (x ∷ xs) ++ replicate 32 false) =
    ap (λ (b : List Bool). sum_without_carries b (replicate 8 false ++ rest)) (low_bits-xor 32 r x)
    ∙ sum-assoc (low_bits 32 r) (low_bits 32 x) (replicate 8 false ++ rest)
    ∙ ap (sum_without_carries (low_bits 32 r)) (moved ∙ sym whole) in
    let count : 8 + 8 * length xs ≡ 0 + 8 * length (x ∷ xs) = omega arith in
    ap (remainder (8 + 8 * length xs)) sums
    ∙ ap (λ (n : ℕ). remainder n (sum_without_carries (low_bits 32 r) (octet_bits (x ∷ xs) ++ replicate 32 false)))
    count

-- one step of the division, if the next bit that comes in is 0
one_step : (b : Bool) (low : List Bool) (n : ℕ) (rest : List Bool)
    → remainder (suc n) (sum_without_carries (b ∷ low) (false ∷ rest))
    ≡ remainder n (cond b (sum_without_carries generator_rest (sum_without_carries low rest))
    (sum_without_carries low rest))
unfolding remainder
one_step b low n rest =
    ap (λ (c : Bool). remainder n (cond c (sum_without_carries generator_rest (sum_without_carries low rest))
    (sum_without_carries low rest))) (bit_sum-false b)

-- the register shifted by one bit, as bits
moved_on : (half : ℕ) (rest : List Bool) → half < 2 ^ 31 → 32 ≤ length rest
    → sum_without_carries (low_bits 32 half) rest ≡ sum_without_carries (low_bits 31 half) rest
moved_on half rest small h =
    ap (λ (b : List Bool). sum_without_carries b rest) (low_bits-small 31 1 half small)
    ∙ sum-longer (low_bits 31 half) rest (omega (arith, length-low_bits 31 half))

generator_is : low_bits 32 0xEDB88320 ≡ generator_rest
generator_is = refl

-- either case of the register's step
stepped : (b : Bool) (half : ℕ) (rest : List Bool) → half < 2 ^ 31 → 32 ≤ length rest
    → sum_without_carries (low_bits 32 (cond b (bit_xor half 0xEDB88320) half)) rest
    ≡ cond b (sum_without_carries generator_rest (sum_without_carries (low_bits 31 half) rest))
    (sum_without_carries (low_bits 31 half) rest)
stepped false half rest small h = moved_on half rest small h
stepped true half rest small h =
    ap (λ (b : List Bool). sum_without_carries b rest)
    (low_bits-xor 32 half 0xEDB88320 ∙ sum-comm (low_bits 32 half) (low_bits 32 0xEDB88320))
    ∙ ap (λ (g : List Bool). sum_without_carries (sum_without_carries g (low_bits 32 half)) rest) generator_is
    ∙ sum-assoc generator_rest (low_bits 32 half) rest
    ∙ ap (sum_without_carries generator_rest) (moved_on half rest small h)

-- one more bit
pub takes_bit : (r zeros : ℕ) (xs : List ℕ) → r < 2 ^ 32 → divided (register_step r) zeros xs ≡ divided r (suc zeros) xs
unfolding divided
takes_bit r zeros xs small =
    let rest : List Bool = bits_left zeros xs in
    let n : ℕ = zeros + 8 * length xs in
    let count : suc zeros + 8 * length xs ≡ suc n = omega arith in
    ap (remainder n) (stepped (eqb (r % 2) 1) (r / 2) rest (omega arith) (bits_left-long zeros xs))
    ∙ sym (one_step (eqb (r % 2) 1) (low_bits 31 (r / 2)) n rest)
    ∙ ap (λ (k : ℕ). remainder k (sum_without_carries (low_bits 32 r) (bits_left (suc zeros) xs))) (sym count)

pub takes_bits : (n r : ℕ) (xs : List ℕ) → r < 2 ^ 32 → divided (register_after n r) 0 xs ≡ divided r n xs
takes_bits zero r xs small = refl
takes_bits (suc n) r xs small =
    takes_bits n (register_step r) xs (register_fits r small) ∙ takes_bit r n xs small

-- one of the octets that are left
pub takes_octet_at : (r next i : ℕ) (octets : List ℕ) → r < 2 ^ 32 → i < length octets
    → slice_index octets i < 2 ^ 8 → next ≡ register_after 8 (bit_xor r (slice_index octets i))
    → divided next 0 (drop (i + 1) octets) ≡ divided r 0 (drop i octets)
takes_octet_at r next i octets small lt octet e =
    let x : ℕ = slice_index octets i in
    ap (λ (n : ℕ). divided n 0 (drop (i + 1) octets)) e
    ∙ takes_bits 8 (bit_xor r x) (drop (i + 1) octets) (xor_lt 32 r x small (omega arith))
    ∙ takes_octet r x (drop (i + 1) octets) octet
    ∙ ap (divided r 0) (sym (drop_more octets i 0 lt))

-- only the register is left
pub divided_all : (r : ℕ) → r < 2 ^ 32 → number_of_low_bits (divided r 0 []) ≡ r
unfolding divided remainder
divided_all r small =
    let long : 32 ≤ length (low_bits 32 r) = omega (arith, length-low_bits 32 r) in
    let bits : sum_without_carries (low_bits 32 r) (replicate 32 false) ≡ low_bits 32 r =
    sum-comm (low_bits 32 r) (replicate 32 false) ∙ sum-zeros 32 (low_bits 32 r) long in
    ap number_of_low_bits bits ∙ number_again 32 r small

-- at first the register is all ones
pub divided_first : (octets : List ℕ) → 4294967295 - number_of_low_bits (divided 0xffffffff 0 octets) ≡ check_of octets
unfolding divided check_of
divided_first octets =
    let count : 0 + 8 * length octets ≡ 8 * length octets = omega arith in
    ap (λ (n : ℕ). 4294967295 - number_of_low_bits (remainder n
    (sum_without_carries (replicate 32 true) (octet_bits octets ++ replicate 32 false)))) count

-- then it has the bits of another check
pub divided_after : (check : ℕ) (octets : List ℕ)
    → 4294967295 - number_of_low_bits (divided (4294967295 - check) 0 octets) ≡ check_after check octets
unfolding divided check_after
divided_after check octets =
    let count : 0 + 8 * length octets ≡ 8 * length octets = omega arith in
    ap (λ (n : ℕ). 4294967295 - number_of_low_bits (remainder n
    (sum_without_carries (low_bits 32 (4294967295 - check)) (octet_bits octets ++ replicate 32 false)))) count

-- the check of no octets is 0
pub check_from_none : (octets : List ℕ) → check_after 0 octets ≡ check_of octets
check_from_none octets = sym (divided_after 0 octets) ∙ divided_first octets

-- the end of a loop over the octets that are left
pub check_from : (r i check : ℕ) (left octets : List ℕ) → r < 2 ^ 32 → length left ≤ i
    → divided r 0 (drop i left) ≡ divided (4294967295 - check) 0 octets → 4294967295 - r ≡ check_after check octets
check_from r i check left octets small le e =
    let all : number_of_low_bits (divided (4294967295 - check) 0 octets) ≡ r =
    sym (ap number_of_low_bits e) ∙ ap (λ (xs : List ℕ). number_of_low_bits (divided r 0 xs)) (drop_all i left le)
    ∙ divided_all r small in
    ap (λ (n : ℕ). 4294967295 - n) (sym all) ∙ divided_after check octets

-- the loop over the bits of an octet
pub one_bit_less : (i r next last : ℕ) → i < 8 → next ≡ register_step r → register_after (8 - i) r ≡ last
    → register_after (8 - (i + 1)) next ≡ last
one_bit_less i r next last lt e is =
    let count : 8 - i ≡ suc (8 - (i + 1)) = omega arith in
    ap (register_after (8 - (i + 1))) e ∙ sym (ap (λ (n : ℕ). register_after n r) count) ∙ is
