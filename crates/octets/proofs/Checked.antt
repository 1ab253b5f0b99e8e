-- Octets cut out of others, and written among others.
use Rattle.std.proofs.Common.{◌≡◌, ◌≤◌, ◌<◌, ℕ, suc, ◌+◌, ◌-◌, List, [], ◌∷◌, ◌++◌, length, get_or}
use Rattle.std.proofs.Common.{take, drop, ap, ◌∙◌, arith, inl, inr, ◌/◌, ◌%◌, zero, ◌*◌, ◌^◌, Bool}
use Rattle.std.proofs.Common.{true, false, refl, length-append, sym, length-drop}
use Rattle.std.specs.Prelude.{slice_set, replicate}
use Rattle.std.proofs.lemmas.Bool.{cases_lt}
use Rattle.std.proofs.lemmas.List.{append-nil, drop_all, drop_more, get_or-take, get_or-drop}
use Rattle.std.proofs.lemmas.List.{get_or_past, length-take, take_at, drop_at, take-append-drop}
use Rattle.octets.specs.Number.{IsOctets, number_of}
use borrow.Rule.Slice.PartMut.{put_mid}
use Rattle.byteorder.specs.Endian.{big_bytes}
use Rattle.std.proofs.lemmas.List.Concat.{flat_map-cons}
use Rattle.std.proofs.Math.Nat.{pow-suc}
use Rattle.octets.specs.Check.{bits_of, sum_without_carries, number_of_bits, octet_bits}
use Rattle.octets.specs.Check.{generator_rest, remainder, check_of, HoldsCheck}

-- the octets of a front are octets
pub take_fits : (octets : List ℕ) (n : ℕ) → IsOctets octets → IsOctets (take n octets)
take_fits octets n fits i =
    elim (cases_lt i n) [
      | inl lt ↦ rw (get_or-take n octets i 0 lt) (fits i)
      | inr le ↦ rw (get_or_past (take n octets) i 0 (omega (arith, length-take n octets))) (omega arith)
    ]

-- the octets from a place on are octets
pub drop_fits : (octets : List ℕ) (k : ℕ) → IsOctets octets → IsOctets (drop k octets)
drop_fits octets k fits i = rw get_or-drop (fits (k + i))

-- the first octet of a part is an octet
pub cut_fits : (octets : List ℕ) (n k : ℕ) → IsOctets octets → get_or (drop k (take n octets)) 0 0 < 256
cut_fits octets n k fits = drop_fits (take n octets) k (take_fits octets n fits) 0

-- a part from place k on is the octet there and what follows it
pub cut_next : (octets : List ℕ) (n k : ℕ) → k < n → n ≤ length octets
    → drop k (take n octets) ≡ get_or octets k 0 ∷ drop (k + 1) (take n octets)
cut_next octets n k lt long =
    drop_more (take n octets) k 0 (omega (arith, length-take n octets))
    ∙ ap (λ (x : ℕ). x ∷ drop (k + 1) (take n octets)) (get_or-take n octets k 0 lt)

-- a first octet, and then a write to all others
pub put_head : (out : List ℕ) (v : ℕ) (ys : List ℕ) → 0 < length out
    → put_mid 1 (length (slice_set out 0 v) - 1) (slice_set out 0 v) ys ≡ v ∷ ys
put_head [] v ys h = absurd (omega arith)
put_head (x ∷ xs) v ys h =
    ap (λ (t : List ℕ). v ∷ (ys ++ t)) (drop_all (suc (length xs) - 1) xs (omega arith))
    ∙ ap (λ (t : List ℕ). v ∷ t) (append-nil ys)

-- Numbers that octets spell, and the octets of a number.

-- a number in two octets, read back from the front
pub number_of_two : (n : ℕ) (rest : List ℕ) → n < 65536 → number_of (take 2 (big_bytes 2 n ++ rest)) ≡ n
number_of_two n rest lt = omega arith

-- a number in two octets, read back
pub number_of_last : (n : ℕ) → n < 65536 → number_of (big_bytes 2 n) ≡ n
number_of_last n lt = omega arith

-- two octets spell a number of 16 bits
pub two_below : (octets : List ℕ) → IsOctets octets → number_of (take 2 octets) < 65536
two_below [] fits = omega arith
two_below (x ∷ []) fits = omega (arith, fits 0)
two_below (x ∷ y ∷ rest) fits = omega (arith, fits 0, fits 1)

-- two octets are the octets of their number
pub two_octets : (octets : List ℕ) → length octets ≡ 2 → IsOctets octets → octets ≡ big_bytes 2 (number_of octets)
two_octets [] e fits = absurd (omega arith)
two_octets (x ∷ []) e fits = absurd (omega arith)
two_octets (x ∷ y ∷ []) e fits =
    let low : y < 256 = fits 1 in
    let high : x < 256 = fits 0 in
    let first : x ≡ number_of (x ∷ y ∷ []) / 256 % 256 = omega arith in
    let second : y ≡ number_of (x ∷ y ∷ []) % 256 = omega arith in
    ap (λ (a : ℕ). a ∷ y ∷ []) first ∙ ap (λ (b : ℕ). number_of (x ∷ y ∷ []) / 256 % 256 ∷ b ∷ []) second
two_octets (x ∷ y ∷ z ∷ rest) e fits = absurd (omega arith)

-- The check of a frame: it fits 16 bits, and octets end with it.

-- A check fits 16 bits.

pub number_of_bits-below : (bits : List Bool) → number_of_bits bits < 2 ^ length bits
number_of_bits-below [] = omega arith
number_of_bits-below (true ∷ bits) = let h = number_of_bits-below bits in omega (arith, pow-suc 2 (length bits))
number_of_bits-below (false ∷ bits) = let h = number_of_bits-below bits in omega (arith, pow-suc 2 (length bits))

pub length-sum : (xs ys : List Bool) → length xs ≤ length ys → length (sum_without_carries xs ys) ≡ length ys
length-sum [] ys h = refl
length-sum (x ∷ xs) [] h = absurd (omega arith)
length-sum (x ∷ xs) (y ∷ ys) h = ap suc (length-sum xs ys (omega arith))

pub length-remainder : (n : ℕ) (bits : List Bool) → length bits ≡ n + 16 → length (remainder n bits) ≡ 16
unfolding remainder
length-remainder zero bits h = omega arith
length-remainder (suc n) [] h = absurd (omega arith)
length-remainder (suc n) (true ∷ bits) h =
    length-remainder n (sum_without_carries generator_rest bits)
    (omega (arith, length-sum generator_rest bits (omega arith)))
length-remainder (suc n) (false ∷ bits) h = length-remainder n bits (omega arith)

pub length-octet_bits : (octets : List ℕ) → length (octet_bits octets) ≡ 8 * length octets
length-octet_bits [] = refl
length-octet_bits (x ∷ xs) =
    let h = length-octet_bits xs in omega (
      arith,
      ap length (flat_map-cons (bits_of 8) x xs),
      length-append
          (bits_of 8 x) (octet_bits xs),
    )

pub check_of-below : (octets : List ℕ) → check_of octets < 2 ^ 16
unfolding check_of
check_of-below octets =
    let rest : List Bool = octet_bits octets ++ replicate 16 false in
    let long : length rest ≡ 8 * length octets + 16 =
    omega (arith, length-append (octet_bits octets) (replicate 16 false), length-octet_bits octets) in
    let all : length (sum_without_carries (replicate 16 true) rest) ≡ 8 * length octets + 16 =
    length-sum (replicate 16 true) rest (omega arith) ∙ long in
    let left = length-remainder (8 * length octets) (sum_without_carries (replicate 16 true) rest) all in
    rw left at (number_of_bits-below (remainder (8 * length octets) (sum_without_carries (replicate 16 true) rest)))

-- Octets that end with their check.

-- what was set is found again
pub holds_check : (front : List ℕ) → HoldsCheck (front ++ big_bytes 2 (check_of front))
holds_check front =
    let tail : List ℕ = big_bytes 2 (check_of front) in
    let len : length front ≡ length (front ++ tail) - 2 = omega (arith, length-append front tail) in
    record {
      long = omega (arith, length-append front tail);
      same = ap number_of (drop_at front tail (length (front ++ tail) - 2) len)
          ∙ number_of_last (check_of front) (check_of-below front)
          ∙ ap check_of (sym (take_at front tail (length (front ++ tail) - 2) len));
    }

-- octets that end with their check are the octets before it, followed by the check that is set
pub checked_are : (octets : List ℕ) → IsOctets octets → HoldsCheck octets
    → octets ≡ take (length octets - 2) octets ++ big_bytes 2 (check_of (take (length octets - 2) octets))
checked_are octets fits h =
    let n : ℕ = length octets - 2 in
    let tail : drop n octets ≡ big_bytes 2 (number_of (drop n octets)) =
    two_octets (drop n octets) (omega (arith, length-drop n octets, h.long)) (drop_fits octets n fits) in
    sym (take-append-drop n octets) ∙ ap (λ (t : List ℕ). take n octets ++ t) (tail ∙ ap (big_bytes 2) h.same)
