-- The rule of the check's tables at each entry, from one test over all entries, and the register after octets.
use Rattle.std.proofs.Common.{◌≡◌, ℕ, zero, suc, ◌+◌, ◌*◌, ◌/◌, ◌%◌, ◌^◌, ◌<◌, ◌≤◌, Bool, true, eqb, List, [], ◌∷◌}
use Rattle.std.proofs.Common.{◌++◌, length, get_or, take, drop, refl, sym, ap, subst, ◌∙◌, arith, inl, inr}
use Rattle.std.specs.Prelude.{◌&&◌, bit_xor}
use Rattle.std.specs.Int.Bits.{xor_zero_r, xor_assoc, xor_block, xor_shifted}
use Rattle.std.proofs.lemmas.Nat.{shr_split, xor_comm, xor_lt}
use Rattle.std.proofs.lemmas.List.{drop_more, get_or-drop, length-drop, length-take-le, take-append-drop}
use Rattle.std.proofs.Math.ListN.{drop_of_length-le}
use Rattle.octets.proofs.Division.{divided, takes_octet, takes_bit}
use Rattle.octets.proofs.Division.{register_step, register_after, after-xor, step-fits}
use Rattle.std.proofs.lemmas.Bool.{eqb-true, cases_lt, and_parts}
use Rattle.octets.specs.declared.table.TheConstants.{TABLES}
use Rattle.octets.specs.Number.{IsOctets}
use Rattle.octets.specs.Check.{entries, entries_after}

-- ---- each entry

-- the first n entries from place i on are what the register becomes if it contains only the entry's place
abbrev entries_hold : ℕ → ℕ → List ℕ → Bool
entries_hold zero i xs = true
entries_hold (suc n) i [] = true
entries_hold (suc n) i (x ∷ xs) = eqb x (register_after 8 (i * 256)) && entries_hold n (i + 1) xs

entry_is : (n i : ℕ) (xs : List ℕ) (k : ℕ) → entries_hold n i xs ≡ true → k < n → k < length xs
    → get_or xs k 0 ≡ register_after 8 ((i + k) * 256)
entry_is zero i xs k e lt in_list = absurd (omega arith)
entry_is (suc n) i [] k e lt in_list = absurd (omega arith)
entry_is (suc n) i (x ∷ xs) zero e lt in_list =
    let place : i ≡ i + 0 = omega arith in
    eqb-true x (register_after 8 (i * 256)) (and_parts _ _ e).0
    ∙ ap (λ (n : ℕ). register_after 8 (n * 256)) place
entry_is (suc n) i (x ∷ xs) (suc k) e lt in_list =
    let place : (i + 1) + k ≡ i + suc k = omega arith in
    entry_is n (i + 1) xs k (and_parts _ _ e).1 (omega arith) (omega arith)
    ∙ ap (λ (n : ℕ). register_after 8 (n * 256)) place

-- each entry of the second list is what the entry of the first becomes one octet later
abbrev follows : List ℕ → List ℕ → Bool
follows xs [] = true
follows [] (y ∷ ys) = true
follows (x ∷ xs) (y ∷ ys) = eqb y (register_after 8 x) && follows xs ys

follows_is : (xs ys : List ℕ) (k : ℕ) → follows xs ys ≡ true → k < length xs → k < length ys
    → get_or ys k 0 ≡ register_after 8 (get_or xs k 0)
follows_is xs [] k e lt in_list = absurd (omega arith)
follows_is [] (y ∷ ys) k e lt in_list = absurd (omega arith)
follows_is (x ∷ xs) (y ∷ ys) zero e lt in_list = eqb-true y (register_after 8 x) (and_parts _ _ e).0
follows_is (x ∷ xs) (y ∷ ys) (suc k) e lt in_list =
    follows_is xs ys k (and_parts _ _ e).1 (omega arith) (omega arith)

table_holds : entries_hold 256 0 TABLES ≡ true
table_holds = refl

tables_follow : follows TABLES (drop 256 TABLES) ≡ true
tables_follow = refl

-- the register n octets later, with nothing added
abbrev later : ℕ → ℕ → ℕ
later zero r = r
later (suc n) r = later n (register_after 8 r)

later-after : (n r : ℕ) → later n (register_after 8 r) ≡ register_after 8 (later n r)
later-after zero r = refl
later-after (suc n) r = later-after n (register_after 8 r)

entry_later : (n place : ℕ) → n < 16 → place < 256
    → get_or TABLES (n * 256 + place) 0 ≡ later n (register_after 8 (place * 256))
entry_later zero place few small =
    let start : 0 * 256 + place ≡ place = omega arith in
    let at : 0 + place ≡ place = omega arith in
    ap (λ (i : ℕ). get_or TABLES i 0) start
    ∙ entry_is 256 0 TABLES place table_holds small (omega arith)
    ∙ ap (λ (i : ℕ). register_after 8 (i * 256)) at
entry_later (suc n) place few small =
    let next : (suc n) * 256 + place ≡ 256 + (n * 256 + place) = omega arith in
    ap (λ (i : ℕ). get_or TABLES i 0) next
    ∙ sym (get_or-drop 256 TABLES (n * 256 + place) 0)
    ∙ follows_is TABLES (drop 256 TABLES) (n * 256 + place) tables_follow (omega arith) (omega arith)
    ∙ ap (register_after 8) (entry_later n place (omega arith) small)
    ∙ sym (later-after n (register_after 8 (place * 256)))

-- ---- the loop over octets

-- every number below n passes
abbrev all_below : ℕ → (ℕ → Bool) → Bool
all_below zero p = true
all_below (suc n) p = p n && all_below n p

below_is : (n : ℕ) (p : ℕ → Bool) (k : ℕ) → all_below n p ≡ true → k < n → p k ≡ true
below_is zero p k e lt = absurd (omega arith)
below_is (suc n) p k e lt =
    elim (cases_lt k n) [
      | inl low ↦ below_is n p k (and_parts _ _ e).1 low
      | inr high ↦ let same : k ≡ n = omega arith in ap p same ∙ (and_parts _ _ e).0
    ]

low_holds : all_below 256 (λ x. eqb (register_after 8 x) (x * 256)) ≡ true
low_holds = refl

low_after : (x : ℕ) → x < 256 → register_after 8 x ≡ x * 256
low_after x lt = eqb-true _ _ (below_is 256 (λ (y : ℕ). eqb (register_after 8 y) (y * 256)) x low_holds lt)

takes_bits : (n r : ℕ) (xs : List ℕ) → r < 2 ^ 16 → divided (register_after n r) 0 xs ≡ divided r n xs
takes_bits zero r xs lt = refl
takes_bits (suc n) r xs lt = takes_bits n (register_step r) xs (step-fits r) ∙ takes_bit r n xs lt

-- the register and an octet are the table's place and the bits below it
parts : (r x : ℕ) → bit_xor r (x * 2 ^ 8) ≡ bit_xor (bit_xor (r / 2 ^ 8) x * 2 ^ 8) (r % 2 ^ 8)
parts r x =
    let whole : r / 2 ^ 8 * 2 ^ 8 + r % 2 ^ 8 ≡ r = shr_split r 8 in
    let plain : x * 2 ^ 8 + 0 ≡ x * 2 ^ 8 = omega arith in
    let block : bit_xor (r / 2 ^ 8 * 2 ^ 8 + r % 2 ^ 8) (x * 2 ^ 8 + 0) ≡ bit_xor (r / 2 ^ 8) x * 2 ^ 8
    + bit_xor (r % 2 ^ 8) 0 = xor_block 8 (r / 2 ^ 8) x (r % 2 ^ 8) 0 (omega arith) (omega arith) in
    sym (ap (λ (y : ℕ). bit_xor y (x * 2 ^ 8)) whole) ∙ sym (ap (bit_xor (r / 2 ^ 8 * 2 ^ 8 + r % 2 ^ 8)) plain) ∙ block
    ∙ ap (λ (y : ℕ). bit_xor (r / 2 ^ 8) x * 2 ^ 8 + y) (xor_zero_r (r % 2 ^ 8))
    ∙ sym (xor_shifted (bit_xor (r / 2 ^ 8) x) 8 (r % 2 ^ 8) (omega arith))

-- eight steps over the register with an octet in its first half
octet_after : (r x : ℕ) → r < 2 ^ 16 → x < 256
    → register_after 8 (bit_xor r (x * 2 ^ 8)) ≡ bit_xor (register_after 8 (bit_xor (r / 256) x * 256)) (r % 256 * 256)
octet_after r x fits small =
    let place : ℕ = bit_xor (r / 2 ^ 8) x in
    let in_table : place < 256 = xor_lt 8 (r / 2 ^ 8) x (omega arith) small in
    ap (register_after 8) (parts r x)
    ∙ after-xor 8 (place * 2 ^ 8) (r % 2 ^ 8) (omega arith) (omega arith)
    ∙ ap (bit_xor (register_after 8 (place * 2 ^ 8))) (low_after (r % 2 ^ 8) (omega arith))

steps_fit : (n r : ℕ) → r < 2 ^ 16 → register_after n r < 2 ^ 16
steps_fit zero r fits = fits
steps_fit (suc n) r fits = steps_fit n (register_step r) (step-fits r)

-- eight more steps
takes_whole_octet : (r x : ℕ) (xs : List ℕ) → r < 2 ^ 16 → x < 256
    → divided (register_after 8 (bit_xor r (x * 2 ^ 8))) 0 xs ≡ divided r 0 (x ∷ xs)
takes_whole_octet r x xs fits small =
    takes_bits 8 (bit_xor r (x * 2 ^ 8)) xs (xor_lt 16 r (x * 2 ^ 8) fits (omega arith)) ∙ takes_octet r x xs

-- ---- octets one after another

octet_fits : (r x : ℕ) → r < 2 ^ 16 → x < 256 → register_after 8 (bit_xor r (x * 2 ^ 8)) < 2 ^ 16
octet_fits r x fits small = steps_fit 8 (bit_xor r (x * 2 ^ 8)) (xor_lt 16 r (x * 2 ^ 8) fits (omega arith))

-- the register after octets
abbrev after_octets : ℕ → List ℕ → ℕ
after_octets r [] = r
after_octets r (x ∷ xs) = after_octets (register_after 8 (bit_xor r (x * 2 ^ 8))) xs

-- the octets after the first
abbrev after_first : (x : ℕ) (xs : List ℕ) → IsOctets (x ∷ xs) → IsOctets xs
after_first x xs small = λ i. small (suc i)

no_octets : IsOctets []
no_octets i = omega arith

one_octet : (x : ℕ) → x < 256 → IsOctets (x ∷ [])
one_octet x small zero = small
one_octet x small (suc i) = omega arith

from_place : (n : ℕ) (octets : List ℕ) → IsOctets octets → IsOctets (drop n octets)
from_place n octets small i = subst (λ x. x < 256) (sym (get_or-drop n octets i 0)) (small (n + i))

takes_octets : (r : ℕ) (xs rest : List ℕ) → r < 2 ^ 16 → IsOctets xs
    → divided (after_octets r xs) 0 rest ≡ divided r 0 (xs ++ rest)
takes_octets r [] rest fits small = refl
takes_octets r (x ∷ xs) rest fits small =
    takes_octets (register_after 8 (bit_xor r (x * 2 ^ 8))) xs rest (octet_fits r x fits (small 0))
    (after_first x xs small) ∙ takes_whole_octet r x (xs ++ rest) fits (small 0)

-- what the register contains and what octets add are summed at the end
apart : (a b : ℕ) (xs : List ℕ) → a < 2 ^ 16 → b < 2 ^ 16 → IsOctets xs
    → after_octets (bit_xor a b) xs ≡ bit_xor (later (length xs) a) (after_octets b xs)
apart a b [] a-fits b-fits small = refl
apart a b (x ∷ xs) a-fits b-fits small =
    let with_octet : ℕ = bit_xor b (x * 2 ^ 8) in
    let with-fits : with_octet < 2 ^ 16 = xor_lt 16 b (x * 2 ^ 8) b-fits (omega (arith, small 0)) in
    ap (λ (r : ℕ). after_octets (register_after 8 r) xs) (xor_assoc a b (x * 2 ^ 8))
    ∙ ap (λ (r : ℕ). after_octets r xs) (after-xor 8 a with_octet a-fits with-fits)
    ∙ apart (register_after 8 a) (register_after 8 with_octet) xs (steps_fit 8 a a-fits)
    (steps_fit 8 with_octet with-fits) (after_first x xs small)

-- an octet over an empty register is an entry
first_entry : (x : ℕ) (xs : List ℕ) → length xs < 16 → x < 256 → IsOctets xs
    → after_octets 0 (x ∷ xs) ≡ bit_xor (get_or TABLES (length xs * 256 + x) 0) (after_octets 0 xs)
first_entry x xs few small smalls =
    let entry : ℕ = register_after 8 (x * 2 ^ 8) in
    let fits : entry < 2 ^ 16 = steps_fit 8 (x * 2 ^ 8) (omega arith) in
    ap (λ (r : ℕ). after_octets r xs) (sym (xor_zero_r entry))
    ∙ apart entry 0 xs fits (omega arith) smalls
    ∙ ap (λ (r : ℕ). bit_xor r (after_octets 0 xs)) (sym (entry_later (length xs) x few small))

-- the octet in the register's second half waits for the next one
second_entry : (low y : ℕ) (xs : List ℕ) → low < 256 → length xs < 16 → y < 256 → IsOctets xs
    → after_octets (low * 256) (y ∷ xs)
    ≡ bit_xor (get_or TABLES (length xs * 256 + bit_xor low y) 0) (after_octets 0 xs)
second_entry low y xs low-small few small smalls =
    let block : bit_xor (low * 2 ^ 8 + 0) (y * 2 ^ 8 + 0) ≡ bit_xor low y * 2 ^ 8 + bit_xor 0 0 =
    xor_block 8 low y 0 0 (omega arith) (omega arith) in
    let left : low * 2 ^ 8 + 0 ≡ low * 256 = omega arith in
    let right : y * 2 ^ 8 + 0 ≡ y * 2 ^ 8 = omega arith in
    let out : bit_xor low y * 2 ^ 8 + 0 ≡ bit_xor low y * 2 ^ 8 = omega arith in
    let joined : bit_xor (low * 256) (y * 2 ^ 8) ≡ bit_xor low y * 2 ^ 8 =
    sym (ap (λ (k : ℕ). bit_xor k (y * 2 ^ 8)) left)
    ∙ sym (ap (bit_xor (low * 2 ^ 8 + 0)) right) ∙ block ∙ out in
    ap (λ (r : ℕ). after_octets (register_after 8 r) xs) joined
    ∙ first_entry (bit_xor low y) xs few (xor_lt 8 low y low-small small) smalls

-- the first of octets over a register
register_entry : (r x : ℕ) (xs : List ℕ) → r < 2 ^ 16 → length xs < 16 → x < 256 → IsOctets xs
    → after_octets r (x ∷ xs)
    ≡ bit_xor (get_or TABLES (length xs * 256 + bit_xor (r / 256) x) 0) (after_octets (r % 256 * 256) xs)
register_entry r x xs fits few small smalls =
    let place : ℕ = bit_xor (r / 256) x in
    let in_table : place < 256 = xor_lt 8 (r / 256) x (omega arith) small in
    let entry : ℕ = register_after 8 (place * 256) in
    ap (λ (k : ℕ). after_octets k xs) (octet_after r x fits small)
    ∙ apart entry (r % 256 * 256) xs (steps_fit 8 (place * 256) (omega arith)) (omega arith) smalls
    ∙ ap (λ (k : ℕ). bit_xor k (after_octets (r % 256 * 256) xs)) (sym (entry_later (length xs) place few in_table))

-- the entries of the octets from a place on are the register after them
entries_are : (n i : ℕ) (octets : List ℕ) → n < 16 → length octets ≡ i + (n + 1) → IsOctets octets
    → entries n i (λ k. get_or octets k 0) ≡ after_octets 0 (drop i octets)
entries_are zero i octets few long small =
    let x : ℕ = get_or octets i 0 in
    let last : drop (i + 1) octets ≡ [] = drop_of_length-le octets (omega arith) in
    sym (ap (after_octets 0) (drop_more octets i 0 (omega arith) ∙ ap (λ xs. x ∷ xs) last)
    ∙ first_entry x [] (omega arith) (small i) no_octets
    ∙ xor_zero_r (get_or TABLES (0 * 256 + x) 0))
entries_are (suc n) i octets few long small =
    let x : ℕ = get_or octets i 0 in
    let rest : List ℕ = drop (i + 1) octets in
    let t : ℕ → ℕ = λ k. get_or TABLES (k * 256 + x) 0 in
    let count : length rest ≡ suc n = omega (arith, length-drop (i + 1) octets) in
    sym (ap (after_octets 0) (drop_more octets i 0 (omega arith))
    ∙ first_entry x rest (omega arith) (small i) (from_place (i + 1) octets small)
    ∙ ap (λ k. bit_xor (t k) (after_octets 0 rest)) count
    ∙ xor_comm (t (suc n)) (after_octets 0 rest)
    ∙ ap (λ k. bit_xor k (t (suc n))) (sym (entries_are n (i + 1) octets (omega arith) (omega arith) small)))

-- the register over octets, by their entries
entries_after_are : (n r : ℕ) (octets : List ℕ) → n < 14 → length octets ≡ n + 3 → r < 2 ^ 16 → IsOctets octets
    → entries_after n r (λ k. get_or octets k 0) ≡ after_octets r octets
entries_after_are n r octets few long fits small =
    let x : ℕ → ℕ = λ k. get_or octets k 0 in
    let rest : List ℕ = drop 2 octets in
    let t : ℕ → ℕ → ℕ = λ k place. get_or TABLES (k * 256 + place) 0 in
    let high : ℕ = bit_xor (r / 256) (x 0) in
    let low : ℕ = bit_xor (r % 256) (x 1) in
    let count : length rest ≡ n + 1 = omega (arith, length-drop 2 octets) in
    let one_less : length (x 1 ∷ rest) ≡ n + 2 = omega (arith, count) in
    let places : octets ≡ x 0 ∷ x 1 ∷ rest =
    drop_more octets 0 0 (omega arith) ∙ ap (λ xs. x 0 ∷ xs) (drop_more octets 1 0 (omega arith)) in
    let smalls : IsOctets (x 1 ∷ rest) = after_first (x 0) (x 1 ∷ rest) (subst IsOctets places small) in
    let second : after_octets (r % 256 * 256) (x 1 ∷ rest) ≡ bit_xor (t (n + 1) low) (after_octets 0 rest) =
    second_entry (r % 256) (x 1) rest (omega arith) (omega arith) (small 1) (after_first (x 1) rest smalls)
    ∙ ap (λ k. bit_xor (t k low) (after_octets 0 rest)) count in
    let first : after_octets r (x 0 ∷ x 1 ∷ rest)
    ≡ bit_xor (t (n + 2) high) (after_octets (r % 256 * 256) (x 1 ∷ rest)) =
    register_entry r (x 0) (x 1 ∷ rest) fits (omega arith) (small 0) smalls
    ∙ ap (λ k. bit_xor (t k high) (after_octets (r % 256 * 256) (x 1 ∷ rest))) one_less in
    let sum : ℕ = entries n 2 x in
    let added : after_octets 0 rest ≡ sum = sym (entries_are n 2 octets (omega arith) (omega arith) small) in
    sym (ap (after_octets r) places ∙ first
    ∙ ap (bit_xor (t (n + 2) high)) (second ∙ ap (bit_xor (t (n + 1) low)) added ∙ xor_comm (t (n + 1) low) sum)
    ∙ xor_comm (t (n + 2) high) (bit_xor sum (t (n + 1) low)))

-- ---- the octets at a place

pub takes_octet_at : (r s i : ℕ) (octets : List ℕ) → r < 2 ^ 16 → i < length octets → get_or octets i 0 < 256
    → s ≡ bit_xor (r % 256 * 256) (get_or TABLES (0 * 256 + bit_xor (r / 256) (get_or octets i 0)) 0)
    → divided s 0 (drop (i + 1) octets) ≡ divided r 0 (drop i octets)
takes_octet_at r s i octets fits lt small is =
    let x : ℕ = get_or octets i 0 in
    let entry : ℕ = get_or TABLES (0 * 256 + bit_xor (r / 256) x) 0 in
    let after : s ≡ after_octets r (x ∷ []) =
    is ∙ xor_comm (r % 256 * 256) entry ∙ sym (register_entry r x [] fits (omega arith) small no_octets) in
    ap (λ (k : ℕ). divided k 0 (drop (i + 1) octets)) after
    ∙ takes_octets r (x ∷ []) (drop (i + 1) octets) fits (one_octet x small)
    ∙ sym (ap (divided r 0) (drop_more octets i 0 lt))

-- one iteration of a loop over octets
pub takes_some : (n r s : ℕ) (octets some rest : List ℕ) → n < 14 → n + 3 ≤ length octets → r < 2 ^ 16
    → some ≡ take (n + 3) octets → rest ≡ drop (n + 3) octets → IsOctets some
    → s ≡ entries_after n r (λ k. get_or some k 0)
    → divided s 0 rest ≡ divided r 0 octets
takes_some n r s octets some rest few long fits front back small is =
    let count : length some ≡ n + 3 = ap length front ∙ length-take-le (n + 3) octets long in
    ap (λ k. divided k 0 rest) (is ∙ entries_after_are n r some few count fits small)
    ∙ takes_octets r some rest fits small
    ∙ ap (divided r 0) (ap (λ xs. xs ++ rest) front ∙ ap (λ xs. take (n + 3) octets ++ xs) back
    ∙ take-append-drop (n + 3) octets)
