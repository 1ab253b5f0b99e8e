-- Decreasing numbers, and the bits of what is known.
use Rattle.std.proofs.Common.{◌≡◌, ℕ, ◌+◌, ◌-◌, ◌*◌, ◌/◌, ◌%◌, ◌^◌, ◌<◌, ◌≤◌, min, List, [], ◌∷◌, sym, ◌∙◌, ap, arith}
use Rattle.std.proofs.Common.{subst}
use Rattle.std.specs.Prelude.{◌⊎◌}
use mathlib.Core.Logic.{inl, inr}
use Rattle.std.specs.Int.{bit_at}
use Rattle.std.proofs.lemmas.Bool.{cases_lt}
use Rattle.std.proofs.lemmas.Nat.Bits.{bit_at_cat_low, bit_at_cat_high, bit_at_above, bit_at-zero, bit_at_lowest}
use Rattle.command_log.specs.declared.record.Record.{Record}
use Rattle.command_log.specs.Record.{no_commands, passed}
use Rattle.command_log.specs.Board.{AreBelow, IsKnown}

pub below_more : (a b : ℕ) (ns : List ℕ) → a ≤ b → AreBelow a ns → AreBelow b ns
below_more a b [] h is = tt
below_more a b (n ∷ ns) h is = let low : n < a = is.0 in (omega arith, is.1)

pub low_bit : (known k i : ℕ) → i < k → bit_at (known % 2 ^ k) i ≡ bit_at known i
low_bit known k i low =
    let whole : known ≡ known / 2 ^ k * 2 ^ k + known % 2 ^ k = omega arith in
    sym (ap (λ (n : ℕ). bit_at n i) whole ∙ bit_at_cat_low (known / 2 ^ k) k (known % 2 ^ k) i low)

-- the remainder has the number's bits below the 63rd, and zeros from there on
kept_bit : (known i : ℕ) → bit_at (known % 2 ^ 63) i ≡ 1 → bit_at known i ≡ 1
kept_bit known i is =
    elim (cases_lt i 63) as (λ _. bit_at known i ≡ 1) [
      | inl low ↦ sym (low_bit known 63 i low) ∙ is
      | inr high ↦
          let none : bit_at (known % 2 ^ 63) i ≡ 0 = bit_at_above (known % 2 ^ 63) 63 i (omega arith) high in
          absurd (cc (none, is))
    ]

pub known_passed : (kept : Record) (bit n : ℕ) → bit < 2 → kept.last < 4294967295 → IsKnown (passed kept bit) n
    → ((n ≡ kept.last + 1) × (bit ≡ 1)) ⊎ IsKnown kept n
known_passed kept bit n small low is =
    let above : 0 < n = is.0 in
    let within : n ≤ min (kept.last + 1) 4294967295 = is.1 in
    let last : min (kept.last + 1) 4294967295 ≡ kept.last + 1 = omega arith in
    let set : bit_at (kept.known % 2 ^ 63 * 2 + bit) (kept.last + 1 - n) ≡ 1 =
    subst (λ (l : ℕ). bit_at (kept.known % 2 ^ 63 * 2 + bit) (l - n) ≡ 1) last is.2 in
    elim (cases_lt n (kept.last + 1)) as (λ _. ((n ≡ kept.last + 1) × (bit ≡ 1)) ⊎ IsKnown kept n) [
      | inl earlier ↦
          let high : bit_at (kept.known % 2 ^ 63 * 2 + bit) (kept.last + 1 - n) ≡ bit_at (kept.known % 2 ^ 63)
          (kept.last + 1 - n - 1)
          = bit_at_cat_high (kept.known % 2 ^ 63) 1 bit (kept.last + 1 - n) small (omega arith) in
          let place : kept.last + 1 - n - 1 ≡ kept.last - n = omega arith in
          let was : bit_at (kept.known % 2 ^ 63) (kept.last - n) ≡ 1 = cc (high, place, set) in
          inr (above, omega arith, kept_bit kept.known (kept.last - n) was)
      | inr latest ↦
          let same : n ≡ kept.last + 1 = omega arith in
          let place : kept.last + 1 - n ≡ 0 = omega arith in
          let low : bit_at (kept.known % 2 ^ 63 * 2 + bit) 0 ≡ bit_at bit 0 = bit_at_cat_low (kept.known % 2 ^ 63) 1
          bit 0 (omega arith) in
          let lowest : bit_at bit 0 ≡ bit % 2 = bit_at_lowest bit in
          let one : bit % 2 ≡ 1 = cc (low, lowest, place, set) in
          inl (same, omega arith)
    ]

pub none_known : (boot last n : ℕ) → IsKnown (no_commands boot last) n → ⊥
none_known boot last n is = let zero : bit_at 0 (last - n) ≡ 0 = bit_at-zero (last - n) in absurd (cc (zero, is.2))
