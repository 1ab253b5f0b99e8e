-- The five flags are the five high bits of an octet.
use Rattle.std.proofs.Common.{◌≡◌, ◌<◌, ℕ, ◌*◌, ◌/◌, ◌%◌, refl, sym, ◌∙◌, ◌↔◌, arith}
use Rattle.std.specs.Prelude.{bit_and}
use Rattle.std.proofs.lemmas.Nat.Bits.{and_high_mask}
use Rattle.bitflags.specs.Sets.{known_bits}
use Rattle.bitflags.proofs.OnLiterals.{bitflags_on_literals}
use Rattle.clcw.specs.Flags.{flag_table}

pub known_bits-flag_table : known_bits flag_table ≡ 248
unfolding bitflags_on_literals
known_bits-flag_table = refl

-- the named bits of a number below 256
pub and-named : (n : ℕ) → n < 256 → bit_and n (known_bits flag_table) ≡ n / 8 * 8
and-named n fits = rw known_bits-flag_table (and_high_mask 8 3 (omega arith) n fits)

-- a number has only named bits exactly when it is a multiple of 8
pub named-mod : (n : ℕ) → n < 256 → (bit_and n (known_bits flag_table) ≡ n) ↔ (n % 8 ≡ 0)
named-mod n fits =
    let is = and-named n fits in
    (λ same. omega (arith, sym is ∙ same), λ multiple. is ∙ omega (arith, multiple))
