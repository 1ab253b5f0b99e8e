-- What is written spells the CLCW, so it is read as this CLCW.
use Rattle.std.proofs.Common.{◌≡◌, ℕ, ◌+◌, ◌*◌, ◌/◌, ◌%◌, true, eqb, List, Ok, refl, arith}
use Rattle.std.proofs.lemmas.Bool.{eq-eqb}
use Rattle.clcw.specs.declared.word.Clcw.{Clcw}
use Rattle.clcw.specs.Flags.{flags_number}
use Rattle.clcw.specs.Layout.{IsClcw}
use Rattle.clcw.specs.Decoding.{clcw_at}
use Rattle.clcw.proofs.encoding.encode.Goals as goal

-- Octets that spell a CLCW are read as that CLCW.
read_again : (word : Clcw) (octets : List ℕ) → IsClcw word octets → clcw_at octets ≡ Ok word
unfolding clcw_at
read_again word octets is =
    let kind : eqb ((4 * word.status + 1) / 128) 0 ≡ true = eq-eqb _ _ (omega (arith, is.status)) in
    let version : eqb ((4 * word.status + 1) / 32 % 4) 0 ≡ true = eq-eqb _ _ (omega (arith, is.status)) in
    let cop : eqb ((4 * word.status + 1) % 4) 1 ≡ true = eq-eqb _ _ (omega arith) in
    let spare : eqb (4 * word.vcid % 4) 0 ≡ true = eq-eqb _ _ (omega arith) in
    let last : eqb ((flags_number word.flags + 2 * word.farm_b) % 2) 0 ≡ true = eq-eqb _ _ (omega (arith, is.flags)) in
    let status : (4 * word.status + 1) / 4 % 8 ≡ word.status = omega (arith, is.status) in
    let vcid : 4 * word.vcid / 4 ≡ word.vcid = omega arith in
    let flags : (flags_number word.flags + 2 * word.farm_b) / 8 * 8 ≡ flags_number word.flags =
    omega (arith, is.flags, is.farm_b) in
    let farm_b : (flags_number word.flags + 2 * word.farm_b) / 2 % 4 ≡ word.farm_b =
    omega (arith, is.flags, is.farm_b) in
    rw (is.spelled, kind, version, cop, spare, last, status, vcid, flags, farm_b) refl

pub returns-clause-back : goal.returns-clause-back
returns-clause-back c =
    read_again c.args.word.now _ (record {
      spelled = rw (c.bits.ensures tt) refl;
      status = c.if-word-ge8.false;
      vcid = c.if-word-ge64.false;
      flags = c.if-not-are_named.ensures.0 refl;
      farm_b = c.if-word-ge4.false;
    })
