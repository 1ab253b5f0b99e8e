use Rattle.std.proofs.Common.{◌≡◌, ◌∙◌, ◌+◌, ◌-◌, ℕ, ap, arith, drop, sym, take}
use Rattle.std.specs.Prelude.{nat_le}
use Rattle.std.specs.List.{list_any}
use Rattle.listings.proofs.WordEnds.{passed_all}
use Rattle.listings.proofs.line_words.past_sixteens.Goals as goal

pub sixteens-preserved : goal.sixteens-preserved
sixteens-preserved c =
    let there = c.sixteens-test.true in
    let sixteen : 16 ≡ c.sixteens.at + 16 - c.sixteens.at = omega arith in
    record {
      after = omega (arith, c.sixteens.invariant.after);
      within = omega (arith, there, c.sixteens.invariant.within);
      same = passed_all 16 c.args.text.now c.sixteens.at (omega (arith, there, c.sixteens.invariant.within))
          (ap (λ (k : ℕ). list_any (λ octet. nat_le octet 32) (take k (drop c.sixteens.at c.args.text.now)))
          sixteen ∙ sym c.has_low.ensures ∙ c.if-has_low.false) ∙ c.sixteens.invariant.same;
    }
