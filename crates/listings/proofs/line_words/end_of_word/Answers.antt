use Rattle.std.proofs.Common.{◌∙◌, arith, sym}
use Rattle.listings.proofs.WordEnds.{passed}
use Rattle.listings.proofs.line_words.end_of_word.Goals as goal

pub octets-preserved-then-at-eq16 : goal.octets-preserved-then-at-eq16
octets-preserved-then-at-eq16 c = record {
  within = c.past_sixteens-at.ensures.within.1;
  same = c.past_sixteens-at.ensures.same
      ∙ passed c.args.text.now c.octets.at (omega (arith, c.octets-test.true))
      (sym c.is_end.ensures ∙ c.if-is_end.false)
      ∙ c.octets.invariant.same;
}

pub octets-preserved : goal.octets-preserved
octets-preserved c = record {
  within = omega (arith, c.octets-test.true);
  same = passed c.args.text.now c.octets.at (omega (arith, c.octets-test.true))
      (sym c.is_end.ensures ∙ c.if-is_end.false)
      ∙ c.octets.invariant.same;
}
