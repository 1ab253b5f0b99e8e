use Rattle.std.proofs.Common.{◌∙◌, [], List, ℕ, ap, arith, sym}
use Rattle.std.proofs.lemmas.List.{take_rest}
use Rattle.listings.specs.Words.{word_end}
use Rattle.listings.proofs.CountedPhrases.{first_whole, whole_on}
use Rattle.listings.proofs.line_words.end_of_phrase.Goals as goal

pub words-init : goal.words-init
words-init c = record {
  after = omega arith;
  within = omega (arith, c.requires.there);
  whole = first_whole c.args.text.now c.args.end c.requires.end;
}

pub words-preserved : goal.words-preserved
words-preserved c = record {
  after = omega (arith, c.words.invariant.after);
  within = omega (arith, c.in-Some.ensures.within, c.words.invariant.within);
  whole = whole_on c.args.text.now c.words.at c.in-Some.next c.words.invariant.whole
      (ap (λ (x : List ℕ). word_end [] x) (sym (take_rest c.args.text.now c.words.at))
      ∙ sym c.end_of_word.ensures.end ∙ c.in-Some.is);
}
