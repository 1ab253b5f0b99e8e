use Rattle.std.proofs.Common.{◌∙◌, [], List, ℕ, ap, sym, arith, map}
use Rattle.listings.specs.Phrases.{with_each, words_in}
use Rattle.listings.specs.Phrases.{row_of}
use Rattle.listings.proofs.CountedPhrases.{no_times, no_word, words_on}
use Rattle.listings.proofs.word_table.count_words.Goals as goal

pub returns-then-times-eq0 : goal.returns-then-times-eq0
returns-then-times-eq0 c =
    no_times (words_in [] c.args.text.now) (map row_of c.args.table.now.entries) c.args.times c.if-times-eq0.true

pub words-preserved : goal.words-preserved
words-preserved c = record {
  within = omega (arith, c.words.invariant.within);
  same = words_on (map row_of c.words.table.entries) _ c.words.rest.now c.in-Some.end c.args.times
      (sym c.end_of_word.ensures.end ∙ c.in-Some.is) c.in_ok-count_ended.ensures ∙ c.words.invariant.same;
}

pub returns : goal.returns
returns c =
    ap (λ (ws : List (List ℕ)). with_each (map row_of c.words.table.entries) ws c.args.times)
    (sym (no_word [] c.words.rest.now (sym c.end_of_word.ensures.end ∙ c.in_default.is)))
    ∙ c.words.invariant.same
