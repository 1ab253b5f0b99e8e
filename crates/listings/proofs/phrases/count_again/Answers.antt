use Rattle.std.proofs.Common.{◌≡◌, ◌∙◌, ◌<◌, [], ℕ, Bool, true, false, ap, sym, arith, refl, length}
use Rattle.std.specs.Prelude.{Option, None, Some, IfSome, not}
use Rattle.std.specs.Cmp.Lexicographic.{same_text}
use Rattle.listings.specs.Phrases.{begun_in, with_each, with_phrases, words_in}
use Rattle.listings.proofs.CountedPhrases.{raised, whole_at, whole_set}
use Rattle.listings.proofs.phrases.count_again.Goals as goal

is_true : (b : Bool) → not b ≡ false → true ≡ b
is_true true h = refl
is_true false h = absurd (cc h)

there_at : (place : Option ℕ) (at n : ℕ) → place ≡ Some at → IfSome place (λ at. at < 256) → n ≡ 256 → at < n
there_at None at n is within long = absurd (cc is)
there_at (Some k) at n is within long = let one : k ≡ at = cc is in omega (arith, within, one, long)

pub returns-in-Some-checked_add-clause-again : goal.returns-in-Some-checked_add-clause-again
returns-in-Some-checked_add-clause-again c =
    let phrases = c.args.phrases.now in
    let place = c.in-Some.place in
    let same = same_text _ _ (is_true _ (sym c.ne.ensures ∙ c.if-ne.false)) in
    let its = sym same ∙ c.words-words.ensures in
    let there = there_at c.args.place place (length phrases) c.in-Some.is c.requires.place c.told-phrases in
    record {
      some = omega (arith, c.if-length-eq0.false);
      within = omega (arith, c.if-length-text.false);
      whole = ap (begun_in []) its ∙ whole_at phrases place _ there c.requires.whole;
      counted = λ rows. raised phrases place rows _ _ _ there refl refl c.in-Some-checked_add.ensures.1
          ∙ ap (λ w. with_each (with_phrases rows phrases) (words_in [] w) 1) (sym its);
    }

pub returns-in-Some-checked_add-clause-whole : goal.returns-in-Some-checked_add-clause-whole
returns-in-Some-checked_add-clause-whole c =
    let phrases = c.args.phrases.now in
    let place = c.in-Some.place in
    let there = there_at c.args.place place (length phrases) c.in-Some.is c.requires.place c.told-phrases in
    whole_set phrases place _ c.requires.whole (whole_at phrases place _ there c.requires.whole)
