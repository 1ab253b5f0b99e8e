use Rattle.std.proofs.Common.{◌≡◌, ◌∙◌, ◌+◌, [], List, ℕ, Bool, true, false, Ok, Result, ap, arith, drop, map}
use Rattle.std.proofs.Common.{refl, sym, take, subst}
use Rattle.std.specs.Prelude.{Option, IfSome, if◌then◌else◌}
use Rattle.std.specs.List.{fold}
use Rattle.std.specs.declared.alloc.AllocError.{AllocError}
use Rattle.listings.specs.Phrases.{counted, of_phrases, row_of, with_phrases, words_in, HaveOnceMore}
use Rattle.listings.specs.Totals.{is_counted, shown, with_octet, with_word}
use Rattle.listings.specs.declared.phrases.Phrase.{Phrase}
use Rattle.listings.proofs.CountedPhrases.{goes_on_after, phrases_before}
use Rattle.listings.proofs.WordEnds.{Rows, goes_on, st}
use Rattle.listings.proofs.phrases.take_first.Goals as goal

abbrev found : Option ℕ → Result (Option ℕ) AllocError
found n = Ok n

left_out : (counted : Bool) (rows : Rows) (word : List ℕ) → false ≡ counted
    → rows ≡ (if counted then with_word rows word else rows)
left_out true rows word is = absurd (cc is)
left_out false rows word is = refl

pub returns-in-Some-clause-some : goal.returns-in-Some-clause-some
returns-in-Some-clause-some c =
    let text = c.args.text.now in
    let n = c.in-Some.length in
    let entries = c.args.table.now.entries in
    let more : HaveOnceMore c.args.phrases.now c.count_again.new.phrases text n =
    subst (λ (o : Option ℕ). IfSome o (HaveOnceMore c.args.phrases.now c.count_again.new.phrases text)) c.in-Some.is
    c.in_ok-length.ensures.again in (
      more.some,
      more.within,
      λ rows.
          ap (λ (x : Rows). fold with_octet (st x []) (drop n text))
          (more.counted (of_phrases rows (map row_of entries)))
          ∙ sym (goes_on_after (counted rows entries c.args.phrases.now) text n more.whole),
    )

pub returns-then-not-is_counted-clause-some : goal.returns-then-not-is_counted-clause-some
returns-then-not-is_counted-clause-some c =
    let text = c.args.text.now in
    let n = c.in-Some-end_of_word.end in
    let entries = c.args.table.now.entries in
    let same = c.count_again.ensures.new (c.in_ok-length.was ∙ ap found c.in_default.is) in (
      omega arith,
      omega (arith, c.in-Some-end_of_word.ensures.within),
      λ rows.
          ap (λ (x : List Phrase). fold with_octet (st (counted rows entries x) []) (drop (n + 1) text)) same
          ∙ ap (λ (x : Rows). fold with_octet (st x []) (drop (n + 1) text))
          (left_out (is_counted (take n text)) (counted rows entries c.args.phrases.now) (shown (take n text))
          c.if-not-is_counted.ensures)
          ∙ sym (goes_on (counted rows entries c.args.phrases.now) text n
          (sym c.end_of_word.ensures.end ∙ c.in-Some-end_of_word.is)),
    )

pub returns-clause-some : goal.returns-clause-some
returns-clause-some c =
    let text = c.args.text.now in
    let n = c.end_of_phrase-length.result in
    let same = c.count_again.ensures.new (c.in_ok-length.was ∙ ap found c.in_default.is) in (
      omega (arith, c.end_of_phrase-length.ensures.after),
      c.end_of_phrase-length.ensures.within,
      λ rows.
          ap (λ (x : Rows). fold with_octet (st x []) (drop n text)) (c.in_ok-put.ensures.put rows)
          ∙ sym (goes_on_after _ text n c.end_of_phrase-length.ensures.whole)
          ∙ ap (λ (x : List Phrase). fold with_octet (st (counted rows c.args.table.now.entries x) []) text) same,
    )

pub returns-then-length-gt64-clause-some : goal.returns-then-length-gt64-clause-some
returns-then-length-gt64-clause-some c =
    let text = c.args.text.now in
    let n = c.end_of_phrase-length.result in
    let entries = c.args.table.now.entries in
    let phrases = c.count_again.new.phrases in
    let same = c.count_again.ensures.new (c.in_ok-length.was ∙ ap found c.in_default.is) in (
      omega (arith, c.end_of_phrase-length.ensures.after),
      c.end_of_phrase-length.ensures.within,
      λ rows.
          ap (λ (x : Rows). fold with_octet (st (with_phrases x phrases) []) (drop n text))
          (c.in_ok-count_phrase.ensures rows)
          ∙ ap (λ (x : Rows). fold with_octet (st x []) (drop n text))
          (phrases_before phrases (of_phrases rows (map row_of entries)) (words_in [] (take n text)) 1)
          ∙ sym (goes_on_after (counted rows entries phrases) text n c.end_of_phrase-length.ensures.whole)
          ∙ ap (λ (x : List Phrase). fold with_octet (st (counted rows entries x) []) text) same,
    )
