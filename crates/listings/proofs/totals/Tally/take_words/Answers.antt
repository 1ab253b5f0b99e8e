use Rattle.std.proofs.Common.{◌≡◌, ◌∙◌, ◌<◌, ◌≤◌, ◌++◌, [], List, ℕ, Ok, Result, ap, arith}
use Rattle.std.proofs.Common.{drop, length, map, subst, sym}
use Rattle.std.specs.Prelude.{Option, IfSome}
use Rattle.std.specs.List.{fold}
use Rattle.std.specs.declared.alloc.AllocError.{AllocError}
use Rattle.std.proofs.lemmas.List.{take_rest}
use Rattle.listings.specs.Phrases.{counted, none_begun, row_of}
use Rattle.listings.specs.Totals.{with_octet}
use Rattle.listings.specs.declared.phrases.Phrase.{Phrase}
use Rattle.listings.proofs.WordEnds.{Rows, st, stays_open}
use Rattle.listings.proofs.totals.Tally.take_words.Goals as goal

abbrev found : Option ℕ → Result (Option ℕ) AllocError
found n = Ok n

pub phrases-preserved : goal.phrases-preserved
phrases-preserved c =
    let self = c.phrases.self in
    let rest = c.phrases.rest.now in
    let n = c.in-Some.length in
    let words = map row_of self.words.entries in
    let now = counted words c.take_first.new.table.entries c.take_first.new.phrases in
    let before = counted words self.phrases.entries self.recent in
    let took : (0 < n) × (n ≤ length rest) × ((rows : Rows) → fold with_octet (none_begun (counted rows
    c.take_first.new.table.entries c.take_first.new.phrases)) (drop n rest)
    ≡ fold with_octet (none_begun (counted rows self.phrases.entries self.recent)) rest) =
    subst (λ (o : Option ℕ). IfSome o (λ n. (0 < n) × (n ≤ length rest) × ((rows : Rows) → fold with_octet
    (none_begun (counted rows c.take_first.new.table.entries c.take_first.new.phrases)) (drop n rest)
    ≡ fold with_octet (none_begun (counted rows self.phrases.entries self.recent)) rest))) c.in-Some.is
    c.in_ok-length.ensures.some in
    record {
      none = c.phrases.invariant.none;
      within = omega (arith, c.phrases.invariant.within);
      whole = c.take_first.ensures.whole;
      same = ap (λ (x : List ℕ). fold with_octet (st now self.word.items) x) (take_rest rest n)
          ∙ ap (λ (w : List ℕ). fold with_octet (st now w) (drop n rest)) c.phrases.invariant.none
          ∙ took.2 words
          ∙ ap (λ (w : List ℕ). fold with_octet (st before w) rest) (sym c.phrases.invariant.none)
          ∙ c.phrases.invariant.same;
    }

pub returns-clause-tally : goal.returns-clause-tally
returns-clause-tally c =
    let rest = c.phrases.rest.now in
    let nothing = c.take_first.ensures.none (c.in_ok-length.was ∙ ap found c.in_default.is) in
    let words = map row_of c.phrases.self.words.entries in
    let rows = counted words c.phrases.self.phrases.entries c.phrases.self.recent in
    let word = c.extend_from_slice.new.self.items in
    ap (λ es. st (counted words es c.take_first.new.phrases) word) nothing.0
    ∙ ap (λ (ps : List Phrase). st (counted words c.phrases.self.phrases.entries ps) word) nothing.1
    ∙ ap (λ (w : List ℕ). st rows w) (c.in_ok-extend_from_slice.ensures.items
    ∙ ap (λ (w : List ℕ). w ++ rest) c.phrases.invariant.none)
    ∙ sym (stays_open rows [] rest nothing.2)
    ∙ ap (λ (w : List ℕ). fold with_octet (st rows w) rest) (sym c.phrases.invariant.none)
    ∙ c.phrases.invariant.same
