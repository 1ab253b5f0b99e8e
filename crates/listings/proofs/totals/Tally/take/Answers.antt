use Rattle.std.proofs.Common.{◌≡◌, ◌∙◌, [], ◌∷◌, List, ℕ, Bool, true, false, ap, map, refl}
use Rattle.std.specs.Prelude.{if◌then◌else◌}
use Rattle.listings.specs.Phrases.{of_phrases, row_of, with_ended_times, with_phrases}
use Rattle.listings.specs.Totals.{Tallied, parts_words}
use Rattle.listings.proofs.CountedPhrases.{counted_before}
use Rattle.listings.proofs.WordEnds.{Rows, st}
use Rattle.listings.proofs.totals.Tally.take.Goals as goal

where_so : (p : Bool) (a b : Tallied) → true ≡ p → a ≡ (if p then a else b)
where_so true a b is = refl
where_so false a b is = absurd (cc is)

pub returns-clause-tally : goal.returns-clause-tally
returns-clause-tally c =
    let entries = c.args.self.now.phrases.entries in
    let recent = c.args.self.now.recent in
    let word = c.args.self.now.word.items in
    let from = λ (rows : Rows) (w : List ℕ). st (with_phrases (of_phrases rows (map row_of entries)) recent) w in
    ap (λ (x : List ℕ). from (map row_of c.count_ended.new.table.entries) x) c.clear.ensures.items
    ∙ ap (λ (x : Rows). from x []) c.in_ok-count_ended.ensures
    ∙ ap (λ (w : List ℕ). from (with_ended_times (map row_of c.args.self.now.words.entries) w 1) [])
    c.as_slice-2.ensures.value
    ∙ ap (λ (x : Rows). st x [])
    (counted_before entries recent (map row_of c.args.self.now.words.entries) (word ∷ []) 1)
    ∙ where_so (parts_words word c.args.octet) _ _
    (c.if-not-parts_words.ensures ∙ ap (λ (w : List ℕ). parts_words w c.args.octet) c.as_slice.ensures.value)
