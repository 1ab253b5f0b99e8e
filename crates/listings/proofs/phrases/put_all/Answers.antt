use Rattle.std.proofs.Common.{◌≡◌, ◌∙◌, ◌+◌, ◌∷◌, [], List, ℕ, ap, arith, drop, get_or, map, suc, sym}
use Rattle.std.proofs.Math.Seq.{drop-cons}
use Rattle.listings.specs.Phrases.{of_phrases, row_of, with_phrases}
use Rattle.listings.specs.declared.phrases.Phrase.{Phrase}
use Rattle.listings.proofs.phrases.put_all.Goals as goal

abbrev none : Phrase
none = record { octets = []; len = 0; times = 0 }

pub loop-it-preserved : goal.loop-it-preserved
loop-it-preserved c = λ rows.
    let phrases = c.args.phrases.now in
    let at = c.loop-it.it-index in
    let table = of_phrases rows (map row_of c.loop-it.table.entries) in
    let one : suc at ≡ at + 1 = omega arith in
    ap (λ x. with_phrases x (drop (at + 1) phrases)) (c.in_ok-count_recent.ensures rows)
    ∙ ap (λ (ps : List Phrase). with_phrases table ps)
    (sym (drop-cons phrases at none c.loop-it-test.true ∙ ap (λ (k : ℕ). get_or phrases at none ∷ drop k phrases) one))
    ∙ c.loop-it.invariant rows
