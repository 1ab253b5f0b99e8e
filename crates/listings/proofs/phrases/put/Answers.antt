use Rattle.std.proofs.Common.{◌∙◌, [], List, ℕ, ap, arith, map, refl, slice_set}
use Rattle.listings.specs.Phrases.{begun_in, counted, of_phrases, row_of, with_each, with_phrases, words_in}
use Rattle.listings.proofs.CountedPhrases.{replaced, whole_set}
use Rattle.listings.proofs.phrases.put.Goals as goal

pub returns-clause-put : goal.returns-clause-put
returns-clause-put c = λ rows.
    let entries = c.args.table.now.entries in
    let phrases = c.args.phrases.now in
    let new = c.phrase_of.result in
    ap (λ x. with_phrases x (slice_set phrases c.args.place new)) (c.in_ok-count_recent.ensures rows)
    ∙ replaced phrases c.args.place (of_phrases rows (map row_of entries)) _ _ new
    (omega (arith, c.requires.place, c.told-phrases)) refl c.phrase_of.ensures.times
    ∙ ap (λ (w : List ℕ). with_each (counted rows entries phrases) (words_in [] w) 1) c.phrase_of.ensures.words

pub returns-clause-whole : goal.returns-clause-whole
returns-clause-whole c =
    whole_set c.args.phrases.now c.args.place c.phrase_of.result c.requires.whole
    (ap (begun_in []) c.phrase_of.ensures.words ∙ c.requires.new)
