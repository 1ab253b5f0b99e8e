use Rattle.std.proofs.Common.{◌∙◌, [], ap, map}
use Rattle.listings.specs.Phrases.{of_phrases, row_of, words_in}
use Rattle.listings.proofs.CountedPhrases.{no_times, with_times}
use Rattle.listings.proofs.phrases.count_phrase.Goals as goal

pub returns-then-times-eq0 : goal.returns-then-times-eq0
returns-then-times-eq0 c =
    λ rows. no_times (words_in [] c.args.words.now) (of_phrases rows (map row_of c.args.table.now.entries)) c.args.times
    c.if-times-eq0.true

pub returns : goal.returns
returns c = λ rows.
    ap (of_phrases rows) c.in_ok-count_written.ensures
    ∙ with_times (map row_of c.args.table.now.entries) rows c.args.words.now c.args.times
