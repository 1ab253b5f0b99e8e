use Rattle.std.proofs.Common.{map}
use Rattle.listings.specs.Phrases.{row_of}
use Rattle.listings.proofs.CountedPhrases.{no_time}
use Rattle.listings.proofs.word_table.count_ended.Goals as goal

pub returns-then-times-eq0 : goal.returns-then-times-eq0
returns-then-times-eq0 c =
    no_time (map row_of c.args.table.now.entries) c.args.word.now c.args.times c.if-times-eq0.true
