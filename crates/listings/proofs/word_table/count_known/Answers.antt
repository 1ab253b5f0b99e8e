use Rattle.std.proofs.Common.{◌∙◌, map, ap, sym, rules}
use Rattle.listings.specs.Phrases.{row_of}
use Rattle.listings.proofs.Words.{word_known}
use Rattle.listings.proofs.word_table.count_known.Goals as goal

pub returns-in-Some-checked_add-clause-known : goal.returns-in-Some-checked_add-clause-known
returns-in-Some-checked_add-clause-known c =
    λ _. ap (map row_of) (c.get_mut.follows.holds c.in-Some-checked_add.more).0
    ∙ word_known c.args.table.now.entries c.args.word.now c.in-Some.count.now c.args.times
    c.in-Some-checked_add.more c.requires (search rules) c.in-Some.ensures.ordered (sym c.in-Some.ensures.value)
