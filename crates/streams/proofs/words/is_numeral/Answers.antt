use Rattle.std.proofs.Common.{rules, ◌∙◌, sym, ap, ◌&&◌}
use borrow.Author.Tests.{tests}
use Rattle.std.specs.Char.{is_ascii_digit}
use Rattle.std.specs.List.{list_all}
use Rattle.std.proofs.lemmas.Iterator.{YieldsList-from_slice}
use Rattle.std.proofs.lemmas.Iterator.Search.{all_from_yields_List}
use Rattle.streams.proofs.words.is_numeral.Goals as goal

pub returns-then-starts_well : goal.returns-then-starts_well
returns-then-starts_well c =
    let all = all_from_yields_List is_ascii_digit _ _ _ c.all.ensures.ran (YieldsList-from_slice c.args.word.now cc)
    (λ x b q k. search (rules, tests)) in
    let well = c.starts_well.ensures in
    let yes = c.if-starts_well.true in
    all ∙ ap (λ b. b && list_all is_ascii_digit c.args.word.now) (sym yes ∙ well)
