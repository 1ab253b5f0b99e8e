use Rattle.std.proofs.Common.{rules, ◌==◌, ◌∙◌, sym, ℕ}
use borrow.Author.Tests.{tests}
use Rattle.std.proofs.lemmas.Iterator.{YieldsList-from_slice}
use Rattle.std.proofs.lemmas.Iterator.Search.{position_from_yields_List}
use Rattle.streams.proofs.Cuts.{cut_at, cut_nowhere}
use Rattle.streams.proofs.parts.cut.Goals as goal

pub returns-in-Some-clause-parts : goal.returns-in-Some-clause-parts
returns-in-Some-clause-parts c =
    let found = position_from_yields_List (λ (octet : ℕ). octet == c.args.mark) _ _ _ c.position.ensures.ran
    (YieldsList-from_slice c.args.octets.now cc) (λ x b q k. search (rules, tests)) in
    rw (c.split_at.ensures.front, c.split_at-in-Some.ensures.back)
    (cut_at (λ (octet : ℕ). octet == c.args.mark) c.args.octets.now c.in-Some.at (sym found ∙ c.in-Some.is))

pub returns-in-None-clause-parts : goal.returns-in-None-clause-parts
returns-in-None-clause-parts c =
    let found = position_from_yields_List (λ (octet : ℕ). octet == c.args.mark) _ _ _ c.position.ensures.ran
    (YieldsList-from_slice c.args.octets.now cc) (λ x b q k. search (rules, tests)) in
    cut_nowhere (λ (octet : ℕ). octet == c.args.mark) c.args.octets.now (sym found ∙ c.in-None.is)
