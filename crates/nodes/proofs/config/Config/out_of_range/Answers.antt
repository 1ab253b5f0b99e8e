use Rattle.std.proofs.Common.{rules, ◌∙◌, not}
use borrow.Author.Tests.{tests}
use Rattle.std.proofs.lemmas.Iterator.{YieldsList-from_slice}
use Rattle.std.proofs.lemmas.Iterator.Search.{find_from_yields_List}
use Rattle.nodes.specs.declared.parameter.Parameter.{Parameter}
use Rattle.nodes.specs.declared.parameter.TheConstants.{PARAMETERS}
use Rattle.nodes.specs.Parameters.{is_in_range}
use Rattle.nodes.proofs.config.Config.out_of_range.Goals as goal

pub returns : goal.returns
returns c =
    let is_out = λ (parameter : Parameter). not (is_in_range c.args.self.now parameter) in
    let found = find_from_yields_List is_out _ _ c.find.result c.find.ensures.ran
    (YieldsList-from_slice PARAMETERS cc) (λ x b q k. search (rules, tests)) in
    c.copied.ensures ∙ found
