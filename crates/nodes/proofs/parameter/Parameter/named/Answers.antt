use Rattle.std.proofs.Common.{rules, ◌∙◌}
use borrow.Author.Tests.{tests}
use Rattle.std.specs.Str.{bytes_eq}
use Rattle.std.proofs.lemmas.Iterator.{YieldsList-from_slice}
use Rattle.std.proofs.lemmas.Iterator.Search.{find_from_yields_List}
use Rattle.nodes.specs.declared.parameter.Parameter.{Parameter}
use Rattle.nodes.specs.declared.parameter.TheConstants.{PARAMETERS}
use Rattle.nodes.specs.Parameters.{row_of}
use Rattle.nodes.proofs.parameter.Parameter.named.Goals as goal

pub returns : goal.returns
returns c =
    let has_name = λ (parameter : Parameter). bytes_eq c.args.name.now (row_of parameter).name in
    let found = find_from_yields_List has_name _ _ c.find.result c.find.ensures.ran
    (YieldsList-from_slice PARAMETERS cc) (λ x b q k. search (rules, tests)) in
    c.copied.ensures ∙ found
