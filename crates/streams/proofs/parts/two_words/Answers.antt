use Rattle.std.proofs.Common.{◌∙◌, sym, ap, option_copied, Option, Bor, List, ℕ}
use Rattle.streams.proofs.Cuts.{three_words}
use Rattle.streams.specs.Words.{parts_from}
use Rattle.streams.proofs.parts.two_words.Goals as goal

pub returns-in-Some : goal.returns-in-Some
returns-in-Some c =
    let parts = λ (name : List ℕ) (o : Option (Bor (List ℕ))). parts_from 32 name (option_copied o) in
    sym (three_words c.args.octets.now c.cut.result.0.now c.in_ok-after.field-0.now c.cut-2.result.0.now
    c.in-Some.field-0.now
    (c.cut.ensures.parts ∙ ap (parts c.cut.result.0.now) c.in_ok-after.was)
    (c.cut-2.ensures.parts ∙ ap (parts c.cut-2.result.0.now) c.in-Some.is))
