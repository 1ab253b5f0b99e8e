use Rattle.std.proofs.Common.{◌<◌, ◌^◌, sym, subst, ℕ, List, Option}
use Rattle.std.specs.Option.{SomeIff}
use Rattle.std.specs.Str.Parse.{digits_value, ParsesUnsigned}
use Rattle.streams.proofs.SpelledWords.{numeral_utf8, numeral_parsed, ok_some}
use Rattle.streams.proofs.words.value_of.Goals as goal

pub returns-in-Ok : goal.returns-in-Ok
returns-in-Ok c =
    let word = c.args.word.now in
    let parses = subst (λ (text : List ℕ). ParsesUnsigned 64 10 text c.parse.result) c.in-Ok.ensures.cases.0
    c.parse.ensures.value.0 in
    let some = ok_some c.parse.result (digits_value 10 word < 2 ^ 64) (digits_value 10 word)
    (numeral_parsed word c.parse.result c.requires parses) in
    subst (λ (o : Option ℕ). SomeIff o (digits_value 10 word < 2 ^ 64) (digits_value 10 word)) (sym c.ok.ensures.value)
    some

pub returns-in-Err : goal.returns-in-Err
returns-in-Err c = λ less. c.in-Err.ensures.cases.0 (numeral_utf8 c.args.word.now c.requires)
