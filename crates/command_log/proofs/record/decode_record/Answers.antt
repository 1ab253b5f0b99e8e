use Rattle.std.proofs.Common.{◌≡◌, ℕ, List, true, false, ap, sym, ◌∙◌, subst, arith}
use Rattle.std.specs.Prelude.{not}
use lib.Pointwise.{pointwise}
use lib.Dec.{eqb}
use Rattle.command_log.specs.Layout.{place_octets, fields_of}
use Rattle.command_log.proofs.ReadBack.{read_back, alike, found_record}
use Rattle.command_log.proofs.record.decode_record.Goals as goal

pub returns-then-ne-clause-only : goal.returns-then-ne-clause-only
returns-then-ne-clause-only c kept is e =
    let read : c.decode_fields-kept.result ≡ kept = c.decode_fields-kept.ensures ∙ ap fields_of e ∙ read_back kept is in
    let same : c.encode_record.result ≡ c.args.octets.now = c.encode_record.ensures ∙ ap place_octets read ∙ sym e in
    let alike_too : pointwise eqb c.encode_record.result c.args.octets.now ≡ true =
    subst (λ (xs : List ℕ). pointwise eqb xs c.args.octets.now ≡ true) (sym same) (alike c.args.octets.now) in
    let differs : true ≡ not (pointwise eqb c.encode_record.result c.args.octets.now) = sym c.if-ne.true
    ∙ c.ne.ensures in
    let none : true ≡ false = differs ∙ ap not alike_too in
    absurd cc

pub returns-then-ne-clause-answer : goal.returns-then-ne-clause-answer
returns-then-ne-clause-answer c =
    found_record c.args.octets.now c.encode_record.result c.decode_fields-kept.result true
    (omega (arith, c.if-octets-ne50.false)) c.decode_fields-kept.ensures c.encode_record.ensures c.if-ne.ensures

pub returns-clause-answer : goal.returns-clause-answer
returns-clause-answer c =
    found_record c.args.octets.now c.encode_record.result c.decode_fields-kept.result false
    (omega (arith, c.if-octets-ne50.false)) c.decode_fields-kept.ensures c.encode_record.ensures c.if-ne.ensures
