use Rattle.std.proofs.Common.{◌≡◌, ◌+◌, ◌*◌, ◌++◌, length, take, ap, ◌∙◌, arith}
use Rattle.std.proofs.lemmas.Simd.{take_more_put_chunk}
use Rattle.listings.proofs.parts.write_sixteen.Goals as goal

pub returns-clause-written : goal.returns-clause-written
returns-clause-written c =
    let at = c.args.at in
    let digits = c.digits_of_sixteen.result in
    let long : length digits ≡ 32 = omega (arith, c.digits_of_sixteen.type_inv) in
    take_more_put_chunk (2 * at) c.args.digits.now digits (2 * (at + 16)) (omega (arith, long)) (omega arith)
    ∙ ap (λ xs. take (2 * at) c.args.digits.now ++ xs) c.digits_of_sixteen.ensures
