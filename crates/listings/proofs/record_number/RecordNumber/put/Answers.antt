use Rattle.std.proofs.Common.{◌∙◌, ◌++◌, [], ◌∷◌, ap, arith, decimal, sym, take}
use Rattle.listings.proofs.Digits.{joined, last_after}
use Rattle.listings.proofs.record_number.RecordNumber.put.Goals as goal

pub returns-clause-put : goal.returns-clause-put
returns-clause-put c =
    let tens = c.self.inside.tens in
    let last = c.self.inside.last in
    joined (take c.args.at c.args.room.now) _ (last ∷ [])
    (c.put_upper-next.ensures.put ∙ ap (λ l. take c.args.at c.args.room.now ++ l) c.self.invariant.0)
    c.put_word.ensures.put
    (sym (last_after tens last (omega arith) (omega arith) (omega arith) ∙ ap decimal c.self.view_is))
