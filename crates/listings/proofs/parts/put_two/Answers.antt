use Rattle.std.proofs.Common.{◌++◌, ◌∙◌, take, ap}
use Rattle.std.proofs.lemmas.List.{take_rest}
use Rattle.listings.proofs.Digits.{last_two}
use Rattle.listings.proofs.parts.put_two.Goals as goal

pub returns-clause-put : goal.returns-clause-put
returns-clause-put c =
    let entry = c.entry_of-entry.result.now in
    c.put_front.ensures ∙ ap (λ l. take c.args.at c.args.room.now ++ take 2 l) (take_rest entry 1)
    ∙ ap (λ l. take c.args.at c.args.room.now ++ l)
    (last_two entry c.args.number c.requires.two c.entry_of-entry.ensures.digits c.entry_of-entry.ensures.count)
