use Rattle.listings.proofs.Digits.{joined, four_are}
use Rattle.listings.proofs.parts.put_four.Goals as goal

pub returns-clause-put : goal.returns-clause-put
returns-clause-put c = joined _ _ _ c.put_two-next.ensures.put c.put_two.ensures.put (four_are c.args.number)
