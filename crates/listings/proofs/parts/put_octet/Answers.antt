use Rattle.std.proofs.Common.{arith}
use Rattle.listings.proofs.Digits.{digits_put}
use Rattle.listings.proofs.parts.put_octet.Goals as goal

pub returns-clause-put : goal.returns-clause-put
returns-clause-put c =
    rw c.from.ensures
    (digits_put c.args.room.now c.put_front.new.room c.entry_of-entry.result.now c.args.at c.args.octet (omega arith)
    c.put_front.ensures c.entry_of-entry.ensures.few c.entry_of-entry.ensures.digits)
