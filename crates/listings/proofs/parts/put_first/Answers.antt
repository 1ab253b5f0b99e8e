use Rattle.std.proofs.Common.{arith}
use Rattle.listings.proofs.Digits.{front_put}
use Rattle.listings.proofs.parts.put_first.Goals as goal

pub returns-clause-put : goal.returns-clause-put
returns-clause-put g c =
    front_put c.args.room.now c.put_front.new.room c.args.octets.now c.args.at c.args.count g.row.N (omega arith)
    c.requires.most.0 c.put_front.ensures
