use Rattle.std.proofs.Common.{◌-◌, length, arith}
use Rattle.std.proofs.lemmas.List.{take_rest}
use Rattle.listings.proofs.Digits.{ends_put}
use Rattle.listings.proofs.parts.put_word.Goals as goal

pub returns-clause-put : goal.returns-clause-put
returns-clause-put g c =
    let word = c.args.word.now in
    let last = length word - g.row.N in
    ends_put c.args.room.now c.put_front.new.room c.put_front-2.new.room word c.args.at g.row.N last
    (omega arith) c.requires.most.0 (omega arith) (omega arith) c.put_front.ensures
    (rw (take_rest word last) at c.put_front-2.ensures)
