use Rattle.simulated_link.proofs.Common.{Result, Ok, Err, OnOk, ap, arith, octets_of}
use Rattle.simulated_link.proofs.Lists.{same_at, room_at}
use Rattle.simulated_link.proofs.map_lists.make_room.Goals as goal

on_ok : {A E P Q : Type 0} (r : Result A E) → (P → Q) → OnOk r P → OnOk r Q
on_ok (Ok x) f p = f p
on_ok (Err e) f p = tt

pub returns-clause-same : goal.returns-clause-same
returns-clause-same c =
    same_at c.args.lists.now c.from.result c.args.map c.index-lists-from.result c.from.ensures (omega arith)
    c.try_reserve.new.self (ap octets_of c.try_reserve.ensures.items)

pub returns-clause-room : goal.returns-clause-room
returns-clause-room c =
    on_ok c.try_reserve.result (λ room. room_at c.args.lists.now c.from.result c.args.map c.index-lists-from.result
    c.from.ensures (omega arith) c.try_reserve.new.self c.args.more (omega (arith, room, c.try_reserve.ensures.len)))
    c.try_reserve.ensures.ok
