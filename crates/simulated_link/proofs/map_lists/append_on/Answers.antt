use Rattle.simulated_link.proofs.Common.{length, arith, packets_view}
use Rattle.simulated_link.proofs.Lists.{append_at, has_room}
use Rattle.simulated_link.proofs.map_lists.append_on.Goals as goal

pub append-requires : goal.append-requires
append-requires c =
    has_room c.args.lists.now c.from.result c.args.map c.index-lists-from.result c.from.ensures (omega arith)
    (length c.args.packets.items) c.requires.room

pub returns : goal.returns
returns c = append_at c.args.lists.now c.from.result c.args.map c.index-lists-from.result c.from.ensures (omega arith)
    c.append.new.list (packets_view c.args.packets) c.append.ensures
