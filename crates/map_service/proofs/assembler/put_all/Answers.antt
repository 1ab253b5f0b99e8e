use Rattle.std.proofs.Common.{sym, ◌∙◌}
use Rattle.map_service.proofs.PartLists.{there}
use Rattle.map_service.proofs.assembler.put_all.Goals as goal

pub put_on-requires-clause-listed : goal.put_on-requires-clause-listed
put_on-requires-clause-listed c =
    there c.args.limits.now c.args.segment.now.header.map c.args.change c.args.parts.now.items c.lay.new.parts.items
    c.args.list.items (sym c.is_open.ensures ∙ c.if-not-is_open.false) c.requires.brought c.lay.ensures.laid
    c.lay.ensures.there
