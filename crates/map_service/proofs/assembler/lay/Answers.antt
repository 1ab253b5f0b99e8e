use Rattle.std.proofs.Common.{sym, ◌∙◌, arith}
use Rattle.map_service.proofs.PartLists.{closed_list, no_list}
use Rattle.map_service.proofs.assembler.lay.Goals as goal

pub returns-then-is_empty-clause-same : goal.returns-then-is_empty-clause-same
returns-then-is_empty-clause-same c =
    closed_list c.args.list.items c.requires.list.most c.requires.list.closed
    ∙ sym (no_list c.args.parts.now.items (grind (arith, c.args.parts.now.ok.0, c.is_empty.ensures)))
