use Rattle.std.proofs.Common.{sym, ◌∙◌}
use Rattle.map_service.proofs.PartLists.{no_part}
use Rattle.map_service.proofs.assembler.is_some_open.Goals as goal

pub returns-then-is_some : goal.returns-then-is_some
returns-then-is_some c =
    λ closed.
    sym c.if-is_some.true ∙ c.is_some.ensures
    ∙ no_part c.args.parts.now c.loop-place.place c.index-parts-place.result closed c.loop-place-test.true
    c.index-parts-place.is
