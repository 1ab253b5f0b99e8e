use Rattle.std.proofs.Common.{ap, ◌∙◌, arith}
use Rattle.map_service.specs.Prepared.{part_after}
use Rattle.map_service.specs.Views.{part_view}
use Rattle.map_service.proofs.PartLists.{passed, put_at}
use Rattle.map_service.proofs.assembler.put_on.Goals as goal

pub returns-then-place-len-clause-parts : goal.returns-then-place-len-clause-parts
returns-then-place-len-clause-parts c =
    passed c.args.limits.now c.args.parts.now.items c.args.map c.args.change c.args.octets.now c.requires.kept
    c.requires.open c.requires.listed (omega (arith, c.args.parts.now.ok.0))

pub returns-clause-parts : goal.returns-clause-parts
returns-clause-parts c =
    put_at c.args.parts.now.items c.args.map c.from-place.result c.args.change c.args.octets.now
    c.index_mut.result.now c.put.new.part c.from-place.ensures (omega (arith, c.args.parts.now.ok.0))
    (c.put.ensures.part
    ∙ ap (λ part. part_after c.args.change (part_view part) c.args.octets.now) c.index_mut.ensures.value)
