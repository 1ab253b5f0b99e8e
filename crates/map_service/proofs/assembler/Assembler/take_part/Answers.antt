use Rattle.std.proofs.Common.{sym, subst}
use Rattle.tc_frame.specs.Layout.{segment_view}
use Rattle.map_service.specs.AssemblerFields.{state_of}
use Rattle.map_service.specs.Exactness.{AssemblerState, HasPartsOf}
use Rattle.map_service.proofs.AssemblerSteps.{taken_exactly}
use Rattle.map_service.proofs.PartLists.{of_all_maps}
use Rattle.map_service.proofs.assembler.Assembler.take_part.Goals as goal

pub returns-clause-exact : goal.returns-clause-exact
returns-clause-exact c =
    λ segments has.
    rw (c.in_ok-dropped.ensures.packet, c.in_ok-dropped.ensures.parts)
    (taken_exactly (state_of c.self.inside) segments (segment_view c.args.segment.now)
    (of_all_maps c.self.inside.parts.items c.self.invariant.list.most)
    (subst (λ (a : AssemblerState). HasPartsOf a segments) (sym c.self.view_is) has))
