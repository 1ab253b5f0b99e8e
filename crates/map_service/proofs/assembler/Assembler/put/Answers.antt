use Rattle.std.proofs.Common.{◌≡◌, ◌∙◌, ap, sym, subst, length, true}
use Rattle.tc_frame.specs.Layout.{segment_view}
use Rattle.map_service.specs.AssemblerFields.{HasPlaces, parts_of}
use Rattle.map_service.specs.Exactness.{AssemblerState, part_on_map, step_at, after_step}
use Rattle.map_service.specs.Prepared.{part_after, is_opened, AreClosed}
use Rattle.map_service.proofs.AssemblerSteps.{put_part}
use Rattle.map_service.proofs.PartLists.{closed_none}
use Rattle.map_service.proofs.assembler.Assembler.put.Goals as goal

pub put_all-requires-clause-brought : goal.put_all-requires-clause-brought
put_all-requires-clause-brought c =
    λ opens none.
    subst (λ (a : AssemblerState). is_opened c.args.change ≡ true → AreClosed (part_on_map a)
    → HasPlaces a.limits (length c.args.list.items)) (sym c.self.view_is) c.requires.brought opens
    (closed_none c.self.inside.parts.items none)

pub returns-clause-state : goal.returns-clause-state
returns-clause-state c =
    let s = segment_view c.args.segment.now in
    put_part c.self.inside.limits (parts_of c.self.inside.parts.items) (parts_of c.put_all.new.parts.items) s
    c.args.change c.put_all.ensures.parts (λ closed. ap parts_of (c.put_all.ensures.other closed))
    (subst (λ (a : AssemblerState). part_after c.args.change (part_on_map a s.header.map) s.payload
    ≡ (step_at a s).part) (sym c.self.view_is) c.requires.part)
    ∙ ap (λ (a : AssemblerState). after_step a s) c.self.view_is
