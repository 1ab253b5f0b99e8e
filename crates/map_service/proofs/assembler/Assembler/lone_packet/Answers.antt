use Rattle.std.proofs.Common.{◌≡◌, ◌∙◌, List, ℕ, Option, Some, None, ap, get_or, subst}
use Rattle.tc_frame.specs.Layout.{segment_view}
use Rattle.map_service.specs.AssemblerFields.{parts_of}
use Rattle.map_service.specs.AssemblerTable.{lone_packet_cell}
use Rattle.map_service.specs.Exactness.{AssemblerState, part_on_map}
use Rattle.map_service.proofs.AssemblerSteps.{lone_stays}
use Rattle.map_service.proofs.assembler.Assembler.lone_packet.Goals as goal

pub returns-clause-state : goal.returns-clause-state
returns-clause-state c =
    λ found.
    let s = segment_view c.args.segment.now in
    let part = c.part_on.ensures
    ∙ ap (λ (parts : List _). get_or (parts_of parts) s.header.map None) c.deref.ensures.value in
    lone_stays c.args.self.now s s.payload
    (subst (λ (a : AssemblerState). lone_packet_cell a.limits s.header.flags (part_on_map a s.header.map) s.payload
    ≡ Some s.payload) c.self.view_is
    (subst (λ (p : Option (List ℕ)). lone_packet_cell c.self.inside.limits s.header.flags p s.payload
    ≡ Some s.payload) part c.if-not-is_lone_packet.ensures))
