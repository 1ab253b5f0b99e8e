use Rattle.std.proofs.Common.{◌≡◌, ◌∙◌, sym, subst, None, get_or}
use Rattle.tc_frame.specs.Layout.{segment_view}
use Rattle.map_service.specs.AssemblerFields.{parts_of}
use Rattle.map_service.specs.Exactness.{AssemblerState, step_at}
use Rattle.map_service.specs.Packets.{packets_in}
use Rattle.map_service.proofs.Handed.{handed_packets}
use Rattle.map_service.proofs.assembler.Assembler.hands_out.Goals as goal

pub returns-then-is_open-clause-packets : goal.returns-then-is_open-clause-packets
returns-then-is_open-clause-packets c =
    λ is.
    let s = segment_view c.args.segment.now in
    subst (λ (a : AssemblerState). (step_at a s).packets ≡ packets_in s.payload) c.self.view_is
    (handed_packets c.self.inside.limits (get_or (parts_of c.self.inside.parts.items) s.header.map None) s
    (rw (sym c.is_open.ensures ∙ c.if-is_open.true) (sym c.hands_out.ensures ∙ is)))
