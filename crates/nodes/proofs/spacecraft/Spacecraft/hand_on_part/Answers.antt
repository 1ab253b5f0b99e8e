use Rattle.std.proofs.Common.{List, ap, sym, subst, ◌∙◌, arith}
use Rattle.tc_frame.specs.Layout.{SegmentView, segment_view}
use Rattle.map_service.specs.Exactness.{AssemblerState, HasPartsOf}
use Rattle.map_service.specs.Views.{packet_list}
use Rattle.nodes.specs.SpacecraftBounds.{IsReadyWithin}
use Rattle.nodes.proofs.HandedOn.{handed_on}
use Rattle.nodes.proofs.spacecraft.Spacecraft.hand_on_part.Goals as goal

pub make_ready_one-ready-requires-clause-whole : goal.make_ready_one-ready-requires-clause-whole
make_ready_one-ready-requires-clause-whole c =
    (handed_on c.self.inside c.args.self.now (segment_view c.args.segment.now) (packet_list c.in-Ok.field-0.packet)
    c.self.view_is c.self.invariant c.requires.free c.requires.short c.in-Ok.ensures.packet).same_map

pub make_ready_one-ready-requires-clause-room : goal.make_ready_one-ready-requires-clause-room
make_ready_one-ready-requires-clause-room c =
    (handed_on c.self.inside c.args.self.now (segment_view c.args.segment.now) (packet_list c.in-Ok.field-0.packet)
    c.self.view_is c.self.invariant c.requires.free c.requires.short c.in-Ok.ensures.packet).room

pub invariant_of-self-2 : goal.invariant_of-self-2
invariant_of-self-2 c =
    let s : SegmentView = segment_view c.args.segment.now in
    let on = handed_on c.self.inside c.args.self.now s (packet_list c.in-Ok.field-0.packet) c.self.view_is
    c.self.invariant c.requires.free c.requires.short c.in-Ok.ensures.packet in
    record {
      vcid = c.self.invariant.vcid;
      limits = ap (λ (a : AssemblerState). a.limits) c.in-Ok.ensures.state ∙ c.self.invariant.limits;
      parts = subst (λ (segments : List SegmentView). HasPartsOf c.take_part.new.self segments)
          (sym c.then-self-inside.ensures)
          (c.in-Ok.ensures.exact c.self.inside.accepted.segments c.self.invariant.parts).kept;
      slots = c.self.invariant.slots;
      room = omega (arith, c.make_ready_one-ready.ensures.capacity, c.self.invariant.room);
      frames = c.self.invariant.frames;
      waiting = subst (IsReadyWithin c.self.inside.config) (sym c.make_ready_one-ready.ensures.items) on.waits;
      past = c.self.invariant.past;
    }
