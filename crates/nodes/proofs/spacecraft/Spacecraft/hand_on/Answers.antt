use Rattle.std.proofs.Common.{List, ap, sym, subst, ◌∙◌, arith}
use Rattle.tc_frame.specs.Layout.{SegmentView, segment_view}
use Rattle.map_service.specs.Exactness.{AssemblerState, HasPartsOf}
use Rattle.map_service.specs.Views.{ready_view}
use Rattle.nodes.specs.SpacecraftBounds.{IsReadyWithin}
use Rattle.nodes.proofs.HandedOn.{handed_on}
use Rattle.nodes.proofs.spacecraft.Spacecraft.hand_on.Goals as goal

pub make_ready-requires-clause-whole : goal.make_ready-requires-clause-whole
make_ready-requires-clause-whole c =
    (handed_on c.self.inside c.args.self.now (segment_view c.args.segment.now) (ready_view c.commit-packets.result)
    c.self.view_is c.self.invariant c.requires.free c.requires.short c.commit-packets.ensures.packets).same_map

pub make_ready-requires-clause-room : goal.make_ready-requires-clause-room
make_ready-requires-clause-room c =
    (handed_on c.self.inside c.args.self.now (segment_view c.args.segment.now) (ready_view c.commit-packets.result)
    c.self.view_is c.self.invariant c.requires.free c.requires.short c.commit-packets.ensures.packets).room

pub invariant_of-self : goal.invariant_of-self
invariant_of-self c =
    let s : SegmentView = segment_view c.args.segment.now in
    let on = handed_on c.self.inside c.args.self.now s (ready_view c.commit-packets.result) c.self.view_is
    c.self.invariant c.requires.free c.requires.short c.commit-packets.ensures.packets in
    record {
      vcid = c.self.invariant.vcid;
      limits = ap (λ (a : AssemblerState). a.limits) c.commit-packets.ensures.state ∙ c.self.invariant.limits;
      parts = subst (λ (segments : List SegmentView). HasPartsOf c.commit-packets.new.self segments)
          (sym c.then-self-inside.ensures)
          (c.commit-packets.ensures.exact c.self.inside.accepted.segments c.self.invariant.parts).kept;
      slots = c.self.invariant.slots;
      room = omega (arith, c.make_ready.ensures.capacity, c.self.invariant.room);
      frames = c.self.invariant.frames;
      waiting = subst (IsReadyWithin c.self.inside.config) (sym c.make_ready.ensures.items) on.waits;
      past = c.self.invariant.past;
    }
