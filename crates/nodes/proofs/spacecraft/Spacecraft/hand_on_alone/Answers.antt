use Rattle.std.proofs.Common.{◌≡◌, List, true, ap, sym, subst, ◌∙◌, arith, rules}
use Rattle.tc_frame.specs.Layout.{SegmentView, segment_view}
use Rattle.map_service.specs.AssemblerTable.{hands_out}
use Rattle.map_service.specs.Assembly.{open_part}
use Rattle.map_service.specs.Exactness.{AssemblerState, HasPartsOf, part_on_map, step_at}
use Rattle.map_service.specs.Packets.{packets_in}
use Rattle.map_service.proofs.Handed.{handed_packets}
use Rattle.nodes.specs.declared.spacecraft.Spacecraft.TheInside.{Inside}
use Rattle.nodes.specs.Parameters.{limits_of}
use Rattle.nodes.specs.Spacecraft.{SpacecraftState, after_segment}
use Rattle.nodes.specs.SpacecraftBounds.{IsReadyWithin}
use Rattle.nodes.specs.SpacecraftFields.{state_of, IsSound}
use Rattle.nodes.proofs.HandedOn.{handed_on}
use Rattle.nodes.proofs.spacecraft.Spacecraft.hand_on_alone.Goals as goal

module _ (i : Inside) (now : SpacecraftState) (s : SegmentView) (same : state_of i ≡ now)
    (alone : hands_out (limits_of now.config) s ≡ true) where
  still_alone : hands_out (limits_of i.config) s ≡ true
  still_alone = subst (λ (t : SpacecraftState). hands_out (limits_of t.config) s ≡ true) (sym same) alone

  -- the segment's packets are those in its octets
  they_are : IsSound i → packets_in s.payload ≡ (step_at i.assembler s).packets
  they_are sound =
      sym (handed_packets i.assembler.limits (part_on_map i.assembler s.header.map) s (rw sound.limits still_alone))

pub make_ready_of-requires-clause-whole : goal.make_ready_of-requires-clause-whole
make_ready_of-requires-clause-whole c =
    let s : SegmentView = segment_view c.args.segment.now in
    (handed_on c.self.inside c.args.self.now s (packets_in s.payload) c.self.view_is c.self.invariant c.requires.free
    c.requires.short (they_are _ _ s c.self.view_is c.requires.alone c.self.invariant)).same_map

pub make_ready_of-requires-clause-room : goal.make_ready_of-requires-clause-room
make_ready_of-requires-clause-room c =
    let s : SegmentView = segment_view c.args.segment.now in
    (handed_on c.self.inside c.args.self.now s (packets_in s.payload) c.self.view_is c.self.invariant c.requires.free
    c.requires.short (they_are _ _ s c.self.view_is c.requires.alone c.self.invariant)).room

pub invariant_of-self-2 : goal.invariant_of-self-2
invariant_of-self-2 c =
    let s : SegmentView = segment_view c.args.segment.now in
    let on = handed_on c.self.inside c.args.self.now s (packets_in s.payload) c.self.view_is c.self.invariant
    c.requires.free c.requires.short (they_are _ _ s c.self.view_is c.requires.alone c.self.invariant) in
    record {
      vcid = c.self.invariant.vcid;
      limits = ap (λ (a : AssemblerState). a.limits) c.take_alone-dropped.ensures.state ∙ c.self.invariant.limits;
      parts = subst (λ (segments : List SegmentView). HasPartsOf c.take_alone-dropped.new.self segments)
          (sym c.then-self-inside.ensures)
          (c.take_alone-dropped.ensures.exact c.self.inside.accepted.segments c.self.invariant.parts).kept;
      slots = c.self.invariant.slots;
      room = omega (arith, c.make_ready_of.ensures.capacity, c.self.invariant.room);
      frames = c.self.invariant.frames;
      waiting = subst (IsReadyWithin c.self.inside.config) (sym c.in_ok-ready.ensures.items) on.waits;
      past = c.self.invariant.past;
    }

pub returns : goal.returns
returns c =
    let s : SegmentView = segment_view c.args.segment.now in
    let i : Inside = c.self.inside in
    record {
      step = record {
        answer = search rules;
        after = rw (
          c.in_ok-ready.ensures.items,
          c.then-self-inside.ensures,
          ← handed_packets (limits_of i.config) (open_part (limits_of i.config) s.header.map i.accepted.segments) s
              (still_alone i c.args.self.now s c.self.view_is c.requires.alone),
        )
            (ap (λ (t : SpacecraftState). after_segment t s) c.self.view_is);
        err = tt;
        fault = tt;
      };
    }
