use Rattle.simulated_link.proofs.Common.{◌≡◌, List, ℕ, Option, Some, None, IfSome, option_map, refl, ap, ◌∙◌}
use Rattle.simulated_link.proofs.Common.{SegmentView, segment_octets, segment_to_accept, SpacecraftState}
use Rattle.simulated_link.proofs.Common.{AcceptanceView, acceptance_with, ◌++◌, length, map, Err, sym, arith}
use Rattle.simulated_link.proofs.Common.{length-map, octets_of, spacecraft_receive, packets_accepted_on, [], not, World}
use Rattle.simulated_link.proofs.Common.{up_deliver_step, On, Ok, Up}
use Rattle.tc_frame.specs.declared.frame.Segment.{Segment}
use Rattle.tc_frame.specs.Layout.{segment_view}
use Rattle.map_service.specs.declared.assembler.Prepared.{Prepared}
use Rattle.map_service.specs.AssemblerTable.{TakeOutcome}
use Rattle.map_service.specs.Views.{ready_view}
use Rattle.nodes.specs.declared.spacecraft.arrival.Arrival.{Arrival}
use Rattle.nodes.specs.Arrival.{IsAcceptable, IsArrivalAt}
use Rattle.simulated_link.specs.Acceptance.{acceptance_in, acceptance_view}
use Rattle.std.proofs.Common.{rules}
use Rattle.tc_frame.specs.Decoding.{frame_at}
use Rattle.nodes.specs.Spacecraft.{HandsNothingOn}
use Rattle.nodes.specs.declared.event.Event.TheVariants.{UpDeliver}
use Rattle.simulated_link.specs.declared.fault.SimFault.TheVariants.{Memory}
use Rattle.simulated_link.specs.Events.{LetsHappen}
use Rattle.simulated_link.specs.WorldFields.{world_of}
use Rattle.simulated_link.proofs.Transit.{IsFirst, none_there, first_there, happens, lacks}
use Rattle.simulated_link.specs.declared.acceptance.Acceptance.{Acceptance}
use Rattle.simulated_link.proofs.Gained.{field_behind, delivered_by, gained}
use Rattle.simulated_link.specs.declared.reply.Reply.TheVariants as replies
use Rattle.simulated_link.proofs.world.World.up_deliver.Goals.{After-deref}
use Rattle.simulated_link.proofs.world.World.up_deliver.Goals as goal

-- An arrival's acceptance is that of the segment to be accepted from its octets.

with_packets : (segment : SegmentView) → List (List ℕ) → AcceptanceView
with_packets segment packets = record { field = segment_octets segment; on_map = segment.header.map; packets = packets }

accepted_so : (s : SpacecraftState) (o : Option (Segment × Prepared))
    → IfSome o (λ p. IsAcceptable s (segment_view p.0) p.1)
    → option_map (λ (p : SegmentView × List (List ℕ)). with_packets p.0 p.1)
    (option_map (λ (p : Segment × Prepared). (segment_view p.0, ready_view p.1.packets)) o)
    ≡ option_map (acceptance_with s) (option_map (λ (p : Segment × Prepared). segment_view p.0) o)
unfolding with_packets
accepted_so s None k = refl
accepted_so s (Some p) k =
    ap (λ (packets : List (List ℕ)). Some (with_packets (segment_view p.0) packets))
    (ap (λ (t : TakeOutcome). t.packets) k.prepared.outcome)

arrival_accepts : (s : SpacecraftState) (a : Arrival) → IsArrivalAt s a
    → acceptance_in a ≡ option_map (acceptance_with s) (segment_to_accept s a.octets.now)
unfolding with_packets
arrival_accepts s a k = accepted_so s a.accepted k.acceptable ∙ ap (option_map (acceptance_with s)) k.accepted

field_of_view : (o : Option Acceptance)
    → option_map (λ (g : AcceptanceView). g.field) (option_map acceptance_view o)
    ≡ option_map (λ (f : Acceptance). f.field.items) o
field_of_view None = refl
field_of_view (Some f) = refl

field_of_gain : (s : SpacecraftState) (o : Option SegmentView)
    → option_map (λ (g : AcceptanceView). g.field) (option_map (acceptance_with s) o) ≡ option_map segment_octets o
field_of_gain s None = refl
field_of_gain s (Some segment) = refl

pub invariant_of-self-2 : goal.invariant_of-self-2
invariant_of-self-2 c =
    let spacecraft : SpacecraftState = c.self.inside.spacecraft in
    let octets : List ℕ = c.deref.result.now in
    let accepts : Option SegmentView = segment_to_accept spacecraft octets in
    let seen : option_map acceptance_view c.in-Ok-acceptance_of.acceptance
    ≡ option_map (acceptance_with spacecraft) accepts =
    c.in-Ok-acceptance_of.ensures.accepted
    ∙ arrival_accepts spacecraft c.in-Ok.arrival c.in-Ok.ensures.arrival
    ∙ ap (λ (o : List ℕ). option_map (acceptance_with spacecraft) (segment_to_accept spacecraft o))
    c.in-Ok.ensures.octets in
    let field : option_map (λ (f : Acceptance). f.field.items) c.in-Ok-acceptance_of.acceptance
    ≡ option_map segment_octets accepts =
    sym (field_of_view c.in-Ok-acceptance_of.acceptance) ∙ ap (option_map (λ (g : AcceptanceView). g.field)) seen
    ∙ field_of_gain spacecraft accepts in
    let after : c.commit-received.new.self ≡ (spacecraft_receive spacecraft octets).after =
    c.commit-received.ensures.after
    ∙ ap (λ (o : List ℕ). (spacecraft_receive spacecraft o).after) c.in-Ok.ensures.octets in
    record {
      accepted = c.record_accepted.ensures.accepted
          ∙ field_behind spacecraft octets (octets_of c.make_room_for.new.accepted.items)
          (option_map (λ (f : Acceptance). f.field.items) c.in-Ok-acceptance_of.acceptance)
          (ap octets_of c.make_room_for.ensures.accepted ∙ c.self.invariant.accepted) field
          ∙ ap (λ (s : SpacecraftState). map segment_octets s.accepted) (sym after);
      before = omega (
        arith,
        c.self.invariant.before,
        ap length c.make_room_for.ensures.accepted,
        c.record_accepted.ensures.more,
      );
      counted = c.self.invariant.counted;
      submitted_on = c.self.invariant.submitted_on;
      delivered_on = λ m.
          c.record_accepted.ensures.delivered m
          ∙ ap (λ (xs : List (List ℕ)). xs
          ++ packets_accepted_on m (option_map acceptance_view c.in-Ok-acceptance_of.acceptance))
          (c.make_room_for.ensures.delivered m ∙ c.self.invariant.delivered_on m)
          ∙ ap (λ (o : Option AcceptanceView). delivered_by spacecraft.config m c.self.inside.session.before
          spacecraft.accepted ++ packets_accepted_on m o) seen
          ∙ sym (gained spacecraft octets m c.self.inside.session.before
          (omega (
            arith,
            c.self.invariant.before,
            ap length c.self.invariant.accepted,
            length-map
                c.self.inside.accepted.items (λ v. v.items),
            length-map spacecraft.accepted segment_octets,
          )))
          ∙ ap (λ (s : SpacecraftState). delivered_by s.config m c.self.inside.session.before s.accepted) (sym after);
    }

-- the octets are those of the first frame in transit
came : (c : After-deref) → IsFirst c.deref.result.now c.self.inside.up.items
came c =
    first_there c.self.inside.up.items c.in-Some.octets.now c.deref.result.now c.in-Some.ensures.item.3.0
    c.in-Some.ensures.lookup c.deref.ensures.value

-- the frame's data are to be passed on, and memory runs out
wants : (c : After-deref) (new : World) → new ≡ c.args.self.now
    → (HandsNothingOn c.self.inside.spacecraft (frame_at On c.deref.result.now) → ⊥)
    → LetsHappen UpDeliver c.args.self.now new (Err Memory)
wants c new same takes =
    lacks c.self.inside c.args.self.now c.self.view_is UpDeliver new same (rw (came c) (search rules))
    (rw (came c) takes)

pub returns-in_default : goal.returns-in_default
returns-in_default c =
    let none : c.args.self.now.up ≡ [] =
    ap (λ (w : World). w.up) (sym c.self.view_is) ∙ none_there c.self.inside.up.items c.in_default.ensures.item.3 in
    rw none (search rules)

pub returns-in_default-prepare : goal.returns-in_default-prepare
returns-in_default-prepare c =
    wants (goal.at.returns-in_default-prepare c).After-deref c.args.self.now refl
    (λ none. cc (c.in_default-prepare.ensures.none none))

pub returns-in_default-acceptance_of : goal.returns-in_default-acceptance_of
returns-in_default-acceptance_of c =
    wants (goal.at.returns-in_default-acceptance_of c).After-deref c.args.self.now refl
    (λ none. cc (c.in_default-acceptance_of.ensures.nothing (c.in-Ok.ensures.nothing none)))

pub invariant_of-self : goal.invariant_of-self
invariant_of-self c = record {
  accepted = ap octets_of c.make_room_for.ensures.accepted ∙ c.self.invariant.accepted;
  before = omega (arith, c.self.invariant.before, ap length c.make_room_for.ensures.accepted);
  counted = c.self.invariant.counted;
  submitted_on = c.self.invariant.submitted_on;
  delivered_on = λ m. c.make_room_for.ensures.delivered m ∙ c.self.invariant.delivered_on m;
}

pub returns-then-is_err : goal.returns-then-is_err
returns-then-is_err c =
    wants (goal.at.returns-then-is_err c).After-deref (world_of c.self.inside) c.self.view_is
    (λ none.
    let nothing : c.in-Ok-acceptance_of.acceptance ≡ None =
    cc (c.in-Ok-acceptance_of.ensures.nothing (c.in-Ok.ensures.nothing none)) in
    cc (sym (c.make_room_for.ensures.none nothing) ∙ c.is_err.ensures.negation ∙ ap not c.if-is_err.true))

-- the octets have arrived
pub returns : goal.returns
returns c =
    let w : World = world_of c.self.inside in
    let first = came (goal.at.returns c).After-deref in
    happens c.self.inside c.args.self.now c.self.view_is UpDeliver (replies.Up c.commit-received.result)
    (record w { spacecraft = c.commit-received.new.self; up = octets_of c.pop_front.new.self.items })
    (ap (λ (way : List (List ℕ)). (up_deliver_step w way).answer) first
    ∙ ap (λ r. Ok (Up r)) (sym (c.commit-received.ensures.answer
    ∙ ap (λ (o : List ℕ). (spacecraft_receive w.spacecraft o).answer) c.in-Ok.ensures.octets)))
    (ap (λ (s : SpacecraftState). record w { spacecraft = s; up = octets_of c.pop_front.new.self.items })
    (c.commit-received.ensures.after
    ∙ ap (λ (o : List ℕ). (spacecraft_receive w.spacecraft o).after) c.in-Ok.ensures.octets)
    ∙ ap (λ xs. record w {
      spacecraft = (spacecraft_receive w.spacecraft c.deref.result.now).after;
      up = octets_of xs;
    }) c.pop_front.ensures.rest
    ∙ ap (λ (way : List (List ℕ)). (up_deliver_step w way).after) (sym first))
