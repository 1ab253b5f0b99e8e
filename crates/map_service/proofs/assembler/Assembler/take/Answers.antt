use Rattle.std.proofs.Common.{ap, length, sym, ◌∙◌, ◌≡◌, []}
use Rattle.tc_frame.specs.Layout.{SegmentView, segment_view}
use Rattle.map_service.specs.AssemblerTable.{TakeOutcome}
use Rattle.map_service.specs.Exactness.{AssemblerState, part_on_map}
use Rattle.map_service.specs.Views.{ready_view}
use Rattle.map_service.proofs.AssemblerSteps.{taken_exactly}
use Rattle.map_service.proofs.Handed.{none_at_once}
use Rattle.map_service.proofs.assembler.Assembler.take.Goals as goal

pub returns-in_err-packets-clause-none : goal.returns-in_err-packets-clause-none
returns-in_err-packets-clause-none c =
    λ at_once.
    let s : SegmentView = segment_view c.args.segment.now in
    let a : AssemblerState = c.args.self.now in
    let nothing : ready_view c.in_ok-dropped.field-0.packets ≡ [] =
    ap (λ (o : TakeOutcome). o.packets) c.in_ok-dropped.ensures.prepared.outcome
    ∙ none_at_once a.limits (part_on_map a s.header.map) s at_once in
    absurd (cc (c.in_err-packets.ensures.none nothing))

pub returns-clause-exact : goal.returns-clause-exact
returns-clause-exact c =
    λ segments has.
    rw (
      c.in_ok-packets.ensures.packets,
      ap (λ (o : TakeOutcome). o.packets) c.in_ok-dropped.ensures.prepared.outcome,
      c.keep.ensures,
      c.put-closed.ensures.state,
      c.prepare_with_spare.ensures.state,
    )
    (taken_exactly c.args.self.now segments (segment_view c.args.segment.now)
    (sym (ap (λ (a : AssemblerState). length a.parts) c.prepare_with_spare.ensures.state)
    ∙ c.put-closed.ensures.maps) has)
