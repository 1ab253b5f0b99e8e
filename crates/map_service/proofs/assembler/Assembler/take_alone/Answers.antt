use Rattle.tc_frame.specs.Layout.{segment_view}
use Rattle.map_service.specs.Exactness.{AssemblerState, part_on_map}
use Rattle.map_service.proofs.AssemblerSteps.{taken_exactly}
use Rattle.map_service.proofs.Handed.{handed_packets}
use Rattle.map_service.proofs.assembler.Assembler.take_alone.Goals as goal

pub returns-clause-exact : goal.returns-clause-exact
returns-clause-exact c =
    λ segments has.
    let a : AssemblerState = c.args.self.now in
    let s = segment_view c.args.segment.now in
    rw (c.put-2.ensures.state, ← handed_packets a.limits (part_on_map a s.header.map) s c.requires)
    (taken_exactly a segments s c.put-2.ensures.maps has)
