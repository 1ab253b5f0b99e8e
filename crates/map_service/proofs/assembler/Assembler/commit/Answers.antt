use Rattle.std.proofs.Common.{ap}
use Rattle.tc_frame.specs.Layout.{segment_view}
use Rattle.map_service.specs.AssemblerTable.{TakeOutcome}
use Rattle.map_service.proofs.AssemblerSteps.{taken_exactly}
use Rattle.map_service.proofs.assembler.Assembler.commit.Goals as goal

pub returns-clause-exact : goal.returns-clause-exact
returns-clause-exact c =
    λ segments has.
    rw (ap (λ (o : TakeOutcome). o.packets) c.requires.outcome, c.put.ensures.state)
    (taken_exactly c.args.self.now segments (segment_view c.args.segment.now) c.put.ensures.maps has)
