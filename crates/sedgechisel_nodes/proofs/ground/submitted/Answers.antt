use Rattle.nodes.specs.Ground.{submit_fault}
use Rattle.sedgechisel_nodes.proofs.Answered.{answered}
use Rattle.sedgechisel_nodes.proofs.ground.submitted.Goals as goal

pub returns-clause-answer : goal.returns-clause-answer
returns-clause-answer c =
    answered (submit_fault c.args.node.now c.args.map c.args.octets.now) c.submit.result c.number_of.result
    c.number_of.ensures c.submit.ensures.refused c.submit.ensures.memory
