use Rattle.nodes.specs.Ground.{submit_fault, after_submission}
use Rattle.node_lines.proofs.Answered.{refused}
use Rattle.node_lines.proofs.ground.submit.Goals as goal

pub returns-in-Err : goal.returns-in-Err
returns-in-Err c =
    let s = c.args.node.now in
    refused c.push_refusal.result c.args.text.now c.push_refusal.new.text s
    (after_submission s c.args.map c.args.octets.now) c.submit.new.self (submit_fault s c.args.map c.args.octets.now)
    c.submit.result c.in-Err.fault c.in-Err.is c.submit.ensures.refused c.submit.ensures.memory
    c.submit.ensures.err c.push_refusal.ensures.text c.push_refusal.ensures.known
