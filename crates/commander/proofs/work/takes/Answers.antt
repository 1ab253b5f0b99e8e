use Rattle.nodes.specs.Ground.{ground_step, Submit, submit_fault, after_submission}
use Rattle.commander.proofs.Refused.{IsRefused, refused}
use Rattle.commander.proofs.work.takes.Goals as goal

pub returns-in-Err : goal.returns-in-Err
returns-in-Err c =
    let s = c.args.ground_node.now in
    let m = c.args.map in
    let octets = c.args.packet.now in
    let is = refused s (after_submission s m octets) c.submit.new.self (submit_fault s m octets) c.in-Err.fault
    c.submit.result c.submit.ensures c.in-Err.is in
    let so : IsRefused (ground_step s (Submit m octets)) s c.submit.new.self c.refusal_of.result =
    rw c.refusal_of.ensures is in
    record { answer = so.answer; after = so.after; err = so.err; fault = so.fault }
