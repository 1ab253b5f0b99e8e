use Rattle.std.proofs.Common.{Some, ap, ◌∙◌}
use Rattle.commander.specs.declared.commander.Commander.{Commander}
use Rattle.sedgechisel_nodes.proofs.Commanded.{fresh}
use Rattle.sedgechisel_nodes.proofs.commanding.readings.sedge_commander_fresh.Goals as goal

pub returns-clause-fresh : goal.returns-clause-fresh
returns-clause-fresh c =
    let said = c.freshened-answer.ensures in
    fresh c.deref.result.now c.args.commander.now.value c.freshened-answer.result c.args.count.now
    c.freshened-answer.new.count c.args.out.now c.freshened-answer.new.out
    (ap (λ (u : Commander). Some u) c.deref.ensures ∙ c.in-Some.ensures.taken) said.answer said.octets said.unwritten
