use Rattle.std.proofs.Common.{Some, ap, ◌∙◌, length}
use Rattle.commander.specs.declared.commander.Commander.{Commander}
use Rattle.commander.specs.Commander.{command_fault}
use Rattle.sedgechisel_nodes.specs.Commanding as calls
use Rattle.sedgechisel_nodes.proofs.Commanded.{commanded}
use Rattle.sedgechisel_nodes.proofs.commanding.commands.sedge_commander_command.Goals as goal

pub returns-clause-commanded : goal.returns-clause-commanded
returns-clause-commanded c =
    let a = c.args in
    let said = c.given-answer.ensures in
    commanded (λ s. command_fault s a.map a.apid a.sequence (length a.content.now))
    (λ s. calls.commanded s a.tag a.map a.apid a.sequence a.content.now) c.deref_mut.result.now
    c.given-answer.new.node a.commander.now.value c.put_back.new.handle.value c.given-answer.result
    (ap (λ (u : Commander). Some u) c.deref_mut.ensures.value ∙ c.in-Some.ensures.taken) c.put_back.ensures
    said.answer said.after (λ other. (said.unchanged other).0)
