use Rattle.tc_link.proofs.OwnLoop.{each_answers_as_a_link, each_loop_is_a_link, each_loop_is_seen}
use Rattle.tc_link.proofs.OwnLoop.{each_loop_sees_telemetry}
use Rattle.tc_link.proofs.laws.law_of_own_loops.Goals as goal

pub returns-clause-nodes : goal.returns-clause-nodes
returns-clause-nodes c = each_loop_is_a_link

pub returns-clause-answers : goal.returns-clause-answers
returns-clause-answers c = each_answers_as_a_link

pub returns-clause-seen : goal.returns-clause-seen
returns-clause-seen c = each_loop_is_seen

pub returns-clause-telemetry : goal.returns-clause-telemetry
returns-clause-telemetry c = each_loop_sees_telemetry
