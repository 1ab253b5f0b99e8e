use Rattle.std.proofs.Common.{refl}
use Rattle.map_service.proofs.AssemblerSteps.{assembled-push, open_part-push, assembled-other, open_part-other}
use Rattle.map_service.proofs.laws.law_of_steps.Goals as goal

pub returns-clause-packets : goal.returns-clause-packets
returns-clause-packets c = λ limits segments s. assembled-push limits segments s _ refl

pub returns-clause-part : goal.returns-clause-part
returns-clause-part c = λ limits segments s. open_part-push limits segments s _ refl

pub returns-clause-other_packets : goal.returns-clause-other_packets
returns-clause-other_packets c = assembled-other

pub returns-clause-other_parts : goal.returns-clause-other_parts
returns-clause-other_parts c = open_part-other
