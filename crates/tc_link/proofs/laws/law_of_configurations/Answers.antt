use Rattle.tc_link.proofs.Configured.{alike_is_as_one}
use Rattle.tc_link.proofs.laws.law_of_configurations.Goals as goal

pub returns : goal.returns
returns c = alike_is_as_one
