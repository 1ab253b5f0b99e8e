use Rattle.tc_link.proofs.CountsOn.{keeps_what_is_known}
use Rattle.tc_link.proofs.GroundCounts.{each_counts_segments}
use Rattle.tc_link.proofs.laws.law_of_numbers.Goals as goal

pub returns-clause-link : goal.returns-clause-link
returns-clause-link c = keeps_what_is_known

pub returns-clause-each : goal.returns-clause-each
returns-clause-each c = each_counts_segments
