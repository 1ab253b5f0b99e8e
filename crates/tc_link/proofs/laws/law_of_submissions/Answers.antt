use Rattle.tc_link.proofs.Fates.{knows_fates}
use Rattle.tc_link.proofs.GroundCounts.{each_counts_its_submissions}
use Rattle.tc_link.proofs.laws.law_of_submissions.Goals as goal

pub returns-clause-link : goal.returns-clause-link
returns-clause-link c = knows_fates

pub returns-clause-each : goal.returns-clause-each
returns-clause-each c = each_counts_its_submissions
