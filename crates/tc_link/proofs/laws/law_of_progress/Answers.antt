use Rattle.tc_link.proofs.Confirmed.{each_is_confirmed, each_resumption_is_confirmed}
use Rattle.tc_link.proofs.ProgressSure.{each_begins, each_ends, each_is_delivered}
use Rattle.tc_link.proofs.ProgressNext.{each_makes_progress, each_acknowledges}
use Rattle.tc_link.proofs.SentOnce.{each_is_sent_once}
use Rattle.tc_link.proofs.laws.law_of_progress.Goals as goal

pub returns-clause-progress : goal.returns-clause-progress
returns-clause-progress c = each_makes_progress

pub returns-clause-delivered : goal.returns-clause-delivered
returns-clause-delivered c = each_is_delivered

pub returns-clause-begins : goal.returns-clause-begins
returns-clause-begins c = each_begins

pub returns-clause-acknowledges : goal.returns-clause-acknowledges
returns-clause-acknowledges c = each_acknowledges

pub returns-clause-ends : goal.returns-clause-ends
returns-clause-ends c = each_ends

pub returns-clause-confirmed : goal.returns-clause-confirmed
returns-clause-confirmed c = each_is_confirmed

pub returns-clause-resumed : goal.returns-clause-resumed
returns-clause-resumed c = each_resumption_is_confirmed

pub returns-clause-once : goal.returns-clause-once
returns-clause-once c = each_is_sent_once
