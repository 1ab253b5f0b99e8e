use Rattle.tc_link.proofs.Taken.{hands_out_what_is_delivered, hands_out_what_is_submitted, hands_out_as_submitted}
use Rattle.tc_link.proofs.NoMore.{each_accepts_at_most}
use Rattle.tc_link.proofs.laws.law_of_taking.Goals as goal

pub returns-clause-delivered : goal.returns-clause-delivered
returns-clause-delivered c = hands_out_what_is_delivered

pub returns-clause-submitted : goal.returns-clause-submitted
returns-clause-submitted c = hands_out_what_is_submitted

pub returns-clause-order : goal.returns-clause-order
returns-clause-order c = hands_out_as_submitted

pub returns-clause-at_most : goal.returns-clause-at_most
returns-clause-at_most c = each_accepts_at_most
