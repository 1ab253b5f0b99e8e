use Rattle.tc_link.proofs.Bypass.{bypass_keeps_order}
use Rattle.tc_link.proofs.Separate.{each_is_separate}
use Rattle.tc_link.proofs.TypeB.{counts_type_b}
use Rattle.tc_link.proofs.laws.law_of_bypass.Goals as goal

pub returns-clause-order : goal.returns-clause-order
returns-clause-order c = bypass_keeps_order

pub returns-clause-counted : goal.returns-clause-counted
returns-clause-counted c = counts_type_b

pub returns-clause-apart : goal.returns-clause-apart
returns-clause-apart c = each_is_separate
