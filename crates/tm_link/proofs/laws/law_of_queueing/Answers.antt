use Rattle.tm_link.proofs.Laid.{to_send_is, to_send_again}
use Rattle.tm_link.proofs.laws.law_of_queueing.Goals as goal

pub returns-clause-only : goal.returns-clause-only
returns-clause-only c = to_send_is

pub returns-clause-all : goal.returns-clause-all
returns-clause-all c = to_send_again
