use Rattle.tm_link.proofs.Outages.{one_more, one_more_arrives}
use Rattle.tm_link.proofs.laws.law_of_outage.Goals as goal

pub returns-clause-any : goal.returns-clause-any
returns-clause-any c = one_more

pub returns-clause-arrived : goal.returns-clause-arrived
returns-clause-arrived c = one_more_arrives
