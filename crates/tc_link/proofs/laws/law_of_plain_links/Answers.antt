use Rattle.tc_link.proofs.OneLink.{each_has_one_link, each_goes_on_as_one}
use Rattle.tc_link.proofs.laws.law_of_plain_links.Goals as goal

pub returns-clause-one : goal.returns-clause-one
returns-clause-one c = each_has_one_link

pub returns-clause-goes_on : goal.returns-clause-goes_on
returns-clause-goes_on c = each_goes_on_as_one
