use Rattle.tm_link.proofs.Choices.{spelled_in_range, all_handed_out}
use Rattle.tm_link.proofs.Choices.{extraction_exact}
use Rattle.tm_link.proofs.laws.law_of_extraction.Goals as goal

pub returns-clause-some : goal.returns-clause-some
returns-clause-some c = extraction_exact

pub returns-clause-all : goal.returns-clause-all
returns-clause-all c = all_handed_out

pub returns-clause-range : goal.returns-clause-range
returns-clause-range c = spelled_in_range
