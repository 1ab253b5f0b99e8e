use Rattle.tm_link.proofs.Spelled.{spelling_is, spelling_from}
use Rattle.tm_link.proofs.laws.law_of_spelling.Goals as goal

pub returns-clause-spells : goal.returns-clause-spells
returns-clause-spells c = spelling_is

pub returns-clause-only : goal.returns-clause-only
returns-clause-only c = spelling_from
