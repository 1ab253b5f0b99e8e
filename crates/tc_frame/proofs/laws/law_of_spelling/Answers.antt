use Rattle.tc_frame.specs.Laws.{spelling_from}
use Rattle.tc_frame.proofs.Spelled.{spelling_is}
use Rattle.tc_frame.proofs.laws.law_of_spelling.Goals as goal

pub returns-clause-spells : goal.returns-clause-spells
returns-clause-spells c = spelling_is

pub returns-clause-only : goal.returns-clause-only
returns-clause-only c = spelling_from
