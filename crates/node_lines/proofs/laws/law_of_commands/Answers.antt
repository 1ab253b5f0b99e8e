use Rattle.node_lines.proofs.SpelledLines.{says, unreadable}
use Rattle.node_lines.proofs.laws.law_of_commands.Goals as goal

pub returns-clause-spelled : goal.returns-clause-spelled
returns-clause-spelled c = says

pub returns-clause-unreadable : goal.returns-clause-unreadable
returns-clause-unreadable c = unreadable
