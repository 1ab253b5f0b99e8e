use Rattle.map_service.proofs.LongestGroups.{is_grouped, only_grouped}
use Rattle.map_service.proofs.laws.law_of_groups.Goals as goal

pub returns-clause-found : goal.returns-clause-found
returns-clause-found c = is_grouped

pub returns-clause-only : goal.returns-clause-only
returns-clause-only c = only_grouped
