use Rattle.cop1.proofs.UnitsFollow.{follows_the_rules}
use Rattle.cop1.proofs.laws.law_of_senders.Goals as goal

pub returns : goal.returns
returns g c = follows_the_rules _
