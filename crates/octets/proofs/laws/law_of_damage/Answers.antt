use Rattle.octets.proofs.Bursts.{burst_seen, two_octets_burst}
use Rattle.octets.proofs.laws.law_of_damage.Goals as goal

pub returns-clause-octets : goal.returns-clause-octets
returns-clause-octets c = λ xs ys p q d. burst_seen xs ys p q (two_octets_burst xs ys d)

pub returns-clause-burst : goal.returns-clause-burst
returns-clause-burst c = burst_seen
