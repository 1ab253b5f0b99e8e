use Rattle.octets.proofs.Streams.{records_of-append, rest_of-append}
use Rattle.octets.proofs.laws.law_of_cutting.Goals as goal

pub returns-clause-records : goal.returns-clause-records
returns-clause-records g c = records_of-append _ _ g.met.W.Wire.some_head g.met.W.Wire.extent_has_head

pub returns-clause-rest : goal.returns-clause-rest
returns-clause-rest g c = rest_of-append _ _ g.met.W.Wire.some_head g.met.W.Wire.extent_has_head
