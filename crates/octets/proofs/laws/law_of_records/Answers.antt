use Rattle.octets.proofs.Streams.{split_of, only_split}
use Rattle.octets.proofs.laws.law_of_records.Goals as goal

pub returns-clause-found : goal.returns-clause-found
returns-clause-found g c = split_of _ _ g.met.W.Wire.some_head g.met.W.Wire.extent_has_head

pub returns-clause-only : goal.returns-clause-only
returns-clause-only g c = only_split _ _ g.met.W.Wire.some_head g.met.W.Wire.extent_has_head
