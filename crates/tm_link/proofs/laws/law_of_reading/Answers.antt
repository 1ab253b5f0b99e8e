use Rattle.tm_link.proofs.Spelled.{frame_again}
use Rattle.tm_link.proofs.laws.law_of_reading.Goals as goal

pub returns : goal.returns
returns c = λ total f octets h. frame_again total octets f h
