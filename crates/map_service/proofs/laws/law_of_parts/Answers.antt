use Rattle.map_service.proofs.Parts.{parts-fit, in_parts, only_in_parts}
use Rattle.map_service.proofs.Passage.{one-from, one-group}
use Rattle.map_service.proofs.laws.law_of_parts.Goals as goal

pub returns-clause-packet : goal.returns-clause-packet
returns-clause-packet c = λ part m octets h. one-group part m octets (one-from octets h).1

pub returns-clause-alone : goal.returns-clause-alone
returns-clause-alone c = λ part m octets some le. parts-fit m part octets some le

pub returns-clause-parts : goal.returns-clause-parts
returns-clause-parts c = in_parts

pub returns-clause-only : goal.returns-clause-only
returns-clause-only c = only_in_parts
