-- How an extractor's fields represent its state.
use Rattle.std.specs.Prelude.{◌≤◌, length, vec_capacity}
use Rattle.tm_link.specs.declared.extractor.Extractor.TheInside.{Inside}
use Rattle.tm_link.specs.Extractor.{ExtractorState}

abbrev pub state_of : Inside → ExtractorState
state_of x = record { last = x.last; part = x.part.items }

-- there is room for any packet, and the part has fewer octets than the longest packet
pub record IsReserved (x : Inside) : Type 0 where
  pub room : 65542 ≤ vec_capacity x.part
  pub short : length x.part.items ≤ 65541
