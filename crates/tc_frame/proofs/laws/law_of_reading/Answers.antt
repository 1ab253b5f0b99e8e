use Rattle.octets.proofs.Streams.{is_first}
use Rattle.tc_frame.specs.Laws.{own_total}
use Rattle.tc_frame.specs.Splitter.{total_at}
use Rattle.tc_frame.proofs.Spelled.{frame_again}
use Rattle.tc_frame.proofs.laws.law_of_reading.Goals as goal

pub returns-clause-read : goal.returns-clause-read
returns-clause-read c = λ check f octets h. frame_again check octets f h

pub returns-clause-record : goal.returns-clause-record
returns-clause-record c = λ check f octets more h.
    let own = own_total check f octets h in
    is_first 5 (total_at check) octets more (record { has_head = own.0; extent_is = own.1 })
