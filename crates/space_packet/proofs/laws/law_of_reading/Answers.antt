use Rattle.std.proofs.Common.{length}
use Rattle.octets.proofs.Streams.{is_first}
use Rattle.space_packet.specs.Laws.{own_extent_of}
use Rattle.space_packet.specs.Decoding.{extent_at}
use Rattle.space_packet.proofs.Decoded.{packet_again}
use Rattle.space_packet.proofs.Encoded.{first_is}
use Rattle.space_packet.proofs.laws.law_of_reading.Goals as goal

pub returns-clause-read : goal.returns-clause-read
returns-clause-read c = λ p octets more h. packet_again _ p (length octets) (first_is p octets more h)

pub returns-clause-record : goal.returns-clause-record
returns-clause-record c = λ p octets more h.
    let own = own_extent_of p octets h in
    is_first 6 extent_at octets more (record { has_head = own.0; extent_is = own.1 })
