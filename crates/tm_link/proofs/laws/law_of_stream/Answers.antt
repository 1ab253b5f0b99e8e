use Rattle.std.proofs.Common.{subst}
use Rattle.octets.specs.Number.{IsOctets}
use Rattle.space_packet.proofs.Decoded.{records_are}
use Rattle.tm_link.proofs.laws.law_of_stream.Goals as goal

pub returns : goal.returns
returns c = λ packets frames rest laid octets. records_are laid.all (subst IsOctets laid.stream octets) laid.each
