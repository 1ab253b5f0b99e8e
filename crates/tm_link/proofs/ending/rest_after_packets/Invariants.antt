use Rattle.std.proofs.Common.{◌≡◌, length}
use Rattle.octets.specs.Records.{rest_of}
use Rattle.space_packet.specs.Decoding.{extent_at}
use Rattle.tm_link.proofs.ending.rest_after_packets.Given as goal

abbrev pub invariant-loop-size : goal.invariant-loop-size
invariant-loop-size l = rest_of 6 extent_at l.rest ≡ rest_of 6 extent_at l.fn.octets

abbrev pub decreases-loop-size : goal.decreases-loop-size
decreases-loop-size l = length l.rest
