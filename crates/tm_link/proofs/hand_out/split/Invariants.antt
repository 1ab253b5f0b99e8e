use Rattle.std.proofs.Common.{◌≡◌, [], ◌++◌, length}
use Rattle.octets.specs.Records.{records_of, rest_of}
use Rattle.space_packet.specs.Decoding.{extent_at}
use Rattle.tm_link.specs.Extractor.{without_idle, octets_of}
use Rattle.tm_link.proofs.hand_out.split.Given as goal

abbrev pub invariant-loop-size : goal.invariant-loop-size
invariant-loop-size l = record {
  handed : octets_of l.found.items ++ without_idle (records_of 6 extent_at l.rest) ≡ octets_of l.fn.found.items
      ++ without_idle (records_of 6 extent_at l.fn.octets);
  none : without_idle (records_of 6 extent_at l.fn.octets) ≡ [] → without_idle (records_of 6 extent_at l.rest) ≡ [];
  left : rest_of 6 extent_at l.rest ≡ rest_of 6 extent_at l.fn.octets;
}

abbrev pub decreases-loop-size : goal.decreases-loop-size
decreases-loop-size l = length l.rest
