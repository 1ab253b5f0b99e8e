use Rattle.std.proofs.Common.{◌≡◌, length}
use Rattle.std.specs.Prelude.{◌||◌}
use Rattle.map_service.specs.Packets.{packets_in, rest_in, is_some_over}
use Rattle.map_service.proofs.packets.are_packets_over.Given as goal

abbrev pub invariant-packets : goal.invariant-packets
invariant-packets l = record {
  rest : rest_in l.rest ≡ rest_in l.fn.octets;
  over : l.over || is_some_over l.most (packets_in l.rest) ≡ is_some_over l.most (packets_in l.fn.octets);
}

abbrev pub decreases-packets : goal.decreases-packets
decreases-packets l = length l.rest
