use Rattle.std.proofs.Common.{◌≡◌, ◌≤◌, ◌+◌, length}
use Rattle.map_service.specs.Packets.{packets_in}
use Rattle.map_service.proofs.packets.number_of_packets.Given as goal

abbrev pub invariant-packets : goal.invariant-packets
invariant-packets l = record {
  number : l.number + length (packets_in l.rest) ≡ length (packets_in l.fn.octets);
  bound : l.number + length l.rest ≤ length l.fn.octets;
}

abbrev pub decreases-packets : goal.decreases-packets
decreases-packets l = length l.rest
