use Rattle.std.proofs.Common.{◌≡◌, ◌≤◌, ◌+◌, ◌++◌, length, take}
use Rattle.std.specs.List.{AllByRecursion}
use Rattle.std.specs.VecDeque.{deque_len, deque_capacity}
use Rattle.map_service.specs.Packets.{packets_in}
use Rattle.nodes.specs.Packets.{put_on_map}
use Rattle.nodes.specs.PacketFields.{IsPacketOn}
use Rattle.nodes.proofs.map_packet.copy_each.Given as goal

abbrev pub invariant-packets : goal.invariant-packets
invariant-packets l = record {
  items : l.ready.items ++ put_on_map l.fn.on_map (packets_in l.rest) ≡ l.fn.ready.items
      ++ put_on_map l.fn.on_map (packets_in l.fn.octets);
  before : take (length l.fn.ready.items) l.ready.items ≡ l.fn.ready.items;
  whole : AllByRecursion IsPacketOn (put_on_map l.fn.on_map (packets_in l.rest));
  room : deque_len l.ready + length (packets_in l.rest) ≤ deque_capacity l.ready;
  capacity : deque_capacity l.ready ≡ deque_capacity l.fn.ready;
}

abbrev pub decreases-packets : goal.decreases-packets
decreases-packets l = length l.rest
