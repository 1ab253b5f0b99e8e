use Rattle.std.proofs.Common.{◌≡◌, ◌≤◌, ◌+◌, ◌++◌, length, map}
use Rattle.std.specs.List.{AllByRecursion}
use Rattle.std.specs.VecDeque.{deque_len, deque_capacity}
use Rattle.map_service.specs.Views.{ready_view}
use Rattle.nodes.specs.Packets.{put_on_map}
use Rattle.nodes.specs.PacketFields.{IsPacketOn}
use Rattle.nodes.proofs.map_packet.make_ready.Given as goal

abbrev pub invariant-loop-octets : goal.invariant-loop-octets
invariant-loop-octets l =
    (goal.iterator-loop-octets).can_next l.octets-iterator ×
    (goal.iterator-loop-octets).is_finite l.octets-iterator ×
    (l.ready.items ++ put_on_map l.fn.on_map (map (λ v. v.items) l.octets-iterator) ≡ l.fn.ready.items
    ++ put_on_map l.fn.on_map (ready_view l.fn.packets)) ×
    AllByRecursion IsPacketOn (put_on_map l.fn.on_map (map (λ v. v.items) l.octets-iterator)) ×
    (deque_len l.ready + length l.octets-iterator ≤ deque_capacity l.ready) ×
    (deque_capacity l.ready ≡ deque_capacity l.fn.ready)
