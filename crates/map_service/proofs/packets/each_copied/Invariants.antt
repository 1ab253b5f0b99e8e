use Rattle.std.proofs.Common.{◌≡◌, ◌++◌, ◌+◌, ◌≤◌, length}
use Rattle.smallvec.specs.SmallVec.{small_vec_len}
use Rattle.map_service.specs.Packets.{packets_in}
use Rattle.map_service.specs.Views.{ready_view}
use Rattle.map_service.proofs.packets.each_copied.Given as goal

abbrev pub invariant-packets : goal.invariant-packets
invariant-packets l = record {
  items : packets_in l.fn.octets ≡ ready_view l.packets ++ packets_in l.rest;
  room : small_vec_len l.packets + length (packets_in l.rest) ≤ l.packets.capacity;
}

abbrev pub decreases-packets : goal.decreases-packets
decreases-packets l = length l.rest
