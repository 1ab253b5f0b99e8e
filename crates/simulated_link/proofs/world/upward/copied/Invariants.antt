use Rattle.simulated_link.proofs.Common.{◌≡◌, take, packets_view}
use Rattle.nodes.specs.CommandPackets.{slices_view}
use Rattle.simulated_link.proofs.world.upward.copied.Given as goal

abbrev pub invariant-loop-packet : goal.invariant-loop-packet
invariant-loop-packet l = packets_view l.copies ≡ slices_view (take l.packet-index l.packets)
