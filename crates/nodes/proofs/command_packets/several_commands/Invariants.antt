use Rattle.std.proofs.Common.{◌≡◌, ◌++◌, true, length}
use Rattle.std.specs.Prelude.{◌||◌}
use Rattle.std.specs.List.{list_all}
use Rattle.map_service.specs.Packets.{packets_in, rest_in, is_some_over}
use Rattle.nodes.specs.CommandPackets.{is_command, slices_view}
use Rattle.nodes.proofs.command_packets.several_commands.Given as goal

abbrev pub invariant-packets : goal.invariant-packets
invariant-packets l = record {
  rest : rest_in l.rest ≡ rest_in l.octets;
  commands : list_all is_command (packets_in l.rest) ≡ list_all is_command (packets_in l.octets);
  over :
      l.too_long || is_some_over l.limits.max_packet (packets_in l.rest)
      ≡ is_some_over l.limits.max_packet (packets_in l.octets);
  kept : l.kept ≡ true → slices_view l.packets.items ++ packets_in l.rest ≡ packets_in l.octets;
}

abbrev pub decreases-packets : goal.decreases-packets
decreases-packets l = length l.rest
