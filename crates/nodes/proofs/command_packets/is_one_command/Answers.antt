use Rattle.std.proofs.Common.{◌∙◌}
use Rattle.space_packet.specs.Layout.{packet_view}
use Rattle.nodes.proofs.CommandPackets.{one_command, more_than_one, no_command}
use Rattle.nodes.proofs.command_packets.is_one_command.Goals as goal

pub returns-then-size-octets : goal.returns-then-size-octets
returns-then-size-octets c =
    c.is_command_packet.ensures
    ∙ one_command c.args.octets.now (packet_view c.in-Ok.packet) c.in-Ok.size c.in-Ok.ensures.found
    c.if-size-octets.true

pub returns-else-size-octets : goal.returns-else-size-octets
returns-else-size-octets c =
    more_than_one c.args.octets.now (packet_view c.in-Ok.packet) c.in-Ok.size c.in-Ok.ensures.found
    c.if-size-octets.false

pub returns-in-Err : goal.returns-in-Err
returns-in-Err c = no_command c.args.octets.now c.in-Err.field-0 c.in-Err.ensures.answer
