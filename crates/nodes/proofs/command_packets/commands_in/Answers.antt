use Rattle.std.proofs.Common.{true, false, sym, ◌∙◌}
use Rattle.nodes.proofs.CommandPackets.{one_packet, one_fault}
use Rattle.nodes.proofs.command_packets.commands_in.Goals as goal

pub returns-then-is_too_long-clause-err : goal.returns-then-is_too_long-clause-err
returns-then-is_too_long-clause-err c =
    one_fault c.args.limits.now c.args.octets.now true c.if-limits.false
    (sym c.is_one_command.ensures ∙ c.if-not-is_one_command.false)
    (sym c.is_too_long.ensures ∙ c.if-is_too_long.true)

pub returns-clause-packets : goal.returns-clause-packets
returns-clause-packets c =
    sym (one_packet c.args.octets.now (sym c.is_one_command.ensures ∙ c.if-not-is_one_command.false))

pub returns-clause-ok : goal.returns-clause-ok
returns-clause-ok c =
    one_fault c.args.limits.now c.args.octets.now false c.if-limits.false
    (sym c.is_one_command.ensures ∙ c.if-not-is_one_command.false)
    (sym c.is_too_long.ensures ∙ c.if-is_too_long.false)
