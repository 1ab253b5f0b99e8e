use Rattle.std.proofs.Common.{◌≡◌, ℕ, List, [], ◌++◌, drop, IfOk, subst}
use Rattle.command_log.specs.Packets.{packet_octets}
use Rattle.command_log.proofs.packets.encode_order.Goals as goal

pub returns-clause-ok : goal.returns-clause-ok
returns-clause-ok c =
    subst (λ (first : List ℕ). IfOk c.write_packet.result
    (λ n. c.write_packet.new.out ≡ packet_octets c.args.apid c.args.count (first ++ []) ++ drop n c.args.out.now))
    c.order_front.ensures c.write_packet.ensures.ok
