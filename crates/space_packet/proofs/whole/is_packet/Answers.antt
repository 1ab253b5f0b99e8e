use Rattle.std.proofs.Common.{sym}
use Rattle.space_packet.proofs.WholePackets.{is_packet-by_len, is_packet-none}
use Rattle.space_packet.proofs.whole.is_packet.Goals as goal

pub returns-in-Some-clause-one : goal.returns-in-Some-clause-one
returns-in-Some-clause-one c =
    is_packet-by_len c.args.octets.now c.in-Some.len c.in-Some.ensures.first c.in-Some.ensures.within.1

pub returns-in-None-clause-one : goal.returns-in-None-clause-one
returns-in-None-clause-one c = sym (is_packet-none c.args.octets.now (sym c.in-None.ensures.first))
