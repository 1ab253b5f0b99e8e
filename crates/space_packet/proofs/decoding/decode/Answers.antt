use Rattle.std.proofs.Common.{arith}
use Rattle.space_packet.proofs.Decoded.{is_found}
use Rattle.space_packet.proofs.decoding.decode.Goals as goal

pub returns-clause-found : goal.returns-clause-found
returns-clause-found c =
    is_found c.args.octets.now c.packet_of.result (λ i. omega (arith, c.type_inv.octets i)) c.packet_of.ensures
