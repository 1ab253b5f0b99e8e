use Rattle.std.proofs.Common.{arith}
use Rattle.tc_frame.proofs.Spelled.{is_found}
use Rattle.tc_frame.proofs.decoding.decode.Goals as goal

pub returns-clause-found : goal.returns-clause-found
returns-clause-found c =
    is_found c.args.check c.args.octets.now c.frame_of.result (λ i. omega (arith, c.type_inv.octets i))
    c.frame_of.ensures
