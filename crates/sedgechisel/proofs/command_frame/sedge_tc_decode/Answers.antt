use Rattle.std.proofs.Common.{arith}
use Rattle.sedgechisel.proofs.Described.{command_describes}
use Rattle.sedgechisel.proofs.command_frame.sedge_tc_decode.Goals as goal

pub returns-in-Ok-clause-describes : goal.returns-in-Ok-clause-describes
returns-in-Ok-clause-describes c =
    command_describes c.args.checked c.check_if.result c.args.octets.now c.decode.result c.in-Ok.found
    c.fields_from.result
    c.part_from.result
    (λ i. omega (arith, c.type_inv.octets i)) c.check_if.ensures c.decode.ensures.answer c.in-Ok.is
    c.fields_from.ensures c.part_from.ensures
