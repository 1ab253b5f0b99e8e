use Rattle.std.proofs.Common.{arith}
use Rattle.sedgechisel.proofs.Described.{report_describes}
use Rattle.sedgechisel.proofs.telemetry_frame.sedge_tm_decode.Goals as goal

pub returns-in-Ok-clause-describes : goal.returns-in-Ok-clause-describes
returns-in-Ok-clause-describes c =
    report_describes c.args.length c.args.octets.now c.decode.result c.in-Ok.found c.fields_from.result
    (λ i. omega (arith, c.type_inv.octets i)) c.decode.ensures.answer c.in-Ok.is c.fields_from.ensures
