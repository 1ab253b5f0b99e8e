use Rattle.std.proofs.Common.{◌+◌, refl, arith}
use Rattle.sedgechisel.proofs.Extractors.{nothing_past}
use Rattle.sedgechisel.proofs.telemetry_extractor.sedge_tm_packet.Goals as goal
use Rattle.sedgechisel.proofs.telemetry_extractor.sedge_tm_packet.Goals.{
  then-packet-payload-via-then-packet-payload,
  then-packet-payload-via-else-packet-payload+then-packet-payload-2,
}

pub returns-then-packet-payload : goal.returns-then-packet-payload
returns-then-packet-payload c = (
  nothing_past c.args.payload.now (c.args.packet.now.from + c.args.packet.now.count)
      (elim c.then-packet-payload.branch [
        | then-packet-payload-via-then-packet-payload w ↦ omega arith
        | then-packet-payload-via-else-packet-payload+then-packet-payload-2 w ↦ omega arith
      ]),
  refl,
)
