use Rattle.std.proofs.Common.{◌∙◌, arith, length-take}
use Rattle.sedgechisel.proofs.Pieces.{later}
use Rattle.sedgechisel.proofs.Extractors.{few_handed, extracted_is}
use Rattle.sedgechisel.proofs.extracted_frames.put_packets.Goals as goal

pub put_each-requires-clause-room : goal.put_each-requires-clause-room
put_each-requires-clause-room c =
    omega (
      arith,
      few_handed c.args.taken.now.packets.from c.args.payload.now,
      (extracted_is c.args.taken.now _ _ c.requires.taken).joined,
      (extracted_is c.args.taken.now _ _ c.requires.taken).from,
      length-take c.args.taken.now.joined c.args.memory.now,
      c.add-end.ensures.count,
      c.add-end.ensures.room,
      c.requires.room,
    )

pub returns-clause-rest : goal.returns-clause-rest
returns-clause-rest c =
    c.put_each.ensures.rest
    ∙ later c.add-end.new.memory c.args.packets.now c.add-end.result c.put_each.result
    (omega (arith, c.put_each.ensures.end)) c.add-end.ensures.rest
