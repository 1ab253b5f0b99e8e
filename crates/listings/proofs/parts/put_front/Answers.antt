use Rattle.std.proofs.Common.{◌≡◌, length, take, arith, length-take-le}
use Rattle.std.proofs.lemmas.Simd.{take_more_put_chunk}
use Rattle.listings.proofs.parts.put_front.Goals as goal

pub returns : goal.returns
returns g c =
    let front = take g.row.N c.args.octets.now in
    let long : length front ≡ g.row.N = length-take-le g.row.N c.args.octets.now c.requires.0 in
    take_more_put_chunk c.args.at c.args.room.now front _ (omega arith) c.requires.1
