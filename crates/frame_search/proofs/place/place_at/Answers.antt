use Rattle.std.proofs.Common.{◌≡◌, ◌∙◌, false, sym, arith}
use Rattle.frame_search.proofs.Places.{no_header}
use Rattle.frame_search.proofs.place.place_at.Goals as goal

pub returns-then-not-has_header : goal.returns-then-not-has_header
returns-then-not-has_header c = λ more.
    let other : c.has_header.result ≡ false = grind (arith, c.if-not-has_header.true) in
    no_header c.args.scid c.args.vcid c.args.octets.now more (omega (arith, c.if-octets-lt5.false))
    (sym c.has_header.ensures ∙ other)
