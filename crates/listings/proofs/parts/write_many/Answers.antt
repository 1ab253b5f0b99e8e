use Rattle.std.proofs.Common.{◌≡◌, ◌+◌, ◌*◌, ◌-◌, ◌/◌, length, arith}
use Rattle.hex.specs.Hex.{upper_digits}
use Rattle.listings.proofs.Digits.{sixteen_more, all_sixteen, none_yet}
use Rattle.listings.proofs.parts.write_many.Goals as goal

pub sixteens-init : goal.sixteens-init
sixteens-init c = (none_yet upper_digits c.args.octets.now c.args.digits.now, c.requires.digits)

pub sixteens-preserved : goal.sixteens-preserved
sixteens-preserved c =
    let at = 16 * c.sixteens.k in
    let next : 16 * (c.sixteens.k + 1) ≡ at + 16 = omega arith in (
      rw next (sixteen_more upper_digits c.args.octets.now c.sixteens.digits c.write_sixteen.new.digits at
          c.write_sixteen.ensures.written c.sixteens.invariant.0),
      omega (arith, c.write_sixteen.ensures.len, c.sixteens.invariant.1),
    )

pub returns : goal.returns
returns c =
    let octets = c.args.octets.now in
    let whole = length octets / 16 in
    all_sixteen upper_digits octets c.sixteens.digits c.write_sixteen-2.new.digits
    (16 * c.sixteens.k) (length octets - 16) (omega arith) (omega arith)
    (omega (arith, c.write_sixteen-2.ensures.len, c.sixteens.invariant.1))
    c.write_sixteen-2.ensures.written c.sixteens.invariant.0
