use Rattle.std.proofs.Common.{◌≡◌, ◌*◌, take, length}
use Rattle.hex.specs.Hex.{encode_upper}
use Rattle.listings.proofs.parts.write_many.Given as goal

abbrev pub invariant-sixteens : goal.invariant-sixteens
invariant-sixteens l = (take (2 * (16 * l.k)) l.digits ≡ encode_upper (take (16 * l.k) l.octets))
    × (length l.digits ≡ 2 * length l.octets)
