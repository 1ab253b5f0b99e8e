use Rattle.std.proofs.Common.{◌/◌, arith}
use Rattle.std.proofs.lemmas.Simd.{zip2_splat}
use Rattle.listings.specs.declared.parts.TheConstants.{UPPER}
use Rattle.listings.proofs.Digits.{shifted, high_ok, looked_up}
use Rattle.listings.proofs.parts.high_digits.Goals as goal

pub swizzle : goal.swizzle
swizzle c = high_ok c.args.octets c.fits-octets

pub returns : goal.returns
returns c =
    let v = c.args.octets in
    looked_up UPPER (λ x. x / 16) v _ c.fits-octets (zip2_splat shifted v 16 4 c.fits-octets.0) (λ x h. omega arith)
