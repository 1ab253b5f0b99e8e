use Rattle.std.proofs.Common.{◌%◌, ◌∙◌, bit_and, arith}
use Rattle.std.proofs.lemmas.Simd.{zip2_splat}
use Rattle.listings.specs.declared.parts.TheConstants.{UPPER}
use Rattle.listings.proofs.Digits.{low_ok, looked_up, masked}
use Rattle.listings.proofs.parts.low_digits.Goals as goal

pub swizzle : goal.swizzle
swizzle c = low_ok c.args.octets c.fits-octets

pub returns : goal.returns
returns c =
    let v = c.args.octets in
    looked_up UPPER (λ x. x % 16) v _ c.fits-octets (zip2_splat bit_and v 16 15 c.fits-octets.0 ∙ masked v)
    (λ x h. omega arith)
