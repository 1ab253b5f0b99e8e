use Rattle.listings.proofs.Digits.{digits_in_turn}
use Rattle.listings.proofs.parts.digits_of_sixteen.Goals as goal

pub returns : goal.returns
returns c =
    digits_in_turn c.args.octets _ _ c.fits-octets.0 c.high_digits-high.ensures c.low_digits.ensures
