use Rattle.std.proofs.Common.{arith}
use Rattle.listings.proofs.Digits.{joined, then_four}
use Rattle.listings.proofs.parts.+put_long.Goals as goal

pub returns-clause-put : goal.returns-clause-put
returns-clause-put t c =
    joined _ _ _ c.put_long-next.ensures.put c.put_four.ensures.put
    (then_four c.args.number (omega (arith, c.if-number-lt10000.false)) (omega (arith, c.ranges.number.fits)))
