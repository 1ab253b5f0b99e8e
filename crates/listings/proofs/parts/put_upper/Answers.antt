use Rattle.std.proofs.Common.{arith}
use Rattle.listings.proofs.Digits.{joined, then_one, one_more, then_two, two_more}
use Rattle.listings.proofs.parts.put_upper.Goals as goal

pub returns-then-number-lt1000-clause-put : goal.returns-then-number-lt1000-clause-put
returns-then-number-lt1000-clause-put c =
    joined _ _ _ c.put_octet-next.ensures.put c.put_word.ensures.put
    (then_one c.args.number (omega (arith, c.if-number-lt256.false)) (omega (arith, c.ranges.number.fits)))

pub returns-then-number-lt1000-clause-next : goal.returns-then-number-lt1000-clause-next
returns-then-number-lt1000-clause-next c =
    let more = one_more c.args.number (omega (arith, c.if-number-lt256.false)) (omega (arith, c.ranges.number.fits)) in
    omega (arith, c.put_octet-next.ensures.next, c.put_word.ensures.next, more)

pub returns-clause-put : goal.returns-clause-put
returns-clause-put c =
    joined _ _ _ c.put_octet-next-2.ensures.put c.put_two.ensures.put
    (then_two c.args.number (omega (arith, c.if-number-lt1000.false)) (omega (arith, c.ranges.number.fits)))

pub returns-clause-next : goal.returns-clause-next
returns-clause-next c =
    let more = two_more c.args.number (omega (arith, c.if-number-lt1000.false)) (omega (arith, c.ranges.number.fits)) in
    omega (arith, c.put_octet-next-2.ensures.next, c.put_two.ensures.next, more)
