use Rattle.std.proofs.Common.{◌≡◌, ◌∙◌, ◌+◌, ap, arith, length, length-take-le, sym, take}
use Rattle.listings.proofs.Digits.{at_most_nineteen, leading_of_more}
use Rattle.listings.proofs.record_number.RecordNumber.step.Goals as goal

pub invariant_of-self-else-self-lt57 : goal.invariant_of-self-else-self-lt57
invariant_of-self-else-self-lt57 c =
    let tens = c.self.inside.tens + 1 in
    let put = c.put_number-self-inside.ensures.put in
    let room = c.put_number-self-inside.new.room in
    let result = c.put_number-self-inside.result in
    let long : length (take result room) ≡ result = length-take-le result room (omega arith) in
    let few = at_most_nineteen tens (omega arith) in (
      put ∙ sym (leading_of_more c.self.inside.tens),
      omega (arith, sym long ∙ ap length put, few),
      omega arith,
      omega arith,
      omega arith,
    )
