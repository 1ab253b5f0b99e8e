use Rattle.std.proofs.Common.{refl, inl, inr, length}
use Rattle.sedgechisel_nodes.proofs.Commanded.{roomy, unframed}
use Rattle.sedgechisel_nodes.proofs.commanding.actions.acted.Goals as goal

pub returns-in-Ok-clause-answer : goal.returns-in-Ok-clause-answer
returns-in-Ok-clause-answer c =
    roomy 1024 (length c.args.out.now) 0 c.in-Some.ensures.cases.enough (inl refl)

pub returns-in-Err-clause-answer : goal.returns-in-Err-clause-answer
returns-in-Err-clause-answer c =
    roomy 1024 (length c.args.out.now) 9 c.in-Some.ensures.cases.enough (inr refl)

pub returns-in-Err-clause-unchanged : goal.returns-in-Err-clause-unchanged
returns-in-Err-clause-unchanged c = λ nine. (
  c.in-Err.ensures.err,
  refl,
  unframed c.args.out.now c.in-Some.frame.now c.next.new.out c.in-Some.ensures.cases c.in-Err.ensures.same,
)
