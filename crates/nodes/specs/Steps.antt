-- The steps of either node.
use Rattle.std.specs.Prelude.{◌≡◌, Result, IfOk, IfErr, OnOk, OnErr}
use Rattle.nodes.specs.declared.fault.LinkFault.{LinkFault}
use Rattle.nodes.specs.declared.fault.LinkFault.TheVariants.{Memory}

-- the answer of a call, and the node after it
pub record Outcome (S A : Type 0) : Type 0 where
  pub answer : A
  pub after : S

-- a call has this outcome, or it runs out of memory and the node is unchanged
pub record TakesStep {S A : Type 0} (outcome : Outcome S A) (old new : S)
    (result : Result A LinkFault) : Type 0 where
  pub answer : IfOk result (λ x. x ≡ outcome.answer)
  pub after : OnOk result (new ≡ outcome.after)
  pub err : OnErr result (new ≡ old)
  pub fault : IfErr result (λ e. e ≡ Memory)
