-- The number of a submission's answer.
use Rattle.std.proofs.Common.{◌≡◌, ℕ, Option, Some, None, Result, Err, IfSome, IsOkUnless, refl, arith}
use Rattle.std.proofs.Common.{List}
use Rattle.nodes.specs.declared.fault.LinkFault.{LinkFault}
use Rattle.nodes.specs.declared.fault.LinkFault.TheVariants.{Memory}
use Rattle.sedgechisel_nodes.specs.Ground.{number_of, IsAnswer}
use Rattle.std.specs.Prelude.{option_map}
use Rattle.nodes.specs.declared.config.Config.{Config}
use Rattle.nodes.specs.declared.parameter.Parameter.{Parameter}
use Rattle.nodes.specs.Parameters.{row_of, parameter_named, out_of_range, config_fault}
use Rattle.nodes.proofs.InRange.{named}

pub answered : (f : Option LinkFault) (r : Result (Unit {0}) LinkFault) (n : ℕ) → n ≡ number_of r
    → IfSome f (λ fault. r ≡ Err fault) → (f ≡ None → IsOkUnless r Memory) → IsAnswer f n
answered f r n is refused memory = grind (arith, is, refused, memory)

-- The parameter that a fault names.

again : (f : Option Parameter) (name : List ℕ) → option_map (λ p. (row_of p).name) f ≡ Some name
    → parameter_named name ≡ f
again None name e = cc e
again (Some p) name e = let same : (row_of p).name ≡ name = cc e in rw (← same) (named p)

none : (f : Option Parameter) → option_map (λ p. (row_of p).name) f ≡ None → f ≡ None
none None e = refl
none (Some p) e = cc e

pub named_again : (c : Config) (name : List ℕ) → config_fault c ≡ Some name → parameter_named name ≡ out_of_range c
named_again c name e = again (out_of_range c) name e

pub none_again : (c : Config) → config_fault c ≡ None → out_of_range c ≡ None
none_again c e = none (out_of_range c) e
