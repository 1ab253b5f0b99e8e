use Rattle.std.proofs.Common.{rules, ◌≡◌, ◌↔◌, ◌∙◌, IsNone, List, ℕ, Option, Some, None, Bor, refl, sym}
use Rattle.std.specs.Option.{option_copied}
use Rattle.nodes.specs.declared.config.Config.{Config}
use Rattle.nodes.specs.Parameters.{config_fault, IsConfig}
use Rattle.nodes.proofs.InRange.{config_is, no_fault}
use Rattle.nodes.proofs.config.Config.fault.Goals as goal

none_where_in_range : (field : Option (Bor (List ℕ))) (c : Config) → option_copied field ≡ config_fault c
    → IsNone field ↔ IsConfig c
none_where_in_range None c is = (λ _. config_is c (sym is), λ _. refl)
none_where_in_range (Some name) c is =
    (λ h. absurd cc, λ h. let none : option_copied (Some name) ≡ None = is ∙ no_fault c h in absurd cc)

pub returns-in-None-clause-fault : goal.returns-in-None-clause-fault
returns-in-None-clause-fault c = search rules

pub returns-in-None-clause-none : goal.returns-in-None-clause-none
returns-in-None-clause-none c = none_where_in_range None c.args.self.now (returns-in-None-clause-fault c)

pub returns-in-Some-clause-fault : goal.returns-in-Some-clause-fault
returns-in-Some-clause-fault c = search rules

pub returns-in-Some-clause-none : goal.returns-in-Some-clause-none
returns-in-Some-clause-none c =
    none_where_in_range (Some c.name.result) c.args.self.now (returns-in-Some-clause-fault c)
