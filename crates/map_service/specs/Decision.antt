-- What is decided about a segment of an open MAP, wherever the open part is kept.
use Rattle.std.specs.Prelude.{◌≤◌, ℕ, List, [], ◌∷◌, ◌++◌, length, Option, Some, None, IsSome}
use Rattle.std.specs.Prelude.{IfSome, option_map}
use Rattle.map_service.specs.declared.decision.Decision.{Decision}
use Rattle.map_service.specs.declared.decision.Action.{Action}
use Rattle.map_service.specs.declared.decision.Action.TheVariants.{Close, HandOut, Begin, Add, End}
use Rattle.map_service.specs.declared.dropped.Dropped.{Dropped}
use Rattle.map_service.specs.declared.limits.Limits.{Limits}
use Rattle.map_service.specs.Packets.{packets_in}
use Rattle.map_service.specs.AssemblerTable.{TakeOutcome, one_fault, packets_outcome}

-- the part followed by the segment's data
abbrev pub joined : Option (List ℕ) → List ℕ → List ℕ
joined None octets = octets
joined (Some part) octets = part ++ octets

-- the outcome of an action with this part and these data
abbrev pub outcome_with : Limits → Action → Option Dropped → Option (List ℕ) → List ℕ → TakeOutcome
outcome_with limits Close dropped part octets =
    record { dropped = dropped; packets = []; part = None }
outcome_with limits HandOut dropped part octets =
    record { dropped = dropped; packets = packets_in octets; part = None }
outcome_with limits Begin dropped part octets =
    record { dropped = dropped; packets = []; part = Some octets }
outcome_with limits Add dropped part octets =
    record { dropped = dropped; packets = []; part = option_map (λ begun. begun ++ octets) part }
outcome_with limits End dropped part octets =
    packets_outcome None (joined part octets ∷ []) (one_fault limits (joined part octets))

abbrev pub outcome_of : Limits → Decision → Option (List ℕ) → List ℕ → TakeOutcome
outcome_of limits d part octets = outcome_with limits d.action d.dropped part octets

-- what is kept, or judged, has at most this many octets
abbrev pub Fits : ℕ → Action → Option (List ℕ) → List ℕ → Type 0
Fits most Close part octets = Unit {0}
Fits most HandOut part octets = Unit {0}
Fits most Begin part octets = length octets ≤ most
Fits most Add part octets = IsSome part × IfSome part (λ begun. length (begun ++ octets) ≤ most)
Fits most End part octets = IsSome part × IfSome part (λ begun. length (begun ++ octets) ≤ most)
