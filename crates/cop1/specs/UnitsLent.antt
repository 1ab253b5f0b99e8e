-- The final state of a sender, after the loan of the unit that `pull` lends has ended.
use Rattle.std.specs.Prelude.{◌≡◌, ⊤}
use Rattle.std.specs.Borrow.{Fml, RattleType, MutBor, follows_so}
use mathlib.Core.Option.{none}
use Rattle.cop1.specs.Units.{FopState}
use Rattle.cop1.specs.contracts.fop.Fop.{the_row}

-- the sender s ends in this state
abbrev pub EndsAs : (U : RattleType) → MutBor (FopState U.Denot) → FopState U.Denot → Fml
EndsAs U s after =
    follows_so (the_row U) (the_row U) s.ghost_name none (λ _ _. ⊤) (λ last. last ≡ after)
