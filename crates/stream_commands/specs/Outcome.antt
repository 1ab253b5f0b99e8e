-- The outcome of a dump.
use Rattle.std.specs.Prelude.{ℕ, Bool, true, false, List}
use Rattle.stream_commands.specs.declared.outcome.Outcome.{Outcome}
use Rattle.stream_commands.specs.declared.outcome.Outcome.TheVariants as outcomes

-- an outcome, wherever its octets lie in memory
pub data OutcomeView : Type 0 where
  Good : OutcomeView
  Faulty : OutcomeView
  Unreadable : ℕ → OutcomeView
  OutOfRange : List ℕ → OutcomeView

abbrev pub outcome_view : Outcome → OutcomeView
outcome_view outcomes.Good = Good
outcome_view outcomes.Faulty = Faulty
outcome_view (outcomes.Unreadable line) = Unreadable line
outcome_view (outcomes.OutOfRange field) = OutOfRange field.now

-- Good exactly when all is good
abbrev pub outcome_if : Bool → Outcome
outcome_if true = outcomes.Good
outcome_if false = outcomes.Faulty
