-- The sender of units, which marks each unit sent that is to be retransmitted, and what holds of
-- every such sender.
use Rattle.std.specs.Prelude.{◌≡◌, ◌≢◌, ◌≤◌, ℕ, Bool, true, false, List, [], ◌∷◌, ◌++◌, length, map}
use Rattle.std.specs.Prelude.{drop, ◌+◌, ◌↔◌, if◌then◌else◌, Option, Some, None, IfSome, IsSome}
use Rattle.std.specs.Prelude.{is_some}
use Rattle.std.specs.List.{filter}
use Rattle.cop1.specs.Modulo.{ahead_by}
use Rattle.cop1.specs.FopVariables.{IsActive, Store, SenderOf, OutcomeOf}
use Rattle.cop1.specs.FopNew.{new_sender_of}
use Rattle.cop1.specs.Numbers.{IsCommanding}
use Rattle.cop1.specs.declared.vocabulary.FopMode.TheVariants.{S1, S4, S5, S6}
use Rattle.cop1.specs.declared.vocabulary.Control.TheVariants.{Idle}

-- a unit of the sent queue, and whether it is marked to be retransmitted
pub record SentUnit (U : Type 0) : Type 0 where
  pub unit : U
  pub marked : Bool

abbrev pub marked_unit : {U : Type 0} → SentUnit U → SentUnit U
marked_unit u = record u { marked = true }

abbrev pub unmarked_unit : {U : Type 0} → U → SentUnit U
unmarked_unit u = record { unit = u; marked = false }

abbrev pub is_none_sent : {U : Type 0} → List (SentUnit U) → Bool
is_none_sent [] = true
is_none_sent (u ∷ us) = false

-- the units that are to be retransmitted
abbrev pub due_units : {U : Type 0} → List (SentUnit U) → List (SentUnit U)
due_units sent = filter (λ u. u.marked) sent

-- the oldest marked unit with its place in the sent queue, counted from `place` on
abbrev pub oldest_marked : {U : Type 0} → ℕ → List (SentUnit U) → Option (ℕ × U)
oldest_marked place [] = None
oldest_marked place (u ∷ us) =
    if u.marked then Some (place, u.unit) else oldest_marked (place + 1) us

-- the sent queue without that mark
abbrev pub without_oldest_mark : {U : Type 0} → List (SentUnit U) → List (SentUnit U)
without_oldest_mark [] = []
without_oldest_mark (u ∷ us) =
    if u.marked then record u { marked = false } ∷ us else u ∷ without_oldest_mark us

-- the oldest unit of a queue, and the others
abbrev pub oldest_of : {U : Type 0} → List U → Option (U × List U)
oldest_of [] = None
oldest_of (u ∷ us) = Some (u, us)

-- a store of units, in which each unit sent is marked or not
abbrev pub units : Type 0 → Store
units U =
    record {
      Waiting = Option U;
      Sent = List (SentUnit U);
      Bypass = List U;
      no_unit = None;
      no_units = [];
      is_empty = is_none_sent;
      left = drop;
      repeated = map marked_unit;
      One = U;
      one_waits = Some;
      waiting_one = λ w. w;
      with_last = λ sent u. sent ++ unmarked_unit u ∷ [];
      oldest_again = oldest_marked 0;
      without_oldest = without_oldest_mark;
      oldest_bypass = oldest_of;
    }

-- a sender of units, and the outcome of an input
abbrev pub FopState : Type 0 → Type 0
FopState U = SenderOf (units U)

abbrev pub FopOutcome : Type 0 → Type 0 → Type 0
FopOutcome U A = OutcomeOf (units U) A

-- a new sender
abbrev pub new_fop : {U : Type 0} → ℕ → ℕ → ℕ → ℕ → FopState U
new_fop width window limit timer = new_sender_of [] width window limit timer

-- what holds of every sender
pub record IsFop {U : Type 0} (s : FopState U) : Type 0 where
  -- in S1 to S5 the sent queue holds the units numbered from NN(R) to V(S) - 1
  pub numbered : s.state ≢ S6 → ahead_by s.vs s.nn ≡ length s.sent
  pub within : length s.sent ≤ s.room
  pub window : s.window ≤ s.room
  -- in S2 and S3 the sent queue is not empty, in S4 to S6 it is empty, and in S6 no unit waits
  -- either
  pub repeating : IsActive s.state → s.state ≢ S1 → 1 ≤ length s.sent
  pub unsent : (IsActive s.state → ⊥) → s.sent ≡ []
  pub unsubmitted : s.state ≡ S6 → s.waiting ≡ None
  -- the timer runs in S1 to S3 exactly while the sent queue is not empty, always in S4, and never
  -- in S6
  pub timed : IsActive s.state → IsSome s.ticks ↔ 1 ≤ length s.sent
  pub checking : s.state ≡ S4 → IsSome s.ticks
  pub untimed : s.state ≡ S6 → s.ticks ≡ None
  -- there is a control command in S5, and only there
  pub commanding : s.state ≡ S5 → IsCommanding s.vs (is_some s.ticks) s.control
  pub commanded : s.state ≢ S5 → s.control ≡ Idle
  pub limit : 1 ≤ s.limit
  pub timer : 1 ≤ s.timer
  pub ticks : IfSome s.ticks (λ left. 1 ≤ left)
