-- The sender, FOP-1: its variables (CCSDS 232.1-B-2, 5.1) in this project's profile
-- (docs/PROFILE.md), for any store of its units.
use Rattle.std.specs.Prelude.{ℕ, Bool, Option}
use Rattle.cop1.specs.declared.vocabulary.FopMode.{FopMode}
use Rattle.cop1.specs.declared.vocabulary.FopMode.TheVariants.{S1, S2, S3}
use Rattle.cop1.specs.declared.vocabulary.Control.{Control}

-- S1 to S3, in which units are sent under sequence control
abbrev pub IsActive : FopMode → Type 0
IsActive S1 = Unit {0}
IsActive S2 = Unit {0}
IsActive S3 = Unit {0}
IsActive _ = ⊥

-- a store of a sender's units: the unit that waits, the units sent and the units of the bypass
-- queue
pub record Store : Type 1 where
  pub Waiting : Type 0
  pub Sent : Type 0
  pub Bypass : Type 0
  -- no unit waits, and no unit is sent
  pub no_unit : Waiting
  pub no_units : Sent
  pub is_empty : Sent → Bool
  -- the units sent, after this many of the oldest have left
  pub left : ℕ → Sent → Sent
  -- the units sent, all of them to be retransmitted
  pub repeated : Sent → Sent
  -- a unit; the wait queue that holds it; the unit that waits, if any; the units sent, with one
  -- added at the end
  pub One : Type 0
  pub one_waits : One → Waiting
  pub waiting_one : Waiting → Option One
  pub with_last : Sent → One → Sent
  -- the oldest unit to be retransmitted, with the number of units older than it; the units sent,
  -- after this unit is no longer to be retransmitted
  pub oldest_again : Sent → Option (ℕ × One)
  pub without_oldest : Sent → Sent
  -- the oldest unit of the bypass queue, and the others
  pub oldest_bypass : Bypass → Option (One × Bypass)

-- a sender
pub record SenderOf (H : Store) : Type 0 where
  -- the maximum length of the sent queue, half the receiver's window width
  pub room : ℕ
  pub state : FopMode
  -- V(S), the number of the next unit, and NN(R), the number that the receiver expects
  pub vs : ℕ
  pub nn : ℕ
  -- the wait queue of one unit, the sent queue and the bypass queue, the oldest first
  pub waiting : H.Waiting
  pub sent : H.Sent
  pub bypass : H.Bypass
  -- the window K, the transmission limit and the timer's value
  pub window : ℕ
  pub limit : ℕ
  pub timer : ℕ
  -- the ticks left, if the timer runs, and the transmission count
  pub ticks : Option ℕ
  pub count : ℕ
  -- the control command of S5
  pub control : Control

-- the outcome of an input: the sender after it, the answer, and the number of units acknowledged
pub record OutcomeOf (H : Store) (A : Type 0) : Type 0 where
  pub after : SenderOf H
  pub answer : A
  pub gone : ℕ

-- the same sender, with its units in another store
abbrev pub held_by : {H : Store} (K : Store) → SenderOf H → K.Waiting → K.Sent → K.Bypass
    → SenderOf K
held_by K s waiting sent bypass =
    record {
      room = s.room;
      state = s.state;
      vs = s.vs;
      nn = s.nn;
      waiting = waiting;
      sent = sent;
      bypass = bypass;
      window = s.window;
      limit = s.limit;
      timer = s.timer;
      ticks = s.ticks;
      count = s.count;
      control = s.control;
    }
