-- The sender's numbers (CCSDS 232.1-B-2, 5.1), for units that its caller keeps, and what holds of
-- every sender.
use Rattle.std.specs.Prelude.{◌≡◌, ◌≢◌, ◌≤◌, ◌<◌, ◌↔◌, ℕ, ◌+◌, ◌-◌, ◌==◌, Bool, true, false, min}
use Rattle.std.specs.Prelude.{if◌then◌else◌, Option, Some, None, IfSome, IsSome, is_some, IsTrue}
use Rattle.tc_frame.specs.declared.frame.Command.{Command}
use Rattle.tc_frame.specs.declared.frame.Command.TheVariants.{Unlock, SetVr}
use Rattle.cop1.specs.Modulo.{ahead_by}
use Rattle.cop1.specs.FopVariables.{IsActive, Store, SenderOf, OutcomeOf}
use Rattle.cop1.specs.FopNew.{new_sender_of}
use Rattle.cop1.specs.declared.vocabulary.FopMode.TheVariants.{S1, S4, S5, S6}
use Rattle.cop1.specs.declared.vocabulary.Control.{Control}
use Rattle.cop1.specs.declared.vocabulary.Control.TheVariants.{Idle, Due, Sent}

-- how many units are sent, and how many of the last of them are due to be retransmitted
pub record Counted : Type 0 where
  pub count : ℕ
  pub due : ℕ

abbrev pub left : ℕ → Counted → Counted
left n c = record { count = c.count - n; due = min c.due (c.count - n) }

-- which unit: the one that waits, or one that was sent
pub data Which : Type 0 where
  TheWaiting : Which
  OneSent : Which

abbrev pub waiting_which : Bool → Option Which
waiting_which true = Some TheWaiting
waiting_which false = None

-- a store of numbers instead of units
abbrev pub numbers : Store
numbers =
    record {
      Waiting = Bool;
      Sent = Counted;
      Bypass = Unit {0};
      no_unit = false;
      no_units = record { count = 0; due = 0 };
      is_empty = λ c. c.count == 0;
      left = left;
      repeated = λ c. record { count = c.count; due = c.count };
      One = Which;
      one_waits = λ u. true;
      waiting_one = waiting_which;
      with_last = λ c u. record c { count = c.count + 1 };
      oldest_again = λ c. if c.due == 0 then None else Some (c.count - c.due, OneSent);
      without_oldest = λ c. record c { due = c.due - 1 };
      oldest_bypass = λ b. None;
    }

-- a sender's numbers, and the outcome of an input for them
abbrev pub SenderNumbers : Type 0
SenderNumbers = SenderOf numbers

abbrev pub SenderOutcome : Type 0 → Type 0
SenderOutcome A = OutcomeOf numbers A

-- a new sender
abbrev pub new_sender : ℕ → ℕ → ℕ → ℕ → SenderNumbers
new_sender width window limit timer = new_sender_of tt width window limit timer

-- the ranges of the numbers
pub record HasRanges (s : SenderNumbers) : Type 0 where
  -- frame sequence numbers count modulo 256
  pub vs : s.vs < 256
  pub nn : s.nn < 256
  pub apart : ahead_by s.vs s.nn ≤ s.room
  pub within : s.sent.count ≤ s.room
  pub room : s.room ≤ 127
  -- the window is from 1 to half the receiver's width
  pub least : 1 ≤ s.window
  pub window : s.window ≤ s.room
  -- the units due to be retransmitted are the last of those sent
  pub due : s.sent.due ≤ s.sent.count
  pub limit : 1 ≤ s.limit
  pub timer : 1 ≤ s.timer
  pub ticks : IfSome s.ticks (λ left. 1 ≤ left)
  pub count : 1 ≤ s.count

-- a command to set V(R) sets it to V(S)
abbrev pub SetsTo : ℕ → Command → Type 0
SetsTo vs Unlock = Unit {0}
SetsTo vs (SetVr vr) = vr ≡ vs

-- in S5 a control command is due, or it is sent and the timer runs
abbrev pub IsCommanding : ℕ → Bool → Control → Type 0
IsCommanding vs runs Idle = ⊥
IsCommanding vs runs (Due command) = SetsTo vs command
IsCommanding vs runs (Sent command) = IsTrue runs × SetsTo vs command

-- what holds of the other numbers in each state
pub record AgreesWithState (s : SenderNumbers) : Type 0 where
  -- in S1 to S5 the units that are sent have the numbers from NN(R) to V(S) - 1
  pub numbered : s.state ≢ S6 → ahead_by s.vs s.nn ≡ s.sent.count
  -- in S2 and S3 at least one unit is sent, in S4 to S6 none is, and in S6 none waits either
  pub repeating : IsActive s.state → s.state ≢ S1 → 1 ≤ s.sent.count
  pub unsent : (IsActive s.state → ⊥) → s.sent.count ≡ 0
  pub unsubmitted : s.state ≡ S6 → s.waiting ≡ false
  -- the timer runs in S1 to S3 exactly while units are sent, always in S4, and never in S6
  pub timed : IsActive s.state → IsSome s.ticks ↔ 1 ≤ s.sent.count
  pub checking : s.state ≡ S4 → IsSome s.ticks
  pub untimed : s.state ≡ S6 → s.ticks ≡ None
  -- there is a control command in S5, and only there
  pub commanding : s.state ≡ S5 → IsCommanding s.vs (is_some s.ticks) s.control
  pub commanded : s.state ≢ S5 → s.control ≡ Idle

-- what holds of every sender
pub record IsSender (s : SenderNumbers) : Type 0 where
  pub ranges : HasRanges s
  pub agrees : AgreesWithState s
