-- The receiver, FARM-1: its variables (CCSDS 232.1-B-2, 6.1) and its state table (table 6-1), event
-- by event, with one line for each cell. A line leaves unchanged what it does not name. The columns
-- Wait and Lockout are from this project's profile (docs/PROFILE.md).
use Rattle.std.specs.Prelude.{◌≡◌, ℕ, ◌+◌, ◌-◌, ◌/◌, ◌%◌, ◌≤◌, Bool, true, false, if◌then◌else◌}
use Rattle.std.specs.Prelude.{◌==◌, nat_lt, nat_le, List, [], ◌∷◌}
use Rattle.cop1.specs.Modulo.{ahead_by}
use Rattle.cop1.specs.declared.farm.FarmMode.{FarmMode}
use Rattle.cop1.specs.declared.farm.FarmMode.TheVariants.{Open, Wait, Lockout}
use Rattle.cop1.specs.declared.farm.Place.{Place}
use Rattle.cop1.specs.declared.farm.Place.TheVariants.{Expected, InPositiveWindow, InNegativeWindow}
use Rattle.cop1.specs.declared.farm.Place.TheVariants.{OutsideWindows}
use Rattle.cop1.specs.declared.farm.Verdict.{Verdict}
use Rattle.cop1.specs.declared.farm.Verdict.TheVariants.{Accepted, Ahead, NoBuffer, Behind, Outside}
use Rattle.cop1.specs.declared.farm.Verdict.TheVariants.{Discarded}

-- a receiver: its window width, its state, V(R), its three flags and FARM-B
pub record FarmState : Type 0 where
  pub width : ℕ
  pub state : FarmMode
  pub vr : ℕ
  pub lockout : Bool
  pub wait : Bool
  pub retransmit : Bool
  pub farm_b : ℕ

-- the state that follows from the lockout flag and the wait flag
abbrev pub state_of : Bool → Bool → FarmMode
state_of true wait = Lockout
state_of false true = Wait
state_of false false = Open

-- a width is even, 2 to 254
abbrev pub IsWidth : ℕ → Type 0
IsWidth width = (width % 2 ≡ 0) × (2 ≤ width) × (width ≤ 254)

-- a new receiver
abbrev pub new_farm : ℕ → ℕ → FarmState
new_farm width vr =
    record {
      width =
          width;
      state =
          Open;
      vr = vr;
      lockout = false;
      wait = false;
      retransmit = false;
      farm_b = 0;
    }

-- where a number lies that is this far ahead of V(R); the positive and the negative window are each
-- half the width
abbrev pub place_at : ℕ → ℕ → Place
place_at half ahead =
    if ahead == 0 then Expected
    else (if nat_lt ahead half then InPositiveWindow
    else (if nat_le (256 - half) ahead then InNegativeWindow
    else OutsideWindows))

-- where N(S) lies
abbrev pub place_of : FarmState → ℕ → Place
place_of s n = place_at (s.width / 2) (ahead_by n s.vr)

-- the verdict on a Type-AD frame, given its place, whether a buffer is free, and the state
abbrev pub ad_verdict : Place → Bool → FarmMode → Verdict
ad_verdict Expected true Open = Accepted
ad_verdict Expected true Wait = Discarded
ad_verdict Expected true Lockout = Discarded
ad_verdict Expected false Open = NoBuffer
ad_verdict Expected false Wait = Discarded
ad_verdict Expected false Lockout = Discarded
ad_verdict InPositiveWindow free Open = Ahead
ad_verdict InPositiveWindow free Wait = Discarded
ad_verdict InPositiveWindow free Lockout = Discarded
ad_verdict InNegativeWindow free Open = Behind
ad_verdict InNegativeWindow free Wait = Discarded
ad_verdict InNegativeWindow free Lockout = Discarded
ad_verdict OutsideWindows free Open = Outside
ad_verdict OutsideWindows free Wait = Outside
ad_verdict OutsideWindows free Lockout = Discarded

abbrev pub verdict_of : FarmState → ℕ → Bool → Verdict
verdict_of s n free = ad_verdict (place_of s n) free s.state

-- the receiver after a verdict
abbrev pub after_verdict : FarmState → Verdict → FarmState
after_verdict s Accepted = record s { vr = (s.vr + 1) % 256; retransmit = false }
after_verdict s NoBuffer = record s { retransmit = true; wait = true; state = Wait }
after_verdict s Ahead = record s { retransmit = true }
after_verdict s Behind = s
after_verdict s Outside = record s { lockout = true; state = Lockout }
after_verdict s Discarded = s

-- FARM-B counts every Type-B frame, modulo 4
abbrev pub after_type_b : FarmState → FarmState
after_type_b s = record s { farm_b = (s.farm_b + 1) % 4 }

abbrev pub after_unlock : FarmState → FarmMode → FarmState
after_unlock s Open = record (after_type_b s) { retransmit = false }
after_unlock s Wait = record (after_type_b s) { retransmit = false; wait = false; state = Open }
after_unlock s Lockout =
    record (after_type_b s) { retransmit = false; wait = false; lockout = false; state = Open }

abbrev pub after_set_vr : FarmState → ℕ → FarmMode → FarmState
after_set_vr s vr Open = record (after_type_b s) { retransmit = false; vr = vr }
after_set_vr s vr Wait =
    record (after_type_b s) { retransmit = false; vr = vr; wait = false; state = Open }
after_set_vr s vr Lockout = after_type_b s

abbrev pub after_release : FarmState → FarmMode → FarmState
after_release s Open = s
after_release s Wait = record s { wait = false; state = Open }
after_release s Lockout = record s { wait = false }

-- the events at a receiver, in the order of the table
pub data FarmEvent : Type 0 where
  AdArrives : (n : ℕ) (free : Bool) → FarmEvent
  BdArrives : FarmEvent
  UnlockArrives : FarmEvent
  SetVrArrives : (vr : ℕ) → FarmEvent
  InvalidArrives : FarmEvent
  BufferReleased : FarmEvent

-- the receiver after an event
abbrev pub farm_step : FarmState → FarmEvent → FarmState
farm_step s (AdArrives n free) = after_verdict s (verdict_of s n free)
farm_step s BdArrives = after_type_b s
farm_step s UnlockArrives = after_unlock s s.state
farm_step s (SetVrArrives vr) = after_set_vr s vr s.state
farm_step s InvalidArrives = s
farm_step s BufferReleased = after_release s s.state

-- What holds of a receiver after any events.

-- a receiver after these events, in their order
abbrev pub farm_run : FarmState → List FarmEvent → FarmState
farm_run s [] = s
farm_run s (event ∷ events) = farm_run (farm_step s event) events

-- If the wait flag is set, so is the retransmit flag. The state is Lockout if the lockout flag is
-- set, Wait if the wait flag is set without it, and otherwise Open.
pub record FlagsAgree (s : FarmState) : Type 0 where
  pub asks : s.wait ≡ true → s.retransmit ≡ true
  pub state : s.state ≡ state_of s.lockout s.wait

-- the flags and the state agree after any events at a new receiver
abbrev pub FlagsAlwaysAgree : Type 0
FlagsAlwaysAgree =
    (width vr : ℕ) (events : List FarmEvent) → FlagsAgree (farm_run (new_farm width vr) events)
