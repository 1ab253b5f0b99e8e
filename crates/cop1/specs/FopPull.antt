-- What is sent on the link next, by the first of five rules that applies (this project's profile of
-- CCSDS 232.1-B-2, 5.2.7).
use Rattle.std.specs.Prelude.{ℕ, ◌+◌, ◌%◌, nat_lt, if◌then◌else◌}
use Rattle.std.specs.Prelude.{Option, Some, None}
use Rattle.tc_frame.specs.declared.frame.Command.{Command}
use Rattle.cop1.specs.Modulo.{ahead_by}
use Rattle.cop1.specs.declared.vocabulary.FopMode.{FopMode}
use Rattle.cop1.specs.declared.vocabulary.FopMode.TheVariants.{S1, S2}
use Rattle.cop1.specs.declared.vocabulary.Control.{Control}
use Rattle.cop1.specs.declared.vocabulary.Control.TheVariants.{Idle, Due, Sent}
use Rattle.cop1.specs.FopVariables.{Store, SenderOf, OutcomeOf}
use Rattle.cop1.specs.FopWords.{after_restart}

-- what is pulled
pub data PulledUnit (U : Type 0) : Type 0 where
  NothingPulled : PulledUnit U
  ControlPulled : (command : Command) → PulledUnit U
  BypassPulled : (unit : U) → PulledUnit U
  SequencePulled : (number : ℕ) (unit : U) → PulledUnit U

module _ {H : Store} where
  abbrev pub pulls : SenderOf H → PulledUnit H.One → OutcomeOf H (PulledUnit H.One)
  pulls s answer = record { after = s; answer = answer; gone = 0 }

  -- the transmission count after a unit is sent for the first time: 1 if the sent queue was empty,
  -- and otherwise unchanged
  abbrev pub count_behind : SenderOf H → ℕ
  count_behind s = if H.is_empty s.sent then 1 else s.count

  abbrev pub after_send_first : SenderOf H → H.One → SenderOf H
  after_send_first s u =
      record (after_restart s) {
        waiting =
            H.no_unit;
        sent = H.with_last s.sent u;
        vs =
            (s.vs + 1) % 256;
        count = count_behind s;
      }

  -- rule 4 of a pull: the wait queue's unit, if the window has room for it; otherwise rule 5,
  -- nothing
  abbrev pub pull_waiting : SenderOf H → Option H.One → OutcomeOf H (PulledUnit H.One)
  pull_waiting s None = pulls s NothingPulled
  pull_waiting s (Some u) =
      if nat_lt (ahead_by s.vs s.nn) s.window then pulls (after_send_first s u)
      (SequencePulled s.vs u)
      else pulls s NothingPulled

  abbrev pub next_waiting : SenderOf H → OutcomeOf H (PulledUnit H.One)
  next_waiting s = pull_waiting s (H.waiting_one s.waiting)

  -- rule 3: the oldest marked unit with its number, and otherwise the wait queue's unit
  abbrev pub pull_marked : SenderOf H → Option (ℕ × H.One) → OutcomeOf H (PulledUnit H.One)
  pull_marked s (Some oldest) =
      pulls (record (after_restart s) { sent = H.without_oldest s.sent })
      (SequencePulled ((s.nn + oldest.0) % 256) oldest.1)
  pull_marked s None = next_waiting s

  abbrev pub next_sequence : SenderOf H → OutcomeOf H (PulledUnit H.One)
  next_sequence s = pull_marked s (H.oldest_again s.sent)

  abbrev pub pull_in : SenderOf H → FopMode → OutcomeOf H (PulledUnit H.One)
  pull_in s S1 = next_sequence s
  pull_in s S2 = next_sequence s
  pull_in s _ = pulls s NothingPulled

  -- rule 2: the oldest bypass unit, in any state
  abbrev pub pull_bypass : SenderOf H → Option (H.One × H.Bypass) → OutcomeOf H (PulledUnit H.One)
  pull_bypass s (Some oldest) = pulls (record s { bypass = oldest.1 }) (BypassPulled oldest.0)
  pull_bypass s None = pull_in s s.state

  -- rule 1: the control command of S5, if it is due
  abbrev pub pull_control : SenderOf H → Control → OutcomeOf H (PulledUnit H.One)
  pull_control s (Due command) =
      pulls (record (after_restart s) { control = Sent command }) (ControlPulled command)
  pull_control s (Sent command) = pull_bypass s (H.oldest_bypass s.bypass)
  pull_control s Idle = pull_bypass s (H.oldest_bypass s.bypass)

  abbrev pub pull_step : SenderOf H → OutcomeOf H (PulledUnit H.One)
  pull_step s = pull_control s s.control
