-- How the sender responds to a tick of the clock (this project's profile).
use Rattle.std.specs.Prelude.{ℕ, ◌+◌, ◌-◌, ◌==◌, nat_lt, if◌then◌else◌, Option, Some, None}
use Rattle.cop1.specs.declared.vocabulary.FopMode.{FopMode}
use Rattle.cop1.specs.declared.vocabulary.FopMode.TheVariants.{S1, S2, S3, S4, S5, S6}
use Rattle.cop1.specs.declared.vocabulary.Alert.{Alert}
use Rattle.cop1.specs.declared.vocabulary.Alert.TheVariants.{Timer}
use Rattle.cop1.specs.declared.vocabulary.Control.{Control}
use Rattle.cop1.specs.declared.vocabulary.Control.TheVariants.{Idle, Due, Sent}
use Rattle.cop1.specs.FopVariables.{Store, SenderOf, OutcomeOf}
use Rattle.cop1.specs.FopWords.{after_restart, after_stop, after_repeat, alerts, goes_on}

abbrev pub due_again : Control → Control
due_again Idle = Idle
due_again (Due command) = Due command
due_again (Sent command) = Due command

module _ {H : Store} where
  abbrev pub after_count : SenderOf H → SenderOf H
  after_count s = record (after_restart s) { count = s.count + 1 }

  -- the sender `next` if the count is below the limit, and otherwise the alert Timer
  abbrev pub while_below : SenderOf H → SenderOf H → OutcomeOf H (Option Alert)
  while_below s next = if nat_lt s.count s.limit then goes_on next else alerts s Timer

  -- the timer has expired: rule 1 in S1 and S2, rule 2 in S3, rule 3 in S5; rule 4 is the alert
  abbrev pub timer_ended : SenderOf H → FopMode → OutcomeOf H (Option Alert)
  timer_ended s S1 = while_below s (after_repeat s)
  timer_ended s S2 = while_below s (after_repeat s)
  timer_ended s S3 = while_below s (after_count s)
  timer_ended s S4 = alerts s Timer
  timer_ended s S5 = while_below s (record (after_count s) { control = due_again s.control })
  timer_ended s S6 = goes_on s

  abbrev pub tick_with : SenderOf H → Option ℕ → OutcomeOf H (Option Alert)
  tick_with s None = goes_on s
  tick_with s (Some left) =
      if left == 1 then timer_ended (after_stop s) s.state
      else goes_on (record s { ticks = Some (left - 1) })

  abbrev pub tick_step : SenderOf H → OutcomeOf H (Option Alert)
  tick_step s = tick_with s s.ticks
