-- The operations that the sender's rules use (this project's profile of CCSDS 232.1-B-2, 5.2).
use Rattle.std.specs.Prelude.{ℕ, ◌+◌, Bool, nat_lt, Option, Some, None}
use Rattle.cop1.specs.Modulo.{ahead_by}
use Rattle.cop1.specs.declared.vocabulary.FopMode.TheVariants.{S6}
use Rattle.cop1.specs.declared.vocabulary.Alert.{Alert}
use Rattle.cop1.specs.declared.vocabulary.Control.TheVariants.{Idle}
use Rattle.cop1.specs.FopVariables.{Store, SenderOf, OutcomeOf}

module _ {H : Store} where
  -- a value is outside if it is further above NN(R) than V(S) is
  abbrev pub is_outside : SenderOf H → ℕ → Bool
  is_outside s v = nat_lt (ahead_by s.vs s.nn) (ahead_by v s.nn)

  -- Restart: the ticks left are set to the timer's value
  abbrev pub after_restart : SenderOf H → SenderOf H
  after_restart s = record s { ticks = Some s.timer }

  abbrev pub after_stop : SenderOf H → SenderOf H
  after_stop s = record s { ticks = None }

  -- Acknowledge: the units before a number leave the sent queue, and NN(R) becomes this number
  abbrev pub after_acknowledge : SenderOf H → ℕ → SenderOf H
  after_acknowledge s v = record s { sent = H.left (ahead_by v s.nn) s.sent; nn = v }

  -- Repeat: all units of the sent queue are marked, the transmission count is incremented, and the
  -- timer restarts
  abbrev pub after_repeat : SenderOf H → SenderOf H
  after_repeat s =
      record s { sent = H.repeated s.sent; count = s.count + 1; ticks = Some s.timer }

  -- Alert: nothing is kept except the bypass queue and the numbers
  abbrev pub after_alert : SenderOf H → SenderOf H
  after_alert s =
      record s { state = S6; sent = H.no_units; waiting = H.no_unit; ticks = None; control = Idle }

  abbrev pub alerts : SenderOf H → Alert → OutcomeOf H (Option Alert)
  alerts s x = record { after = after_alert s; answer = Some x; gone = 0 }

  -- no alert
  abbrev pub goes_on : SenderOf H → OutcomeOf H (Option Alert)
  goes_on s = record { after = s; answer = None; gone = 0 }

  -- an outcome with this number of units acknowledged
  abbrev pub after_gone : {A : Type 0} → ℕ → OutcomeOf H A → OutcomeOf H A
  after_gone n o = record o { gone = n }
