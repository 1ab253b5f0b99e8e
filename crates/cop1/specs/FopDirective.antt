-- How the sender responds to a directive (this project's profile of CCSDS 232.1-B-2, 5.2.4 and
-- table 5-1).
use Rattle.std.specs.Prelude.{◌==◌, ◌||◌, nat_lt, if◌then◌else◌, Option, Some, None, Result, Ok}
use Rattle.std.specs.Prelude.{Err, ℕ, Bool, true, false}
use Rattle.tc_frame.specs.declared.frame.Command.TheVariants.{Unlock, SetVr}
use Rattle.cop1.specs.declared.fault.CopFault.{CopFault}
use Rattle.cop1.specs.declared.fault.CopFault.TheVariants.{Window, Limit, Timer, WrongState}
use Rattle.cop1.specs.declared.vocabulary.FopMode.{FopMode}
use Rattle.cop1.specs.declared.vocabulary.FopMode.TheVariants.{S1, S4, S5, S6}
use Rattle.cop1.specs.declared.vocabulary.Alert.{Alert}
use Rattle.cop1.specs.declared.vocabulary.Alert.TheVariants.{Terminated}
use Rattle.cop1.specs.declared.vocabulary.Control.TheVariants.{Due}
use Rattle.cop1.specs.declared.vocabulary.Directive.{Directive}
use Rattle.cop1.specs.declared.vocabulary.Directive.TheVariants.{InitWithoutCheck, InitWithCheck}
use Rattle.cop1.specs.declared.vocabulary.Directive.TheVariants.{InitUnlock, InitSetVr, Terminate}
use Rattle.cop1.specs.declared.vocabulary.Directive.TheVariants.{SetVs, SetWindow, SetLimit}
use Rattle.cop1.specs.declared.vocabulary.Directive.TheVariants.{SetTimer}
use Rattle.cop1.specs.FopVariables.{Store, SenderOf, OutcomeOf}
use Rattle.cop1.specs.FopWords.{after_restart, after_alert}

module _ {H : Store} where
  abbrev pub obeys : SenderOf H → OutcomeOf H (Result (Option Alert) CopFault)
  obeys s = record { after = s; answer = Ok None; gone = 0 }

  abbrev pub refuses : SenderOf H → CopFault → OutcomeOf H (Result (Option Alert) CopFault)
  refuses s fault = record { after = s; answer = Err fault; gone = 0 }

  abbrev pub terminates : SenderOf H → OutcomeOf H (Result (Option Alert) CopFault)
  terminates s = record { after = after_alert s; answer = Ok (Some Terminated); gone = 0 }

  -- an initiation empties the sent queue and the wait queue, and sets the transmission count to 1
  abbrev pub after_begin : SenderOf H → SenderOf H
  after_begin s = record s { sent = H.no_units; waiting = H.no_unit; count = 1 }

  -- a directive that is obeyed only in S6
  abbrev pub from_S6 : SenderOf H → FopMode → SenderOf H
      → OutcomeOf H (Result (Option Alert) CopFault)
  from_S6 s S6 next = obeys next
  from_S6 s _ next = refuses s WrongState

  abbrev pub terminate_in : SenderOf H → FopMode → OutcomeOf H (Result (Option Alert) CopFault)
  terminate_in s S6 = refuses s WrongState
  terminate_in s _ = terminates s

  -- rules 1 to 9 of the directives, one line each
  abbrev pub directive_step : SenderOf H → Directive → OutcomeOf H (Result (Option Alert) CopFault)
  directive_step s InitWithoutCheck =
      from_S6 s s.state (record (after_begin s) { nn = s.vs; state = S1 })
  directive_step s InitWithCheck =
      from_S6 s s.state (record (after_restart (after_begin s)) { nn = s.vs; state = S4 })
  directive_step s InitUnlock =
      from_S6 s s.state (record (after_begin s) { nn = s.vs; control = Due Unlock; state = S5 })
  directive_step s (InitSetVr x) =
      from_S6 s s.state (record (after_begin s)
      { vs = x; nn = x; control = Due (SetVr x); state = S5 })
  directive_step s Terminate = terminate_in s s.state
  directive_step s (SetVs x) = from_S6 s s.state (record s { vs = x; nn = x })
  directive_step s (SetWindow k) =
      if (k == 0) || nat_lt s.room k then refuses s Window else obeys (record s { window = k })
  directive_step s (SetLimit n) = if n == 0 then refuses s Limit else obeys (record s { limit = n })
  directive_step s (SetTimer t) = if t == 0 then refuses s Timer else obeys (record s { timer = t })

-- The classes of directives (this project's profile of CCSDS 232.1-B-2, 5.2.4).

-- an initiation: a directive that leads from S6 to another state
abbrev pub is_initiation : Directive → Bool
is_initiation InitWithoutCheck = true
is_initiation InitWithCheck = true
is_initiation InitUnlock = true
is_initiation (InitSetVr x) = true
is_initiation _ = false

-- the number to which a directive sets V(S), if it carries one
abbrev pub vs_carried : Directive → Option ℕ
vs_carried (InitSetVr x) = Some x
vs_carried (SetVs x) = Some x
vs_carried _ = None
