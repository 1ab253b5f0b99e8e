-- How the sender responds to a CLCW, state by state and rule by rule (this project's profile of
-- CCSDS 232.1-B-2, table 5-1).
use Rattle.std.specs.Prelude.{ℕ, Bool, true, not, ◌&&◌, ◌==◌, nat_lt, if◌then◌else◌}
use Rattle.std.specs.Prelude.{Option, Some, None}
use Rattle.clcw.specs.declared.word.Clcw.{Clcw}
use Rattle.clcw.specs.Flags.{has_lockout, has_wait, has_retransmit}
use Rattle.cop1.specs.Modulo.{ahead_by}
use Rattle.cop1.specs.declared.vocabulary.FopMode.{FopMode}
use Rattle.cop1.specs.declared.vocabulary.FopMode.TheVariants.{S1, S2, S3, S4, S5, S6}
use Rattle.cop1.specs.declared.vocabulary.Alert.{Alert}
use Rattle.cop1.specs.declared.vocabulary.Alert.TheVariants.{Lockout, NnR, Clcw as ClcwAlert, Synch}
use Rattle.cop1.specs.declared.vocabulary.Alert.TheVariants.{Limit}
use Rattle.cop1.specs.declared.vocabulary.Control.TheVariants.{Idle}
use Rattle.cop1.specs.FopVariables.{Store, SenderOf, OutcomeOf}
use Rattle.cop1.specs.FopWords.{is_outside, after_acknowledge, after_repeat, alerts, goes_on}
use Rattle.cop1.specs.FopWords.{after_gone}

-- the flags L, w and t of a CLCW: Lockout, Wait and Retransmit
abbrev pub locks : Clcw → Bool
locks c = has_lockout c.flags

abbrev pub waits : Clcw → Bool
waits c = has_wait c.flags

abbrev pub asks : Clcw → Bool
asks c = has_retransmit c.flags

module _ {H : Store} where
  -- ---- S5, rules 14 and 15: a CLCW without flags whose value is V(S) confirms the command

  abbrev pub confirms : SenderOf H → Clcw → Bool
  confirms s c = not (locks c) && not (waits c) && not (asks c) && (c.value == s.vs)

  abbrev pub report_in_S5 : SenderOf H → Clcw → OutcomeOf H (Option Alert)
  report_in_S5 s c =
      if confirms s c then goes_on (record s { state = S1; ticks = None; control = Idle })
      else goes_on s

  -- ---- S4, rules 9 to 13, one line each; the first that applies decides

  abbrev pub report_in_S4 : SenderOf H → Clcw → OutcomeOf H (Option Alert)
  report_in_S4 s c =
      if locks c then alerts s Lockout
      else (if not (c.value == s.vs) then alerts s NnR
      else (if asks c then alerts s Synch
      else (if waits c then alerts s ClcwAlert
      else goes_on (record s { state = S1; ticks = None }))))

  -- ---- S1 to S3, rules 1 to 8; the first that applies decides

  -- rule 5: nothing is acknowledged, and no retransmission is requested
  abbrev pub nothing_new : SenderOf H → FopMode → OutcomeOf H (Option Alert)
  nothing_new s S2 = alerts s Synch
  nothing_new s S3 = alerts s Synch
  nothing_new s _ = goes_on s

  -- the timer after units have left the sent queue
  abbrev pub ticks_for : SenderOf H → Option ℕ
  ticks_for s = if H.is_empty s.sent then None else Some s.timer

  abbrev pub after_move_on : SenderOf H → SenderOf H
  after_move_on s = record s { state = S1; count = 1; ticks = ticks_for s }

  -- rule 6: units are acknowledged, and no retransmission is requested
  abbrev pub move_on : SenderOf H → ℕ → OutcomeOf H (Option Alert)
  move_on s v = after_gone (ahead_by v s.nn) (goes_on (after_move_on (after_acknowledge s v)))

  -- the sender with the units before a number acknowledged, and the transmission count set to 1
  abbrev pub after_new_value : SenderOf H → ℕ → SenderOf H
  after_new_value s v = record (after_acknowledge s v) { count = 1 }

  -- A retransmission is requested. The sender gives up with the alert Limit if each unit may be
  -- sent only once, and goes to S3 if the receiver waits. Otherwise `next` is the sender after it.
  abbrev pub ask_again : SenderOf H → Bool → SenderOf H → OutcomeOf H (Option Alert)
  ask_again s wait next =
      if s.limit == 1 then alerts s Limit
      else (if wait then goes_on (record s { state = S3 })
      else goes_on next)

  -- S2, with or without Repeat
  abbrev pub retransmits : SenderOf H → Bool → SenderOf H
  retransmits s repeats = record (if repeats then after_repeat s else s) { state = S2 }

  abbrev pub goes_back : SenderOf H → Bool → OutcomeOf H (Option Alert)
  goes_back s wait = ask_again s wait (retransmits s true)

  -- rule 7: units are acknowledged, and retransmission of the others is requested
  abbrev pub ask_for_others : SenderOf H → ℕ → Bool → OutcomeOf H (Option Alert)
  ask_for_others s v wait = after_gone (ahead_by v s.nn) (goes_back (after_new_value s v) wait)

  abbrev pub goes_back_again : SenderOf H → FopMode → SenderOf H
  goes_back_again s S1 = retransmits s (nat_lt s.count s.limit)
  goes_back_again s S3 = retransmits s (nat_lt s.count s.limit)
  goes_back_again s _ = s

  -- rule 8: nothing is acknowledged, and all that was sent asked for
  abbrev pub ask_for_all : SenderOf H → Bool → OutcomeOf H (Option Alert)
  ask_for_all s wait = ask_again s wait (goes_back_again s s.state)

  -- rules 1 to 8, one line each
  abbrev pub report_while_active : SenderOf H → Clcw → OutcomeOf H (Option Alert)
  report_while_active s c =
      if locks c then alerts s Lockout
      else (if is_outside s c.value then alerts s NnR
      else (if not (asks c) && waits c then alerts s ClcwAlert
      else (if asks c && (c.value == s.vs) then alerts s Synch
      else (if not (asks c) && (c.value == s.nn) then nothing_new s s.state
      else (if not (asks c) then move_on s c.value
      else (if not (c.value == s.nn) then ask_for_others s c.value (waits c)
      else ask_for_all s (waits c)))))))

  -- ---- all states; rule 16: in S6 a CLCW is ignored

  abbrev pub report_in : SenderOf H → Clcw → FopMode → OutcomeOf H (Option Alert)
  report_in s c S1 = report_while_active s c
  report_in s c S2 = report_while_active s c
  report_in s c S3 = report_while_active s c
  report_in s c S4 = report_in_S4 s c
  report_in s c S5 = report_in_S5 s c
  report_in s c S6 = goes_on s

  abbrev pub clcw_step : SenderOf H → Clcw → OutcomeOf H (Option Alert)
  clcw_step s c = report_in s c s.state
