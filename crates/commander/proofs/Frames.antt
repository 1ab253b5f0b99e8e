-- When a frame goes up, and when a session begins.
use Rattle.std.proofs.Common.{◌≡◌, ℕ, List, Bool, true, false, Option, Some, None, Result, Ok, Err}
use Rattle.std.proofs.Common.{refl, eqb-true, arith}
use Rattle.std.specs.Prelude.{◌&&◌, ◌==◌, not, option_map, if◌then◌else◌}
use Rattle.command_log.specs.declared.fault.LogFault.{LogFault}
use Rattle.command_log.specs.declared.status.Status.{Status}
use Rattle.command_log.specs.declared.packets.Order.{Order}
use Rattle.command_log.specs.Status.{status_spelled}
use Rattle.command_ledger.specs.declared.fault.LedgerFault.{LedgerFault}
use Rattle.command_ledger.specs.declared.state.Tell.{Tell}
use Rattle.command_ledger.specs.declared.state.Tell.TheVariants as tells
use Rattle.command_ledger.specs.State.{Entry}
use Rattle.command_ledger.specs.Waiting.{sent_as}
use Rattle.command_ledger.specs.Ledger.{NextView, Nothing, Stores, Says, next_of, appended_if, news, packet_of}
use Rattle.command_ledger.specs.Ledger.{rebuild_of}
use Rattle.cop1.specs.declared.vocabulary.Alert.{Alert}
use Rattle.clcw.specs.Decoding.{clcw_at}
use Rattle.tc_frame.specs.Layout.{FrameView}
use Rattle.tm_link.specs.Decoding.{frame_at}
use Rattle.nodes.specs.declared.fault.LinkFault.{LinkFault}
use Rattle.nodes.specs.Ground.{GroundState, ground_step, TakeTelemetry, Pull, Tick, Telemetry, ControlWord, is_closed}
use Rattle.commander.specs.declared.commander.Commander.{Commander}
use Rattle.commander.specs.declared.next.Next.{Next as Done}
use Rattle.commander.specs.declared.next.Next.TheVariants as nexts
use Rattle.commander.specs.Commander.{with_ground, noted, seen, ended, ended_if, is_short, status_taken, status_heard}
use Rattle.commander.specs.Commander.{first_status, ticked, alert_of, value_heard, value_used, told}
use Rattle.commander.specs.Next.{owed, ledger_owed, alert_owed, telemetry_owed, next_frame, after_next, opening}
use Rattle.commander.specs.Next.{has_first}
use Rattle.commander.specs.Next.{alert_told, worked, ordered_or_not, order_due, after_order, bypass_of, next_number}
use Rattle.commander.specs.Next.{begun_or_submitted, number_submitted, packet_submitted, after_submission, frame_of}
use Rattle.commander.specs.Next.{silent_after}
use Rattle.commander.specs.Moves.{Call, Gives, Hears, HearsWord, HearsStatus, Ticks, Next, Takes, Stored, Renewed, Told}
use Rattle.commander.specs.Moves.{Pauses, Restarts, Rebuilds, after_call, rebuilt}
use Rattle.commander.specs.Frames.{IsAtRest, IsQuiet, BeginsInSilence}

-- ---- a frame comes last

by_telemetry : (s : Commander) (frame : FrameView) (packet : Option (List ℕ)) → next_of s.ledger ≡ Nothing
    → s.session.alert ≡ None → (ground_step s.ground_node TakeTelemetry).answer ≡ packet
    → next_frame s (telemetry_owed packet) ≡ Some frame → IsAtRest s
by_telemetry s frame (Some packet) l a t e = absurd cc
by_telemetry s frame None l a t e = record { ledger = l; alert = a; telemetry = t }

by_alert : (s : Commander) (frame : FrameView) (alert : Option Alert) → next_of s.ledger ≡ Nothing
    → s.session.alert ≡ alert → next_frame s (alert_owed s alert) ≡ Some frame → IsAtRest s
by_alert s frame (Some alert) l a e = absurd cc
by_alert s frame None l a e = by_telemetry s frame (ground_step s.ground_node TakeTelemetry).answer l a refl e

by_ledger : (s : Commander) (frame : FrameView) (view : NextView) → next_of s.ledger ≡ view
    → next_frame s (ledger_owed s view) ≡ Some frame → IsAtRest s
by_ledger s frame (Stores octets) l e = absurd cc
by_ledger s frame (Says tell) l e = absurd cc
by_ledger s frame Nothing l e = by_alert s frame s.session.alert l refl e

pub each_frame : (s : Commander) (frame : FrameView) → next_frame s (owed s) ≡ Some frame → IsAtRest s
each_frame s frame e = by_ledger s frame (next_of s.ledger) refl e

-- ---- a control word is kept in a silence only

silent_quiet : (s : Commander) → s.session.value ≡ None → IsQuiet s
silent_quiet s none value is = absurd cc

noted_quiet : (s : Commander) (alert : Option Alert) → IsQuiet s → IsQuiet (noted s alert)
noted_quiet s None quiet = quiet
noted_quiet s (Some alert) quiet = silent_quiet (noted s (Some alert)) refl

both_true : (a b : Bool) → (a && b) ≡ true → b ≡ true
both_true true b e = e
both_true false b e = absurd cc

seen_by : (s : Commander) (value : ℕ) (b : Bool) → (b ≡ true → s.session.busy ≡ 0) → IsQuiet s
    → IsQuiet (if b then record s { session = record s.session { value = Some value } } else s)
seen_by s value true silent quiet = λ v is. silent refl
seen_by s value false silent quiet = quiet

seen_quiet : (s : Commander) (value : Option ℕ) → IsQuiet s → IsQuiet (seen s value)
seen_quiet s None quiet = quiet
seen_quiet s (Some value) quiet =
    seen_by s value (is_closed s.ground_node.fop.state && (s.session.busy == 0))
    (λ e. eqb-true s.session.busy 0 (both_true (is_closed s.ground_node.fop.state) (s.session.busy == 0) e)) quiet

ended_quiet : (s : Commander) (short : Bool) → IsQuiet s → IsQuiet (ended_if short s)
ended_quiet s true quiet = silent_quiet (ended s) refl
ended_quiet s false quiet = quiet

status_quiet : (s : Commander) (r : Result (Status × ℕ) LogFault) → IsQuiet s → IsQuiet (status_taken s r)
status_quiet s (Ok p) quiet =
    ended_quiet (record s { ledger = appended_if s.ledger (news s.ledger p.0) }) (is_short s p.0 p.1) quiet
status_quiet s (Err fault) quiet = quiet

first_quiet : (s : Commander) (octets : Option (List ℕ)) → IsQuiet s → IsQuiet (status_heard s octets)
first_quiet s (Some octets) quiet = status_quiet s (status_spelled octets) quiet
first_quiet s None quiet = quiet

ticked_quiet : (s : Commander) (g : GroundState) → IsQuiet s
    → IsQuiet (record s { ground_node = g; session = ticked s.session })
ticked_quiet s g quiet = λ value is. let silent = quiet value is in omega (arith, silent)

-- ---- what goes up

order_quiet : (s : Commander) (r : Result (Unit {0}) LinkFault) (g : GroundState) → IsQuiet s
    → IsQuiet (after_order s r g)
order_quiet s (Ok x) g quiet = quiet
order_quiet s (Err fault) g quiet = quiet

taken_quiet : (s : Commander) (number : ℕ) (taken : Bool) (g : GroundState) → IsQuiet s
    → IsQuiet (after_submission s number taken g)
taken_quiet s number true g quiet = quiet
taken_quiet s number false g quiet = quiet

packet_quiet : (s : Commander) (number : ℕ) (p : Option (ℕ × List ℕ)) → IsQuiet s
    → IsQuiet (packet_submitted s number p)
packet_quiet s number (Some p) quiet = taken_quiet s number _ _ quiet
packet_quiet s number None quiet = quiet

number_quiet : (s : Commander) (number : Option ℕ) → IsQuiet s → IsQuiet (number_submitted s number)
number_quiet s (Some number) quiet =
    packet_quiet s number (option_map sent_as (packet_of s.ledger number)) quiet
number_quiet s None quiet = quiet

begun_quiet : (s : Commander) (value : Option ℕ) → IsQuiet s → IsQuiet (begun_or_submitted s value)
begun_quiet s (Some value) quiet = silent_quiet (begun_or_submitted s (Some value)) refl
begun_quiet s None quiet = number_quiet s (next_number s) quiet

worked_quiet : (s : Commander) (order : Option Order) → IsQuiet s → IsQuiet (ordered_or_not s order)
worked_quiet s (Some order) quiet = order_quiet s (bypass_of s order).answer (bypass_of s order).after quiet
worked_quiet s None quiet = begun_quiet s (opening s) quiet

pulled_quiet : (s : Commander) (frame : Option FrameView) (g : GroundState) → IsQuiet s
    → IsQuiet (record s { ground_node = g; session = silent_after frame s })
pulled_quiet s (Some frame) g quiet =
    silent_quiet (record s { ground_node = g; session = silent_after (Some frame) s }) refl
pulled_quiet s None g quiet = quiet

told_quiet : (s : Commander) (it : Done) → IsQuiet s → IsQuiet (record s { session = alert_told it s.session })
told_quiet s (nexts.Alert alert) quiet = quiet
told_quiet s nexts.Nothing quiet = quiet
told_quiet s nexts.Store quiet = quiet
told_quiet s (nexts.Tell tell) quiet = quiet
told_quiet s nexts.Telemetry quiet = quiet
told_quiet s (nexts.Send count) quiet = quiet

next_quiet : (s : Commander) (it : Option Done) → IsQuiet s → IsQuiet (after_next s it)
next_quiet s (Some it) quiet = told_quiet s it quiet
next_quiet s None quiet =
    pulled_quiet (worked s) (frame_of (worked s)) (ground_step (worked s).ground_node Pull).after
    (worked_quiet s (order_due s) quiet)

tell_quiet : (s : Commander) (tell : Tell) → IsQuiet s → IsQuiet (told s tell)
tell_quiet s (tells.Executed tag) quiet = quiet
tell_quiet s (tells.Unknown tag) quiet = quiet
tell_quiet s (tells.Restarted boot) quiet = silent_quiet (told s (tells.Restarted boot)) refl
tell_quiet s (tells.RecordLost mark) quiet = silent_quiet (told s (tells.RecordLost mark)) refl
tell_quiet s (tells.Foreign first last) quiet = quiet

rebuilt_quiet : (s : Commander) (r : Result (Option Entry) LedgerFault) → IsQuiet s → IsQuiet (rebuilt s r)
rebuilt_quiet s (Ok e) quiet = quiet
rebuilt_quiet s (Err fault) quiet = quiet

call_quiet : (s : Commander) (call : Call) → IsQuiet s → IsQuiet (after_call s call)
call_quiet s (Gives tag on_map apid count content) quiet = quiet
call_quiet s (Hears frame) quiet =
    let o = ground_step s.ground_node (Telemetry frame) in
    let t : Commander = with_ground s o.after in
    seen_quiet (noted t (alert_of o.answer)) (value_heard o.answer (frame_at s.ground_node.config.frame_length frame))
    (noted_quiet t (alert_of o.answer) quiet)
call_quiet s (HearsWord octets) quiet =
    let o = ground_step s.ground_node (ControlWord octets) in
    let t : Commander = with_ground s o.after in
    seen_quiet (noted t o.answer.alert) (value_used o.answer.report (clcw_at octets))
    (noted_quiet t o.answer.alert quiet)
call_quiet s (HearsStatus octets) quiet = status_quiet s (status_spelled octets) quiet
call_quiet s Ticks quiet =
    let o = ground_step s.ground_node Tick in
    noted_quiet (record s { ground_node = o.after; session = ticked s.session }) o.answer
    (ticked_quiet s o.after quiet)
call_quiet s Next quiet = next_quiet s (owed s) quiet
call_quiet s Takes quiet =
    first_quiet s (first_status s.mission.status (ground_step s.ground_node TakeTelemetry).answer) quiet
call_quiet s (Stored count) quiet = quiet
call_quiet s (Renewed count) quiet = quiet
call_quiet s (Told tell) quiet = tell_quiet s tell quiet
call_quiet s (Pauses hold) quiet = quiet
call_quiet s Restarts quiet = quiet
call_quiet s Rebuilds quiet = rebuilt_quiet s (rebuild_of s.ledger) quiet

-- ---- a session begins

begins_by : (s : Commander) (value : ℕ) (closed paused first : Bool) → IsQuiet s
    → (if closed && (not paused && first) then s.session.value else None) ≡ Some value
    → (s.session.busy ≡ 0) × (paused ≡ false)
begins_by s value true false true quiet is = (quiet value is, refl)
begins_by s value true false false quiet is = absurd cc
begins_by s value true true first quiet is = absurd cc
begins_by s value false paused first quiet is = absurd cc

pub begins_in_silence : BeginsInSilence
begins_in_silence = record {
  at_first = λ c m all value is. absurd cc;
  after = call_quiet;
  begins = λ s value quiet is. begins_by s value (is_closed s.ground_node.fop.state) s.session.paused
      (has_first s.ledger) quiet is;
}
