-- Each call is calls of the ledger and of the ground.
use Rattle.std.proofs.Common.{◌≡◌, ℕ, List, [], ◌∷◌, Bool, true, false, Option, Some, None, Result, Ok, Err}
use Rattle.std.proofs.Common.{refl, sym, ap, subst, ◌∙◌, ◌++◌, length, inl, inr}
use Rattle.std.specs.Prelude.{◌==◌, option_map, if◌then◌else◌, is_ok}
use Rattle.std.specs.List.{AllByRecursion}
use Rattle.command_log.specs.declared.fault.LogFault.{LogFault}
use Rattle.command_log.specs.declared.status.Status.{Status}
use Rattle.command_log.specs.declared.packets.Order.{Order}
use Rattle.command_log.specs.Packets.{order_octets}
use Rattle.command_log.specs.Status.{status_spelled}
use Rattle.command_ledger.specs.declared.fault.LedgerFault.{LedgerFault}
use Rattle.command_ledger.specs.declared.state.Tell.{Tell}
use Rattle.command_ledger.specs.declared.state.Tell.TheVariants as tells
use Rattle.command_ledger.specs.State.{Entry}
use Rattle.command_ledger.specs.State as entries
use Rattle.command_ledger.specs.Waiting.{Waiting, sent_as}
use Rattle.command_log.specs.Packets.{command_octets}
use Rattle.command_ledger.specs.Ledger.{LedgerState, appended, appended_if, all_stored, news, packet_of, rebuild_of}
use Rattle.command_ledger.specs.Ledger.{next_command}
use Rattle.cop1.specs.declared.vocabulary.Alert.{Alert}
use Rattle.nodes.specs.declared.fault.LinkFault.{LinkFault}
use Rattle.cop1.specs.declared.vocabulary.Directive.TheVariants.{Terminate, SetVs, InitUnlock}
use Rattle.nodes.specs.Ground.{GroundState, GroundEvent, ground_step, Submit, Bypass, Direct, Pull, Tick, Telemetry}
use Rattle.nodes.specs.Ground.{ControlWord, TakeTelemetry}
use Rattle.clcw.specs.Decoding.{clcw_at}
use Rattle.tm_link.specs.Decoding.{frame_at}
use Rattle.commander.specs.declared.commander.Commander.{Commander}
use Rattle.commander.specs.declared.next.Next.{Next as Done}
use Rattle.commander.specs.Commander.{with_ground, noted, seen, ended, ended_if, is_short, status_taken}
use Rattle.commander.specs.Commander.{status_heard, first_heard, first_status, packet_taken, told}
use Rattle.commander.specs.Commander.{ticked, alert_of, value_heard, value_used}
use Rattle.commander.specs.Next.{owed, after_next, pulled, worked, ordered_or_not, order_due, after_order}
use Rattle.commander.specs.Next.{bypass_of, begun_or_submitted, opening, begun, next_number, number_submitted}
use Rattle.commander.specs.Next.{packet_submitted, submission_of, after_submission}
use Rattle.commander.specs.Moves.{Call, Gives, Hears, HearsWord, HearsStatus, Ticks, Next, Takes, Stored, Renewed, Told}
use Rattle.commander.specs.Moves.{Pauses, Restarts, Rebuilds, after_call, rebuilt, IsLedgerMove, ground_after, IsStored}
use Rattle.commander.specs.Moves.{IsMove}

-- ---- moves in general

-- a call of the ground that submits nothing, or nothing
move : (s t : Commander) (events : List GroundEvent) → IsLedgerMove s.ledger t.ledger
    → AllByRecursion (IsStored s.ledger) events → t.ground_node ≡ ground_after s.ground_node events → IsMove s t
move s t events l a g = record { ledger = l; events = events; submits = a; ground_node = g }

-- ---- what leaves the ledger and the ground as they are

-- the same ledger and the same ground
pub record AreAlike (s t : Commander) : Type 0 where
  pub ledger : t.ledger ≡ s.ledger
  pub node : t.ground_node ≡ s.ground_node

alike : (s : Commander) → AreAlike s s
alike s = record { ledger = refl; node = refl }

after_both : (r s t : Commander) → AreAlike r s → AreAlike s t → AreAlike r t
after_both r s t a b = record { ledger = b.ledger ∙ a.ledger; node = b.node ∙ a.node }

noted_alike : (s : Commander) (alert : Option Alert) → AreAlike s (noted s alert)
noted_alike s None = alike s
noted_alike s (Some alert) = record { ledger = refl; node = refl }

either_alike : (s t : Commander) (b : Bool) → AreAlike s t → AreAlike s (if b then t else s)
either_alike s t true a = a
either_alike s t false a = alike s

seen_alike : (s : Commander) (value : Option ℕ) → AreAlike s (seen s value)
seen_alike s None = alike s
seen_alike s (Some value) =
    either_alike s (record s { session = record s.session { value = Some value } }) _
    (record { ledger = refl; node = refl })

heard_alike : (s : Commander) (alert : Option Alert) (value : Option ℕ) → AreAlike s (seen (noted s alert) value)
heard_alike s alert value =
    after_both s (noted s alert) (seen (noted s alert) value) (noted_alike s alert) (seen_alike (noted s alert) value)

-- one call of the ground, and then what leaves both as they are
one_call : (s t : Commander) (event : GroundEvent) → IsStored s.ledger event
    → AreAlike (with_ground s (ground_step s.ground_node event).after) t → IsMove s t
one_call s t event stored a = move s t (event ∷ []) (inl a.ledger) (stored, tt) a.node

-- ---- a status

ended_move : (s : Commander) (l : LedgerState) (short : Bool) → IsLedgerMove s.ledger l
    → IsMove s (ended_if short (record s { ledger = l }))
ended_move s l true is = move s (ended (record s { ledger = l })) (Direct Terminate ∷ []) is (tt, tt) refl
ended_move s l false is = move s (record s { ledger = l }) [] is tt refl

news_move : (l : LedgerState) (e : Option Entry) → IsLedgerMove l (appended_if l e)
news_move l None = inl refl
news_move l (Some e) = inr (inl (e, refl))

status_move : (s : Commander) (r : Result (Status × ℕ) LogFault) → IsMove s (status_taken s r)
status_move s (Ok p) =
    ended_move s (appended_if s.ledger (news s.ledger p.0)) (is_short s p.0 p.1)
    (news_move s.ledger (news s.ledger p.0))
status_move s (Err fault) = move s s [] (inl refl) tt refl

first_move : (s : Commander) (octets : Option (List ℕ)) → IsMove s (status_heard s octets)
first_move s (Some octets) = status_move s (status_spelled octets)
first_move s None = move s s [] (inl refl) tt refl

-- ---- one call of the ground more

after_more : (g : GroundState) (events : List GroundEvent) (event : GroundEvent)
    → ground_after g (events ++ event ∷ []) ≡ (ground_step (ground_after g events) event).after
after_more g [] event = refl
after_more g (e ∷ es) event = after_more (ground_step g e).after es event

all_more : (P : GroundEvent → Type 0) (events : List GroundEvent) (event : GroundEvent) → AllByRecursion P events
    → P event → AllByRecursion P (events ++ event ∷ [])
all_more P [] event all is = (is, tt)
all_more P (e ∷ es) event all is = (all.0, all_more P es event all.1 is)

one_more : (s t u : Commander) (event : GroundEvent) → IsMove s t → IsStored s.ledger event → u.ledger ≡ t.ledger
    → u.ground_node ≡ (ground_step t.ground_node event).after → IsMove s u
one_more s t u event is stored same goes =
    move s u (is.events ++ event ∷ []) (subst (λ (l : LedgerState). IsLedgerMove s.ledger l) (sym same) is.ledger)
    (all_more (IsStored s.ledger) is.events event is.submits stored)
    (goes ∙ ap (λ (g : GroundState). (ground_step g event).after) is.ground_node
    ∙ sym (after_more s.ground_node is.events event))

-- ---- what goes up

same_move : (s t : Commander) → AreAlike s t → IsMove s t
same_move s t a = move s t [] (inl a.ledger) tt a.node

order_move : (s : Commander) (m : ℕ) (octets : List ℕ) (r : Result (Unit {0}) LinkFault)
    → IsMove s (after_order s r (ground_step s.ground_node (Bypass m octets)).after)
order_move s m octets (Ok x) =
    move s (after_order s (Ok x) (ground_step s.ground_node (Bypass m octets)).after) (Bypass m octets ∷ [])
    (inl refl) (tt, tt) refl
order_move s m octets (Err fault) =
    move s (after_order s (Err fault) (ground_step s.ground_node (Bypass m octets)).after) (Bypass m octets ∷ [])
    (inl refl) (tt, tt) refl

taken_move : (s : Commander) (number : ℕ) (c : Waiting) (taken : Bool) → packet_of s.ledger number ≡ Some c
    → IsMove s (after_submission s number taken (submission_of s.ground_node (sent_as c)).after)
taken_move s number c true is =
    move s (after_submission s number true (submission_of s.ground_node (sent_as c)).after)
    (Submit c.on_map c.packet ∷ []) (inl refl) ((number, (c, (is, refl))), tt) refl
taken_move s number c false is =
    move s (after_submission s number false (submission_of s.ground_node (sent_as c)).after)
    (Submit c.on_map c.packet ∷ []) (inl refl) ((number, (c, (is, refl))), tt) refl

packet_move : (s : Commander) (number : ℕ) (c : Option Waiting) → packet_of s.ledger number ≡ c
    → IsMove s (packet_submitted s number (option_map sent_as c))
packet_move s number (Some c) is =
    taken_move s number c (is_ok (submission_of s.ground_node (sent_as c)).answer) is
packet_move s number None is = same_move s s (alike s)

number_move : (s : Commander) (number : Option ℕ) → IsMove s (number_submitted s number)
number_move s (Some number) = packet_move s number (packet_of s.ledger number) refl
number_move s None = same_move s s (alike s)

begun_move : (s : Commander) (value : Option ℕ) → IsMove s (begun_or_submitted s value)
begun_move s (Some value) =
    move s (begun s value) (Direct (SetVs value) ∷ Direct InitUnlock ∷ []) (inl refl) (tt, (tt, tt)) refl
begun_move s None = number_move s (next_number s)

worked_by : (s : Commander) (order : Option Order) → IsMove s (ordered_or_not s order)
worked_by s (Some order) =
    order_move s s.mission.map (order_octets s.mission.orders 0 order) (bypass_of s order).answer
worked_by s None = begun_move s (opening s)

next_move : (s : Commander) (it : Option Done) → IsMove s (after_next s it)
next_move s (Some it) = same_move s (after_next s (Some it)) (record { ledger = refl; node = refl })
next_move s None = one_more s (worked s) (pulled (worked s)) Pull (worked_by s (order_due s)) tt refl refl

-- ---- what is stored and told

if_move : (l m : LedgerState) (b : Bool) → IsLedgerMove l m → IsLedgerMove l (if b then m else l)
if_move l m true is = is
if_move l m false is = inl refl

with_ledger_move : (s : Commander) (l : LedgerState) → IsLedgerMove s.ledger l → IsMove s (record s { ledger = l })
with_ledger_move s l is = move s (record s { ledger = l }) [] is tt refl

told_move : (s : Commander) (tell : Tell) → IsMove s (told s tell)
told_move s (tells.Executed tag) =
    with_ledger_move s (appended s.ledger entries.Tells) (inr (inl (entries.Tells, refl)))
told_move s (tells.Unknown tag) =
    with_ledger_move s (appended s.ledger entries.Tells) (inr (inl (entries.Tells, refl)))
told_move s (tells.Foreign first last) =
    with_ledger_move s (appended s.ledger entries.Tells) (inr (inl (entries.Tells, refl)))
told_move s (tells.Restarted boot) =
    move s (told s (tells.Restarted boot)) (Direct Terminate ∷ []) (inr (inl (entries.Tells, refl))) (tt, tt) refl
told_move s (tells.RecordLost mark) =
    move s (told s (tells.RecordLost mark)) (Direct Terminate ∷ []) (inr (inl (entries.Tells, refl))) (tt, tt) refl

rebuilt_move : (s : Commander) (r : Result (Option Entry) LedgerFault) → IsMove s (rebuilt s r)
rebuilt_move s (Ok e) = with_ledger_move s (appended_if s.ledger e) (news_move s.ledger e)
rebuilt_move s (Err fault) = same_move s s (alike s)

-- ---- all calls

pub each_call : (s : Commander) (call : Call) → IsMove s (after_call s call)
each_call s (Gives tag on_map apid count content) =
    let e : Entry = entries.Gives tag on_map (command_octets (next_command s.ledger apid count content)) in
    with_ledger_move s (appended s.ledger e) (inr (inl (e, refl)))
each_call s (Hears frame) =
    let o = ground_step s.ground_node (Telemetry frame) in
    one_call s (after_call s (Hears frame)) (Telemetry frame) tt
    (heard_alike (with_ground s o.after) (alert_of o.answer)
    (value_heard o.answer (frame_at s.ground_node.config.frame_length frame)))
each_call s (HearsWord octets) =
    let o = ground_step s.ground_node (ControlWord octets) in
    one_call s (after_call s (HearsWord octets)) (ControlWord octets) tt
    (heard_alike (with_ground s o.after) o.answer.alert (value_used o.answer.report (clcw_at octets)))
each_call s (HearsStatus octets) = status_move s (status_spelled octets)
each_call s Ticks =
    let o = ground_step s.ground_node Tick in
    let t : Commander = record s { ground_node = o.after; session = ticked s.session } in
    one_call s (after_call s Ticks) Tick tt
    (after_both (with_ground s o.after) t (noted t o.answer) (record { ledger = refl; node = refl })
    (noted_alike t o.answer))
each_call s Next = next_move s (owed s)
each_call s Takes =
    one_more s (first_heard s) (packet_taken (first_heard s)) TakeTelemetry
    (first_move s (first_status s.mission.status (ground_step s.ground_node TakeTelemetry).answer)) tt refl refl
each_call s (Stored count) =
    with_ledger_move s _
    (if_move s.ledger (all_stored s.ledger) (count == length s.ledger.unstored) (inr (inr (inl refl))))
each_call s (Renewed count) = with_ledger_move s (record s.ledger { stored = count }) (inr (inr (inr (count, refl))))
each_call s (Told tell) = told_move s tell
each_call s (Pauses hold) = same_move s _ (record { ledger = refl; node = refl })
each_call s Restarts = same_move s _ (record { ledger = refl; node = refl })
each_call s Rebuilds = rebuilt_move s (rebuild_of s.ledger)
