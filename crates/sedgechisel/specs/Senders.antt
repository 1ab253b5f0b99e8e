-- The sender as C keeps it.
use Rattle.std.specs.Prelude.{◌≡◌, ℕ, Bool, true, false, not, [], ◌∷◌, ◌&&◌, ◌==◌, nat_le}
use Rattle.std.specs.Prelude.{if◌then◌else◌, Option, Some, None, is_some, Result, Ok, Err}
use Rattle.clcw.specs.declared.word.Clcw.{Clcw}
use Rattle.tc_frame.specs.declared.frame.Command.{Command}
use Rattle.tc_frame.specs.declared.frame.Command.TheVariants.{Unlock, SetVr}
use Rattle.cop1.specs.declared.fault.CopFault.{CopFault}
use Rattle.cop1.specs.declared.vocabulary.Alert.{Alert}
use Rattle.cop1.specs.declared.vocabulary.Control.{Control}
use Rattle.cop1.specs.declared.vocabulary.Control.TheVariants.{Idle, Due, Sent}
use Rattle.cop1.specs.declared.vocabulary.Directive.{Directive}
use Rattle.cop1.specs.declared.vocabulary.FopMode.{FopMode}
use Rattle.cop1.specs.declared.vocabulary.FopMode.TheVariants.{S1, S2, S3, S4, S5, S6}
use Rattle.cop1.specs.declared.sender.pull.SenderNext.{SenderNext}
use Rattle.cop1.specs.declared.sender.pull.SenderNext.TheVariants as next
use Rattle.cop1.specs.Accepted.{accepted_beyond}
use Rattle.cop1.specs.Faults.{fault_row}
use Rattle.cop1.specs.FopNew.{new_fault}
use Rattle.cop1.specs.Modulo.{ahead_by}
use Rattle.cop1.specs.Names.{alert_row}
use Rattle.cop1.specs.Numbers.{SenderNumbers, SenderOutcome, new_sender}
use Rattle.cop1.specs.NumbersStep.{SenderInput, SenderAnswer, Submit, Report, Direct, sender_step}
use Rattle.octets.specs.Outcome.{map_ok}
use Rattle.sedgechisel.specs.declared.sender.KeptSender.{KeptSender}
use Rattle.sedgechisel.specs.Answers.{damaged, absent, and_then, if_there, IsWritten}
use Rattle.c_words.specs.Words.{found_by}
use Rattle.sedgechisel.specs.Receivers.{flag_number}

-- ---- from a sender to fields

abbrev pub mode_number : FopMode → ℕ
mode_number mode = elim mode [ S1 ↦ 1 | S2 ↦ 2 | S3 ↦ 3 | S4 ↦ 4 | S5 ↦ 5 | S6 ↦ 6 ]

-- the ticks that are left, and 0 if the timer is off
abbrev pub ticks_number : Option ℕ → ℕ
ticks_number None = 0
ticks_number (Some left) = left

abbrev pub control_number : Control → ℕ
control_number Idle = 0
control_number (Due Unlock) = 1
control_number (Sent Unlock) = 2
control_number (Due (SetVr vr)) = 3
control_number (Sent (SetVr vr)) = 4

abbrev pub control_vr : Control → ℕ
control_vr Idle = 0
control_vr (Due Unlock) = 0
control_vr (Sent Unlock) = 0
control_vr (Due (SetVr vr)) = vr
control_vr (Sent (SetVr vr)) = vr

-- the fields that describe a sender
abbrev pub kept_of : SenderNumbers → KeptSender
kept_of s = record {
  timer = s.timer;
  ticks = ticks_number s.ticks;
  room = s.room;
  state = mode_number s.state;
  vs = s.vs;
  nn = s.nn;
  waiting = flag_number s.waiting;
  sent = s.sent.count;
  due = s.sent.due;
  window = s.window;
  limit = s.limit;
  count = s.count;
  control = control_number s.control;
  vr = control_vr s.control;
}

-- ---- from fields to a sender

abbrev pub mode_at : ℕ → Option FopMode
mode_at n = found_by mode_number (S1 ∷ S2 ∷ S3 ∷ S4 ∷ S5 ∷ S6 ∷ []) n

abbrev pub ticks_at : ℕ → Option ℕ
ticks_at n = if n == 0 then None else Some n

-- a command without a number has the number 0
abbrev pub control_at : ℕ → ℕ → Option Control
control_at n vr =
    if n == 3 then Some (Due (SetVr vr))
    else if n == 4 then Some (Sent (SetVr vr))
    else if not (vr == 0) then None
    else if n == 0 then Some Idle
    else if n == 1 then Some (Due Unlock)
    else if n == 2 then Some (Sent Unlock)
    else None

abbrev pub flag_at : ℕ → Option Bool
flag_at n = if n == 0 then Some false else if n == 1 then Some true else None

abbrev pub fields_with : KeptSender → Option FopMode → Option Bool → Option Control
    → Result SenderNumbers ℕ
fields_with k (Some state) (Some waiting) (Some control) = Ok (record {
  room = k.room;
  state = state;
  vs = k.vs;
  nn = k.nn;
  waiting = waiting;
  sent = record { count = k.sent; due = k.due };
  bypass = tt;
  window = k.window;
  limit = k.limit;
  timer = k.timer;
  ticks = ticks_at k.ticks;
  count = k.count;
  control = control;
})
fields_with k (Some state) (Some waiting) None = Err damaged
fields_with k (Some state) None control = Err damaged
fields_with k None waiting control = Err damaged

-- the numbers that the fields describe
abbrev pub fields_described : KeptSender → Result SenderNumbers ℕ
fields_described k = fields_with k (mode_at k.state) (flag_at k.waiting) (control_at k.control k.vr)

-- the numbers are in a sender's ranges
abbrev pub has_ranges : SenderNumbers → Bool
has_ranges s =
    nat_le (ahead_by s.vs s.nn) s.room
    && nat_le s.sent.count s.room && nat_le s.room 127 && nat_le 1 s.window
    && nat_le s.window s.room && nat_le s.sent.due s.sent.count && nat_le 1 s.limit
    && nat_le 1 s.timer && nat_le 1 s.count

abbrev pub is_idle : Control → Bool
is_idle Idle = true
is_idle (Due command) = false
is_idle (Sent command) = false

-- in S1 to S5 the units that are sent have the numbers from NN(R) to V(S) - 1
abbrev pub is_numbered : SenderNumbers → Bool
is_numbered s = ahead_by s.vs s.nn == s.sent.count

-- a Set V(R) command has the value of V(S)
abbrev pub sets_to : ℕ → Command → Bool
sets_to vs Unlock = true
sets_to vs (SetVr vr) = vr == vs

-- a control command is due, or it was sent and the timer runs
abbrev pub is_commanding : ℕ → Bool → Control → Bool
is_commanding vs runs Idle = false
is_commanding vs runs (Due command) = sets_to vs command
is_commanding vs runs (Sent command) = runs && sets_to vs command

-- the timer runs while units are sent
abbrev pub is_timed : SenderNumbers → Bool
is_timed s = if is_some s.ticks then nat_le 1 s.sent.count else s.sent.count == 0

-- only S1 to S3 have sent units, and S2 and S3 have at least one; the timer runs while there are
-- sent units, and in S4; only S5 has a control command; S6 has none of these
abbrev pub agrees_in : SenderNumbers → FopMode → Bool
agrees_in s S1 = is_numbered s && is_idle s.control && is_timed s
agrees_in s S4 = is_numbered s && is_idle s.control && is_some s.ticks && (s.sent.count == 0)
agrees_in s S5 =
    is_numbered s && (s.sent.count == 0) && is_commanding s.vs (is_some s.ticks) s.control
agrees_in s S6 = (s.sent.count == 0) && not s.waiting && not (is_some s.ticks) && is_idle s.control
agrees_in s _ = is_numbered s && is_idle s.control && is_some s.ticks && nat_le 1 s.sent.count

-- these are numbers of a sender
abbrev pub is_sender : SenderNumbers → Bool
is_sender s = has_ranges s && agrees_in s s.state

-- the sender that the fields describe
abbrev pub sender_described : KeptSender → Result SenderNumbers ℕ
sender_described k = and_then (fields_described k) (λ s. if is_sender s then Ok s else Err damaged)

-- the fields describe this sender, if there is one
abbrev pub AreDescribed : KeptSender → Result SenderNumbers ℕ → Type 0
AreDescribed k (Ok s) = sender_described k ≡ Ok s
AreDescribed k (Err number) = Unit {0}

-- the return value of a call, and what it leaves in the struct, if this is the sender afterwards
pub record IsAnswered (after : Result SenderNumbers ℕ) (old new : KeptSender) (number : ℕ)
    : Type 0 where
  pub written : IsWritten kept_of after old new number
  pub describes : AreDescribed new after

-- ---- the calls

abbrev pub unless_refused : Option CopFault → SenderNumbers → Result SenderNumbers ℕ
unless_refused None s = Ok s
unless_refused (Some fault) s = Err (fault_row fault).0

-- a new sender
abbrev pub sender_opened : ℕ → ℕ → ℕ → ℕ → Result SenderNumbers ℕ
sender_opened width window limit timer =
    unless_refused (new_fault width window limit timer) (new_sender width window limit timer)

-- what an input leads to at the sender that the fields describe
abbrev pub stepped : (k : KeptSender) (input : SenderInput)
    → Result (SenderOutcome (SenderAnswer input)) ℕ
stepped k input = map_ok (λ s. sender_step s input) (sender_described k)

-- the sender after an input
abbrev pub after_step : KeptSender → SenderInput → Result SenderNumbers ℕ
after_step k input = map_ok (λ o. o.after) (stepped k input)

-- the sender after a call that may be refused
abbrev pub unless_fault : {A : Type 0} → SenderNumbers → Result A CopFault → Result SenderNumbers ℕ
unless_fault s (Ok answer) = Ok s
unless_fault s (Err fault) = Err (fault_row fault).0

abbrev pub submitted : KeptSender → Result SenderNumbers ℕ
submitted k = and_then (stepped k Submit) (λ o. unless_fault o.after o.answer)

-- the sender after a directive, if there is one
abbrev pub directed : KeptSender → Option Directive → Result SenderNumbers ℕ
directed k None = Err damaged
directed k (Some directive) =
    and_then (stepped k (Direct directive)) (λ o. unless_fault o.after o.answer)

-- what a CLCW leads to at the sender of a virtual channel; a CLCW of another channel leads to the
-- answer `absent`
abbrev pub reported : KeptSender → ℕ → Clcw → Result (SenderOutcome (Option Alert)) ℕ
reported k vcid word = if word.vcid == vcid then stepped k (Report word) else Err absent

abbrev pub after_report : KeptSender → ℕ → Clcw → Result SenderNumbers ℕ
after_report k vcid word = map_ok (λ o. o.after) (reported k vcid word)

-- how many units were accepted according to a CLCW's value, if the value shows it
abbrev pub accepted_by : KeptSender → ℕ → Result ℕ ℕ
accepted_by k value =
    and_then (sender_described k) (λ s. if_there (accepted_beyond s.nn s.vs value))

-- an alert's number, and 0 for none
abbrev pub alert_answer : Option Alert → ℕ
alert_answer None = 0
alert_answer (Some alert) = (alert_row alert).0

abbrev pub next_answer : SenderNext → ℕ
next_answer next.Nothing = 0
next_answer (next.Control Unlock) = 1
next_answer (next.Control (SetVr vr)) = 2
next_answer (next.First n) = 3
next_answer (next.Again n) = 4

-- the number that goes with what is sent, and 0 for none
abbrev pub next_number : SenderNext → ℕ
next_number next.Nothing = 0
next_number (next.Control Unlock) = 0
next_number (next.Control (SetVr vr)) = vr
next_number (next.First n) = n
next_number (next.Again n) = n
