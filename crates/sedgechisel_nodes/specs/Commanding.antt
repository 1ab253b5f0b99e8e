-- The commander of a program in C: what a call returns, and what the program holds afterwards.
use Rattle.std.specs.Prelude.{◌≡◌, ◌≢◌, ℕ, ◌⊎◌, ◌≤◌, ◌<◌, ◌++◌, List, take, drop, length, ◌==◌}
use Rattle.std.specs.Prelude.{Bool, true, false, if◌then◌else◌}
use Rattle.std.specs.Prelude.{Option, Some, None, option_map, IfSome, Result, Ok, Err}
use Rattle.cop1.specs.declared.vocabulary.Alert.{Alert}
use Rattle.cop1.specs.Names.{alert_row}
use Rattle.command_log.specs.declared.fault.LogFault.{LogFault}
use Rattle.command_log.specs.declared.status.Status.{Status}
use Rattle.command_ledger.specs.declared.fault.LedgerFault.{LedgerFault}
use Rattle.command_ledger.specs.declared.state.Tell.{Tell}
use Rattle.command_ledger.specs.declared.state.Tell.TheVariants.{Executed, Unknown, Restarted}
use Rattle.command_ledger.specs.declared.state.Tell.TheVariants.{RecordLost, Foreign}
use Rattle.command_ledger.specs.Faults.{fault_row}
use Rattle.command_ledger.specs.State.{Entry, new_state, highest}
use Rattle.command_ledger.specs.Store.{Reading, reading, read_on}
use Rattle.command_ledger.specs.Ledger.{LedgerState, NextView, Says, next_of, status_fault, given}
use Rattle.command_ledger.specs.Ledger.{is_at_rest, is_worth, fresh_octets}
use Rattle.nodes.specs.declared.config.Config.{Config}
use Rattle.nodes.specs.Parameters.{IsConfig}
use Rattle.nodes.specs.Frames.{written_over}
use Rattle.nodes.specs.Ground.{ground_step, TakeTelemetry}
use Rattle.commander.specs.declared.mission.Mission.{Mission}
use Rattle.commander.specs.declared.commander.Commander.{Commander}
use Rattle.commander.specs.declared.fate.Fate.{Fate}
use Rattle.commander.specs.declared.fate.Fate.TheVariants.{Waits, Sent, OnBoard}
use Rattle.commander.specs.declared.next.Next.{Next}
use Rattle.commander.specs.declared.next.Next.TheVariants as nexts
use Rattle.commander.specs.Commander.{told, first_heard, packet_taken}
use Rattle.commander.specs.Next.{owed, next_answer, next_frame, after_next, unstored}
use Rattle.commander.specs.Opened.{opened, mission_fault, stored}
use Rattle.sedgechisel_nodes.specs.declared.commanding.MissionSettings.{MissionSettings}
use Rattle.sedgechisel_nodes.specs.declared.commanding.actions.CommanderAction.{CommanderAction}
use Rattle.sedgechisel_nodes.specs.declared.commanding.readings.CommanderReading.{CommanderReading}
use Rattle.sedgechisel_nodes.specs.Calls.{closed, room_answer, count_of, IsHandedOut}
use Rattle.sedgechisel_nodes.specs.GroundKept.{flag_number}
use Rattle.sedgechisel_nodes.specs.Heard.{alert_number}

-- ---- what calls return

-- the number of the refusal; without one 0, or 9 if memory ran out
abbrev pub IsLedgerAnswer : Option LedgerFault → ℕ → Type 0
IsLedgerAnswer None answer = (answer ≡ 0) ⊎ (answer ≡ 9)
IsLedgerAnswer (Some fault) answer = answer ≡ (fault_row fault).0

-- what a call returns that may be refused, and the commander before and after it
pub record IsCommanded (fault : Commander → Option LedgerFault) (after : Commander → Commander)
    (old new : Option Commander) (answer : ℕ) : Type 0 where
  pub none : old ≡ None → answer ≡ closed
  pub answer_is : IfSome old (λ s. IsLedgerAnswer (fault s) answer)
  pub after_is : answer ≡ 0 → new ≡ option_map after old
  pub unchanged : answer ≢ 0 → new ≡ old

-- what a call returns that is never refused, and the commander before and after it
pub record IsDone (after : Commander → Commander) (old new : Option Commander) (answer : ℕ)
    : Type 0 where
  pub none : old ≡ None → answer ≡ closed
  pub answer_is : IfSome old (λ s. answer ≡ 0)
  pub after_is : new ≡ option_map after old

-- ---- opening

abbrev pub mission_of : MissionSettings → Mission
mission_of m =
    record {
      round_trip = m.round_trip;
      map = m.map;
      orders = m.orders;
      status = m.status;
      holds = m.holds == 1;
    }

abbrev pub store_read : List ℕ → Reading
store_read octets = read_on (length octets) (reading new_state 0) octets

abbrev pub AreSettings : Config → MissionSettings → Type 0
AreSettings c m = IsConfig c × (m.holds ≤ 1)

-- what opening returns, what the handle holds before and after it, and how many octets of the store
-- are good
pub record IsCommanderOpened (c : Config) (m : MissionSettings) (store : List ℕ)
    (old new : Option Commander) (answer good good' : ℕ) : Type 0 where
  pub unsound : (AreSettings c m → ⊥) → answer ≡ 254
  pub sound : AreSettings c m → IsLedgerAnswer (mission_fault c (mission_of m)) answer
  pub opened : answer ≡ 0
      → (new ≡ Some (opened c (mission_of m) (store_read store)))
      × (good' ≡ (store_read store).good)
  pub unchanged : answer ≢ 0 → (new ≡ old) × (good' ≡ good)

-- ---- the next action

abbrev pub action_with : (kind tag number last count alert : ℕ) → CommanderAction
action_with kind tag number last count alert =
    record {
      tag = tag;
      number = number;
      last = last;
      count = count;
      kind = kind;
      alert = alert;
    }

abbrev pub tell_kept : Tell → CommanderAction
tell_kept (Executed tag) = action_with 2 tag 0 0 0 0
tell_kept (Unknown tag) = action_with 3 tag 0 0 0 0
tell_kept (Restarted boot) = action_with 4 0 boot 0 0 0
tell_kept (RecordLost mark) = action_with 5 0 mark 0 0 0
tell_kept (Foreign first last) = action_with 6 0 first last 0 0

-- an action as C has it, with the number of octets that must be stored
abbrev pub action_kept : (unstored : ℕ) → Next → CommanderAction
action_kept count nexts.Nothing = action_with 0 0 0 0 0 0
action_kept count nexts.Store = action_with 1 0 0 0 count 0
action_kept count (nexts.Tell tell) = tell_kept tell
action_kept count (nexts.Alert alert) = action_with 7 0 0 0 0 (alert_number (Some alert))
action_kept count nexts.Telemetry = action_with 8 0 0 0 0 0
action_kept count (nexts.Send long) = action_with 9 0 0 0 long 0

-- the report that an action describes, if it describes one
abbrev pub tell_of : CommanderAction → Option Tell
tell_of a =
    if a.kind == 2 then Some (Executed a.tag)
    else if a.kind == 3 then Some (Unknown a.tag)
    else if a.kind == 4 then Some (Restarted a.number)
    else if a.kind == 5 then Some (RecordLost a.number)
    else if a.kind == 6 then Some (Foreign a.number a.last)
    else None

-- what a call returns that needs so many octets of a buffer: 252 if the buffer is too short,
-- otherwise 0, or 9 if memory ran out
pub record IsRoomAnswer (need room answer : ℕ) : Type 0 where
  pub short : room < need → answer ≡ 252
  pub long : need ≤ room → (answer ≡ 0) ⊎ (answer ≡ 9)

abbrev pub acted : Commander → Commander
acted s = after_next s (owed s)

abbrev pub action_of : Commander → CommanderAction
action_of s = action_kept (length (unstored s)) (next_answer s (owed s))

-- the buffer with the frame that is sent, if any, over its beginning
abbrev pub frame_over : Commander → List ℕ → List ℕ
frame_over s out = written_over (take 1024 out) (next_frame s (owed s)) ++ drop 1024 out

-- what the call for the next action returns and writes
pub record IsNextAction (old new : Option Commander) (answer : ℕ)
    (action action' : CommanderAction) (out out' : List ℕ) : Type 0 where
  pub none : old ≡ None → answer ≡ closed
  pub answer_is : IfSome old (λ s. IsRoomAnswer 1024 (length out) answer)
  pub after_is : answer ≡ 0 → new ≡ option_map acted old
  pub action_is : answer ≡ 0 → IfSome old (λ s. action' ≡ action_of s)
  pub frame : answer ≡ 0 → IfSome old (λ s. out' ≡ frame_over s out)
  pub unchanged : answer ≢ 0 → (new ≡ old) × (action' ≡ action) × (out' ≡ out)

-- what the call that notes stored octets returns: 253 if they are not all that are due
abbrev pub stored_answer : Commander → (count : ℕ) → ℕ
stored_answer s count = if length (unstored s) == count then 0 else 253

pub record IsStored (count : ℕ) (old new : Option Commander) (answer : ℕ) : Type 0 where
  pub none : old ≡ None → answer ≡ closed
  pub answer_is : IfSome old (λ s. answer ≡ stored_answer s count)
  pub after_is : new ≡ option_map (λ s. stored s count) old

-- a report is the next action
abbrev pub IsDue : Commander → Option Tell → Type 0
IsDue s None = ⊥
IsDue s (Some tell) = next_of s.ledger ≡ Says tell

abbrev pub told_if : Option Tell → Commander → Commander
told_if None s = s
told_if (Some tell) s = told s tell

-- what the call that notes a report returns: 253 if it is not the next action, otherwise 0, or 9 if
-- memory ran out
pub record IsReportAnswer (s : Commander) (tell : Option Tell) (answer : ℕ) : Type 0 where
  pub due : IsDue s tell → (answer ≡ 0) ⊎ (answer ≡ 9)
  pub other : (IsDue s tell → ⊥) → answer ≡ 253

pub record IsReported (tell : Option Tell) (old new : Option Commander) (answer : ℕ)
    : Type 0 where
  pub none : old ≡ None → answer ≡ closed
  pub answer_is : IfSome old (λ s. IsReportAnswer s tell answer)
  pub after_is : answer ≡ 0 → new ≡ option_map (told_if tell) old
  pub unchanged : answer ≢ 0 → new ≡ old

-- ---- commands

abbrev pub commanded : Commander → (tag on_map apid count : ℕ) → List ℕ → Commander
commanded s tag on_map apid count content =
    record s { ledger = given s.ledger tag on_map apid count content }

abbrev pub fault_in : Result (Option Entry) LedgerFault → Option LedgerFault
fault_in (Ok e) = None
fault_in (Err fault) = Some fault

abbrev pub fate_number : Fate → ℕ
fate_number Waits = 0
fate_number Sent = 1
fate_number OnBoard = 2

-- ---- what arrives

abbrev pub status_refusal : Result (Status × ℕ) LogFault → Option LedgerFault
status_refusal (Ok status) = None
status_refusal (Err fault) = Some (status_fault fault)

-- the packet of telemetry that is taken next, if any
abbrev pub packet_next : Commander → Option (List ℕ)
packet_next s = (ground_step s.ground_node TakeTelemetry).answer

abbrev pub telemetry_taken : Commander → Commander
telemetry_taken s = packet_taken (first_heard s)

-- what taking a packet of telemetry returns and writes
pub record IsTelemetryTaken (old new : Option Commander) (answer count count' : ℕ)
    (out out' : List ℕ) : Type 0 where
  pub none : old ≡ None → answer ≡ closed
  pub answer_is : IfSome old (λ s. IsRoomAnswer (count_of (packet_next s)) (length out) answer)
  pub after_is : answer ≡ 0 → new ≡ option_map telemetry_taken old
  pub packet : answer ≡ 0 → IfSome old (λ s. IsHandedOut (packet_next s) count' out out')
  pub unchanged : answer ≢ 0 → (new ≡ old) × (count' ≡ count) × (out' ≡ out)

-- ---- readings, and a fresh store

abbrev pub commander_reading : Commander → CommanderReading
commander_reading s =
    record {
      below = s.ledger.state.standing.below;
      highest = highest s.ledger.state;
      worth = flag_number (is_worth s.ledger);
    }

-- what the call for a fresh store returns: 8 if something must be stored or reported first, 9 if
-- memory ran out, 252 if the buffer is too short, otherwise 0
abbrev pub IsFreshAnswer : (rests : Bool) → (need room : ℕ) → ℕ → Type 0
IsFreshAnswer true need room answer = (answer ≡ room_answer (Some need) room) ⊎ (answer ≡ 9)
IsFreshAnswer false need room answer = answer ≡ 8

abbrev pub fresh_of : Commander → List ℕ
fresh_of s = fresh_octets s.ledger.state

-- what the call for a fresh store returns and writes
pub record IsFresh (old : Option Commander) (answer count count' : ℕ) (out out' : List ℕ)
    : Type 0 where
  pub none : old ≡ None → answer ≡ closed
  pub answer_is : IfSome old
      (λ s. IsFreshAnswer (is_at_rest s.ledger) (length (fresh_of s)) (length out) answer)
  pub octets : answer ≡ 0 → IfSome old (λ s. IsHandedOut (Some (fresh_of s)) count' out out')
  pub unwritten : answer ≢ 0 → (count' ≡ count) × (out' ≡ out)
