-- The commands of a board over restarts as C keeps them.
use Rattle.std.specs.Prelude.{◌≡◌, ℕ, ◌+◌, ◌-◌, min, List, length, Option, Some, None}
use Rattle.std.specs.Prelude.{Result, Ok, Err, if◌then◌else◌, nat_lt, ◌==◌, ◌&&◌}
use Rattle.octets.specs.Outcome.{map_ok, count_written}
use Rattle.command_log.specs.declared.record.Record.{Record}
use Rattle.command_log.specs.declared.executor.Place.TheVariants.{First, Second}
use Rattle.command_log.specs.declared.executor.Action.{Action}
use Rattle.command_log.specs.declared.executor.Action.TheVariants.{Nothing, Write, Execute}
use Rattle.command_log.specs.declared.executor.Action.TheVariants as actions
use Rattle.command_log.specs.declared.executor.Stage.{Stage}
use Rattle.command_log.specs.declared.executor.Stage.TheVariants.{RepairsFirst, RepairsSecond}
use Rattle.command_log.specs.declared.executor.Stage.TheVariants.{WritesFirst, WritesSecond}
use Rattle.command_log.specs.declared.executor.Stage.TheVariants.{Executes, Rests, Ordered}
use Rattle.command_log.specs.declared.executor.Stage.TheVariants as stages
use Rattle.command_log.specs.declared.status.Status.{Status}
use Rattle.command_log.specs.declared.status.Status.TheVariants.{Says, Changes, Starts}
use Rattle.command_log.specs.declared.status.Status.TheVariants as states
use Rattle.command_log.specs.declared.packets.Order.{Order}
use Rattle.command_log.specs.declared.packets.Order.TheVariants.{Rebuild}
use Rattle.command_log.specs.declared.packets.Order.TheVariants as orders
use Rattle.command_log.specs.declared.fault.LogFault.TheVariants.{FieldRange, Room}
use Rattle.command_log.specs.Executor.{ExecutorState, at_stage, action_of, status_of, executor_step}
use Rattle.command_log.specs.Executor.{Takes, Obeys, Done, offer_answer, order_answer}
use Rattle.command_log.specs.Faults.{fault_row}
use Rattle.command_log.specs.Layout.{place_octets}
use Rattle.command_log.specs.Packets.{CommandView, command_answer, order_fits}
use Rattle.command_log.specs.Record.{no_commands}
use Rattle.command_log.specs.Status.{status_octets, status_spelled}
use Rattle.sedgechisel.specs.declared.executor.KeptLog.{KeptLog}
use Rattle.sedgechisel.specs.declared.executor.LogRecord.{LogRecord}
use Rattle.sedgechisel.specs.declared.executor.codecs.LogOrder.{LogOrder}
use Rattle.sedgechisel.specs.declared.executor.codecs.LogStatus.{LogStatus}
use Rattle.sedgechisel.specs.declared.part.Part.{Part}
use Rattle.sedgechisel.specs.Answers.{damaged, wrong_count, absent, numbered, and_then, if_ok}
use Rattle.sedgechisel.specs.Answers.{IsWritten}
use Rattle.sedgechisel.specs.Receivers.{flag_number}

-- ---- what the structs describe

abbrev pub log_record_of : Record → LogRecord
log_record_of r =
    record {
      known = r.known;
      boot = r.boot;
      last = r.last;
      history = r.history;
      begun = flag_number r.begun;
    }

abbrev pub record_described : LogRecord → Record
record_described r =
    record {
      boot = r.boot;
      last = r.last;
      begun = r.begun == 1;
      known = r.known;
      history = r.history;
    }

abbrev pub stage_number : Stage → ℕ
stage_number (stages.Lost mark) = 1
stage_number RepairsFirst = 2
stage_number RepairsSecond = 3
stage_number WritesFirst = 4
stage_number WritesSecond = 5
stage_number Executes = 6
stage_number Rests = 7
stage_number Ordered = 8

-- the mark of a loss, and 0 if the record is not lost
abbrev pub stage_mark : Stage → ℕ
stage_mark (stages.Lost mark) = mark
stage_mark RepairsFirst = 0
stage_mark RepairsSecond = 0
stage_mark WritesFirst = 0
stage_mark WritesSecond = 0
stage_mark Executes = 0
stage_mark Rests = 0
stage_mark Ordered = 0

-- the stage of this number
abbrev pub stage_at : (number mark : ℕ) → Option Stage
stage_at number mark =
    if number == 1 then Some (stages.Lost mark)
    else if number == 2 then Some RepairsFirst
    else if number == 3 then Some RepairsSecond
    else if number == 4 then Some WritesFirst
    else if number == 5 then Some WritesSecond
    else if number == 6 then Some Executes
    else if number == 7 then Some Rests
    else if number == 8 then Some Ordered
    else None

-- the fields that describe an executor
abbrev pub log_of : ExecutorState → KeptLog
log_of s =
    record { kept = log_record_of s.kept; mark = stage_mark s.stage; stage = stage_number s.stage }

abbrev pub with_stage : Record → Option Stage → Result ExecutorState ℕ
with_stage kept None = Err damaged
with_stage kept (Some stage) = Ok (at_stage kept stage)

-- the executor that the fields describe
abbrev pub log_described : KeptLog → Result ExecutorState ℕ
log_described l =
    if nat_lt l.kept.begun 2 then with_stage (record_described l.kept) (stage_at l.stage l.mark)
    else Err damaged

-- the fields describe this executor, if there is one
abbrev pub AreLogged : KeptLog → ExecutorState → Type 0
AreLogged l s = log_described l ≡ Ok s

abbrev pub AreLoggedIf : KeptLog → Result ExecutorState ℕ → Type 0
AreLoggedIf l (Ok s) = AreLogged l s
AreLoggedIf l (Err number) = Unit {0}

-- the return value of a call, and what it leaves in the struct, if this is the executor afterwards
pub record IsLogged (after : Result ExecutorState ℕ) (old new : KeptLog) (number : ℕ)
    : Type 0 where
  pub written : IsWritten log_of after old new number
  pub describes : AreLoggedIf new after

-- ---- the calls on board

abbrev pub action_number : Action → ℕ
action_number Nothing = 0
action_number (Write First kept) = 1
action_number (Write Second kept) = 2
action_number (Execute number) = 3
action_number actions.Restart = 4

abbrev pub number_of_action : Action → ℕ
number_of_action Nothing = 0
number_of_action (Write place kept) = 0
number_of_action (Execute number) = number
number_of_action actions.Restart = 0

-- the next action, with a buffer of this size for the octets of a place
abbrev pub log_action : KeptLog → ℕ → Result Action ℕ
log_action l room =
    if room == 50 then map_ok action_of (log_described l) else Err wrong_count

-- the octets of a write; any other action leaves what there was
abbrev pub octets_after : Result Action ℕ → List ℕ → List ℕ
octets_after (Ok (Write place kept)) old = place_octets kept
octets_after (Ok Nothing) old = old
octets_after (Ok (Execute number)) old = old
octets_after (Ok actions.Restart) old = old
octets_after (Err number) old = old

-- the action of this kind and number is done, if it is the next action
abbrev pub done_if : ExecutorState → (kind number : ℕ) → Result ExecutorState ℕ
done_if s kind number =
    if (kind == action_number (action_of s)) && (number == number_of_action (action_of s))
    then Ok (executor_step s Done)
    else Err absent

abbrev pub log_done : KeptLog → (kind number : ℕ) → Result ExecutorState ℕ
log_done l kind number = and_then (log_described l) (λ s. done_if s kind number)

-- where the mission's octets are in a command packet: after the number and before the check
abbrev pub content_part : List ℕ → Part
content_part octets = record { from = 10; count = length octets - 14 }

abbrev pub log_offered : KeptLog → List ℕ → Result ExecutorState ℕ
log_offered l octets =
    and_then (log_described l) (λ s. if_ok (numbered fault_row (offer_answer s octets))
    (executor_step s (Takes octets)))

abbrev pub log_obeyed : KeptLog → List ℕ → Result ExecutorState ℕ
log_obeyed l octets =
    and_then (log_described l) (λ s. if_ok (numbered fault_row (order_answer s octets))
    (executor_step s (Obeys octets)))

-- the status with this many commands waiting, in a buffer of this size
abbrev pub log_told : KeptLog → (waiting room : ℕ) → Result (List ℕ) ℕ
log_told l waiting room =
    if room == 27
    then map_ok (λ s. status_octets (status_of s) (min waiting 255)) (log_described l)
    else Err wrong_count

abbrev pub new_record : ℕ → Result (List ℕ) ℕ
new_record room = if room == 50 then Ok (place_octets (no_commands 0 0)) else Err wrong_count

-- ---- the calls on the ground

abbrev pub status_with : Record → (mark kind waiting : ℕ) → LogStatus
status_with kept mark kind waiting =
    record { kept = log_record_of kept; mark = mark; kind = kind; waiting = waiting }

-- the fields of a status and of the number of commands that wait
abbrev pub status_fields : Status × ℕ → LogStatus
status_fields (Says kept, waiting) = status_with kept 0 0 waiting
status_fields (Changes, waiting) = status_with (no_commands 0 0) 0 1 waiting
status_fields (Starts, waiting) = status_with (no_commands 0 0) 0 2 waiting
status_fields (states.Lost mark, waiting) = status_with (no_commands 0 0) mark 3 waiting

abbrev pub status_read : List ℕ → Result (Status × ℕ) ℕ
status_read octets = numbered fault_row (status_spelled octets)

abbrev pub command_with : (apid count number : ℕ) → List ℕ → CommandView
command_with apid count number content =
    record { apid = apid; count = count; number = number; content = content }

abbrev pub command_total : CommandView → ℕ
command_total c = length c.content + 14

-- the command packet that is written to a buffer of this size
abbrev pub command_taken : CommandView → ℕ → Result CommandView ℕ
command_taken c room = if_ok (numbered fault_row (command_answer c room)) c

-- the order that the fields describe; that of a restart has zeros
abbrev pub order_described : LogOrder → Result Order ℕ
order_described o =
    if o.kind == 2 then Ok (Rebuild o.mark o.boot o.last)
    else if (o.kind == 1) && ((o.last == 0) && (o.mark == 0)) then Ok (orders.Restart o.boot)
    else Err damaged

-- the order that is written to a buffer of this size
abbrev pub order_taken : LogOrder → (apid count room : ℕ) → Result Order ℕ
order_taken o apid count room =
    and_then (order_described o) (λ order. if_ok
    (numbered fault_row (count_written (order_fits apid count) 23 room FieldRange Room)) order)
