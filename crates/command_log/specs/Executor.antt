-- What the board executes next, case by case: the record that it has, and the executor's stage.
use Rattle.std.specs.Prelude.{ℕ, ◌+◌, min, Bool, true, false, not, ◌&&◌, ◌==◌, nat_lt, nat_le}
use Rattle.std.specs.Prelude.{if◌then◌else◌, List, Option, Some, None, Result, Ok, Err}
use Rattle.command_log.specs.declared.fault.LogFault.{LogFault}
use Rattle.command_log.specs.declared.fault.LogFault.TheVariants as faults
use Rattle.command_log.specs.declared.packets.Order.{Order}
use Rattle.command_log.specs.declared.packets.Order.TheVariants.{Rebuild}
use Rattle.command_log.specs.declared.packets.Order.TheVariants as orders
use Rattle.command_log.specs.declared.record.Record.{Record}
use Rattle.command_log.specs.declared.executor.Place.TheVariants.{First, Second}
use Rattle.command_log.specs.declared.executor.Action.{Action}
use Rattle.command_log.specs.declared.executor.Action.TheVariants.{Nothing, Write, Execute, Restart}
use Rattle.command_log.specs.declared.status.Status.{Status}
use Rattle.command_log.specs.declared.status.Status.TheVariants.{Says, Changes, Starts}
use Rattle.command_log.specs.declared.status.Status.TheVariants as status
use Rattle.command_log.specs.declared.executor.Stage.{Stage}
use Rattle.command_log.specs.declared.executor.Stage.TheVariants.{Lost, RepairsFirst, RepairsSecond}
use Rattle.command_log.specs.declared.executor.Stage.TheVariants.{WritesFirst}
use Rattle.command_log.specs.declared.executor.Stage.TheVariants.{WritesSecond, Executes, Rests}
use Rattle.command_log.specs.declared.executor.Stage.TheVariants.{Ordered}
use Rattle.command_log.specs.Packets.{is_command, is_sound, number_in, content_in, is_framed}
use Rattle.command_log.specs.Packets.{order_at}
use Rattle.command_log.specs.Record.{no_commands, begun, passed, after_start}

-- the record as it is stored or is being written, and the executor's stage
pub record ExecutorState : Type 0 where
  pub kept : Record
  pub stage : Stage

abbrev pub at_stage : Record → Stage → ExecutorState
at_stage kept stage = record { kept = kept; stage = stage }

-- The first good copy is written over the other one. If no copy is good, the mark identifies this
-- loss.
abbrev pub start : Option Record → Option Record → ℕ → ExecutorState
start (Some first) second mark = at_stage first RepairsSecond
start None (Some second) mark = at_stage second RepairsFirst
start None None mark = at_stage (no_commands 0 0) (Lost mark)

abbrev pub action_at : Record → Stage → Action
action_at kept RepairsFirst = Write First kept
action_at kept RepairsSecond = Write Second kept
action_at kept WritesFirst = Write First kept
action_at kept WritesSecond = Write Second kept
action_at kept Executes = Execute (min (kept.last + 1) 4294967295)
action_at kept Rests = Nothing
action_at kept (Lost mark) = Nothing
action_at kept Ordered = Restart

-- the next action
abbrev pub action_of : ExecutorState → Action
action_of s = action_at s.kept s.stage

-- if the record has a command as begun, the command is executed once both places contain this
-- record
abbrev pub after_writes : Record → Bool → ExecutorState
after_writes kept true = at_stage kept Executes
after_writes kept false = at_stage kept Rests

-- the state after the action is completed
abbrev pub after_action : Record → Stage → ExecutorState
after_action kept RepairsFirst = at_stage (after_start kept) WritesFirst
after_action kept RepairsSecond = at_stage (after_start kept) WritesFirst
after_action kept WritesFirst = at_stage kept WritesSecond
after_action kept WritesSecond = after_writes kept kept.begun
after_action kept Executes = at_stage (passed kept 1) WritesFirst
after_action kept Rests = at_stage kept Rests
after_action kept (Lost mark) = at_stage kept (Lost mark)
after_action kept Ordered = at_stage kept Ordered

abbrev pub is_at_rest : Stage → Bool
is_at_rest Rests = true
is_at_rest (Lost mark) = false
is_at_rest Ordered = false
is_at_rest RepairsFirst = false
is_at_rest RepairsSecond = false
is_at_rest WritesFirst = false
is_at_rest WritesSecond = false
is_at_rest Executes = false

abbrev pub has_lost : Stage → Bool
has_lost (Lost mark) = true
has_lost Ordered = false
has_lost Rests = false
has_lost RepairsFirst = false
has_lost RepairsSecond = false
has_lost WritesFirst = false
has_lost WritesSecond = false
has_lost Executes = false

-- whether the record was lost with this mark
abbrev pub has_mark : Stage → ℕ → Bool
has_mark (Lost of_loss) mark = mark == of_loss
has_mark Rests mark = false
has_mark RepairsFirst mark = false
has_mark RepairsSecond mark = false
has_mark WritesFirst mark = false
has_mark WritesSecond mark = false
has_mark Executes mark = false
has_mark Ordered mark = false

abbrev pub is_lost : ExecutorState → Bool
is_lost s = has_lost s.stage

-- whether the octets are the next command
abbrev pub is_taken : ExecutorState → List ℕ → Bool
is_taken s octets =
    is_command octets && (is_at_rest s.stage &&
    (nat_lt s.kept.last 4294967295 && (number_in octets == s.kept.last + 1)))

-- whether the order is obeyed; an order that is not obeyed changes nothing
abbrev pub is_obeyed : ExecutorState → Order → Bool
is_obeyed s (orders.Restart boot) = is_at_rest s.stage && (boot == s.kept.boot)
is_obeyed s (Rebuild mark boot last) = has_mark s.stage mark

abbrev pub after_order : ExecutorState → Order → ExecutorState
after_order s (orders.Restart boot) = at_stage s.kept Ordered
after_order s (Rebuild mark boot last) = at_stage (no_commands boot last) WritesFirst

abbrev pub obey_order : ExecutorState → Order → ExecutorState
obey_order s order = if is_obeyed s order then after_order s order else s

-- octets that do not form an order change nothing
abbrev pub obey_any : ExecutorState → Result Order LogFault → ExecutorState
obey_any s (Err e) = s
obey_any s (Ok order) = obey_order s order

pub data Call : Type 0 where
  Takes : (octets : List ℕ) → Call
  Obeys : (octets : List ℕ) → Call
  Done : Call

abbrev pub executor_step : ExecutorState → Call → ExecutorState
executor_step s (Takes octets) = if is_taken s octets then at_stage
    (begun s.kept octets) WritesFirst else s
executor_step s (Obeys octets) = obey_any s (order_at octets)
executor_step s Done = after_action s.kept s.stage

-- ---- what is refused, and why

-- the mission's octets if this is the next command, or why the command is dropped
abbrev pub by_number : (last number : ℕ) → List ℕ → Result (List ℕ) LogFault
by_number last number content =
    if nat_le number last then Err faults.Behind
    else if number == last + 1 then Ok content else Err faults.Ahead

-- why a board is not at rest
abbrev pub rest_at : Stage → Result Unit LogFault
rest_at Rests = Ok tt
rest_at (Lost mark) = Err faults.Lost
rest_at RepairsFirst = Err faults.Starting
rest_at RepairsSecond = Err faults.Starting
rest_at WritesFirst = Err faults.Busy
rest_at WritesSecond = Err faults.Busy
rest_at Executes = Err faults.Busy
rest_at Ordered = Err faults.Busy

abbrev pub if_ok : {A B : Type 0} → Result A LogFault → Result B LogFault → Result B LogFault
if_ok (Err e) next = Err e
if_ok (Ok x) next = next

abbrev pub offer_answer : ExecutorState → List ℕ → Result (List ℕ) LogFault
offer_answer s octets =
    if not (is_framed 14 octets) then Err faults.Layout
    else if not (is_sound octets) then Err faults.Check
    else if_ok (rest_at s.stage) (by_number s.kept.last (number_in octets) (content_in octets))

abbrev pub rebuilt_at : Stage → ℕ → Result Unit LogFault
rebuilt_at (Lost of_loss) mark = if mark == of_loss then Ok tt else Err faults.OtherMark
rebuilt_at Rests mark = Err faults.NotLost
rebuilt_at RepairsFirst mark = Err faults.NotLost
rebuilt_at RepairsSecond mark = Err faults.NotLost
rebuilt_at WritesFirst mark = Err faults.NotLost
rebuilt_at WritesSecond mark = Err faults.NotLost
rebuilt_at Executes mark = Err faults.NotLost
rebuilt_at Ordered mark = Err faults.NotLost

abbrev pub obeyed_at : ExecutorState → Order → Result Unit LogFault
obeyed_at s (orders.Restart boot) =
    if_ok (rest_at s.stage) (if boot == s.kept.boot then Ok tt else Err faults.OtherBoot)
obeyed_at s (Rebuild mark boot last) = rebuilt_at s.stage mark

abbrev pub order_read : ExecutorState → Result Order LogFault → Result Unit LogFault
order_read s (Err e) = Err e
order_read s (Ok order) = obeyed_at s order

abbrev pub order_answer : ExecutorState → List ℕ → Result Unit LogFault
order_answer s octets = order_read s (order_at octets)

abbrev pub status_at : Record → Stage → Status
status_at kept Rests = Says kept
status_at kept Executes = Says kept
status_at kept RepairsFirst = Starts
status_at kept RepairsSecond = Starts
status_at kept WritesFirst = Changes
status_at kept WritesSecond = Changes
status_at kept (Lost mark) = status.Lost mark
status_at kept Ordered = Says kept

-- what telemetry reports
abbrev pub status_of : ExecutorState → Status
status_of s = status_at s.kept s.stage
