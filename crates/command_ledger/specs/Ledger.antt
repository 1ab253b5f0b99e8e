-- A ledger, and the effect of each call on it.
use Rattle.std.specs.Prelude.{ℕ, ◌+◌, ◌-◌, ◌/◌, ◌^◌, min, max, List, [], ◌∷◌, ◌++◌, length}
use Rattle.std.specs.Prelude.{Bool, true, false, not, ◌&&◌, ◌||◌, ◌==◌, nat_lt, nat_le}
use Rattle.std.specs.Prelude.{if◌then◌else◌}
use Rattle.std.specs.Prelude.{Option, Some, None, Result, Ok, Err, is_none, slice_get}
use Rattle.command_log.specs.Packets.{CommandView, command_octets}
use Rattle.command_log.specs.declared.fault.LogFault.{LogFault}
use Rattle.command_log.specs.declared.fault.LogFault.TheVariants as log_faults
use Rattle.command_log.specs.declared.status.Status.{Status}
use Rattle.command_log.specs.declared.status.Status.TheVariants as statuses
use Rattle.command_log.specs.declared.packets.Order.{Order}
use Rattle.command_log.specs.declared.packets.Order.TheVariants as orders
use Rattle.command_ledger.specs.declared.fault.LedgerFault.{LedgerFault}
use Rattle.command_ledger.specs.declared.fault.LedgerFault.TheVariants as faults
use Rattle.command_ledger.specs.declared.known.Standing.{Standing}
use Rattle.command_ledger.specs.declared.known.Rebuild.{Rebuild}
use Rattle.command_ledger.specs.declared.state.Tell.{Tell}
use Rattle.command_ledger.specs.declared.ledger.Next.{Next}
use Rattle.command_ledger.specs.declared.ledger.Next.TheVariants as nexts
use Rattle.command_ledger.specs.Waiting.{Waiting}
use Rattle.command_ledger.specs.Known.{reach, is_news, has_told}
use Rattle.command_ledger.specs.State.{State, Entry, Gives, Hears, Loses, Rebuilds, Tells, Stands}
use Rattle.command_ledger.specs.State.{highest, after_entry}
use Rattle.command_ledger.specs.Entries.{spelling}
use Rattle.command_ledger.specs.Store.{Reading}

pub record LedgerState : Type 0 where
  pub max_packet : ℕ
  pub state : State
  -- the octets that must be appended to the store
  pub unstored : List ℕ
  -- whether they must be there before anything is reported
  pub due : Bool
  -- the highest number whose command is in the store
  pub safe : ℕ
  -- the length of the store
  pub stored : ℕ

abbrev pub opened : (max_packet : ℕ) → Reading → LedgerState
opened max_packet r =
    record {
      max_packet = max_packet;
      state = r.state;
      unstored = [];
      due = false;
      safe = highest r.state;
      stored = r.good;
    }

-- whether the entry must be in the store before anything is reported
abbrev pub is_due : Entry → Bool
is_due (Gives tag on_map packet) = true
is_due (Hears kept) = true
is_due (Loses mark) = true
is_due (Rebuilds order) = true
is_due Tells = false
is_due (Stands standing) = true

abbrev pub appended : LedgerState → Entry → LedgerState
appended l e =
    record l {
      state = after_entry l.state e;
      unstored = l.unstored ++ spelling e;
      due = l.due || is_due e;
    }

-- ---- a command

abbrev pub next_command : LedgerState → (apid count : ℕ) → List ℕ → CommandView
next_command l apid count content =
    record { apid = apid; count = count; number = highest l.state + 1; content = content }

-- why a command is refused
abbrev pub give_fault : LedgerState → (on_map apid count long : ℕ) → Option LedgerFault
give_fault l on_map apid count long =
    if nat_le 64 on_map || (nat_le 2048 apid || (nat_le 16384 count || nat_lt 65528 long))
    then Some faults.FieldRange
    else if nat_lt l.max_packet (long + 14) then Some faults.TooLong
    else if nat_le 4294967295 (highest l.state) then Some faults.NoNumber else None

abbrev pub given : LedgerState → (tag on_map apid count : ℕ) → List ℕ → LedgerState
given l tag on_map apid count content =
    appended l (Gives tag on_map (command_octets (next_command l apid count content)))

-- the command with this number, if it is stored and has no fate, and the board has a record
abbrev pub packet_of : LedgerState → ℕ → Option Waiting
packet_of l number =
    if l.state.standing.is_lost
    || (nat_lt l.safe number || nat_le number l.state.standing.below) then None
    else slice_get l.state.commands (number - l.state.standing.below - 1)

-- ---- a status

-- why octets do not form a status
abbrev pub status_fault : LogFault → LedgerFault
status_fault log_faults.Layout = faults.Layout
status_fault fault = faults.Check

-- the entry for what a status shows that was not known
abbrev pub news : LedgerState → Status → Option Entry
news l (statuses.Says kept) =
    if is_news l.state.standing kept then Some (Hears kept) else None
news l statuses.Changes = None
news l statuses.Starts = None
news l (statuses.Lost mark) =
    if has_told l.state.standing.mark mark then None else Some (Loses mark)

abbrev pub appended_if : LedgerState → Option Entry → LedgerState
appended_if l None = l
appended_if l (Some e) = appended l e

-- ---- orders

abbrev pub boot_before : Standing → Option Rebuild → ℕ
boot_before s None = s.board.boot
boot_before s (Some o) = o.boot

abbrev pub is_for : Option Rebuild → ℕ → Bool
is_for None mark = false
is_for (Some o) mark = o.mark == mark

-- the order that brings a record after the loss with this mark, if there is none yet
abbrev pub new_order : LedgerState → (mark : ℕ) → Result (Option Entry) LedgerFault
new_order l mark =
    let s = l.state.standing in
    if is_for s.order mark then Ok None
    else if nat_le (2 ^ 32) (boot_before s s.order + 65536) then Err faults.NoBoot
    else Ok (Some (Rebuilds (record {
      mark = mark;
      boot = boot_before s s.order + 65536;
      last = max l.safe (reach s.board);
    })))

abbrev pub order_for : LedgerState → Option ℕ → Result (Option Entry) LedgerFault
order_for l None = Err faults.NotLost
order_for l (Some mark) = if l.state.standing.is_lost then new_order l mark else Err faults.NotLost

abbrev pub rebuild_of : LedgerState → Result (Option Entry) LedgerFault
rebuild_of l = order_for l l.state.standing.mark

abbrev pub order_of_mark : Option Rebuild → Option ℕ → Option Order
order_of_mark None mark = None
order_of_mark (Some o) None = None
order_of_mark (Some o) (Some mark) =
    if o.mark == mark then Some (orders.Rebuild o.mark o.boot o.last) else None

-- the order that may be sent
abbrev pub order_of : LedgerState → Option Order
order_of l =
    if l.state.standing.is_lost && not l.due
    then order_of_mark l.state.standing.order l.state.standing.mark
    else None

-- ---- the program's next action

pub data NextView : Type 0 where
  Nothing : NextView
  Stores : (octets : List ℕ) → NextView
  Says : (tell : Tell) → NextView

abbrev pub next_view : Next → NextView
next_view nexts.Nothing = Nothing
next_view (nexts.Store octets) = Stores octets.now
next_view (nexts.Tell tell) = Says tell

abbrev pub rest_stored : List ℕ → NextView
rest_stored [] = Nothing
rest_stored (x ∷ xs) = Stores (x ∷ xs)

abbrev pub told_or_stored : List ℕ → Option Tell → NextView
told_or_stored unstored None = rest_stored unstored
told_or_stored unstored (Some tell) = Says tell

abbrev pub next_of : LedgerState → NextView
next_of l =
    if l.due then Stores l.unstored else told_or_stored l.unstored (slice_get l.state.tells 0)

abbrev pub is_at_rest : LedgerState → Bool
is_at_rest l = (length l.unstored == 0) && (not l.due && is_none (slice_get l.state.tells 0))

-- a fresh store has less than half as many octets: 57, and those of the commands
abbrev pub is_worth : LedgerState → Bool
is_worth l = is_at_rest l && nat_lt l.state.live (l.stored / 2 - 57)

-- everything that had to be appended is in the store
abbrev pub all_stored : LedgerState → LedgerState
all_stored l =
    record l {
      unstored = [];
      due = false;
      safe = highest l.state;
      stored = min (l.stored + length l.unstored) 18446744073709551615;
    }

-- ---- a fresh store

abbrev pub commands_octets : List Waiting → List ℕ
commands_octets [] = []
commands_octets (c ∷ cs) = spelling (Gives c.tag c.on_map c.packet) ++ commands_octets cs

abbrev pub fresh_octets : State → List ℕ
fresh_octets s = spelling (Stands s.standing) ++ commands_octets s.commands
