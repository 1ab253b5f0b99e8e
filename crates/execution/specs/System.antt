-- A ground program with its ledger and the ledger's store, a board, and any link between them. Each
-- deed is one call of the ledger or of the executor, and what the program does with its answer.
use Rattle.std.specs.Prelude.{ℕ, List, [], ◌∷◌, ◌++◌, length, take, Bool, if◌then◌else◌}
use Rattle.std.specs.Prelude.{Option, Some, None, Result, Ok, Err}
use Rattle.command_log.specs.declared.fault.LogFault.{LogFault}
use Rattle.command_log.specs.declared.status.Status.{Status}
use Rattle.command_log.specs.declared.packets.Order.{Order}
use Rattle.command_log.specs.declared.packets.Order.TheVariants as orders
use Rattle.command_log.specs.Packets.{CommandView, command_octets, order_octets, order_fits}
use Rattle.command_log.specs.Status.{status_octets, status_spelled}
use Rattle.command_log.specs.Executor.{status_of}
use Rattle.command_log.specs.Board.{Board, Event, new_board, board_step}
use Rattle.command_ledger.specs.declared.fault.LedgerFault.{LedgerFault}
use Rattle.command_ledger.specs.declared.state.Tell.{Tell}
use Rattle.command_ledger.specs.Waiting.{Waiting, waiting}
use Rattle.command_ledger.specs.State.{Entry, Tells, new_state, highest}
use Rattle.command_ledger.specs.Store.{Reading, reading, read_on}
use Rattle.command_ledger.specs.Ledger.{LedgerState, NextView, Nothing, Stores, Says, opened}
use Rattle.command_ledger.specs.Ledger.{next_of}
use Rattle.command_ledger.specs.Ledger.{next_command, give_fault, given, packet_of, news, appended}
use Rattle.command_ledger.specs.Ledger.{appended_if, rebuild_of, order_of, all_stored, is_at_rest}
use Rattle.command_ledger.specs.Ledger.{fresh_octets}

-- a report that was made, and the packets whose execution had begun by then, newest first
pub record Report : Type 0 where
  pub tell : Tell
  pub begun : List (List ℕ)

pub record System : Type 0 where
  pub ledger : LedgerState
  pub store : List ℕ
  -- the commands in the order of their numbers, which begin at 1
  pub given : List Waiting
  -- what was sent, newest first
  pub packets : List (List ℕ)
  pub orders : List (List ℕ)
  pub statuses : List (List ℕ)
  -- the reports that were made, newest first
  pub told : List Report
  pub board : Board

-- an empty store, and a new board
abbrev pub new_system : (max_packet : ℕ) → System
new_system max_packet =
    record {
      ledger = opened max_packet (reading new_state 0);
      store = [];
      given = [];
      packets = [];
      orders = [];
      statuses = [];
      told = [];
      board = new_board;
    }

pub data Deed : Type 0 where
  -- the calls `command`, `hears` and `rebuild`
  Commands : (tag on_map apid count : ℕ) → (content : List ℕ) → Deed
  Hears : (octets : List ℕ) → Deed
  Rebuilds : Deed
  -- what `next` returned is stored, or reported; a report may remain unnoted (no `told`)
  Appends : Deed
  Reports : (noted : Bool) → Deed
  -- the store is replaced by a fresh one
  Renews : Deed
  -- The program ends, and opens its store again. If it was storing, only the first octets are
  -- there.
  Crashes : (torn : ℕ) → Deed
  -- the packet of a number, the order that brings a record, or one to restart is sent
  Sends : (number : ℕ) → Deed
  Orders : (apid count : ℕ) → Deed
  OrdersRestart : (apid count : ℕ) → Deed
  -- on board: an event, which may be that something arrives; a status is sent
  Happens : (event : Event) → Deed
  SendsStatus : (waiting : ℕ) → Deed

abbrev pub after_command : System → (tag on_map : ℕ) → CommandView → Option LedgerFault → System
after_command s tag on_map c (Some fault) = s
after_command s tag on_map c None =
    record s {
      ledger = given s.ledger tag on_map c.apid c.count c.content;
      given = s.given ++ waiting tag on_map (command_octets c) ∷ [];
    }

abbrev pub after_status : LedgerState → Result (Status × ℕ) LogFault → LedgerState
after_status l (Err fault) = l
after_status l (Ok status) = appended_if l (news l status.0)

abbrev pub after_rebuild : LedgerState → Result (Option Entry) LedgerFault → LedgerState
after_rebuild l (Err fault) = l
after_rebuild l (Ok entry) = appended_if l entry

-- the octets that must be appended to the store
abbrev pub due_octets : NextView → List ℕ
due_octets Nothing = []
due_octets (Stores octets) = octets
due_octets (Says tell) = []

abbrev pub after_append : System → NextView → System
after_append s Nothing = s
after_append s (Says tell) = s
after_append s (Stores octets) =
    record s { ledger = all_stored s.ledger; store = s.store ++ octets }

abbrev pub after_report : System → Bool → NextView → System
after_report s noted Nothing = s
after_report s noted (Stores octets) = s
after_report s noted (Says tell) =
    record s {
      ledger = if noted then appended s.ledger Tells else s.ledger;
      told = record { tell = tell; begun = s.board.packets } ∷ s.told;
    }

abbrev pub after_renewal : System → List ℕ → System
after_renewal s octets =
    record s { ledger = record s.ledger { stored = length octets }; store = octets }

-- octets after the good ones are cut off; commands that are not in the store are lost
abbrev pub reopened : System → List ℕ → Reading → System
reopened s octets all =
    record s {
      ledger = opened s.ledger.max_packet all;
      store = take all.good octets;
      given = take (highest all.state) s.given;
    }

abbrev pub after_crash : System → List ℕ → System
after_crash s octets = reopened s octets (read_on (length octets) (reading new_state 0) octets)

abbrev pub after_packet : System → Option Waiting → System
after_packet s None = s
after_packet s (Some c) = record s { packets = c.packet ∷ s.packets }

abbrev pub after_order : System → (apid count : ℕ) → Option Order → System
after_order s apid count None = s
after_order s apid count (Some order) =
    if order_fits apid count then record s { orders = order_octets apid count order ∷ s.orders }
    else s

abbrev pub system_step : System → Deed → System
system_step s (Commands tag on_map apid count content) =
    after_command s tag on_map (next_command s.ledger apid count content)
    (give_fault s.ledger on_map apid count (length content))
system_step s (Hears octets) =
    record s { ledger = after_status s.ledger (status_spelled octets) }
system_step s Rebuilds = record s { ledger = after_rebuild s.ledger (rebuild_of s.ledger) }
system_step s Appends = after_append s (next_of s.ledger)
system_step s (Reports noted) = after_report s noted (next_of s.ledger)
system_step s Renews =
    if is_at_rest s.ledger then after_renewal s (fresh_octets s.ledger.state) else s
system_step s (Crashes torn) =
    after_crash s (s.store ++ take torn (due_octets (next_of s.ledger)))
system_step s (Sends number) = after_packet s (packet_of s.ledger number)
system_step s (Orders apid count) = after_order s apid count (order_of s.ledger)
system_step s (OrdersRestart apid count) =
    after_order s apid count (Some (orders.Restart s.ledger.state.standing.board.boot))
system_step s (Happens event) = record s { board = board_step s.board event }
system_step s (SendsStatus waits) =
    record s { statuses = status_octets (status_of s.board.executor) waits ∷ s.statuses }

abbrev pub system_run : System → List Deed → System
system_run s [] = s
system_run s (deed ∷ deeds) = system_run (system_step s deed) deeds
