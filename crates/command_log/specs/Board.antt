-- A board over time. Its program performs each action that the executor returns, passes on what
-- arrives, and may restart at any moment, also in the middle of an action. Nothing is assumed about
-- the link: any octets may arrive.
use Rattle.std.specs.Prelude.{◌≡◌, ⊤, ℕ, ◌+◌, ◌-◌, ◌<◌, ◌≤◌, ◌⊎◌, List, [], ◌∷◌, true, Result, Ok}
use Rattle.std.specs.Prelude.{Err}
use Rattle.std.specs.Prelude.{if◌then◌else◌, Option, Some, None}
use Rattle.std.specs.Int.{bit_at}
use Rattle.command_log.specs.declared.record.Record.{Record}
use Rattle.command_log.specs.declared.executor.Place.{Place}
use Rattle.command_log.specs.declared.executor.Place.TheVariants.{First, Second}
use Rattle.command_log.specs.declared.executor.Action.{Action}
use Rattle.command_log.specs.declared.executor.Action.TheVariants.{Nothing, Write, Execute, Restart}
use Rattle.command_log.specs.declared.status.Status.TheVariants.{Says}
use Rattle.command_log.specs.Record.{no_commands}
use Rattle.command_log.specs.declared.fault.LogFault.{LogFault}
use Rattle.command_log.specs.declared.packets.Order.{Order}
use Rattle.command_log.specs.declared.packets.Order.TheVariants.{Rebuild}
use Rattle.command_log.specs.declared.packets.Order.TheVariants as orders
use Rattle.command_log.specs.Packets.{order_at}
use Rattle.command_log.specs.Executor.{ExecutorState, start, action_of, status_of, is_taken}
use Rattle.command_log.specs.Executor.{is_obeyed}
use Rattle.command_log.specs.Executor.{executor_step}
use Rattle.command_log.specs.Executor.{Takes, Obeys, Done}

pub record Board : Type 0 where
  -- the record at each of the two places; None if its check fails
  pub first : Option Record
  pub second : Option Record
  pub executor : ExecutorState
  -- the packet that was taken last
  pub held : List ℕ
  -- newest first: the numbers that the board gave to the commands whose execution began, the
  -- packets of these commands, and the numbers of the commands that were executed completely
  pub begun : List ℕ
  pub packets : List (List ℕ)
  pub whole : List ℕ

-- a new board, with the same record at both places
abbrev pub new_board : Board
new_board =
    let kept = Some (no_commands 0 0) in
    record {
      first = kept;
      second = kept;
      executor = start kept kept 0;
      held = [];
      begun = [];
      packets = [];
      whole = [];
    }

pub data Event : Type 0 where
  -- octets are offered as a command, or arrive as an order
  Offers : (octets : List ℕ) → Event
  Orders : (octets : List ℕ) → Event
  -- the action that the executor returns is completed
  Acts : Event
  -- the board restarts between two actions, or in the middle of one, with this mark
  Restarts : (mark : ℕ) → Event
  BreaksOff : (mark : ℕ) → Event
  -- a copy is spoiled
  Spoils : (place : Place) → Event

abbrev pub with_place : Board → Place → Option Record → Board
with_place b First it = record b { first = it }
with_place b Second it = record b { second = it }

-- the board after a completed action
abbrev pub after_doing : Board → Action → Board
after_doing b Nothing = b
after_doing b Restart = b
after_doing b (Write place kept) = with_place b place (Some kept)
after_doing b (Execute number) =
    record b { begun = number ∷ b.begun; packets = b.held ∷ b.packets; whole = number ∷ b.whole }

-- The board after an action that is broken off: the place has no record, or the command has begun.
-- (If the place still has the old record, or already the whole new one, this is a restart between
-- two actions.)
abbrev pub after_break : Board → Action → Board
after_break b Nothing = b
after_break b Restart = b
after_break b (Write place kept) = with_place b place None
after_break b (Execute number) = record b { begun = number ∷ b.begun; packets = b.held ∷ b.packets }

abbrev pub restarted : Board → ℕ → Board
restarted b mark = record b { executor = start b.first b.second mark }

abbrev pub after_offer : Board → List ℕ → Board
after_offer b octets =
    record b {
      executor = executor_step b.executor (Takes octets);
      held = if is_taken b.executor octets then octets else b.held;
    }

abbrev pub board_step : Board → Event → Board
board_step b (Offers octets) = after_offer b octets
board_step b (Orders octets) = record b { executor = executor_step b.executor (Obeys octets) }
board_step b Acts = record (after_doing b (action_of b.executor))
    { executor = executor_step b.executor Done }
board_step b (Restarts mark) = restarted b mark
board_step b (BreaksOff mark) = restarted (after_break b (action_of b.executor)) mark
board_step b (Spoils place) = with_place b place None

abbrev pub board_run : Board → List Event → Board
board_run b [] = b
board_run b (event ∷ events) = board_run (board_step b event) events

-- ---- assumptions and guarantees

-- the numbers decrease, and each is below the bound; the newest is first, so each occurs once and
-- in order
abbrev pub AreBelow : ℕ → List ℕ → Type 0
AreBelow bound [] = ⊤
AreBelow bound (n ∷ ns) = (n < bound) × AreBelow n ns

abbrev pub IsAmong : {X : Type 0} → X → List X → Type 0
IsAmong n [] = ⊥
IsAmong n (m ∷ ms) = (n ≡ m) ⊎ IsAmong n ms

-- if the board obeys an order that brings a record, no number above the order's last was begun
abbrev pub BringsAll : Board → Order → Type 0
BringsAll b (orders.Restart boot) = ⊤
BringsAll b (Rebuild mark boot last) =
    is_obeyed b.executor (Rebuild mark boot last) ≡ true → AreBelow (last + 1) b.begun

abbrev pub IsSoundOrder : Board → Result Order LogFault → Type 0
IsSoundOrder b (Err e) = ⊤
IsSoundOrder b (Ok order) = BringsAll b order

abbrev pub IsSound : Board → Event → Type 0
IsSound b (Orders octets) = IsSoundOrder b (order_at octets)
IsSound b (Offers octets) = ⊤
IsSound b Acts = ⊤
IsSound b (Restarts mark) = ⊤
IsSound b (BreaksOff mark) = ⊤
IsSound b (Spoils place) = ⊤

abbrev pub AreSound : Board → List Event → Type 0
AreSound b [] = ⊤
AreSound b (event ∷ events) = IsSound b event × AreSound (board_step b event) events

-- the record shows that the command with this number was executed
abbrev pub IsKnown : Record → ℕ → Type 0
IsKnown kept n = (0 < n) × (n ≤ kept.last) × (bit_at kept.known (kept.last - n) ≡ 1)

abbrev pub bound_of : Record → ℕ
bound_of kept = if kept.begun then kept.last + 2 else kept.last + 1

-- the record is true of the numbers that were begun and of the numbers that were executed
-- completely
pub record IsTrueOf (begun whole : List ℕ) (kept : Record) : Type 0 where
  -- no number above the last was begun, except possibly the next one if the record has it as begun
  pub no_more : AreBelow (bound_of kept) begun
  pub known : (n : ℕ) → IsKnown kept n → IsAmong n whole

pub record IsCarriedOut (b : Board) : Type 0 where
  -- each number was begun at most once, and in order
  pub once : (bound : ℕ) × AreBelow bound b.begun
  pub whole : (n : ℕ) → IsAmong n b.whole → IsAmong n b.begun
  pub said : (kept : Record) → status_of b.executor ≡ Says kept → IsTrueOf b.begun b.whole kept

abbrev pub EachIsCarriedOut : Type 0
EachIsCarriedOut =
    (events : List Event) → AreSound new_board events → IsCarriedOut (board_run new_board events)
