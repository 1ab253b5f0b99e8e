-- How many numbers are not known to be executed: at most one for each restart, and 64 for each
-- order that arrives to bring a record.
use Rattle.std.specs.Prelude.{◌≡◌, ℕ, zero, suc, ◌+◌, ◌-◌, ◌≤◌, min, List, [], ◌∷◌, Result, Ok, Err}
use Rattle.std.specs.Int.{bit_at}
use Rattle.command_log.specs.declared.record.Record.{Record}
use Rattle.command_log.specs.declared.status.Status.TheVariants.{Says}
use Rattle.command_log.specs.declared.fault.LogFault.{LogFault}
use Rattle.command_log.specs.declared.packets.Order.{Order}
use Rattle.command_log.specs.declared.packets.Order.TheVariants.{Rebuild}
use Rattle.command_log.specs.declared.packets.Order.TheVariants as orders
use Rattle.command_log.specs.Packets.{order_at}
use Rattle.command_log.specs.Executor.{status_of}
use Rattle.command_log.specs.Board.{Event, Offers, Orders, Acts, Restarts, BreaksOff, Spoils}
use Rattle.command_log.specs.Board.{new_board, board_run, AreSound}

-- the number of the latest numbers that are not known to be executed
abbrev pub unknown_among : ℕ → ℕ → ℕ
unknown_among zero known = 0
unknown_among (suc age) known = (1 - bit_at known age) + unknown_among age known

-- the same among the numbers up to the last; only the latest 64 have a bit
abbrev pub unknown_of : Record → ℕ
unknown_of kept = unknown_among (min kept.last 64) kept.known

-- 64 if octets are an order to bring a record
abbrev pub brought_by : Result Order LogFault → ℕ
brought_by (Err e) = 0
brought_by (Ok (orders.Restart boot)) = 0
brought_by (Ok (Rebuild mark boot last)) = 64

abbrev pub excuse_of : Event → ℕ
excuse_of (Restarts mark) = 1
excuse_of (BreaksOff mark) = 1
excuse_of (Orders octets) = brought_by (order_at octets)
excuse_of (Offers octets) = 0
excuse_of Acts = 0
excuse_of (Spoils place) = 0

abbrev pub excuses_of : List Event → ℕ
excuses_of [] = 0
excuses_of (event ∷ events) = excuse_of event + excuses_of events

abbrev pub EachKnowsMost : Type 0
EachKnowsMost =
    (events : List Event) → AreSound new_board events → (kept : Record)
    → status_of (board_run new_board events).executor ≡ Says kept → unknown_of kept ≤ excuses_of
    events
