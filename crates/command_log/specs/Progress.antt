-- What a board reaches if it is not cut off.
use Rattle.std.specs.Prelude.{◌≡◌, ℕ, ◌+◌, ◌<◌, List, [], ◌∷◌, true, false}
use Rattle.command_log.specs.declared.status.Status.TheVariants.{Says}
use Rattle.command_log.specs.declared.executor.Stage.TheVariants.{Rests, Ordered}
use Rattle.command_log.specs.Packets.{is_command, number_in}
use Rattle.command_log.specs.Record.{begun, passed}
use Rattle.command_log.specs.Executor.{status_of, is_lost}
use Rattle.command_log.specs.Board.{Board, Event, Offers, Acts, board_run}

-- five actions
abbrev pub five : List Event
five = Acts ∷ Acts ∷ Acts ∷ Acts ∷ Acts ∷ []

-- any board that has a record, and has not been ordered to restart, is at rest after five actions
abbrev pub EachComesToRest : Type 0
EachComesToRest =
    (b : Board) → is_lost b.executor ≡ false → (b.executor.stage ≡ Ordered → ⊥)
    → (board_run b five).executor.stage ≡ Rests

-- at rest the next command is taken; after five actions it has been executed completely, and a
-- status reports this
pub record IsExecuted (b : Board) (packet : List ℕ) (after : Board) : Type 0 where
  pub whole : after.whole ≡ (b.executor.kept.last + 1) ∷ b.whole
  pub packets : after.packets ≡ packet ∷ b.packets
  pub said : status_of after.executor ≡ Says (passed (begun b.executor.kept packet) 1)

abbrev pub EachNextIsExecuted : Type 0
EachNextIsExecuted =
    (b : Board) (packet : List ℕ) → b.executor.stage ≡ Rests → b.executor.kept.last < 4294967295
    → is_command packet ≡ true → number_in packet ≡ b.executor.kept.last + 1
    → IsExecuted b packet (board_run b (Offers packet ∷ five))
