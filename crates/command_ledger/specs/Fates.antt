-- What is reported of a command, and why.
use Rattle.std.specs.Prelude.{◌≡◌, ℕ, ◌+◌, ◌<◌, ◌≤◌, ◌^◌, ◌⊎◌, Some, true, slice_get}
use Rattle.command_log.specs.declared.record.Record.{Record}
use Rattle.command_log.specs.Board.{IsAmong, IsKnown}
use Rattle.command_ledger.specs.declared.state.Tell.TheVariants.{Executed, Unknown}
use Rattle.command_ledger.specs.Waiting.{Waiting}
use Rattle.command_ledger.specs.Known.{obeyed}
use Rattle.command_ledger.specs.State.{State, Entry, Hears, agrees, after_entry}

-- the command at this index of the list has this tag
pub record IsWaiting (s : State) (place tag : ℕ) : Type 0 where
  pub command : Waiting
  pub there : slice_get s.commands place ≡ Some command
  pub tagged : command.tag ≡ tag

-- a command was executed: the record shows it, and its history is that of this ledger's commands
pub record IsSaid (s : State) (kept : Record) (tag : ℕ) : Type 0 where
  pub place : ℕ
  pub waits : IsWaiting s place tag
  pub known : IsKnown kept (s.standing.below + 1 + place)
  pub agree : agrees s.standing.below s.commands (obeyed s.standing kept).board kept ≡ true

-- the board has passed a command: it no longer takes a number up to its last one
pub record IsPassed (s : State) (kept : Record) (tag : ℕ) : Type 0 where
  pub place : ℕ
  pub waits : IsWaiting s place tag
  pub passed : s.standing.below + 1 + place ≤ kept.last

abbrev pub IsHeard : (State → Record → ℕ → Type 0) → State → Entry → ℕ → Type 0
IsHeard P s e tag = (kept : Record) × (e ≡ Hears kept) × P s kept tag

-- If an entry adds a report that a command was executed, a record shows it. If it adds a report
-- that nothing is known of a command, the board has passed that command.
abbrev pub EachFateIsSaid : Type 0
EachFateIsSaid =
    (s : State) (e : Entry) (tag : ℕ) → ((kept : Record) → e ≡ Hears kept → kept.last < 2 ^ 32)
    → (IsAmong (Executed tag) (after_entry s e).tells
    → IsAmong (Executed tag) s.tells ⊎ IsHeard IsSaid s e tag)
    × (IsAmong (Unknown tag) (after_entry s e).tells
    → IsAmong (Unknown tag) s.tells ⊎ IsHeard IsPassed s e tag)
