-- The commands without a fate, the knowledge of the board, and the reports that are due: the effect
-- of each entry of the store on them.
use Rattle.std.specs.Prelude.{ℕ, ◌+◌, ◌-◌, min, max, List, [], ◌∷◌, ◌++◌, length, take, drop}
use Rattle.std.specs.Prelude.{Bool, true, false, ◌&&◌, ◌==◌, nat_lt, nat_le, if◌then◌else◌}
use Rattle.std.specs.Prelude.{Option, Some, None, option_to_list}
use Rattle.command_log.specs.Packets.{is_command, number_in}
use Rattle.command_log.specs.declared.record.Record.{Record}
use Rattle.command_ledger.specs.declared.known.Standing.{Standing}
use Rattle.command_ledger.specs.declared.known.Rebuild.{Rebuild}
use Rattle.command_ledger.specs.declared.state.Tell.{Tell}
use Rattle.command_ledger.specs.declared.state.Tell.TheVariants.{Executed, Unknown, Restarted}
use Rattle.command_ledger.specs.declared.state.Tell.TheVariants.{RecordLost, Foreign}
use Rattle.command_log.specs.History.{history_after}
use Rattle.command_log.specs.Record.{no_commands}
use Rattle.command_ledger.specs.Waiting.{Waiting, waiting}
use Rattle.command_ledger.specs.Known.{reach, is_marked, obeyed}

pub record State : Type 0 where
  pub standing : Standing
  -- in the order of their numbers; the first number is one more than the standing's `below`
  pub commands : List Waiting
  -- the reports that are due, in order
  pub tells : List Tell
  -- how many octets of the store give these commands
  pub live : ℕ

abbrev pub new_standing : Standing
new_standing =
    record {
      below = 0;
      board = no_commands 0 0;
      doubt = 0;
      mark = None;
      is_lost = false;
      order = None;
    }

abbrev pub new_state : State
new_state = record { standing = new_standing; commands = []; tells = []; live = 0 }

-- the highest number that was given, or that a command of another ground had on board
abbrev pub highest : State → ℕ
highest s = s.standing.below + length s.commands

-- an entry of the store
pub data Entry : Type 0 where
  -- a command was given
  Gives : (tag on_map : ℕ) → (packet : List ℕ) → Entry
  -- the board sent a later record
  Hears : (kept : Record) → Entry
  -- the board reported that it has lost its record; the mark of the loss
  Loses : (mark : ℕ) → Entry
  -- an order that brings a record was made
  Rebuilds : (order : Rebuild) → Entry
  -- the first report that was due has been made
  Tells : Entry
  -- in a fresh store: everything except the commands, which follow
  Stands : (standing : Standing) → Entry

-- ---- a record of the board

-- the history of a board that has also taken these commands
abbrev pub history_over : ℕ → List Waiting → ℕ
history_over history [] = history
history_over history (c ∷ cs) = history_over (history_after history c.packet) cs

-- whether the board's commands after those already known, up to its reach, are these
abbrev pub agrees : (below : ℕ) → List Waiting → (board kept : Record) → Bool
agrees below commands board kept =
    nat_le (reach kept) (below + length commands)
    && (history_over board.history (drop (reach board - below) (take (reach kept - below) commands))
    == kept.history)

-- the fate of a command that the board has passed
abbrev pub fate : Record → (doubt number tag : ℕ) → Tell
fate kept doubt number tag =
    if nat_lt doubt number && is_marked kept number then Executed tag else Unknown tag

abbrev pub fates : Record → (doubt number : ℕ) → List Waiting → List Tell
fates kept doubt number [] = []
fates kept doubt number (c ∷ cs) = fate kept doubt number c.tag ∷ fates kept doubt (number + 1) cs

abbrev pub size_of : Waiting → ℕ
size_of c = length c.packet + 18

abbrev pub less : ℕ → List Waiting → ℕ
less live [] = live
less live (c ∷ cs) = less (live - size_of c) cs

abbrev pub restarted : Record → Record → Option Tell
restarted board kept = if board.boot == kept.boot then None else Some (Restarted kept.boot)

abbrev pub foreign : Bool → Record → Record → Option Tell
foreign agree board kept =
    if agree then None else Some (Foreign (min (reach board + 1) 4294967295) (reach kept))

abbrev pub doubt_after : Bool → Standing → Record → ℕ
doubt_after agree known kept = if agree then known.doubt else max known.doubt (reach kept)

-- The mark that is kept after a record. If the record ends a loss that no order has ended, the mark
-- is forgotten: the record may be older than the loss, which is then told again.
abbrev pub mark_after : Standing → Option ℕ
mark_after known = if known.is_lost then None else known.mark

-- the knowledge after a record is accepted
abbrev pub heard_standing : (below : ℕ) → Bool → Standing → Record → Standing
heard_standing below agree known kept =
    record {
      below = below;
      board = kept;
      doubt = doubt_after agree known kept;
      mark = mark_after known;
      is_lost = false;
      order = known.order;
    }

-- how many of this many commands the board has passed
abbrev pub passed : (below many : ℕ) → Record → ℕ
passed below many kept = min (kept.last - below) many

abbrev pub below_after : (below many : ℕ) → Record → ℕ
below_after below many kept =
    if nat_lt (below + many) (reach kept) then reach kept else below + passed below many kept

-- the state after a record that agrees, or does not, with what was known
abbrev pub heard : State → Standing → Record → Bool → State
heard s known kept agree =
    let doubt = doubt_after agree known kept in
    let count = passed s.standing.below (length s.commands) kept in
    record {
      standing =
          heard_standing (below_after s.standing.below (length s.commands) kept) agree known kept;
      commands = drop count s.commands;
      tells =
          s.tells
          ++ (option_to_list (restarted s.standing.board kept)
          ++ (option_to_list (foreign agree known.board kept)
          ++ fates kept doubt (s.standing.below + 1) (take count s.commands)));
      live = less s.live (take count s.commands);
    }

abbrev pub hears_by : State → Standing → Record → State
hears_by s known kept = heard s known kept (agrees s.standing.below s.commands known.board kept)

abbrev pub hears : State → Record → State
hears s kept = hears_by s (obeyed s.standing kept) kept

-- ---- all entries

abbrev pub gives : State → Waiting → State
gives s c =
    record s {
      commands = s.commands ++ c ∷ [];
      live = min (s.live + size_of c) 18446744073709551615;
    }

abbrev pub loses : State → ℕ → State
loses s mark =
    record s {
      standing = record s.standing { mark = Some mark; is_lost = true };
      tells = s.tells ++ RecordLost mark ∷ [];
    }

abbrev pub after_entry : State → Entry → State
after_entry s (Gives tag on_map packet) = gives s (waiting tag on_map packet)
after_entry s (Hears kept) = hears s kept
after_entry s (Loses mark) = loses s mark
after_entry s (Rebuilds order) = record s { standing = record s.standing { order = Some order } }
after_entry s Tells = record s { tells = drop 1 s.tells }
after_entry s (Stands standing) =
    record { standing = standing; commands = []; tells = []; live = 0 }

-- whether an entry may follow those before it: a command must have the next number
abbrev pub follows : State → Entry → Bool
follows s (Gives tag on_map packet) =
    nat_lt (highest s) 4294967295
    && (nat_le (length packet) 65542 && (is_command packet && (number_in packet == highest s + 1)))
follows s (Hears kept) = true
follows s (Loses mark) = true
follows s (Rebuilds order) = true
follows s Tells = true
follows s (Stands standing) = true
