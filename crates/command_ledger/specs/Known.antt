-- What a record of the board shows the ground, and what the ground keeps of it.
use Rattle.std.specs.Prelude.{ℕ, ◌+◌, ◌-◌, ◌*◌, min, max, Bool, false, not, ◌&&◌, ◌||◌, ◌==◌}
use Rattle.std.specs.Prelude.{nat_lt, nat_le, if◌then◌else◌, Option, Some, None}
use Rattle.std.specs.Int.{bit_at}
use Rattle.command_log.specs.declared.record.Record.{Record}
use Rattle.command_log.specs.Record.{no_commands}
use Rattle.command_ledger.specs.declared.known.Standing.{Standing}
use Rattle.command_ledger.specs.declared.known.Rebuild.{Rebuild}

-- the highest number whose packet is part of the board's history: the one that is begun, or the
-- last
abbrev pub reach : Record → ℕ
reach kept = if kept.begun then min (kept.last + 1) 4294967295 else kept.last

abbrev pub progress : Record → ℕ
progress kept = kept.last * 2 + (if kept.begun then 1 else 0)

-- whether a record is later than the last known one
abbrev pub is_later : Record → Record → Bool
is_later board kept =
    nat_lt board.boot kept.boot
    || ((board.boot == kept.boot) && nat_lt (progress board) (progress kept))

-- whether a record is as late as the last known one
abbrev pub is_as_late : Record → Record → Bool
is_as_late board kept = (board.boot == kept.boot) && (progress board == progress kept)

-- whether a record shows something that was not known: it is later or, while a loss stands, as late
abbrev pub is_news : Standing → Record → Bool
is_news s kept = is_later s.board kept || (s.is_lost && is_as_late s.board kept)

-- whether a record shows that the command was executed, whole
abbrev pub is_marked : Record → ℕ → Bool
is_marked kept n =
    nat_le n kept.last
    && (nat_lt (kept.last - n) 64 && (bit_at kept.known (kept.last - n) == 1))

-- whether this mark is known: it is that of the loss told last, and is not forgotten
abbrev pub has_told : Option ℕ → ℕ → Bool
has_told None mark = false
has_told (Some told) mark = told == mark

abbrev pub obeyed_order : Standing → Record → Option Rebuild → Standing
obeyed_order s kept None = s
obeyed_order s kept (Some o) =
    if nat_le o.boot kept.boot then record s {
      board = no_commands o.boot o.last;
      doubt = max s.doubt o.last;
      is_lost = s.is_lost && not (has_told s.mark o.mark);
      order = None;
    }
    else s

-- the knowledge before the record or, if the record shows that the board obeyed the order, after
-- the order, which ends the loss with its mark
abbrev pub obeyed : Standing → Record → Standing
obeyed s kept = obeyed_order s kept s.order
