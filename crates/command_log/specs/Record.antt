-- The record that a board keeps: how often the board has started, the last number that was executed
-- or passed over, whether the next command has begun, which numbers are known to be executed, and
-- the history.
use Rattle.std.specs.Prelude.{ℕ, ◌+◌, ◌*◌, ◌%◌, ◌^◌, min, List, Bool, true, false}
use Rattle.command_log.specs.History.{history_after}
use Rattle.command_log.specs.declared.record.Record.{Record}

-- the record of a new board, and of a board that has no record
abbrev pub no_commands : ℕ → ℕ → Record
no_commands boot last = record { boot = boot; last = last; begun = false; known = 0; history = 0 }

-- the record when the next command, this packet, has begun
abbrev pub begun : Record → List ℕ → Record
begun r packet =
    record {
      boot = r.boot;
      last = r.last;
      begun = true;
      known = r.known;
      history = history_after r.history packet;
    }

-- the next number becomes the last; the bit is 1 if its command was executed, and 0 if nothing is
-- known
abbrev pub passed : Record → ℕ → Record
passed r bit =
    record {
      boot = r.boot;
      last = min (r.last + 1) 4294967295;
      begun = false;
      known = r.known % 2 ^ 63 * 2 + bit;
      history = r.history;
    }

-- the record after a start: nothing is known of a command that had begun
abbrev pub passed_if_begun : Record → Bool → Record
passed_if_begun r true = passed r 0
passed_if_begun r false = r

abbrev pub counted : Record → Record
counted r =
    record {
      boot = (r.boot + 1) % 2 ^ 32;
      last = r.last;
      begun = r.begun;
      known = r.known;
      history = r.history;
    }

abbrev pub after_start : Record → Record
after_start r = counted (passed_if_begun r r.begun)
