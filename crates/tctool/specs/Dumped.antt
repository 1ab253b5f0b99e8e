-- What the commands write for the octets of a file, including the commands that run it.
use Rattle.std.specs.Prelude.{◌≡◌, Bool, List, ℕ, ◌++◌, Option, Some, None, Result, Err}
use Rattle.script.specs.Ending as ends
use Rattle.script.specs.Ending.{script_ending, script_text}
use Rattle.command_line.specs.declared.task.Task.{Task}
use Rattle.command_line.specs.declared.task.Task.TheVariants as tasks
use Rattle.stream_commands.specs.Listed.{listed_outcome, shown_lines}
use Rattle.stream_commands.specs.Outcome.{OutcomeView, Good, Unreadable, OutOfRange, outcome_view}
use Rattle.stream_commands.specs.Outcome.{outcome_if}
use Rattle.stream_commands.specs.declared.outcome.Outcome.{Outcome}
use Rattle.streams.specs.declared.fault.StreamFault.{StreamFault}
use Rattle.streams.specs.declared.fault.StreamFault.TheVariants.{Read}
use Rattle.tc_frame.specs.Splitter.{check_if}
use Rattle.encode_lines.specs.Octets.{octets_in, unreadable_in}
use Rattle.streams.specs.Player.{answers_of, answers_so_far, is_all_good}
use Rattle.node_lines.specs.Ground.{ground_rules}
use Rattle.node_lines.specs.Spacecraft.{spacecraft_rules}
use Rattle.node_lines.specs.Player.{node_playing, fresh_player}

-- how a script ends
abbrev pub as_outcome : ends.Ending → OutcomeView
as_outcome ends.Good = Good
as_outcome (ends.Unreadable line) = Unreadable line
as_outcome (ends.OutOfRange field) = OutOfRange field

-- how lines end, by the number of the first unreadable one
abbrev pub as_read : Option ℕ → OutcomeView
as_read None = Good
as_read (Some line) = Unreadable line

-- the lines for all octets of a file, its rest included, or their totals, or the octets of lines
abbrev pub lines_of : Bool → Task → List ℕ → List ℕ
lines_of count (tasks.Encode check skips) octets = octets_in skips (check_if check) octets
lines_of count tasks.Sim octets = script_text octets
lines_of count tasks.Ground octets = answers_of (node_playing ground_rules) fresh_player octets
lines_of count tasks.Spacecraft octets =
    answers_of (node_playing spacecraft_rules) fresh_player octets
lines_of count task octets = shown_lines count task octets

-- if a read fails, a node has answered all lines that had ended; so it answers them before each
-- read
abbrev pub AnswersInTime : Task → Result Outcome StreamFault → (old new octets : List ℕ) → Type 0
AnswersInTime tasks.Ground result old new octets =
    result ≡ Err Read
    → new ≡ old ++ answers_so_far (node_playing ground_rules) fresh_player octets
AnswersInTime tasks.Spacecraft result old new octets =
    result ≡ Err Read
    → new ≡ old ++ answers_so_far (node_playing spacecraft_rules) fresh_player octets
AnswersInTime task result old new octets = Unit {0}

-- Good exactly when every record is good and nothing is left, every line of a record is readable,
-- or every line of a node is good; a script is judged as a whole
abbrev pub outcome_for : Task → List ℕ → OutcomeView
outcome_for (tasks.Encode check skips) octets =
    as_read (unreadable_in skips (check_if check) octets)
outcome_for tasks.Sim octets = as_outcome (script_ending octets)
outcome_for tasks.Ground octets =
    outcome_view (outcome_if (is_all_good (node_playing ground_rules) fresh_player octets))
outcome_for tasks.Spacecraft octets =
    outcome_view (outcome_if (is_all_good (node_playing spacecraft_rules) fresh_player octets))
outcome_for task octets = outcome_view (listed_outcome task octets)
