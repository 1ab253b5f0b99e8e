-- The progress of a command.
use Rattle.std.specs.Prelude.{ℕ, ◌+◌, ◌-◌, ◌%◌, ◌^◌, Bool, ◌||◌, nat_lt, nat_le, if◌then◌else◌}
use Rattle.std.specs.Prelude.{Option, Some, None}
use Rattle.command_ledger.specs.State.{highest}
use Rattle.nodes.specs.Fates as fates
use Rattle.nodes.specs.Ground.{sent_beyond}
use Rattle.commander.specs.declared.commander.Commander.{Commander}
use Rattle.commander.specs.declared.fate.Fate.{Fate}
use Rattle.commander.specs.declared.fate.Fate.TheVariants.{Waits, Sent, OnBoard}

-- of this many submissions, counted modulo 2^64, the first `whole` are whole, and the one this many
-- before the last is among them
abbrev pub is_whole : (submitted whole before : ℕ) → Bool
is_whole submitted whole before = nat_le ((submitted + (2 ^ 64 - whole)) % 2 ^ 64) before

-- how many submissions, the first ones, are whole with this many segments after the acknowledged
-- ones
abbrev pub is_within : Commander → (segments number : ℕ) → Bool
is_within s segments number =
    is_whole (fates.submitted s.ground_node.fates) (fates.whole_with segments s.ground_node.fates)
    (s.session.sent - number)

abbrev pub progress : Commander → (number : ℕ) → Fate
progress s number =
    if nat_lt s.session.sent number then Waits
    else if is_within s 0 number then OnBoard
    else if is_within s (sent_beyond s.ground_node) number then Sent else Waits

abbrev pub fate_of : Commander → (number : ℕ) → Option Fate
fate_of s number =
    if nat_le number s.ledger.state.standing.below || nat_lt (highest s.ledger.state) number
    then None else Some (progress s number)
