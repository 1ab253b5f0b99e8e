-- No number is given twice, or after the board has reached it.
use Rattle.std.specs.Prelude.{⊤, ℕ, ◌<◌, max, List, [], ◌∷◌}
use Rattle.std.specs.List.{AllByRecursion}
use Rattle.command_log.specs.Packets.{number_in}
use Rattle.command_ledger.specs.Known.{reach}
use Rattle.command_ledger.specs.State.{State, Entry, Gives, Hears, Loses, Rebuilds, Tells, Stands}
use Rattle.command_ledger.specs.State.{highest}
use Rattle.command_ledger.specs.Kept.{AreEntries}

-- the entry does not begin a fresh store
abbrev pub IsAppended : Entry → Type 0
IsAppended (Gives tag on_map packet) = ⊤
IsAppended (Hears kept) = ⊤
IsAppended (Loses mark) = ⊤
IsAppended (Rebuilds order) = ⊤
IsAppended Tells = ⊤
IsAppended (Stands standing) = ⊥

-- the highest number that an entry shows to be used
abbrev pub used_by : Entry → ℕ
used_by (Gives tag on_map packet) = number_in packet
used_by (Hears kept) = reach kept
used_by (Loses mark) = 0
used_by (Rebuilds order) = 0
used_by Tells = 0
used_by (Stands standing) = 0

-- the number that an entry gives, if any, is above the bound
abbrev pub GivesAbove : ℕ → Entry → Type 0
GivesAbove bound (Gives tag on_map packet) = bound < number_in packet
GivesAbove bound (Hears kept) = ⊤
GivesAbove bound (Loses mark) = ⊤
GivesAbove bound (Rebuilds order) = ⊤
GivesAbove bound Tells = ⊤
GivesAbove bound (Stands standing) = ⊤

-- each number is above the bound and above all numbers that were used before it
abbrev pub AreNew : ℕ → List Entry → Type 0
AreNew bound [] = ⊤
AreNew bound (e ∷ es) = GivesAbove bound e × AreNew (max bound (used_by e)) es

abbrev pub EachNumberIsNew : Type 0
EachNumberIsNew =
    (s : State) (es : List Entry) → AllByRecursion IsAppended es → AreEntries s es
    → AreNew (highest s) es
