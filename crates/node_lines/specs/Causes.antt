-- Why a line is unreadable, in words.
use Rattle.std.specs.Prelude.{ℕ, if◌then◌else◌, List, [], ◌∷◌, codes, ◌||◌}
use Rattle.std.specs.Bool.{nat_eq}
use Rattle.std.specs.List.{ends_with, starts_with}
use Rattle.std.specs.Str.{bytes_eq}
use Rattle.streams.specs.Words.{words_in}

-- the first words of lines of scripts and of nodes, each with the cause if a line that begins with
-- it is unreadable
abbrev pub forms : List (List ℕ × List ℕ)
forms =
    (codes "config", codes "it is not config FIELD N, before all others")
    ∷ (codes "submit", codes "it is not submit M HEX")
    ∷ (codes "bypass", codes "it is not bypass M HEX")
    ∷ (codes "telemetry", codes "it is not telemetry HEX")
    ∷ (codes "init", codes "it is not init none, init check, init unlock or init set X")
    ∷ (codes "vs", codes "it is not vs X")
    ∷ (codes "window", codes "it is not window X")
    ∷ (codes "limit", codes "it is not limit X")
    ∷ (codes "timer", codes "it is not timer X")
    ∷ (codes "resume", codes "it is not resume X")
    ∷ (codes "terminate", codes "it is not terminate alone")
    ∷ (codes "send", codes "it is not send alone")
    ∷ (codes "report", codes "it is not report alone")
    ∷ (codes "tick", codes "it is not tick alone")
    ∷ (codes "take", codes "it is not take alone")
    ∷ (codes "takebypass", codes "it is not takebypass alone")
    ∷ (codes "show", codes "it is not show alone")
    ∷ (codes "up", codes "it is for the link, as up deliver, up lose or up damage HEX")
    ∷ (
      codes "down",
      codes "it is for the link, as down deliver, down lose, down clcw or down damage HEX",
    )
    ∷ (codes "frame", codes "it is for a spacecraft alone, as frame HEX")
    ∷ (codes "clcw", codes "it is for a ground alone, as clcw HEX")
    ∷ (codes "help", codes "it is for a node alone, as help")
    ∷ []

-- the cause for a line whose first word is this
abbrev pub cause_by : List (List ℕ × List ℕ) → List ℕ → List ℕ
cause_by [] word = codes "no line begins with its first word"
cause_by (row ∷ more) word = if bytes_eq word row.0 then row.1 else cause_by more word

abbrev pub first_of : List (List ℕ) → List ℕ
first_of [] = []
first_of (word ∷ words) = word

-- why a line is unreadable, if it is
abbrev pub cause_in : List ℕ → List ℕ
cause_in line =
    if ends_with nat_eq line (13 ∷ []) then codes "it ends with a carriage return"
    else if starts_with nat_eq line (32 ∷ []) || ends_with nat_eq line (32 ∷ [])
    then codes "it begins or ends with a space"
    else cause_by forms (first_of (words_in line))
