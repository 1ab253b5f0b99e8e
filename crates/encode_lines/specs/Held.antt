-- The octets that a line holds after its words: those of a packet, a frame or a CLCW.
use Rattle.std.specs.Prelude.{ℕ, Bool, false, ◌&&◌, ◌||◌, if◌then◌else◌, List, [], ◌∷◌, codes}
use Rattle.std.specs.Prelude.{length, nat_lt, Option, Some, None, option_and_then, is_some}
use Rattle.std.specs.Str.{bytes_eq}
use Rattle.streams.specs.Words.{number_in_word, octets_in_word}
use Rattle.encode_lines.specs.Fields.{after_key}

-- the words that octets follow: those of a packet, of frames, and of CLCWs
abbrev pub holds_octets : List ℕ → Bool
holds_octets word =
    bytes_eq word (codes "packet") || bytes_eq word (codes "sent")
    || bytes_eq word (codes "frame")
    || bytes_eq word (codes "telemetry")
    || bytes_eq word (codes "report")
    || bytes_eq word (codes "clcw")

-- the words that a MAP and a packet on it follow
abbrev pub holds_packet : List ℕ → Bool
holds_packet word =
    bytes_eq word (codes "packet") || bytes_eq word (codes "bypass")
    || bytes_eq word (codes "submit")

-- the digits of the octets that these words hold
abbrev pub digits_in : List (List ℕ) → Option (List ℕ)
digits_in (kind ∷ digits ∷ []) = if holds_octets kind then Some digits else None
digits_in (kind ∷ map ∷ digits ∷ []) =
    if holds_packet kind && is_some (number_in_word 63 map) then Some digits else None
digits_in words = None

-- the octets that these words hold, as pairs of digits of either case
abbrev pub held_in : List (List ℕ) → Option (List ℕ)
held_in words = option_and_then octets_in_word (digits_in words)

-- Which lines have octets, or were meant to have some.

-- the second word of each line of a frame or a packet begins so
abbrev pub begins_fields : List ℕ → Bool
begins_fields word =
    is_some (after_key (codes "scid=") word) || is_some (after_key (codes "secondary=") word)

-- whether a line of these words is meant to carry octets
abbrev pub claims_octets : List (List ℕ) → Bool
claims_octets (kind ∷ second ∷ more) =
    begins_fields second
    || (holds_octets kind || holds_packet kind) && nat_lt (length more) 2
claims_octets words = false
