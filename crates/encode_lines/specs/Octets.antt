-- The octets that lines represent, and what an encoder writes for a text.
use Rattle.std.specs.Prelude.{◌≡◌, ℕ, Bool, List, [], ◌++◌, Option, unwrap_or, is_some, Result}
use Rattle.std.specs.Prelude.{IfOk, ◌+◌, ◌==◌, ◌&&◌, if◌then◌else◌, ◌∷◌, Some, None}
use Rattle.std.specs.Prelude.{option_and_then, not}
use Rattle.std.specs.Option.{option_or}
use Rattle.tc_frame.specs.declared.frame.Check.{Check}
use Rattle.streams.specs.Words.{words_in}
use Rattle.streams.specs.Lines.{lines_of}
use Rattle.streams.specs.Player.{Playing}
use Rattle.encode_lines.specs.Fields.{without_number}
use Rattle.encode_lines.specs.Frames.{frame_in, frame_octets}
use Rattle.encode_lines.specs.Held.{claims_octets, held_in}
use Rattle.encode_lines.specs.Packets.{packet_in, packet_octets}
use Rattle.encode_lines.specs.declared.encoder.Encoder.{Encoder}

-- What a call that puts octets appends, if there are any.

-- octets are appended, and the answer is whether there are any to append
abbrev pub Puts : {E : Type 0} → Result Bool E → List ℕ → List ℕ → Option (List ℕ) → Type 0
Puts result old new octets =
    IfOk result (λ good. (new ≡ old ++ unwrap_or octets []) × (good ≡ is_some octets))

-- The octets of lines.

-- the octets of the packet that these words spell, or else those that they hold
abbrev pub packet_or_held : List (List ℕ) → Option (List ℕ)
packet_or_held words = option_or (option_and_then packet_octets (packet_in words)) (held_in words)

-- the octets of the frame that these words spell, or else of a packet, or else those that they hold
abbrev pub words_octets : Check → List (List ℕ) → Option (List ℕ)
words_octets check words =
    option_or (option_and_then (frame_octets check) (frame_in words)) (packet_or_held words)

-- and, if lines without octets are skipped, none for a line that is not meant to carry any
abbrev pub octets_or_skipped : Bool → Check → List (List ℕ) → Option (List ℕ)
octets_or_skipped skips check words =
    if skips && not (claims_octets words) then Some [] else words_octets check words

-- the octets of a line; an empty line or a note has none
abbrev pub line_octets : Bool → Check → List ℕ → Option (List ℕ)
line_octets skips check [] = Some []
line_octets skips check (octet ∷ more) =
    if octet == 35 then Some []
    else octets_or_skipped skips check (without_number (words_in (octet ∷ more)))

-- ---- lines, one after another

-- the octets of a line and those that follow; nothing follows an unreadable line
abbrev pub and_then : Option (List ℕ) → List ℕ → List ℕ
and_then None more = []
and_then (Some octets) more = octets ++ more

-- the octets of lines, up to the first unreadable one
abbrev pub octets_of_lines : Bool → Check → List (List ℕ) → List ℕ
octets_of_lines skips check [] = []
octets_of_lines skips check (line ∷ lines) =
    and_then (line_octets skips check line) (octets_of_lines skips check lines)

-- this number if a line has no octets, else what the lines after it give
abbrev pub or_number : Option (List ℕ) → ℕ → Option ℕ → Option ℕ
or_number None n more = Some n
or_number (Some octets) n more = more

-- the number of the first unreadable line, with this many lines before these
abbrev pub unreadable_after : Bool → Check → ℕ → List (List ℕ) → Option ℕ
unreadable_after skips check n [] = None
unreadable_after skips check n (line ∷ lines) =
    or_number (line_octets skips check line) (n + 1) (unreadable_after skips check (n + 1) lines)

-- the octets of a text, and the number of its first unreadable line
abbrev pub octets_in : Bool → Check → List ℕ → List ℕ
octets_in skips check text = octets_of_lines skips check (lines_of text)

abbrev pub unreadable_in : Bool → Check → List ℕ → Option ℕ
unreadable_in skips check text = unreadable_after skips check 0 (lines_of text)

-- An encoder as a player of lines; it writes nothing after the first unreadable line.

-- before the first line
abbrev pub fresh : Bool → Check → Encoder
fresh skips check = record { skips = skips; check = check; lines = 0; refused = None }

abbrev pub answer_to : Encoder → List ℕ → List ℕ
answer_to e line = if is_some e.refused then [] else unwrap_or (line_octets e.skips e.check line) []

-- the number of the first unreadable line, once this line is read
abbrev pub refused_after : Encoder → List ℕ → Option ℕ
refused_after e line =
    if is_some e.refused then e.refused
    else if is_some (line_octets e.skips e.check line) then None
    else Some (e.lines + 1)

abbrev pub encoding : Playing Encoder
encoding = record {
  answer = answer_to;
  after = λ e line. record e { lines = e.lines + 1; refused = refused_after e line };
  is_good = λ e line. not (is_some (refused_after e line));
}
