-- The meaning of each line of a script or for a node.
use Rattle.std.specs.Prelude.{◌≤◌, ℕ, max, ◌==◌, if◌then◌else◌, List, [], ◌∷◌, codes, Option}
use Rattle.std.specs.Prelude.{Some, None, option_map, option_and_then, unwrap_or}
use Rattle.std.specs.Map.{lookup}
use Rattle.std.specs.Option.{option_or}
use Rattle.std.specs.Str.{bytes_eq}
use denote.Bor.{Bor}
use Rattle.cop1.specs.declared.vocabulary.Directive.{Directive}
use Rattle.cop1.specs.declared.vocabulary.Directive.TheVariants as directives
use Rattle.nodes.specs.declared.parameter.Parameter.{Parameter}
use Rattle.nodes.specs.Parameters.{row_of, parameter_named}
use Rattle.nodes.specs.declared.event.Event.{Event}
use Rattle.nodes.specs.declared.event.Event.TheVariants as events
use Rattle.node_lines.specs.declared.line.Ask as code
use Rattle.node_lines.specs.declared.line.Ask.TheVariants as asks
use Rattle.node_lines.specs.declared.line.Line as code_line
use Rattle.node_lines.specs.declared.line.Line.TheVariants as lines
use Rattle.streams.specs.Words.{number_in_word, octets_in_word, two_words, rest_after}
use Rattle.streams.specs.Words.{after_words, octets_of_digits}

-- what a line asks of a node, or of the simulated link
pub data AskView : Type 0 where
  -- an event; at a single ground, `Telemetry` means that these octets arrive as telemetry, and at a
  -- single spacecraft that this packet is queued
  Happening : Event → AskView
  -- these octets arrive as a telecommand frame
  Frame : (octets : List ℕ) → AskView
  -- these octets arrive as a CLCW by itself
  ControlWord : (octets : List ℕ) → AskView
  -- the node shows its state, or the link its records
  Show : AskView

pub data LineView : Type 0 where
  -- it is empty, or a note
  Skipped : LineView
  -- a managed parameter gets this value
  Setting : Parameter → ℕ → LineView
  Asking : AskView → LineView
  -- the lines that the node reads are listed
  Helping : LineView
  Unreadable : LineView

-- a borrow of these octets, as an event has them, wherever they lie in memory
abbrev pub borrow_of : List ℕ → Bor (List ℕ)
borrow_of octets = record { ref_ptr = (0, 0); now = octets }

-- ---- lines with neither a number nor octets, by their whole text

abbrev pub directed : Directive → AskView
directed directive = Happening (events.Directive directive)

abbrev pub link_asks : List (List ℕ × AskView)
link_asks =
    (codes "up deliver", Happening events.UpDeliver)
    ∷ (codes "up lose", Happening events.UpLose)
    ∷ (codes "down deliver", Happening events.DownDeliver)
    ∷ (codes "down lose", Happening events.DownLose)
    ∷ (codes "down clcw", Happening events.DownClcw)
    ∷ []

abbrev pub event_asks : List (List ℕ × AskView)
event_asks =
    (codes "send", Happening events.Send)
    ∷ (codes "report", Happening events.Report)
    ∷ (codes "tick", Happening events.Tick)
    ∷ (codes "take", Happening events.Take)
    ∷ (codes "takebypass", Happening events.TakeBypass)
    ∷ link_asks

abbrev pub plain_asks : List (List ℕ × AskView)
plain_asks =
    (codes "show", Show)
    ∷ (codes "init none", directed directives.InitWithoutCheck)
    ∷ (codes "init check", directed directives.InitWithCheck)
    ∷ (codes "init unlock", directed directives.InitUnlock)
    ∷ (codes "terminate", directed directives.Terminate)
    ∷ event_asks

-- ---- lines that begin with words and continue with a number or octets

-- how a line continues after its words, and what it asks
pub data Form : Type 0 where
  -- a number, at most this one
  Number : (most : ℕ) → (ℕ → AskView) → Form
  Octets : (List ℕ → AskView) → Form
  -- the number of a MAP, and octets
  Submission : (ℕ → List ℕ → AskView) → Form

abbrev pub numbered_asks : List (List ℕ × Form)
numbered_asks =
    (codes "init set ", Number 255 (λ x. directed (directives.InitSetVr x)))
    ∷ (codes "vs ", Number 255 (λ x. directed (directives.SetVs x)))
    ∷ (codes "window ", Number 255 (λ x. directed (directives.SetWindow x)))
    ∷ (codes "limit ", Number 255 (λ x. directed (directives.SetLimit x)))
    ∷ (codes "timer ", Number 65535 (λ x. directed (directives.SetTimer x)))
    ∷ (codes "resume ", Number 255 (λ x. Happening (events.Resume x)))
    ∷ []

abbrev pub worded_asks : List (List ℕ × Form)
worded_asks =
    (codes "submit ", Submission (λ m octets. Happening (events.Submit m (borrow_of octets))))
    ∷ (codes "bypass ", Submission (λ m octets. Happening (events.Bypass m (borrow_of octets))))
    ∷ (codes "up damage ", Octets (λ octets. Happening (events.UpDamage (borrow_of octets))))
    ∷ (codes "down damage ", Octets (λ octets. Happening (events.DownDamage (borrow_of octets))))
    ∷ (codes "telemetry ", Octets (λ octets. Happening (events.Telemetry (borrow_of octets))))
    ∷ (codes "frame ", Octets Frame)
    ∷ (codes "clcw ", Octets ControlWord)
    ∷ numbered_asks

-- what a line asks, from what follows its words
abbrev pub ask_after : Form → List ℕ → Option AskView
ask_after (Number most ask) rest = option_map ask (number_in_word most rest)
ask_after (Octets ask) rest = option_map ask (octets_in_word rest)
ask_after (Submission ask) rest =
    option_and_then (λ two. option_and_then (λ map. option_map (ask map) (octets_in_word two.1))
    (number_in_word 255 two.0)) (two_words rest)

-- what a line asks, from the first row whose words it begins with
abbrev pub ask_by : List (List ℕ × Form) → List ℕ → Option AskView
ask_by [] line = None
ask_by (row ∷ more) line =
    after_words (ask_after row.1) (rest_after row.0 line) (ask_by more line)

abbrev pub ask_in : List ℕ → Option AskView
ask_in line = option_or (lookup (bytes_eq line) plain_asks) (ask_by worded_asks line)

-- ---- settings

-- the greatest readable number for a parameter: 65,542, or the maximum of its range if that is
-- greater
abbrev pub most_for : Parameter → ℕ
most_for parameter = max (row_of parameter).most 65542

-- a parameter's name and its value
abbrev pub setting_in : List ℕ → Option LineView
setting_in rest =
    option_and_then (λ two. option_and_then (λ parameter. option_map (λ n. Setting parameter n)
    (number_in_word (most_for parameter) two.1)) (parameter_named two.0)) (two_words rest)

-- ---- a line

abbrev pub readable_line : List ℕ → Option LineView
readable_line line =
    if bytes_eq line (codes "help") then Some Helping
    else after_words setting_in (rest_after (codes "config ") line)
    (option_map Asking (ask_in line))

abbrev pub line_in : List ℕ → LineView
line_in [] = Skipped
line_in (octet ∷ more) =
    if octet == 35 then Skipped else unwrap_or (readable_line (octet ∷ more)) Unreadable

-- ---- a line as the code has it: its octets are still digits

-- the octets that an ask carries, or their digits instead; none if it carries none
abbrev pub octets_in : code.Ask → List ℕ
octets_in (asks.Happening (events.Submit m octets)) = octets.now
octets_in (asks.Happening (events.Bypass m octets)) = octets.now
octets_in (asks.Happening (events.UpDamage octets)) = octets.now
octets_in (asks.Happening (events.DownDamage octets)) = octets.now
octets_in (asks.Happening (events.Telemetry octets)) = octets.now
octets_in (asks.Happening event) = []
octets_in (asks.Frame octets) = octets.now
octets_in (asks.ControlWord octets) = octets.now
octets_in asks.Show = []

-- an ask with these octets instead of its own
abbrev pub ask_with : code.Ask → List ℕ → AskView
ask_with (asks.Happening (events.Submit m old)) octets =
    Happening (events.Submit m (borrow_of octets))
ask_with (asks.Happening (events.Bypass m old)) octets =
    Happening (events.Bypass m (borrow_of octets))
ask_with (asks.Happening (events.UpDamage old)) octets =
    Happening (events.UpDamage (borrow_of octets))
ask_with (asks.Happening (events.DownDamage old)) octets =
    Happening (events.DownDamage (borrow_of octets))
ask_with (asks.Happening (events.Telemetry old)) octets =
    Happening (events.Telemetry (borrow_of octets))
ask_with (asks.Happening event) octets = Happening event
ask_with (asks.Frame old) octets = Frame octets
ask_with (asks.ControlWord old) octets = ControlWord octets
ask_with asks.Show octets = Show

-- an ask, wherever its octets lie in memory
abbrev pub ask_view : code.Ask → AskView
ask_view ask = ask_with ask (octets_in ask)

-- an ask that has digits instead of octets
abbrev pub ask_said : code.Ask → AskView
ask_said ask = ask_with ask (octets_of_digits (octets_in ask))

abbrev pub line_view : code_line.Line → LineView
line_view lines.Skipped = Skipped
line_view (lines.Setting parameter n) = Setting parameter n
line_view (lines.Asking ask) = Asking (ask_said ask)
line_view lines.Helping = Helping
line_view lines.Unreadable = Unreadable

-- what is read is in range: a parameter's number is at most its greatest readable number
abbrev pub IsWellRead : code_line.Line → Type 0
IsWellRead (lines.Setting parameter n) = n ≤ most_for parameter
IsWellRead line = Unit {0}
