-- A CLCW that the ground hears again.
use Rattle.std.specs.Prelude.{◌≡◌, ◌≢◌, List, ℕ, [], ◌∷◌, true, false, None, Ok}
use Rattle.octets.specs.Number.{IsOctets}
use Rattle.cop1.specs.FopDirective.{is_initiation}
use Rattle.cop1.specs.declared.vocabulary.Directive.TheVariants.{SetLimit}
use Rattle.nodes.specs.declared.config.Config.{Config}
use Rattle.tm_link.specs.Layout.{FrameView}
use Rattle.tm_link.specs.Decoding.{frame_at}
use Rattle.nodes.specs.declared.heard.Heard.{Heard}
use Rattle.nodes.specs.declared.heard.Heard.TheVariants.{Invalid, Foreign, Frame}
use Rattle.nodes.specs.declared.heard.HeardClcw.{HeardClcw}
use Rattle.nodes.specs.declared.heard.HeardReport.TheVariants.{OtherChannel}
use Rattle.nodes.specs.Parameters.{IsConfig}
use Rattle.nodes.specs.Ground.{GroundState, GroundOutcome, GroundEvent, Direct}
use Rattle.nodes.specs.Ground.{Resume, Telemetry, ControlWord}
use Rattle.nodes.specs.Ground.{new_ground, ground_step, can_resume, is_closed, is_own_telemetry}
use Rattle.tc_link.specs.Beside.{IsUnused, BringsNone}

-- the ground after these calls
abbrev pub ground_run : GroundState → List GroundEvent → GroundState
ground_run s [] = s
ground_run s (event ∷ more) = ground_run (ground_step s event).after more

-- a call brings no CLCW that is used, begins no session, and does not set the transmission limit to
-- 1
abbrev pub BringsNoReport : GroundState → GroundEvent → Type 0
BringsNoReport s (Direct directive) =
    (is_initiation directive ≡ true → is_closed s.fop.state ≡ false) × (directive ≢ SetLimit 1)
BringsNoReport s (Resume value) = can_resume s value ≡ false
BringsNoReport s (Telemetry octets) = BringsNone (ground_step s (Telemetry octets)).answer
BringsNoReport s (ControlWord octets) =
    IsUnused (ground_step s (ControlWord octets)).answer.report
BringsNoReport s _ = Unit {0}

-- each of these calls does the same
abbrev pub BringNoReport : GroundState → List GroundEvent → Type 0
BringNoReport s [] = Unit {0}
BringNoReport s (event ∷ more) =
    BringsNoReport s event × BringNoReport (ground_step s event).after more

-- the octets arrive again: the answer is the same about the CLCW, without an alert, and nothing
-- else changes
abbrev pub repeated_outcome : GroundState → HeardClcw → GroundOutcome HeardClcw
repeated_outcome s once = record {
  answer = record { report = once.report; alert = None };
  after = s;
}

-- After any calls, the ground is given a CLCW by itself. The CLCW changes nothing when it is
-- repeated, as long as no other CLCW was used, no session began, and no directive set the
-- transmission limit to 1.
abbrev pub RepeatsNothing : Type 0
RepeatsNothing =
    (c : Config) (before since : List GroundEvent) (octets : List ℕ) → IsConfig c → IsOctets octets
    → let once : GroundOutcome HeardClcw =
    ground_step (ground_run (new_ground c) before) (ControlWord octets) in
    let now : GroundState = ground_run once.after since in
    BringNoReport once.after since
    → ground_step now (ControlWord octets) ≡ repeated_outcome now once.answer

-- the answer about a CLCW by itself, if a telemetry frame carried it
abbrev pub word_of : Heard → HeardClcw
word_of (Frame gap packets report alert) = record { report = report; alert = alert }
word_of (Invalid fault) = record { report = OtherChannel; alert = None }
word_of Foreign = record { report = OtherChannel; alert = None }

-- The same holds if a telemetry frame of the ground's channel carried the CLCW at first.
abbrev pub RepeatsNothingOfFrames : Type 0
RepeatsNothingOfFrames =
    (c : Config) (before since : List GroundEvent) (octets : List ℕ) (frame : FrameView)
    → IsConfig c → frame_at c.frame_length octets ≡ Ok frame → is_own_telemetry c frame ≡ true
    → IsOctets frame.ocf
    → let once : GroundOutcome Heard =
    ground_step (ground_run (new_ground c) before) (Telemetry octets) in
    let now : GroundState = ground_run once.after since in
    BringNoReport once.after since
    → ground_step now (ControlWord frame.ocf) ≡ repeated_outcome now (word_of once.answer)
