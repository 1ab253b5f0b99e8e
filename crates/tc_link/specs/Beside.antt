-- What may happen on a link while a session continues: events that begin no session, and steps that
-- leave the session as it is.
use Rattle.std.specs.Prelude.{◌≡◌, List, [], ◌∷◌, true, false}
use Rattle.std.specs.List.{AllByRecursion}
use Rattle.octets.specs.Number.{IsOctets}
use Rattle.nodes.specs.declared.config.Config.{Config}
use Rattle.nodes.specs.Fates.{shows_one}
use Rattle.nodes.specs.Ground.{ground_step}
use Rattle.nodes.specs.Ground as ground_calls
use Rattle.nodes.specs.Parameters.{IsConfig}
use Rattle.nodes.specs.Spacecraft.{spacecraft_step}
use Rattle.nodes.specs.Spacecraft as spacecraft_calls
use Rattle.nodes.specs.declared.heard.Heard.{Heard}
use Rattle.nodes.specs.declared.heard.Heard.TheVariants as heard_cases
use Rattle.nodes.specs.declared.heard.HeardReport.{HeardReport}
use Rattle.nodes.specs.declared.heard.HeardReport.TheVariants.{Used}
use Rattle.simulated_link.specs.World.{World, BeginsNoSession, new_world, world_step}
use Rattle.tc_link.specs.AnyPast.{LinkStep, Happens, TakeTelemetry, Receives, Hears, HearsReport}
use Rattle.tc_link.specs.AnyPast.{ForgetTelemetry, NewGround, NewSpacecraft, IsLinkStep, link_step}
use Rattle.tc_link.specs.AnyPast.{is_left, link_run, word_step}
use Rattle.tc_link.specs.FalseAlarms.{alert_in}
use Rattle.tc_link.specs.Known.{SetsNoNumber}

-- a CLCW does not reach the sender
abbrev pub IsUnused : HeardReport → Type 0
IsUnused Used = ⊥
IsUnused _ = Unit {0}

-- octets that reach the ground do not form a frame, or form a frame of another channel, or a frame
-- with such a CLCW
abbrev pub BringsNone : Heard → Type 0
BringsNone (heard_cases.Frame gap packets report alert) = IsUnused report
BringsNone _ = Unit {0}

-- The session continues with a step. The step is an event that begins no session, takes telemetry,
-- or begins the extraction of telemetry again. Or octets come from outside the link that leave the
-- receiver as it was except for FARM-B, or that bring the ground no CLCW that is used.
abbrev pub LeavesSession : World → LinkStep → Type 0
LeavesSession w (Happens event) = BeginsNoSession w event
LeavesSession w TakeTelemetry = Unit {0}
LeavesSession w ForgetTelemetry = Unit {0}
LeavesSession w (Receives octets) =
    is_left w.spacecraft.farm
    (spacecraft_step w.spacecraft (spacecraft_calls.Receive octets)).after.farm
    ≡ true
LeavesSession w (Hears octets) =
    BringsNone (ground_step w.ground_node (ground_calls.Telemetry octets)).answer
LeavesSession w (HearsReport octets) = IsUnused (word_step w octets).answer.report
LeavesSession w NewGround = ⊥
LeavesSession w (NewSpacecraft kept) = ⊥

-- the session continues with each of these steps
abbrev pub SessionLasts : World → List LinkStep → Type 0
SessionLasts w [] = Unit {0}
SessionLasts w (step ∷ more) = LeavesSession w step × SessionLasts (link_step w step) more

-- a step does not set V(S), and none of these steps does
abbrev pub LeavesNumbers : World → LinkStep → Type 0
LeavesNumbers w (Happens event) = SetsNoNumber w event
LeavesNumbers w _ = Unit {0}

abbrev pub SetsNone : World → List LinkStep → Type 0
SetsNone w [] = Unit {0}
SetsNone w (step ∷ more) = LeavesNumbers w step × SetsNone (link_step w step) more

-- a step is not answered with an alert that shows a broken condition, and none of these steps is
abbrev pub ShowsNothing : World → LinkStep → Type 0
ShowsNothing w (Happens event) = shows_one (alert_in (world_step w event).answer) ≡ false
ShowsNothing w _ = Unit {0}

abbrev pub ShowsNone : World → List LinkStep → Type 0
ShowsNone w [] = Unit {0}
ShowsNone w (step ∷ more) = ShowsNothing w step × ShowsNone (link_step w step) more

-- ---- a run in which octets from outside the link are octets

-- octets from outside the link are whole numbers from 0 to 255
abbrev pub CarriesOctets : LinkStep → Type 0
CarriesOctets (Receives octets) = IsOctets octets
CarriesOctets (Hears octets) = IsOctets octets
CarriesOctets (HearsReport octets) = IsOctets octets
CarriesOctets _ = Unit {0}

-- such a run leads from a new world to this one
pub record HasOctetPast (w : World) : Type 0 where
  pub config : Config
  pub ranges : IsConfig config
  pub steps : List LinkStep
  pub numbers : AllByRecursion IsLinkStep steps
  pub octets : AllByRecursion CarriesOctets steps
  pub led : link_run (new_world config) steps ≡ w
