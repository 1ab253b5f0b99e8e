-- The gap that the ground reports for a telemetry frame: the number of frames that were lost.
use Rattle.std.specs.Prelude.{◌≡◌, ◌≢◌, ℕ, suc, ◌%◌, List, [], ◌∷◌, Bool, true, false, Option, Some}
use Rattle.std.specs.Prelude.{None, option_map, Result, Ok}
use Rattle.std.specs.List.{AllByRecursion}
use Rattle.tm_link.specs.declared.gap.Gap.{Gap}
use Rattle.tm_link.specs.declared.gap.Gap.TheVariants.{First, Lost}
use Rattle.nodes.specs.declared.config.Config.{Config}
use Rattle.nodes.specs.declared.event.Event.TheVariants as events
use Rattle.nodes.specs.declared.heard.Heard.TheVariants as heard_cases
use Rattle.nodes.specs.Parameters.{IsConfig}
use Rattle.simulated_link.specs.declared.fault.SimFault.{SimFault}
use Rattle.simulated_link.specs.Replies.{ReplyView, Down}
use Rattle.simulated_link.specs.World.{world_step}
use Rattle.tc_link.specs.Telemetry.{Downlink, DownlinkStep, IsDownlinkStep, new_downlink}
use Rattle.tc_link.specs.Telemetry.{downlink_run}

-- the number of frames lost since the last one that arrived; no number if no frame has arrived
abbrev pub lost_since : Option ℕ → List Bool → Option ℕ
lost_since lost [] = lost
lost_since lost (true ∷ came) = lost_since (Some 0) came
lost_since lost (false ∷ came) = lost_since (option_map suc lost) came

-- the gap that this number of lost frames makes before the next frame that arrives
abbrev pub gap_after : Option ℕ → Gap
gap_after None = First
gap_after (Some lost) = Lost (lost % 256)

-- the gap in an answer
abbrev pub gap_in : Result ReplyView SimFault → Option Gap
gap_in (Ok (Down (heard_cases.Frame gap packets report alert))) = Some gap
gap_in answer = None

-- if a frame is in transit and arrives next, the ground reports the gap before this frame
abbrev pub ReportsLoss : Downlink → Type 0
ReportsLoss d =
    d.world.down ≢ []
    → gap_in (world_step d.world events.DownDeliver).answer
    ≡ Some (gap_after (lost_since None d.came))

-- this holds at every moment of a run
abbrev pub EachGapIsLoss : Type 0
EachGapIsLoss =
    (c : Config) (steps : List DownlinkStep) → IsConfig c → AllByRecursion IsDownlinkStep steps
    → ReportsLoss (downlink_run (new_downlink c) steps)
