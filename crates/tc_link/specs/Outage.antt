-- Telemetry after an outage of any length.
use Rattle.std.specs.Prelude.{◌≡◌, ◌≤◌, ℕ, List, ◌++◌, length, drop}
use Rattle.std.specs.List.{AllByRecursion}
use Rattle.tm_link.specs.Stream.{IsClose}
use Rattle.nodes.specs.declared.config.Config.{Config}
use Rattle.nodes.specs.Parameters.{IsConfig}
use Rattle.tc_link.specs.Telemetry.{Downlink, DownlinkStep, IsDownlinkStep, AreSomeOf}
use Rattle.tc_link.specs.Telemetry.{new_downlink, downlink_run, packets_down}

-- Since a moment, at most one packet was delivered, and then packets that were queued, in order,
-- each once.
pub record HasComeSince (moment now : Downlink) : Type 0 where
  pub first : List (List ℕ)
  pub others : List (List ℕ)
  pub most : length first ≤ 1
  pub parts : packets_down now ≡ packets_down moment ++ (first ++ others)
  pub in_order : AreSomeOf others now.queued

-- This holds after any steps, whatever was lost before, while since then fewer than 256 frames are
-- lost between two that arrive.
abbrev pub AtMostTheFirst : Type 0
AtMostTheFirst =
    (c : Config) (before since : List DownlinkStep) → IsConfig c
    → AllByRecursion IsDownlinkStep before → AllByRecursion IsDownlinkStep since
    → let moment : Downlink = downlink_run (new_downlink c) before in
    let now : Downlink = downlink_run moment since in
    IsClose (drop (length moment.came) now.came) → HasComeSince moment now
