-- What is in transit between the nodes, and where its numbers lie.
use Rattle.std.specs.Prelude.{◌<◌, ◌≤◌, ◌⊎◌, ℕ, ◌/◌, List, [], ◌∷◌, map, flat_map, Result, Ok, Err}
use Rattle.std.specs.List.{AllByRecursion}
use Rattle.clcw.specs.declared.word.Clcw.{Clcw}
use Rattle.clcw.specs.declared.fault.ClcwFault.{ClcwFault}
use Rattle.clcw.specs.Decoding.{clcw_at}
use Rattle.tc_frame.specs.declared.fault.TcFault.{TcFault}
use Rattle.tc_frame.specs.declared.frame.Check.TheVariants.{On}
use Rattle.tc_frame.specs.declared.frame.Command.{Command}
use Rattle.tc_frame.specs.Layout.{SegmentView, BodyView, Ad, Bd, Bc, FrameView}
use Rattle.tc_frame.specs.Decoding as command
use Rattle.cop1.specs.Modulo.{ahead_by}
use Rattle.cop1.specs.FopVariables.{IsActive}
use Rattle.tm_link.specs.declared.fault.TmFault.{TmFault}
use Rattle.tm_link.specs.Layout as telemetry
use Rattle.tm_link.specs.Decoding as telemetry_reading
use Rattle.nodes.specs.declared.config.Config.{Config}
use Rattle.simulated_link.specs.World.{World, IsSettled}

-- ---- frames in transit on the uplink

-- the number N(S) of a Type-AD frame
abbrev pub number_in : BodyView → List ℕ
number_in (Ad n s) = n ∷ []
number_in (Bd s) = []
number_in (Bc command) = []

-- the number N(S) of a Type-AD frame, with its unit
abbrev pub unit_in : BodyView → List (ℕ × SegmentView)
unit_in (Ad n s) = (n, s) ∷ []
unit_in (Bd s) = []
unit_in (Bc command) = []

abbrev pub command_in : BodyView → List Command
command_in (Ad n s) = []
command_in (Bd s) = []
command_in (Bc command) = command ∷ []

abbrev pub in_frame : {A : Type 0} → (BodyView → List A) → Result FrameView TcFault → List A
in_frame found (Ok frame) = found frame.body
in_frame found (Err fault) = []

abbrev pub numbers_up : World → List ℕ
numbers_up w = flat_map (λ octets. in_frame number_in (command.frame_at On octets)) w.up

abbrev pub units_up : World → List (ℕ × SegmentView)
units_up w = flat_map (λ octets. in_frame unit_in (command.frame_at On octets)) w.up

abbrev pub commands_up : World → List Command
commands_up w = flat_map (λ octets. in_frame command_in (command.frame_at On octets)) w.up

-- ---- CLCWs in transit on the downlink

abbrev pub report_read : Result Clcw ClcwFault → List Clcw
report_read (Ok report) = report ∷ []
report_read (Err fault) = []

abbrev pub report_of_frame : Result telemetry.FrameView TmFault → List Clcw
report_of_frame (Ok frame) = report_read (clcw_at frame.ocf)
report_of_frame (Err fault) = []

-- the CLCW that the octets of a telemetry frame carry
abbrev pub report_carried : Config → List ℕ → List Clcw
report_carried c octets = report_of_frame (telemetry_reading.frame_at c.frame_length octets)

abbrev pub reports_down : World → List Clcw
reports_down w = flat_map (report_carried w.ground_node.config) w.down

abbrev pub values_down : World → List ℕ
values_down w = map (λ (report : Clcw). report.value) (reports_down w)

-- ---- where the numbers lie

-- modulo 256, at most `half` below V(R), or less than `half` above it
abbrev pub IsInWindow : ℕ → ℕ → ℕ → Type 0
IsInWindow half vr n = (ahead_by n vr < half) ⊎ (ahead_by vr n ≤ half)

-- The values lie within NN(R) to `last`, in rising order. `low` is the distance of the previous
-- value from NN(R), 0 at first.
abbrev pub IsRising : (nn low : ℕ) → List Clcw → ℕ → Type 0
IsRising nn low [] last = low ≤ ahead_by last nn
IsRising nn low (report ∷ reports) last =
    (low ≤ ahead_by report.value nn) × IsRising nn (ahead_by report.value nn) reports last

pub record KeepsToWindow (w : World) : Type 0 where
  -- each Type-AD number in transit lies at most W/2 below and at most W/2 - 1 above V(R)
  pub up : AllByRecursion (IsInWindow (w.spacecraft.farm.width / 2) w.spacecraft.farm.vr)
      (numbers_up w)
  -- V(R) and the values of the CLCWs lie within NN(R) to V(S), the CLCWs in rising order
  pub down : IsSettled w → IsActive w.ground_node.fop.state
      → IsRising w.ground_node.fop.nn 0 (reports_down w) w.spacecraft.farm.vr
      × (ahead_by w.spacecraft.farm.vr w.ground_node.fop.nn
      ≤ ahead_by w.ground_node.fop.vs w.ground_node.fop.nn)
