-- Each string of octets in transit can be read by the node to which it is sent.
use Rattle.std.specs.Prelude.{◌≡◌, List, ℕ, length, Ok}
use Rattle.std.specs.List.{AllByRecursion}
use Rattle.clcw.specs.declared.word.Clcw.{Clcw}
use Rattle.clcw.specs.Decoding.{clcw_at}
use Rattle.tc_frame.specs.declared.frame.Check.TheVariants.{On}
use Rattle.tc_frame.specs.Layout.{FrameView}
use Rattle.tc_frame.specs.Decoding as command
use Rattle.tm_link.specs.Layout as telemetry
use Rattle.tm_link.specs.Decoding as telemetry_reading
use Rattle.nodes.specs.declared.config.Config.{Config}
use Rattle.simulated_link.specs.World.{World}

-- octets of a telecommand frame of the link's spacecraft and virtual channel
pub record IsCommandOf (c : Config) (octets : List ℕ) : Type 0 where
  pub frame : FrameView
  pub reads : command.frame_at On octets ≡ Ok frame
  pub scid : frame.scid ≡ c.scid
  pub vcid : frame.vcid ≡ c.vcid

-- octets of a telemetry frame of the link's spacecraft, virtual channel and length, with a CLCW
-- about its telecommand channel
pub record IsTelemetryOf (c : Config) (octets : List ℕ) : Type 0 where
  pub size : length octets ≡ c.frame_length
  pub frame : telemetry.FrameView
  pub reads : telemetry_reading.frame_at c.frame_length octets ≡ Ok frame
  pub scid : frame.scid ≡ c.scid
  pub vcid : frame.vcid ≡ c.tm_vcid
  pub report : Clcw
  pub word : clcw_at frame.ocf ≡ Ok report
  pub own : report.vcid ≡ c.vcid

pub record AllReadable (w : World) : Type 0 where
  -- both nodes have one configuration
  pub one : w.spacecraft.config ≡ w.ground_node.config
  pub up : AllByRecursion (IsCommandOf w.spacecraft.config) w.up
  pub down : AllByRecursion (IsTelemetryOf w.ground_node.config) w.down
