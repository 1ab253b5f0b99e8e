-- The bounds on what a ground holds, from its configuration.
use Rattle.std.specs.Prelude.{◌≡◌, ◌≤◌, ◌+◌, ◌/◌, ℕ, List, length, option_to_list}
use Rattle.std.specs.List.{AllByRecursion}
use Rattle.tc_frame.specs.Layout.{SegmentView}
use Rattle.cop1.specs.Units.{FopState, SentUnit}
use Rattle.nodes.specs.declared.config.Config.{Config}
use Rattle.nodes.specs.Ground.{GroundState, unsent_segments, outstanding}

-- each of these segments has at most this many octets of data
abbrev pub AreShort : ℕ → List SegmentView → Type 0
AreShort most segments = AllByRecursion (λ (s : SegmentView). length s.payload ≤ most) segments

-- the bounds of every ground; the telemetry packets that wait to be taken have no bound
pub record IsBounded (s : GroundState) : Type 0 where
  -- the segments that were sent and are not acknowledged
  pub sent : length s.fop.sent ≤ s.config.width / 2
  -- the segments that were not sent
  pub unsent : length (unsent_segments s) ≤ s.config.queue_slots
  -- the data octets of each of these segments
  pub parts : AreShort s.config.part (outstanding s)
  -- the bypass packets, each as one segment
  pub past : length s.fop.bypass ≤ s.config.queue_slots
  pub past_parts : AreShort s.config.part s.fop.bypass
  pub past_packets : AreShort s.config.max_packet s.fop.bypass
  -- the submissions that are not acknowledged whole
  pub submissions : length s.fates.left ≤ s.config.width / 2 + s.config.queue_slots
  -- the octets of the telemetry packet that has arrived in part
  pub begun : length s.extractor.part ≤ 65541

-- The same bounds on the fields of a ground.

abbrev pub AreSentShort : ℕ → List (SentUnit SegmentView) → Type 0
AreSentShort most sent =
    AllByRecursion (λ (u : SentUnit SegmentView). length u.unit.payload ≤ most) sent

-- the bounds of the ground's sender; the sender itself bounds the number of sent segments
pub record IsSenderOf (c : Config) (f : FopState SegmentView) : Type 0 where
  pub room : f.room ≡ c.width / 2
  pub sent : AreSentShort c.part f.sent
  pub waiting : AreShort c.part (option_to_list f.waiting)
  pub past : length f.bypass ≤ c.queue_slots
  pub past_parts : AreShort c.part f.bypass
  pub past_packets : AreShort c.max_packet f.bypass
