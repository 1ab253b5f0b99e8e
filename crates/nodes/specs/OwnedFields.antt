-- The segment that the fields of an owned segment represent, and which segments fit into frames.
use Rattle.std.specs.Prelude.{◌<◌, ◌≤◌, length}
use Rattle.tc_frame.specs.Layout.{SegmentView}
use Rattle.nodes.specs.declared.owned_segment.OwnedSegment.TheInside.{Inside}

abbrev pub state_of : Inside → SegmentView
state_of s = record { header = s.header; payload = s.payload.items }

-- the segment fits into a frame with FECF (CCSDS 232.0-B-4, 4.1.2.7)
pub record FitsFrame (s : SegmentView) : Type 0 where
  pub map : s.header.map < 64
  pub least : 1 ≤ length s.payload
  pub most : length s.payload ≤ 1016

abbrev pub IsSound : Inside → Type 0
IsSound s = FitsFrame (state_of s)
