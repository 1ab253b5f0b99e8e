-- Which segments of Type-BD frames a spacecraft keeps.
use Rattle.std.specs.Prelude.{Bool, true, false, not, ◌&&◌}
use Rattle.tc_frame.specs.declared.frame.SegmentFlags.{SegmentFlags}
use Rattle.tc_frame.specs.declared.frame.SegmentFlags.TheVariants.{First, Continuing, Last, Alone}
use Rattle.tc_frame.specs.Layout.{SegmentView}
use Rattle.map_service.specs.Assembly.{is_open, is_too_long}
use Rattle.space_packet.specs.Packets.{is_packet}
use Rattle.nodes.specs.declared.config.Config.{Config}
use Rattle.nodes.specs.Parameters.{limits_of}

abbrev pub is_alone : SegmentFlags → Bool
is_alone Alone = true
is_alone First = false
is_alone Continuing = false
is_alone Last = false

-- the MAP is open, and the segment is one packet that is not too long
abbrev pub is_kept : Config → SegmentView → Bool
is_kept c segment =
    is_open (limits_of c) segment.header.map && is_alone segment.header.flags
    && not (is_too_long (limits_of c) segment.payload) && is_packet segment.payload
