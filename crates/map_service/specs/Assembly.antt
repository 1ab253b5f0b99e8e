-- What is assembled from a list of segments on a MAP. A block is a segment flagged alone, or a
-- first segment followed directly, among the segments of its MAP, by any number of continuing
-- segments and a last one (CCSDS 232.0-B-4, 4.1.3.2.2.2).
use Rattle.std.specs.Prelude.{ℕ, ◌/◌, ◌%◌, ◌^◌, List, [], ◌∷◌, ◌++◌, length, filter, Bool, not}
use Rattle.std.specs.Prelude.{◌&&◌, ◌==◌, nat_lt, if◌then◌else◌, Option, Some, None}
use Rattle.tc_frame.specs.declared.frame.SegmentFlags.{SegmentFlags}
use Rattle.tc_frame.specs.declared.frame.SegmentFlags.TheVariants.{First, Continuing, Last, Alone}
use Rattle.tc_frame.specs.Layout.{SegmentView}
use Rattle.map_service.specs.declared.limits.Limits.{Limits}
use Rattle.map_service.specs.Packets.{packets_in, are_packets, is_packet, is_some_over}

-- there are MAPs 0 to 63, and bit m is for MAP m
abbrev pub is_open : Limits → ℕ → Bool
is_open limits m = nat_lt m 64 && (limits.maps / 2 ^ m % 2 == 1)

abbrev pub of_map : ℕ → List SegmentView → List SegmentView
of_map m segments = filter (λ (s : SegmentView). s.header.map == m) segments

-- ---- the packets that octets form

abbrev pub is_too_long : Limits → List ℕ → Bool
is_too_long limits octets = nat_lt limits.max_packet (length octets)

-- the octets, if they are exactly one packet that is not too long
abbrev pub one_packet : Limits → List ℕ → List (List ℕ)
one_packet limits octets =
    if is_packet octets && not (is_too_long limits octets) then octets ∷ [] else []

-- the packets of a segment flagged alone; with blocking there may be several
abbrev pub packets_of : Limits → List ℕ → List (List ℕ)
packets_of limits octets =
    if limits.blocking then (if are_packets octets
    && not (is_some_over limits.max_packet (packets_in octets)) then packets_in octets else [])
    else one_packet limits octets

-- ---- what follows a place in a list of segments of one MAP

-- octets followed by more
abbrev pub joined_data : List ℕ → Option (List ℕ) → Option (List ℕ)
joined_data octets None = None
joined_data octets (Some more) = Some (octets ++ more)

abbrev pub up_to_last_from : SegmentFlags → List ℕ → Option (List ℕ) → Option (List ℕ)
up_to_last_from Alone octets more = None
up_to_last_from First octets more = None
up_to_last_from Continuing octets more = joined_data octets more
up_to_last_from Last octets more = Some octets

-- the joined data, if the segments begin with any number of continuing ones and a last one
abbrev pub up_to_last : List SegmentView → Option (List ℕ)
up_to_last [] = None
up_to_last (s ∷ segments) = up_to_last_from s.header.flags s.payload (up_to_last segments)

abbrev pub up_to_end_from : SegmentFlags → List ℕ → Option (List ℕ) → Option (List ℕ)
up_to_end_from Alone octets more = None
up_to_end_from First octets more = None
up_to_end_from Continuing octets more = joined_data octets more
up_to_end_from Last octets more = None

-- the joined data, if all segments are continuing ones
abbrev pub up_to_end : List SegmentView → Option (List ℕ)
up_to_end [] = Some []
up_to_end (s ∷ segments) = up_to_end_from s.header.flags s.payload (up_to_end segments)

-- ---- what is assembled from a list of segments

-- the packets of the block that begins with a segment of these flags and data; `more` is the joined
-- data of the segments after it, up to a last one
abbrev pub block_packets : Limits → SegmentFlags → List ℕ → Option (List ℕ) → List (List ℕ)
block_packets limits Alone octets more = packets_of limits octets
block_packets limits First octets (Some more) = one_packet limits (octets ++ more)
block_packets limits First octets None = []
block_packets limits Continuing octets more = []
block_packets limits Last octets more = []

-- the packets of the blocks, from left to right
abbrev pub blocks_packets : Limits → List SegmentView → List (List ℕ)
blocks_packets limits [] = []
blocks_packets limits (s ∷ segments) =
    block_packets limits s.header.flags s.payload (up_to_last segments)
    ++ blocks_packets limits segments

abbrev pub assembled : Limits → ℕ → List SegmentView → List (List ℕ)
assembled limits m segments =
    if is_open limits m then blocks_packets limits (of_map m segments) else []

-- the joined data of a first segment and of the continuing ones that end the list; the first is a
-- segment of these flags and data, or a later one
abbrev pub part_from : SegmentFlags → List ℕ → Option (List ℕ) → Option (List ℕ) → Option (List ℕ)
part_from Alone octets more later = later
part_from First octets (Some more) later = Some (octets ++ more)
part_from First octets None later = later
part_from Continuing octets more later = later
part_from Last octets more later = later

abbrev pub ending_part : List SegmentView → Option (List ℕ)
ending_part [] = None
ending_part (s ∷ segments) =
    part_from s.header.flags s.payload (up_to_end segments) (ending_part segments)

abbrev pub unless_too_long : Limits → Option (List ℕ) → Option (List ℕ)
unless_too_long limits None = None
unless_too_long limits (Some octets) = if is_too_long limits octets then None else Some octets

abbrev pub open_part : Limits → ℕ → List SegmentView → Option (List ℕ)
open_part limits m segments =
    if is_open limits m then unless_too_long limits (ending_part (of_map m segments)) else None
