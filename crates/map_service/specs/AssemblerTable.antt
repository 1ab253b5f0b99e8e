-- How the assembler takes a segment: a line for each cell of its table.
use Rattle.std.specs.Prelude.{ℕ, List, [], ◌∷◌, ◌++◌, not, if◌then◌else◌, Option, Some, None}
use Rattle.std.specs.Prelude.{◌&&◌, ◌≡◌, Result, IsOk, Bool, true, false, is_none}
use Rattle.tc_frame.specs.declared.frame.SegmentFlags.{SegmentFlags}
use Rattle.tc_frame.specs.declared.frame.SegmentFlags.TheVariants.{First, Continuing, Last, Alone}
use Rattle.tc_frame.specs.Layout.{SegmentView}
use Rattle.map_service.specs.declared.limits.Limits.{Limits}
use Rattle.map_service.specs.declared.dropped.Dropped.{Dropped}
use Rattle.map_service.specs.declared.dropped.Dropped.TheVariants.{ClosedMap, Interrupted}
use Rattle.map_service.specs.declared.dropped.Dropped.TheVariants.{NoBeginning, NotAPacket}
use Rattle.map_service.specs.declared.dropped.Dropped.TheVariants.{TooLong}
use Rattle.map_service.specs.Packets.{packets_in, are_packets, is_packet, is_some_over}
use Rattle.map_service.specs.Assembly.{is_open, is_too_long}

-- what is dropped, which packets are delivered, and the part that is then open on the segment's MAP
pub record TakeOutcome : Type 0 where
  pub dropped : Option Dropped
  pub packets : List (List ℕ)
  pub part : Option (List ℕ)

-- ---- octets judged as a whole: why they are not delivered, if they are not

abbrev pub one_fault : Limits → List ℕ → Option Dropped
one_fault limits octets =
    if is_too_long limits octets then Some TooLong
    else if not (is_packet octets) then Some NotAPacket
    else None

abbrev pub several_fault : Limits → List ℕ → Option Dropped
several_fault limits octets =
    if not (are_packets octets) then Some NotAPacket
    else if is_some_over limits.max_packet (packets_in octets) then Some TooLong
    else None

abbrev pub alone_fault : Limits → List ℕ → Option Dropped
alone_fault limits octets =
    if limits.blocking then several_fault limits octets else one_fault limits octets

abbrev pub alone_packets : Limits → List ℕ → List (List ℕ)
alone_packets limits octets = if limits.blocking then packets_in octets else octets ∷ []

-- ---- outcomes; if something was dropped before, the later cause is reported

abbrev pub drop_outcome : Dropped → TakeOutcome
drop_outcome cause = record { dropped = Some cause; packets = []; part = None }

abbrev pub packets_outcome : Option Dropped → List (List ℕ) → Option Dropped → TakeOutcome
packets_outcome earlier packets None = record { dropped = earlier; packets = packets; part = None }
packets_outcome earlier packets (Some cause) = drop_outcome cause

abbrev pub part_outcome : Limits → Option Dropped → List ℕ → TakeOutcome
part_outcome limits earlier octets =
    if is_too_long limits octets then drop_outcome TooLong else record
    { dropped = earlier; packets = []; part = Some octets }

-- what a segment flagged first or alone drops: the open part
abbrev pub interruption : Option (List ℕ) → Option Dropped
interruption None = None
interruption (Some part) = Some Interrupted

-- ---- the table: the segment's flags, the open part, the segment's data

abbrev pub cell : Limits → SegmentFlags → Option (List ℕ) → List ℕ → TakeOutcome
cell limits Alone part octets =
    packets_outcome (interruption part) (alone_packets limits octets) (alone_fault limits octets)
cell limits First part octets = part_outcome limits (interruption part) octets
cell limits Continuing None octets = drop_outcome NoBeginning
cell limits Continuing (Some part) octets = part_outcome limits None (part ++ octets)
cell limits Last None octets = drop_outcome NoBeginning
cell limits Last (Some part) octets =
    packets_outcome None ((part ++ octets) ∷ []) (one_fault limits (part ++ octets))

-- the cell of a segment, given the open part
abbrev pub cell_at : Limits → Option (List ℕ) → SegmentView → TakeOutcome
cell_at limits part s = cell limits s.header.flags part s.payload

-- a segment of a closed MAP is dropped, and nothing else changes
abbrev pub take_step : Limits → Option (List ℕ) → SegmentView → TakeOutcome
take_step limits part s =
    if is_open limits s.header.map then cell_at limits part s
    else record { dropped = Some ClosedMap; packets = []; part = part }

-- ---- the segment that is one packet by itself, delivered from its own octets

-- the outcome if one packet is delivered, and nothing else happens
abbrev pub packet_outcome : List ℕ → TakeOutcome
packet_outcome packet = record { dropped = None; packets = packet ∷ []; part = None }

abbrev pub unless_fault : Option Dropped → List ℕ → Option (List ℕ)
unless_fault None octets = Some octets
unless_fault (Some cause) octets = None

abbrev pub lone_packet_cell : Limits → SegmentFlags → Option (List ℕ) → List ℕ → Option (List ℕ)
lone_packet_cell limits Alone None octets = unless_fault (one_fault limits octets) octets
lone_packet_cell limits Alone (Some part) octets = None
lone_packet_cell limits First part octets = None
lone_packet_cell limits Continuing part octets = None
lone_packet_cell limits Last part octets = None

-- the packet that a segment flagged alone forms, if its MAP is open, no part is open there, and
-- there is no blocking
abbrev pub lone_packet_at : Limits → Option (List ℕ) → SegmentView → Option (List ℕ)
lone_packet_at limits part s =
    if is_open limits s.header.map
    && not limits.blocking then lone_packet_cell limits s.header.flags part s.payload else None

-- ---- the segment flagged alone whose packets are delivered, wherever they are copied to

abbrev pub hands_out_cell : Limits → SegmentFlags → List ℕ → Bool
hands_out_cell limits Alone octets = is_none (alone_fault limits octets)
hands_out_cell limits First octets = false
hands_out_cell limits Continuing octets = false
hands_out_cell limits Last octets = false

-- a segment of an open MAP, flagged alone and with no fault
abbrev pub hands_out : Limits → SegmentView → Bool
hands_out limits s =
    is_open limits s.header.map && hands_out_cell limits s.header.flags s.payload

-- ---- segments that are dropped without allocating memory

-- whether this is dropped before any memory is allocated
abbrev pub is_dropped_at_once : Option Dropped → Bool
is_dropped_at_once None = false
is_dropped_at_once (Some ClosedMap) = true
is_dropped_at_once (Some Interrupted) = false
is_dropped_at_once (Some NoBeginning) = true
is_dropped_at_once (Some NotAPacket) = false
is_dropped_at_once (Some TooLong) = true

-- if the segment is dropped at once, the call succeeds even if memory has run out
abbrev pub IsSureAtOnce : {A E : Type 0} → TakeOutcome → Result A E → Type 0
IsSureAtOnce o result = is_dropped_at_once o.dropped ≡ true → IsOk result
