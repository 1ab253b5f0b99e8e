-- A MAP as C keeps it, and what C receives from a segment.
use Rattle.std.specs.Prelude.{◌≡◌, ℕ, ◌+◌, true, false, List, [], ◌∷◌, length, take, drop, min}
use Rattle.std.specs.Prelude.{Bool, ◌&&◌, ◌||◌, ◌==◌, nat_lt, nat_le, if◌then◌else◌, Option, Some}
use Rattle.std.specs.Prelude.{None, Result, Ok, Err}
use Rattle.tc_frame.specs.declared.frame.SegmentFlags.{SegmentFlags}
use Rattle.tc_frame.specs.Decoding.{flags_at}
use Rattle.map_service.specs.declared.dropped.Dropped.{Dropped}
use Rattle.map_service.specs.declared.dropped.Dropped.TheVariants.{ClosedMap, Interrupted}
use Rattle.map_service.specs.declared.dropped.Dropped.TheVariants.{NoBeginning, NotAPacket, TooLong}
use Rattle.map_service.specs.declared.limits.Limits.{Limits}
use Rattle.map_service.specs.Cutting.{segment_with}
use Rattle.map_service.specs.Packets.{first_packet, packets_in}
use Rattle.map_service.specs.AssemblerTable.{TakeOutcome, cell, take_step}
use Rattle.sedgechisel.specs.declared.assembly.KeptMap.{KeptMap}
use Rattle.sedgechisel.specs.declared.assembly.TakenSegment.{TakenSegment}
use Rattle.sedgechisel.specs.declared.part.Part.{Part}
use Rattle.sedgechisel.specs.Answers.{damaged}
use Rattle.map_service.specs.Causes.{cause_row}
use Rattle.c_words.specs.Words.{found_by}

-- ---- what the structs describe

-- these are fields of a MAP with this many octets of memory
abbrev pub is_map : KeptMap → ℕ → Bool
is_map m room =
    nat_lt m.is_open 2 && nat_lt m.blocking 2 && nat_le m.count room
    && ((m.is_open == 1) || (m.count == 0))

-- the open part, which is the first octets of the memory
abbrev pub part_of : KeptMap → List ℕ → Option (List ℕ)
part_of m memory = if m.is_open == 1 then Some (take m.count memory) else None

-- the memory holds the longest packet; the MAP itself appears as MAP 0, which is open
abbrev pub limits_of : KeptMap → ℕ → Limits
limits_of m room =
    record { part = 1; max_packet = min room 4294967295; maps = 1; blocking = m.blocking == 1 }

-- what a segment with these flags and data leads to on this MAP
abbrev pub cell_for : KeptMap → SegmentFlags → List ℕ → List ℕ → TakeOutcome
cell_for m flags octets memory = cell (limits_of m (length memory)) flags (part_of m memory) octets

abbrev pub cause_at : ℕ → Option Dropped
cause_at n =
    found_by (λ cause. (cause_row cause).0)
    (ClosedMap ∷ Interrupted ∷ NoBeginning ∷ NotAPacket ∷ TooLong ∷ []) n

-- this is the number of a cause, or 0
abbrev pub IsCauseNumber : ℕ → Type 0
IsCauseNumber n = cause_at n ≡ None → n ≡ 0

-- the packets that are whole now: one at the beginning of the memory, or the packets of the
-- segment's data
abbrev pub packets_described : TakenSegment → List ℕ → List ℕ → List (List ℕ)
packets_described t memory octets =
    if t.place == 1 then take t.count memory ∷ []
    else if t.place == 2 then packets_in (take t.count octets)
    else []

-- the struct counts octets that exist: the first of the memory, all of the segment's data, or none
abbrev pub is_counted : TakenSegment → List ℕ → List ℕ → Bool
is_counted t memory octets =
    if t.place == 1 then nat_le t.count (length memory)
    else if t.place == 2 then t.count == length octets
    else (t.place == 0) && (t.count == 0)

-- the outcome that the structs and the octets describe
abbrev pub outcome_described : KeptMap → TakenSegment → List ℕ → List ℕ → TakeOutcome
outcome_described m t memory octets =
    record {
      dropped = cause_at t.dropped;
      packets = packets_described t memory octets;
      part = part_of m memory;
    }

-- a MAP with no part open
abbrev pub closed : KeptMap → KeptMap
closed m = record m { count = 0; is_open = 0 }

abbrev pub no_packets : ℕ → TakenSegment
no_packets dropped = record { count = 0; place = 0; dropped = dropped }

-- ---- the calls

-- what a segment with these flags and data leads to
abbrev pub taken_at : KeptMap → ℕ → List ℕ → List ℕ → Result TakeOutcome ℕ
taken_at m flags octets memory =
    if nat_lt flags 4 && is_map m (length memory)
    then Ok (take_step (limits_of m (length memory)) (part_of m memory)
    (segment_with (flags_at flags) 0 octets))
    else Err damaged

-- the structs and the octets describe the outcome, if there is one
abbrev pub DescribesOutcome : Result TakeOutcome ℕ → TakeOutcome → Type 0
DescribesOutcome (Ok o) described = described ≡ o
DescribesOutcome (Err number) described = Unit {0}

-- the place of the packet that follows a part of the octets
abbrev pub part_behind : ℕ → Option (List ℕ) → Option Part
part_behind place None = None
part_behind place (Some packet) = Some (record { from = place; count = length packet })

abbrev pub next_packet : List ℕ → Part → Option Part
next_packet octets part =
    part_behind (part.from + part.count) (first_packet (drop (part.from + part.count) octets))

abbrev pub part_or : Option Part → Part → Part
part_or None old = old
part_or (Some part) old = part

-- the packet after a part, and those after it, are the packets after the part
abbrev pub DescribesPackets : List ℕ → Part → Part → Bool → Type 0
DescribesPackets octets old new true =
    packets_in (drop (old.from + old.count) octets)
    ≡ take new.count (drop new.from octets) ∷ packets_in (drop (new.from + new.count) octets)
DescribesPackets octets old new false = packets_in (drop (old.from + old.count) octets) ≡ []
