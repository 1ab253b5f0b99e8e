-- An extractor of packets as C keeps it, and what C receives from a telemetry frame and from
-- consecutive frames.
use Rattle.std.specs.Prelude.{◌≡◌, ◌≤◌, ℕ, ◌+◌, ◌-◌, true, false, List, [], ◌∷◌, ◌++◌, length, take}
use Rattle.std.specs.Prelude.{drop, Bool, not, ◌&&◌, ◌||◌, ◌==◌, nat_lt, nat_le, if◌then◌else◌}
use Rattle.std.specs.Prelude.{Option, Some, None, Result, Ok, Err, zero, suc, ◌/◌, ◌%◌, slice_index}
use Rattle.std.specs.List.{concat}
use Rattle.octets.specs.Outcome.{map_ok}
use Rattle.space_packet.specs.Packets.{packets_in}
use Rattle.tm_link.specs.declared.frame.Pointer.{Pointer}
use Rattle.tm_link.specs.declared.frame.Pointer.TheVariants.{At, NoStart, OnlyIdle}
use Rattle.tm_link.specs.declared.gap.Gap.{Gap}
use Rattle.tm_link.specs.declared.gap.Gap.TheVariants.{First, Lost}
use Rattle.tm_link.specs.declared.fault.TmFault.TheVariants.{Memory, FieldRange}
use Rattle.tm_link.specs.Faults.{fault_row}
use Rattle.tm_link.specs.Extractor.{ExtractorState, Extracted, extract_step, completed_packet}
use Rattle.tm_link.specs.Extractor.{part_after, is_any_lost, ending_of, gap_of, part_over_gap}
use Rattle.tm_link.specs.Extractor.{without_idle, is_idle}
use Rattle.tm_link.specs.declared.ending.Ending.{Ending}
use Rattle.tm_link.specs.declared.ending.Ending.TheVariants.{Wrong, Whole, Short}
use Rattle.tm_link.specs.Layout.{FrameView, pointer_fits}
use Rattle.sedgechisel.specs.declared.part.Part.{Part}
use Rattle.sedgechisel.specs.declared.telemetry_frame.TelemetryFrame.{TelemetryFrame}
use Rattle.sedgechisel.specs.declared.telemetry_extractor.KeptExtractor.{KeptExtractor}
use Rattle.sedgechisel.specs.declared.telemetry_extractor.TakenFrame.{TakenFrame}
use Rattle.sedgechisel.specs.Answers.{damaged, and_then, left_by}
use Rattle.sedgechisel.specs.TelemetryFrames.{frame_described, fields_of, frame_read}
use Rattle.sedgechisel.specs.declared.telemetry_extractor.Kept.{Kept}
use Rattle.sedgechisel.specs.declared.extracted_frames.Came.{Came}
use Rattle.sedgechisel.specs.Receivers.{flag_number}

-- An extractor of packets as C keeps it, and what C receives from a telemetry frame.

-- ---- what the structs describe

-- these are fields of an extractor with this many octets of memory
abbrev pub is_extractor : KeptExtractor → ℕ → Bool
is_extractor x room =
    nat_lt x.seen 2 && nat_le x.from room && nat_le x.count (room - x.from)
    && ((x.seen == 1) || (x.count == 0))

-- the octets at a place
abbrev pub octets_at : Part → List ℕ → List ℕ
octets_at place octets = take place.count (drop place.from octets)

abbrev pub last_of : KeptExtractor → Option ℕ
last_of x = if x.seen == 1 then Some x.last else None

-- the last frame's count, and the part of a packet that has not ended
abbrev pub state_of : KeptExtractor → List ℕ → ExtractorState
state_of x memory = record { last = last_of x; part = take x.count (drop x.from memory) }

abbrev pub extractor_described : KeptExtractor → List ℕ → Result ExtractorState ℕ
extractor_described x memory =
    if is_extractor x (length memory) then Ok (state_of x memory) else Err damaged

-- how many frames are missing
abbrev pub gap_at : TakenFrame → Gap
gap_at t = if t.first == 1 then First else Lost t.lost

-- the packet at the beginning of the memory, if one is there
abbrev pub joined_at : ℕ → List ℕ → List (List ℕ)
joined_at joined memory = if joined == 0 then [] else take joined memory ∷ []

-- this packet, and those of the frame's data from the place on, except idle ones
abbrev pub packets_described : TakenFrame → List ℕ → List ℕ → List (List ℕ)
packets_described t memory payload =
    joined_at t.joined memory
    ++ without_idle (packets_in (drop (t.packets.from + t.packets.count) payload))

-- what the struct counts exists: in the memory, and in a data field of this many octets
abbrev pub is_extracted : TakenFrame → ℕ → ℕ → Bool
is_extracted t room size =
    nat_le t.joined room && nat_le t.packets.from size && (t.packets.count == 0)
    && nat_lt t.first 2
    && ((t.first == 0) || (t.lost == 0))

abbrev pub extracted_described : KeptExtractor → TakenFrame → List ℕ → List ℕ → Extracted
extracted_described x t memory payload = record {
  gap = gap_at t;
  packets = packets_described t memory payload;
  after = state_of x memory;
}

-- ---- how much memory a frame needs

-- the packet that the part forms with the octets before the first start, unless it is idle
abbrev pub joined_by : List ℕ → Pointer → List ℕ → List (List ℕ)
joined_by part OnlyIdle payload = []
joined_by part NoStart payload = without_idle (completed_packet part payload)
joined_by part (At p) payload = without_idle (completed_packet part (take p payload))

-- the number of octets of that packet and of the part that the frame leaves
abbrev pub need_of : List ℕ → Pointer → List ℕ → ℕ
need_of part pointer payload =
    length (concat (joined_by part pointer payload)) + length (part_after part pointer payload)

-- ---- the calls

-- what a frame leads to, if the memory has room for it
abbrev pub extracted_from : ExtractorState → FrameView → ℕ → Result Extracted ℕ
extracted_from s f room =
    let part : List ℕ = part_over_gap (gap_of s.last f.vc_count) s.part in
    if nat_lt room (need_of part f.pointer f.payload) then Err (fault_row Memory).0
    else Ok (extract_step s f)

abbrev pub extracted_at : KeptExtractor → TelemetryFrame → List ℕ → List ℕ → Result Extracted ℕ
extracted_at x f payload memory =
    if not (is_extractor x (length memory)) then Err damaged
    else if not (pointer_fits (frame_described f payload).pointer (length payload))
    then Err (fault_row FieldRange).0
    else extracted_from (state_of x memory) (frame_described f payload) (length memory)

-- the structs, the memory and the data describe what the frame leads to, if it is taken
abbrev pub DescribesExtracted : Result Extracted ℕ → Extracted → Type 0
DescribesExtracted (Ok e) described = described ≡ e
DescribesExtracted (Err number) described = Unit {0}

-- ---- parts of the calls

-- where the part is, if no frame is missing after it
abbrev pub place_over_gap : Gap → KeptExtractor → Part
place_over_gap gap x =
    if is_any_lost gap then record { from = 0; count = 0 }
    else record { from = x.from; count = x.count }

-- how a part and octets after it end, if there is a part
abbrev pub ending_after : List ℕ → List ℕ → Ending
ending_after part octets = if length part == 0 then Wrong else ending_of (part ++ octets)

-- the number of octets of the packet that they form, unless it is idle
abbrev pub joined_len : List ℕ → List ℕ → ℕ
joined_len part octets = length (concat (without_idle (completed_packet part octets)))

-- where whole packets begin in a data field of this many octets
abbrev pub packets_from : Pointer → ℕ → ℕ
packets_from (At p) size = p
packets_from NoStart size = size
packets_from OnlyIdle size = size

-- this is the first packet from a place on that is not idle
abbrev pub StandsAfter : List ℕ → ℕ → Option Part → Type 0
StandsAfter octets place None = without_idle (packets_in (drop place octets)) ≡ []
StandsAfter octets place (Some p) =
    (without_idle (packets_in (drop place octets))
    ≡ octets_at p octets ∷ without_idle (packets_in (drop (p.from + p.count) octets)))
    × (p.from + p.count ≤ length octets)

-- the packet that is not idle after a part, and those after it, are the packets after the part that
-- are not idle
abbrev pub GoesOn : List ℕ → Part → Part → Bool → Type 0
GoesOn octets old new true =
    (without_idle (packets_in (drop (old.from + old.count) octets))
    ≡ octets_at new octets ∷ without_idle (packets_in (drop (new.from + new.count) octets)))
    × (new.from + new.count ≤ length octets)
GoesOn octets old new false =
    (without_idle (packets_in (drop (old.from + old.count) octets)) ≡ []) × (new ≡ old)

-- What a data field leaves in an extractor's memory.

-- the memory holds these packets, at most one, at its beginning, and the part that is left
pub record IsKept (k : Kept) (memory : List ℕ) (packets : List (List ℕ)) (left : List ℕ) : Type 0
  where
    pub joined : joined_at k.joined memory ≡ packets
    pub part : octets_at k.part memory ≡ left
    pub room : k.joined ≤ length memory
    pub within : k.part.from + k.part.count ≤ length memory

-- Consecutive telemetry frames, and what C receives of their packets.

-- ---- the packet that was begun

-- the octets of a frame's data before the first packet that starts in it
abbrev pub front_of : Pointer → List ℕ → List ℕ
front_of OnlyIdle payload = []
front_of NoStart payload = payload
front_of (At p) payload = take p payload

-- whether a packet with such an end after these octets ends or continues
abbrev pub is_carried : Pointer → Ending → Bool
is_carried OnlyIdle e = false
is_carried NoStart Whole = true
is_carried NoStart Short = true
is_carried NoStart Wrong = false
is_carried (At p) Whole = true
is_carried (At p) Short = false
is_carried (At p) Wrong = false

abbrev pub begins_idle : List ℕ → Bool
begins_idle octets = nat_le 2 (length octets) && is_idle octets

abbrev pub is_cut_off : Pointer → List ℕ → Bool
is_cut_off pointer octets =
    not (is_carried pointer (ending_of octets)) && not (begins_idle octets)

-- whether the frame drops a packet that was begun and is not idle
abbrev pub is_dropped : ExtractorState → FrameView → Bool
is_dropped s f =
    if length s.part == 0 then false
    else if is_any_lost (gap_of s.last f.vc_count) then not (begins_idle s.part)
    else is_cut_off f.pointer (s.part ++ front_of f.pointer f.payload)

-- ---- a frame

-- what a frame leads to with a memory of this size, as in `extracted_at`
abbrev pub extracted_with : ExtractorState → FrameView → ℕ → Result Extracted ℕ
extracted_with s f room =
    if not (pointer_fits f.pointer (length f.payload)) then Err (fault_row FieldRange).0
    else extracted_from s f room

-- what becomes of a frame: what it leads to, and whether it drops a packet
abbrev pub came_from : Result ExtractorState ℕ → ℕ → FrameView → Result (Extracted × Bool) ℕ
came_from state room f =
    and_then state (λ s. map_ok (λ e. (e, is_dropped s f)) (extracted_with s f room))

-- what becomes of the octets of a frame
abbrev pub came_of : Result ExtractorState ℕ → ℕ → List ℕ → Result (Extracted × Bool) ℕ
came_of state room octets = and_then (frame_read (length octets) octets) (came_from state room)

-- the packets' octets
abbrev pub packets_by : Result (Extracted × Bool) ℕ → List ℕ
packets_by (Ok came) = concat came.0.packets
packets_by (Err number) = []

-- the state after the frame
abbrev pub state_by
    : Result (Extracted × Bool) ℕ → Result ExtractorState ℕ → Result ExtractorState ℕ
state_by (Ok came) state = Ok came.0.after
state_by (Err number) state = state

-- ---- the record of a frame

abbrev pub first_by : Gap → ℕ
first_by First = 1
first_by (Lost n) = 0

abbrev pub lost_by : Gap → ℕ
lost_by First = 0
lost_by (Lost n) = n

abbrev pub came_fields : Result (Extracted × Bool) ℕ → Came
came_fields (Ok came) = record {
  fault = 0;
  first = first_by came.0.gap;
  lost = lost_by came.0.gap;
  dropped = flag_number came.1;
  count = length (concat came.0.packets);
}
came_fields (Err number) = record { fault = number; first = 0; lost = 0; dropped = 0; count = 0 }

abbrev pub no_fields : TelemetryFrame
no_fields = record {
  scid = 0;
  pointer = 0;
  vcid = 0;
  mc_count = 0;
  vc_count = 0;
  ocf = 0 ∷ 0 ∷ 0 ∷ 0 ∷ [];
}

abbrev pub record_with : Came → TelemetryFrame → List ℕ
record_with came f =
    came.count % 65536 % 256 ∷ came.count % 65536 / 256
    ∷ came.count / 65536 % 65536 % 256 ∷ came.count / 65536 % 65536 / 256
    ∷ came.fault ∷ came.first ∷ came.lost ∷ came.dropped
    ∷ f.scid % 256 ∷ f.scid / 256 ∷ f.pointer % 256 ∷ f.pointer / 256
    ∷ f.vcid ∷ f.mc_count ∷ f.vc_count
    ∷ slice_index f.ocf 0 ∷ slice_index f.ocf 1 ∷ slice_index f.ocf 2 ∷ slice_index f.ocf 3 ∷ []

abbrev pub record_of : Result ExtractorState ℕ → ℕ → List ℕ → List ℕ
record_of state room octets =
    record_with (came_fields (came_of state room octets))
    (left_by fields_of (frame_read (length octets) octets) no_fields)

-- ---- frames one after another

-- what becomes of frames: their records, the octets of their packets, and the state after them
pub record Run : Type 0 where
  pub records : List ℕ
  pub packets : List ℕ
  pub after : Result ExtractorState ℕ

-- no frame is taken: these octets do not contain one of this length, or this much is left of the
-- buffer for packets, which is less than the memory and a frame have
abbrev pub is_end : ℕ → ℕ → ℕ → List ℕ → Bool
is_end total room left octets =
    (total == 0) || nat_lt (length octets) total || nat_lt left (room + total)

abbrev pub nothing : Result ExtractorState ℕ → Run
nothing state = record { records = []; packets = []; after = state }

abbrev pub before : List ℕ → List ℕ → Run → Run
before one packets run =
    record run { records = one ++ run.records; packets = packets ++ run.packets }

-- the frames at the beginning of the octets, at most this many
abbrev pub run_from : ℕ → ℕ → ℕ → List ℕ → Result ExtractorState ℕ → ℕ → Run
run_from total room left octets state zero = nothing state
run_from total room left octets state (suc most) =
    if is_end total room left octets then nothing state
    else before (record_of state room (take total octets))
    (packets_by (came_of state room (take total octets)))
    (run_from total room (left - length (packets_by (came_of state room (take total octets))))
    (drop total octets) (state_by (came_of state room (take total octets)) state) most)

-- ---- parts of the calls

-- the octets of a frame's packets from a place on
abbrev pub handed_from : ℕ → List ℕ → List ℕ
handed_from place payload = concat (without_idle (packets_in (drop place payload)))
