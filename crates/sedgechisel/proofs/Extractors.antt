-- An extractor of packets from telemetry frames, with a part in the caller's memory, and frames one after another.
use Rattle.std.proofs.Common.{◌≡◌, ◌≤◌, ℕ, ◌+◌, ◌-◌, Bool, true, false, List, [], ◌∷◌, ◌++◌, length, take, drop, Some}
use Rattle.std.proofs.Common.{None, Ok, Err, refl, sym, ap, ◌∙◌, arith, not, ◌<◌, suc, Result, length-take}
use Rattle.std.proofs.Common.{length-drop, length-append}
use Rattle.std.specs.Prelude.{nat_lt, if◌then◌else◌, ◌==◌, ◌||◌}
use Rattle.std.proofs.lemmas.List.{append-nil, take_rest, append_assoc}
use Rattle.std.specs.List.{concat}
use Rattle.std.proofs.lemmas.Grind.{common_steps}
use Rattle.octets.specs.Outcome.{map_ok}
use Rattle.space_packet.specs.Packets.{first_packet, packets_in, rest_in}
use Rattle.map_service.proofs.Groups.{packets-split}
use Rattle.tm_link.specs.declared.frame.Pointer.{Pointer}
use Rattle.tm_link.specs.declared.frame.Pointer.TheVariants.{At, NoStart, OnlyIdle}
use Rattle.tm_link.specs.declared.gap.Gap.{Gap}
use Rattle.tm_link.specs.Extractor.{ExtractorState, Extracted, extract_step, completed_packet, finished_packets}
use Rattle.tm_link.specs.Extractor.{part_after, part_over_gap, without_idle, is_idle, is_any_lost, gap_of}
use Rattle.tm_link.specs.Layout.{pointer_fits, FrameView}
use Rattle.tm_link.specs.Decoding.{pointer_at}
use Rattle.tm_link.proofs.Records.{without_idle-append}
use Rattle.sedgechisel.specs.declared.part.Part.{Part}
use Rattle.sedgechisel.specs.declared.telemetry_frame.TelemetryFrame.{TelemetryFrame}
use Rattle.sedgechisel.specs.declared.telemetry_extractor.KeptExtractor.{KeptExtractor}
use Rattle.sedgechisel.specs.declared.telemetry_extractor.TakenFrame.{TakenFrame}
use Rattle.sedgechisel.specs.declared.telemetry_extractor.Kept.{Kept}
use Rattle.sedgechisel.specs.Answers.{damaged, status_of}
use Rattle.sedgechisel.specs.TelemetryFrames.{frame_described}
use Rattle.sedgechisel.specs.Extractors.{is_extractor, state_of, last_of, place_over_gap, octets_at, joined_at}
use Rattle.sedgechisel.specs.Extractors.{joined_by, need_of, packets_from, gap_at, extracted_at, extracted_described}
use Rattle.sedgechisel.specs.Extractors.{DescribesExtracted, IsKept, extractor_described, is_extracted, is_dropped}
use Rattle.sedgechisel.specs.Extractors.{is_cut_off, front_of, came_from, first_by, lost_by, handed_from}
use Rattle.sedgechisel.specs.Extractors.{came_of, record_of, Run}
use Rattle.sedgechisel.specs.Extractors.{is_end, nothing, before, run_from, packets_by, state_by}
use Rattle.sedgechisel.specs.declared.extracted_frames.Came.{Came}
use Rattle.sedgechisel.proofs.Pieces.{stands_at, none_at, none_past}

-- ---- packets one after another

-- where packets begin
abbrev pub begins_at : ℕ → Part
begins_at n = record { from = n; count = 0 }

idle_is : (octets : List ℕ) (from n : ℕ) (idle : Bool)
    → idle ≡ is_idle (take (from + n - from) (drop from octets) ++ [])
    → is_idle (take n (drop from octets)) ≡ idle
idle_is octets from n idle h =
    let len : from + n - from ≡ n = omega arith in
    rw (len, append-nil (take n (drop from octets))) at (sym h)

abbrev RestOf : List ℕ → ℕ → List ℕ
RestOf octets from = take (length octets - from) (drop from octets)

packets_from-next : (octets : List ℕ) (from n : ℕ)
    → Some (take n (RestOf octets from)) ≡ first_packet (RestOf octets from) → n ≤ length (RestOf octets from)
    → packets_in (drop from octets) ≡ take n (drop from octets) ∷ packets_in (drop (from + n) octets)
packets_from-next octets from n first within =
    stands_at octets from n (rw (take_rest octets from) at first) (rw (take_rest octets from) at within)

-- a packet that is not idle
pub next_stands : (octets : List ℕ) (from n : ℕ)
    → Some (take n (RestOf octets from)) ≡ first_packet (RestOf octets from)
    → n ≤ length (RestOf octets from) → false ≡ is_idle (take (from + n - from) (drop from octets) ++ [])
    → without_idle (packets_in (drop from octets))
    ≡ take n (drop from octets) ∷ without_idle (packets_in (drop (from + n) octets))
next_stands octets from n first within other =
    ap without_idle (packets_from-next octets from n first within) ∙ rw (idle_is octets from n false other) refl

-- an idle packet
pub next_idle : (octets : List ℕ) (from n : ℕ) → Some (take n (RestOf octets from)) ≡ first_packet (RestOf octets from)
    → n ≤ length (RestOf octets from) → true ≡ is_idle (take (from + n - from) (drop from octets) ++ [])
    → without_idle (packets_in (drop from octets)) ≡ without_idle (packets_in (drop (from + n) octets))
next_idle octets from n first within idle =
    ap without_idle (packets_from-next octets from n first within) ∙ rw (idle_is octets from n true idle) refl

-- no packet
pub next_none : (octets : List ℕ) (from : ℕ) → first_packet (RestOf octets from) ≡ None
    → without_idle (packets_in (drop from octets)) ≡ []
next_none octets from none = ap without_idle (none_at octets from (rw (take_rest octets from) at none))

pub nothing_past : (octets : List ℕ) (place : ℕ) → length octets ≤ place
    → without_idle (packets_in (drop place octets)) ≡ []
nothing_past octets place past = ap without_idle (none_past octets place past)

-- ---- a frame

-- the packet that is joined, and those in the data
finished_split : (part : List ℕ) (pointer : Pointer) (payload : List ℕ)
    → joined_by part pointer payload
    ++ without_idle (packets_in (drop (packets_from pointer (length payload)) payload))
    ≡ without_idle (finished_packets part pointer payload)
finished_split part OnlyIdle payload = nothing_past payload (length payload) (omega arith)
finished_split part NoStart payload =
    rw (nothing_past payload (length payload) (omega arith)) (append-nil (without_idle (completed_packet part payload)))
finished_split part (At p) payload =
    sym (without_idle-append (completed_packet part (take p payload)) (packets_in (drop p payload)))

-- the part, which is dropped if a frame is missing
pub place_is : (gap : Gap) (x : KeptExtractor) (memory : List ℕ)
    → octets_at (place_over_gap gap x) memory ≡ part_over_gap gap (state_of x memory).part
place_is gap x memory = grind arith

describes_by : (is fits short : Bool) (e d : Extracted) → is ≡ true → fits ≡ true → short ≡ false → d ≡ e
    → DescribesExtracted (if not is then Err damaged else if not fits then Err 10 else if short then Err 7 else Ok e) d
describes_by true true false e d i f s h = h
describes_by _ _ _ e d i f s h = absurd cc

abbrev kept_of : Kept → ℕ → KeptExtractor
kept_of k count = record { from = k.part.from; count = k.part.count; last = count; seen = 1 }

pub frame_taken : (x : KeptExtractor) (f : TelemetryFrame) (payload memory after part : List ℕ) (pointer : Pointer)
    (gap : Gap) (k : Kept) (t : TakenFrame)
    → is_extractor x (length memory) ≡ true → pointer ≡ pointer_at f.pointer
    → pointer_fits pointer (length payload) ≡ true
    → gap ≡ gap_of (last_of x) f.vc_count → part ≡ octets_at (place_over_gap gap x) memory
    → nat_lt (length memory) (need_of part pointer payload) ≡ false
    → IsKept k after (joined_by part pointer payload) (part_after part pointer payload)
    → gap_at t ≡ gap → t.joined ≡ k.joined → t.packets ≡ begins_at (packets_from pointer (length payload))
    → DescribesExtracted (extracted_at x f payload memory)
    (extracted_described (kept_of k f.vc_count) t after payload)
frame_taken x f payload memory after part pointer gap k t is points fits gap-is part-is room kept gap-at joined
    packets =
    let s : ExtractorState = state_of x memory in
    let real : List ℕ = part_over_gap (gap_of s.last f.vc_count) s.part in
    let ptr : Pointer = pointer_at f.pointer in
    let same : part ≡ real =
    part-is ∙ place_is gap x memory ∙ ap (λ (g : Gap). part_over_gap g s.part) gap-is in
    let fits-at : pointer_fits ptr (length payload) ≡ true = rw points at fits in
    let room-at : nat_lt (length memory) (need_of real ptr payload) ≡ false = rw (same, points) at room in
    let begin : t.packets.from + t.packets.count ≡ packets_from pointer (length payload) =
    ap (λ (p : Part). p.from + p.count) packets ∙ omega arith in
    let all : joined_at t.joined after ++ without_idle (packets_in (drop (t.packets.from + t.packets.count) payload))
    ≡ without_idle (finished_packets part pointer payload) =
    rw (begin, joined, kept.joined) (finished_split part pointer payload) in
    describes_by (is_extractor x (length memory)) (pointer_fits ptr (length payload))
    (nat_lt (length memory) (need_of real ptr payload)) (extract_step s (frame_described f payload))
    (extracted_described (kept_of k f.vc_count) t after payload) is fits-at room-at
    (rw (gap-at ∙ gap-is, all, kept.part, same, points) refl)

-- Telemetry frames one after another, and their packets in the caller's buffer.

-- ---- the packets of a frame

-- packets without the idle ones have no more octets
few_without : (ps : List (List ℕ)) → length (concat (without_idle ps)) ≤ length (concat ps)
few_without [] = omega arith
few_without (p ∷ ps) =
    let le = few_without ps in
    grind (arith, le, length-append p (concat ps), length-append p (concat (without_idle ps)))

pub few_handed : (place : ℕ) (payload : List ℕ) → length (handed_from place payload) ≤ length payload - place
few_handed place payload =
    let octets : List ℕ = drop place payload in
    omega (
      arith,
      few_without (packets_in octets),
      ap length (packets-split octets).whole,
      length-append (concat (packets_in octets)) (rest_in octets),
      length-drop place payload,
    )

-- what the struct counts exists
pub record IsExtracted (t : TakenFrame) (room size : ℕ) : Type 0 where
  pub joined : t.joined ≤ room
  pub from : t.packets.from ≤ size
  pub none : t.packets.count ≡ 0
  pub first : t.first < 2
  pub lost : ((t.first == 0) || (t.lost == 0)) ≡ true

pub extracted_is : (t : TakenFrame) (room size : ℕ) → is_extracted t room size ≡ true → IsExtracted t room size
extracted_is t room size h = grind (arith, common_steps, h)

-- ---- the packet that was begun

pub is_begun : (x : KeptExtractor) (memory : List ℕ) → is_extractor x (length memory) ≡ true → (x.count ≡ 0 → ⊥)
    → (length (take x.count (drop x.from memory)) == 0) ≡ false
is_begun x memory is some =
    grind (arith, common_steps, is, some, length-take x.count (drop x.from memory), length-drop x.from memory)

pub dropped_by : (s : ExtractorState) (f : FrameView) (pointer : Pointer) (part front : List ℕ)
    → (length s.part == 0) ≡ false → is_any_lost (gap_of s.last f.vc_count) ≡ false → pointer ≡ f.pointer
    → part ≡ s.part → front ≡ front_of f.pointer f.payload
    → is_cut_off pointer (part ++ front) ≡ is_dropped s f
dropped_by s f pointer part front some lost at is before =
    rw (some, lost, at, is, before) refl

-- ---- what the call for one frame answers

abbrev pub paired : ExtractorState → FrameView → Extracted → Extracted × Bool
paired s f e = (e, is_dropped s f)

pub came_is : (x : KeptExtractor) (f : TelemetryFrame) (payload memory : List ℕ)
    → came_from (extractor_described x memory) (length memory) (frame_described f payload)
    ≡ map_ok (paired (state_of x memory) (frame_described f payload)) (extracted_at x f payload memory)
came_is x f payload memory = grind arith

abbrev pub came_with : ℕ → ℕ → ℕ → ℕ → Came
came_with first lost dropped count =
    record { fault = 0; first = first; lost = lost; dropped = dropped; count = count }

pub came_same : (f l d n first lost dropped count : ℕ) → f ≡ first → l ≡ lost → d ≡ dropped → n ≡ count
    → came_with f l d n ≡ came_with first lost dropped count
came_same f l d n first lost dropped count is-first is-lost is-dropped is-count = cc

pub refused_is : (r : Result Extracted ℕ) (number : ℕ) → number ≡ status_of r → (number ≡ 0 → ⊥) → r ≡ Err number
refused_is (Ok e) number is some = absurd (some is)
refused_is (Err n) number is some = ap (λ (k : ℕ). Err k) (sym is)

-- a frame that is taken
pub record IsTaken (x : KeptExtractor) (f : TelemetryFrame) (payload memory : List ℕ) (d : Extracted) : Type 0 where
  pub extractor : is_extractor x (length memory) ≡ true
  pub fits : pointer_fits (pointer_at f.pointer) (length payload) ≡ true
  pub answer : extracted_at x f payload memory ≡ Ok d
  pub came : came_from (extractor_described x memory) (length memory) (frame_described f payload)
      ≡ Ok (paired (state_of x memory) (frame_described f payload) d)

pub taken_is : (x : KeptExtractor) (f : TelemetryFrame) (payload memory : List ℕ) (d : Extracted)
    → 0 ≡ status_of (extracted_at x f payload memory) → DescribesExtracted (extracted_at x f payload memory) d
    → IsTaken x f payload memory d
taken_is x f payload memory d is h = grind (arith, common_steps, is, h, came_is x f payload memory)

-- the first frame, and how many are missing
pub gap_is : (t : TakenFrame) (room size : ℕ) → IsExtracted t room size
    → (t.first ≡ first_by (gap_at t)) × (t.lost ≡ lost_by (gap_at t))
gap_is t room size is = grind (arith, common_steps, is)

-- ---- frames one after another

pub record IsNext (total room left : ℕ) (octets : List ℕ) : Type 0 where
  pub some : 0 < total
  pub within : total ≤ length octets
  pub fits : room + total ≤ left

pub next_is : (total room left : ℕ) (octets : List ℕ) → is_end total room left octets ≡ false
    → IsNext total room left octets
next_is total room left octets h = grind (arith, common_steps, h)

-- the frames from a place on, if this one is taken
pub run_next : (total room left less : ℕ) (octets rest : List ℕ) (state after : Result ExtractorState ℕ) (k most : ℕ)
    → k < most → is_end total room left octets ≡ false
    → left - length (packets_by (came_of state room (take total octets))) ≡ less → drop total octets ≡ rest
    → state_by (came_of state room (take total octets)) state ≡ after
    → run_from total room left octets state (most - k)
    ≡ before (record_of state room (take total octets)) (packets_by (came_of state room (take total octets)))
    (run_from total room less rest after (most - (k + 1)))
run_next total room left less octets rest state after k most lt next place behind then_on =
    let more : most - k ≡ suc (most - (k + 1)) = omega arith in
    rw (more, next, ← place, ← behind, ← then_on) refl

pub run_none : (total room left : ℕ) (octets : List ℕ) (state : Result ExtractorState ℕ) (k most : ℕ) → k < most
    → is_end total room left octets ≡ true → run_from total room left octets state (most - k) ≡ nothing state
run_none total room left octets state k most lt end =
    let more : most - k ≡ suc (most - (k + 1)) = omega arith in
    rw (more, end) refl

pub run_done : (total room left : ℕ) (octets : List ℕ) (state : Result ExtractorState ℕ) (k most : ℕ) → most ≤ k
    → run_from total room left octets state (most - k) ≡ nothing state
run_done total room left octets state k most le =
    let none : most - k ≡ 0 = omega arith in rw none refl

-- records and packets that are written, and those of a run after them, are all
pub record RunsTo (done put : List ℕ) (run all : Run) : Type 0 where
  pub records : done ++ run.records ≡ all.records
  pub packets : put ++ run.packets ≡ all.packets
  pub after : run.after ≡ all.after

pub runs_on : (records packets one more : List ℕ) (run next all : Run) → RunsTo records packets run all
    → run ≡ before one more next
    → RunsTo (records ++ one) (packets ++ more) next all
runs_on records packets one more run next all is same =
    let before_next = rw same at is in
    record {
      records = append_assoc records one next.records ∙ before_next.records;
      packets = append_assoc packets more next.packets ∙ before_next.packets;
      after = before_next.after;
    }

-- ---- what the call passes to other calls

-- the memory and the buffer for packets keep their lengths
pub end_is : (total end from : ℕ) (memory first packets place octets : List ℕ) → length memory ≡ length first
    → length packets ≡ length place
    → is_end total (length first) (length place - end) (drop from octets)
    ≡ is_end total (length memory) (length packets - end) (take (length octets - from) (drop from octets))
end_is total end from memory first packets place octets room left =
    rw (room, left, take_rest octets from) refl

pub record_is : (state : Result ExtractorState ℕ) (n room : ℕ) (piece one : List ℕ) → n ≡ room → piece ≡ one
    → record_of state n piece ≡ record_of state room one
record_is state n room piece one long is = rw (long, is) refl

pub came_equal : (state : Result ExtractorState ℕ) (n room : ℕ) (piece one : List ℕ) → n ≡ room → piece ≡ one
    → came_of state n piece ≡ came_of state room one
came_equal state n room piece one long is = rw (long, is) refl
