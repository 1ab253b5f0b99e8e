-- Idle packets, and what is left of them.
use Rattle.std.proofs.Common.{◌≡◌, ◌≤◌, ℕ, zero, suc, ◌+◌, ◌-◌, max, List, [], ◌∷◌, ◌++◌, length}
use Rattle.std.proofs.Common.{take, drop, replicate, refl, ap, ◌∙◌, arith, inl, inr, length-append}
use Rattle.std.proofs.Common.{◌<◌, Bool, true, false, cond, eqb, sym, subst}
use Rattle.std.proofs.lemmas.Bool.{cases_lt, eq-eqb, eqb-true, ne_eqb, and_parts}
use Rattle.std.proofs.lemmas.List.{append-nil, drop-drop, drop_all, length-drop, length-replicate}
use Rattle.std.proofs.lemmas.List.{take-append-le, take-append-drop, length-take}
use Rattle.byteorder.specs.Endian.{big_bytes}
use Rattle.octets.specs.Number.{number_of}
use Rattle.octets.specs.Records.{IsRecord}
use Rattle.octets.proofs.Streams.{done}
use Rattle.space_packet.specs.declared.fault.PacketFault.{PacketFault}
use Rattle.space_packet.specs.Decoding.{extent_at}
use Rattle.tm_link.specs.Builder.{idle_packet, idle_tail, BuilderState, data_size, is_at_rest}
use Rattle.tm_link.specs.Builder.{room_left, data_from, first_start, idle_after, left_after}
use Rattle.tm_link.specs.Builder.{after_send, with_next_count, build_step, held_by, IsCutAt}
use Rattle.tm_link.specs.Builder.{IsLaidOutBy}
use Rattle.tm_link.specs.Extractor.{without_idle}
use Rattle.std.specs.List.{concat}
use Rattle.tm_link.specs.declared.frame.Pointer.TheVariants.{OnlyIdle}
use Rattle.tm_link.specs.Layout.{FrameView}
use Rattle.tm_link.specs.Stream.{IsEnd, IsPointed, slice_of, carried_octets, IsLaidOut}
use Rattle.tm_link.proofs.Laid.{carried_within, packet_after, IsNext, next_again, frame_after}
use Rattle.tm_link.proofs.Laid.{laid_again}
use Rattle.tm_link.proofs.Passed.{length-more, cut_most, cut_more, pointed_first, slice_is}
use Rattle.tm_link.proofs.Passed.{cut_again, cut_after, cut_last, passed_held, length-carried}

pub drop_both : (n : ℕ) (xs ys : List ℕ) → drop n (xs ++ ys) ≡ drop n xs ++ drop (n - length xs) ys
drop_both zero [] ys = refl
drop_both zero (x ∷ xs) ys =
    let none : 0 ≡ 0 - length (x ∷ xs) = omega arith in ap (λ (k : ℕ). x ∷ (xs ++ drop k ys)) none
drop_both (suc n) [] ys = let all : suc n ≡ suc n - 0 = omega arith in ap (λ (k : ℕ). drop k ys) all
drop_both (suc n) (x ∷ xs) ys =
    let rest : n - length xs ≡ suc n - length (x ∷ xs) = omega arith in
    drop_both n xs ys ∙ ap (λ (k : ℕ). drop n xs ++ drop k ys) rest

-- ---- an idle packet

pub length-idle : (n : ℕ) → 7 ≤ n → length (idle_packet n) ≡ n
length-idle n least =
    omega (arith, length-append (big_bytes 2 (n - 7)) (replicate (n - 6) 0x55), length-replicate {A = ℕ} (n - 6) 0x55)

-- it has its header, which gives its length
pub idle_is : (n : ℕ) → 7 ≤ n → n ≤ 65542 → IsRecord 6 extent_at (idle_packet n)
unfolding extent_at
idle_is n least most =
    let size : length (idle_packet n) ≡ n = length-idle n least in
    let total : number_of (take 2 (drop 4 (take 6 (idle_packet n)))) + 7 ≡ length (idle_packet n) = omega arith in
    record { has_head = omega arith; extent_is = ap (done {F = PacketFault}) total }

-- it is not delivered
pub not_handed : (packets : List (List ℕ)) (n : ℕ) → packets ++ without_idle (idle_packet n ∷ []) ≡ packets
not_handed packets n = append-nil packets

-- ---- what is left of one

pub length-tail : (left : ℕ) → left ≤ 7 → length (idle_tail left) ≡ left
length-tail left le = omega (arith, length-drop (7 - left) (idle_packet 7), length-idle 7)

pub drop_tail : (size left : ℕ) → left ≤ 7 → drop size (idle_tail left) ≡ idle_tail (left - size)
drop_tail size left le =
    elim (cases_lt left size) [
      | inl lt ↦
          let none : 0 ≡ left - size = omega arith in
          drop_all size (idle_tail left) (omega (arith, length-tail left le)) ∙ ap idle_tail none
      | inr ge ↦
          let place : 7 - left + size ≡ 7 - (left - size) = omega arith in
          drop-drop size (7 - left) (idle_packet 7) ∙ ap (λ (k : ℕ). drop k (idle_packet 7)) place
    ]

-- what is left of it after the room for it
pub drop_idle : (room : ℕ) → drop room (idle_packet (max room 7)) ≡ idle_tail (7 - room)
drop_idle room =
    elim (cases_lt room 7) [
      | inl lt ↦
          let size : max room 7 ≡ 7 = omega arith in
          let place : room ≡ 7 - (7 - room) = omega arith in
          ap (λ (n : ℕ). drop room (idle_packet n)) size ∙ ap (λ (k : ℕ). drop k (idle_packet 7)) place
      | inr ge ↦
          let none : 0 ≡ 7 - room = omega arith in
          drop_all room (idle_packet (max room 7)) (omega (arith, length-idle (max room 7) (omega arith)))
          ∙ ap idle_tail none
    ]

-- A frame that is built continues the stream where the frames before it ended.

-- ---- what is held

after_none : (size left count : ℕ) → size ≤ left + count → idle_after size left count ≡ left - size
after_none size left count le =
    let none : eqb (room_left size left count) 0 ≡ true = eq-eqb _ _ (omega arith) in rw none refl

after_some : (size left count : ℕ) → left + count < size → idle_after size left count ≡ 7 - room_left size left count
after_some size left count lt =
    let some : eqb (room_left size left count) 0 ≡ false = ne_eqb _ _ (λ e. omega arith) in rw some refl

length-held : (s : BuilderState) → s.idle_left ≤ 7 → length (held_by s) ≡ s.idle_left + length s.pending
length-held s le =
    length-append (idle_tail s.idle_left) s.pending ∙ ap (λ (n : ℕ). n + length s.pending) (length-tail s.idle_left le)

-- ---- a frame, by whether the stream is at rest

abbrev frame_when : Bool → BuilderState → List ℕ → FrameView
frame_when rest s ocf = record {
  scid = s.scid;
  vcid = s.vcid;
  mc_count = s.mc_count;
  vc_count = s.vc_count;
  pointer = cond rest OnlyIdle (first_start (s.idle_left + s.begun) (data_size s));
  payload = cond rest (replicate (data_size s) 0x55) (data_from s.idle_left s.pending (data_size s));
  ocf = ocf;
}

abbrev state_when : Bool → BuilderState → BuilderState
state_when rest s = with_next_count (cond rest s (after_send s (data_size s)))

abbrev IsKeptWhen : Bool → BuilderState → List ℕ → List (List ℕ) → List FrameView → Type 0
IsKeptWhen rest s ocf packets frames = IsLaidOutBy (state_when rest s) packets (frames ++ frame_when rest s ocf ∷ [])

-- only idle data
idle_laid : (s : BuilderState) (ocf : List ℕ) (packets : List (List ℕ)) (frames : List FrameView) → is_at_rest s ≡ true
    → IsLaidOutBy s packets frames → IsKeptWhen true s ocf packets frames
idle_laid s ocf packets frames rest h =
    let g : FrameView = frame_when true s ocf in
    let both = and_parts (eqb s.idle_left 0) (eqb (length s.pending) 0) rest in
    let idle : s.idle_left ≡ 0 = eqb-true _ _ both.0 in
    let none : length s.pending ≡ 0 = eqb-true _ _ both.1 in
    let place : ℕ = length (carried_octets frames) in
    let size : place + length (held_by s) ≡ length (concat h.laid.all) =
    carried_within packets frames (held_by s) h.laid in
    let held : length (held_by s) ≡ s.idle_left + length s.pending = length-held s (omega arith) in
    let here : IsEnd h.laid.all place = (h.laid.all, [], sym (append-nil h.laid.all), omega arith) in
    let x = frame_after packets frames (held_by s) (held_by s) g h.laid refl here h.next in
    let next : length (carried_octets (frames ++ g ∷ [])) ≡ place = length-carried frames [] g ∙ omega arith in
    let cut = cut_again h.laid.all place (s.idle_left + s.begun) (length (carried_octets (frames ++ g ∷ [])))
    (s.idle_left + s.begun) s.sizes (sym next) refl h.cut in
    laid_again (state_when true s) packets (frames ++ g ∷ []) (held_by s) h.laid.all x.0 x.1 refl (next_again frames g)
    cut

-- what is left of an idle packet, and of the packet that was begun
abbrev left_when : Bool → BuilderState → ℕ
left_when rest s = (state_when rest s).idle_left + (state_when rest s).begun

-- a field that is filled from a stream at least as long as the field
filled_laid : (s : BuilderState) (ocf : List ℕ) (packets : List (List ℕ)) (frames : List FrameView) (stream : List ℕ)
    (h : IsLaidOut packets frames stream) (all : List (List ℕ)) → h.all ≡ all
    → data_size s ≤ length stream → data_from s.idle_left s.pending (data_size s) ≡ take (data_size s) stream
    → IsPointed all (length (carried_octets frames)) (first_start (s.idle_left + s.begun) (data_size s)) (data_size s)
    → IsNext frames s.vc_count
    → drop (data_size s) stream ≡ held_by (state_when false s)
    → IsCutAt all (length (carried_octets frames) + data_size s) (left_when false s) (state_when false s).sizes
    → IsKeptWhen false s ocf packets frames
filled_laid s ocf packets frames stream h all same long payload pointed next held cut =
    let g : FrameView = frame_when false s ocf in
    let size : ℕ = data_size s in
    let place : ℕ = length (carried_octets frames) in
    let left : ℕ = s.idle_left + s.begun in
    let count : length (take size stream) ≡ size = length-take size stream ∙ omega arith in
    let slice : slice_of g ≡ take size stream = slice_is left size g.payload ∙ payload in
    let parts : slice_of g ++ drop size stream ≡ stream =
    ap (λ (xs : List ℕ). xs ++ drop size stream) slice ∙ take-append-drop size stream in
    let with_next_count-is : IsPointed all place g.pointer (length g.payload) =
    subst (λ (n : ℕ). IsPointed all place g.pointer n) (sym (ap length payload ∙ count)) pointed in
    let here : IsPointed h.all place g.pointer (length g.payload) =
    subst (λ (ps : List (List ℕ)). IsPointed ps place g.pointer (length g.payload)) (sym same) with_next_count-is in
    let x = frame_after packets frames stream (drop size stream) g h parts here next in
    let behind : place + size ≡ length (carried_octets (frames ++ g ∷ [])) =
    sym (length-carried frames [] g ∙ omega (arith, ap length slice)) in
    laid_again (state_when false s) packets (frames ++ g ∷ []) (drop size stream) all x.0 (x.1 ∙ same) held
    (next_again frames g) (cut_again all (place + size) (left_when false s)
    (length (carried_octets (frames ++ g ∷ []))) (left_when false s) (state_when false s).sizes behind refl cut)

-- ---- a field that is filled from what is held

held_full : (s : BuilderState) → s.idle_left ≤ 7 → data_size s ≤ s.idle_left + length s.pending
    → drop (data_size s) (held_by s) ≡ held_by (state_when false s)
held_full s small full =
    let size : ℕ = data_size s in
    let tail : length (idle_tail s.idle_left) ≡ s.idle_left = length-tail s.idle_left small in
    let after : idle_after size s.idle_left (length s.pending) ≡ s.idle_left - size =
    after_none size s.idle_left (length s.pending) full in
    drop_both size (idle_tail s.idle_left) s.pending
    ∙ ap (λ (k : ℕ). drop size (idle_tail s.idle_left) ++ drop (size - k) s.pending) tail
    ∙ ap (λ (xs : List ℕ). xs ++ drop (size - s.idle_left) s.pending)
    (drop_tail size s.idle_left small ∙ ap idle_tail (sym after))

full_laid : (s : BuilderState) (ocf : List ℕ) (packets : List (List ℕ)) (frames : List FrameView) → s.idle_left ≤ 6
    → data_size s ≤ s.idle_left + length s.pending → IsLaidOutBy s packets frames
    → IsKeptWhen false s ocf packets frames
full_laid s ocf packets frames small full h =
    let all : List (List ℕ) = h.laid.all in
    let size : ℕ = data_size s in
    let place : ℕ = length (carried_octets frames) in
    let left : ℕ = s.idle_left + s.begun in
    let held : List ℕ = held_by s in
    let idle : List ℕ = idle_packet (max (room_left size s.idle_left (length s.pending)) 7) in
    let long : length held ≡ s.idle_left + length s.pending = length-held s (omega arith) in
    let total : place + length held ≡ length (concat all) = carried_within packets frames held h.laid in
    let most : length (concat all) ≡ place + left + length (concat h.cut.whole) =
    cut_most all place left s.sizes h.cut in
    let payload : data_from s.idle_left s.pending size ≡ take size held = take-append-le size held idle (omega arith) in
    let pointed : IsPointed all place (first_start left size) size =
    pointed_first all place left size s.sizes h.cut (λ lt. omega arith) in
    let after : idle_after size s.idle_left (length s.pending) ≡ s.idle_left - size =
    after_none size s.idle_left (length s.pending) full in
    let behind = cut_after all place s.idle_left s.begun size s.sizes h.cut (omega arith) in
    let cut = cut_again all (place + size) _ (place + size) (left_when false s) _ refl (omega arith) behind in
    filled_laid s ocf packets frames held h.laid all refl (omega arith) payload pointed h.next
    (held_full s (omega arith) full) cut

-- ---- a field in which packets run out, so that an idle packet is placed

abbrev room_of : BuilderState → ℕ
room_of s = room_left (data_size s) s.idle_left (length s.pending)

abbrev idle_of : BuilderState → List ℕ
idle_of s = idle_packet (max (room_of s) 7)

held_short : (s : BuilderState) → s.idle_left ≤ 7 → s.idle_left + length s.pending < data_size s
    → drop (data_size s) (held_by s ++ idle_of s) ≡ held_by (state_when false s)
held_short s small short =
    let size : ℕ = data_size s in
    let long : length (held_by s) ≡ s.idle_left + length s.pending = length-held s small in
    let room : size - length (held_by s) ≡ room_of s = omega arith in
    let after : 7 - room_of s ≡ idle_after size s.idle_left (length s.pending) =
    sym (after_some size s.idle_left (length s.pending) short) in
    let none : drop size (held_by s) ≡ [] = drop_all size (held_by s) (omega arith) in
    let none-pending : [] ≡ drop (size - s.idle_left) s.pending =
    sym (drop_all (size - s.idle_left) s.pending (omega arith)) in
    let left : drop (size - length (held_by s)) (idle_of s)
    ≡ idle_tail (idle_after size s.idle_left (length s.pending)) =
    ap (λ (k : ℕ). drop k (idle_of s)) room ∙ drop_idle (room_of s) ∙ ap idle_tail after in
    let behind : idle_tail (idle_after size s.idle_left (length s.pending)) ≡ held_by (state_when false s) =
    sym (append-nil (idle_tail (idle_after size s.idle_left (length s.pending))))
    ∙ ap (λ (xs : List ℕ). idle_tail (idle_after size s.idle_left (length s.pending)) ++ xs) none-pending in
    drop_both size (held_by s) (idle_of s)
    ∙ ap (λ (xs : List ℕ). xs ++ drop (size - length (held_by s)) (idle_of s)) none ∙ left ∙ behind

cut_short : (s : BuilderState) (all : List (List ℕ)) (place : ℕ) → IsCutAt all place (s.idle_left + s.begun) s.sizes
    → place + (s.idle_left + length s.pending) ≡ length (concat all) → s.idle_left + length s.pending < data_size s
    → IsCutAt (all ++ idle_of s ∷ []) (place + data_size s) (left_when false s) (state_when false s).sizes
cut_short s all place h total short =
    let size : ℕ = data_size s in
    let most : length (concat all) ≡ place + (s.idle_left + s.begun) + length (concat h.whole) =
    cut_most all place (s.idle_left + s.begun) s.sizes h in
    let count : length (idle_of s) ≡ max (room_of s) 7 = length-idle (max (room_of s) 7) (omega arith) in
    let gone : left_after (size - s.idle_left) s.begun s.sizes ≡ (0, []) =
    passed_held all place (s.idle_left + s.begun) (size - s.idle_left) s.begun s.sizes h (omega arith) in
    let after : idle_after size s.idle_left (length s.pending) ≡ 7 - room_of s =
    after_some size s.idle_left (length s.pending) short in
    rw gone (cut_last all (idle_of s) (place + size) (idle_after size s.idle_left (length s.pending) + 0) (omega arith)
    (omega arith))

short_laid : (s : BuilderState) (ocf : List ℕ) (packets : List (List ℕ)) (frames : List FrameView) → s.idle_left ≤ 6
    → s.total ≤ 2048 → s.idle_left + length s.pending < data_size s → IsLaidOutBy s packets frames
    → IsKeptWhen false s ocf packets frames
short_laid s ocf packets frames small few short h =
    let size : ℕ = data_size s in
    let place : ℕ = length (carried_octets frames) in
    let left : ℕ = s.idle_left + s.begun in
    let held : List ℕ = held_by s in
    let idle : List ℕ = idle_of s in
    let all : List (List ℕ) = h.laid.all ++ idle ∷ [] in
    let sizes : List ℕ = s.sizes ++ length idle ∷ [] in
    let long : length held ≡ s.idle_left + length s.pending = length-held s (omega arith) in
    let count : length idle ≡ max (room_of s) 7 = length-idle (max (room_of s) 7) (omega arith) in
    let total : place + length held ≡ length (concat h.laid.all) = carried_within packets frames held h.laid in
    let x = packet_after packets packets frames held idle h.laid
    (idle_is (max (room_of s) 7) (omega arith) (omega arith)) (not_handed packets (max (room_of s) 7)) in
    let total-more : length (concat all) ≡ length (concat h.laid.all) + length idle = length-more h.laid.all idle in
    let stream : length (held ++ idle) ≡ length held + length idle = length-append held idle in
    let more : IsCutAt all place left sizes = cut_more h.laid.all place left s.sizes idle h.cut in
    let most : length (concat h.laid.all) ≡ place + left + length (concat h.cut.whole) =
    cut_most h.laid.all place left s.sizes h.cut in
    let most-more : length (concat all) ≡ place + left + length (concat more.whole) =
    cut_most all place left sizes more in
    let pointed : IsPointed all place (first_start left size) size =
    pointed_first all place left size sizes more (λ lt. omega arith) in
    filled_laid s ocf packets frames (held ++ idle) x.0 all x.1 (omega arith) refl pointed h.next
    (held_short s (omega arith) short) (cut_short s h.laid.all place h.cut (omega arith) short)

-- ---- each frame

laid_when : (rest : Bool) (s : BuilderState) (ocf : List ℕ) (packets : List (List ℕ)) (frames : List FrameView)
    → is_at_rest s ≡ rest → s.idle_left ≤ 6 → s.total ≤ 2048 → IsLaidOutBy s packets frames
    → IsKeptWhen rest s ocf packets frames
laid_when true s ocf packets frames e small few h = idle_laid s ocf packets frames e h
laid_when false s ocf packets frames e small few h =
    elim (cases_lt (s.idle_left + length s.pending) (data_size s)) [
      | inl lt ↦ short_laid s ocf packets frames small few lt h
      | inr ge ↦ full_laid s ocf packets frames small ge h
    ]

pub build_laid : (s : BuilderState) (ocf : List ℕ) (packets : List (List ℕ)) (frames : List FrameView) → s.idle_left ≤ 6
    → s.total ≤ 2048 → IsLaidOutBy s packets frames
    → IsLaidOutBy (build_step s ocf).1 packets (frames ++ (build_step s ocf).0 ∷ [])
build_laid s ocf packets frames small few h = laid_when (is_at_rest s) s ocf packets frames refl small few h
