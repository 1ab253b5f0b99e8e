-- If some of the frames arrive, an extractor delivers the packets that arrive with them.
use Rattle.std.proofs.Common.{◌≡◌, ◌<◌, ℕ, zero, suc, ◌+◌, ◌-◌, ◌%◌, Bool, true, false, eqb, List}
use Rattle.std.proofs.Common.{[], ◌∷◌, ◌++◌, length, map, replicate, Option, Some, None, refl, sym}
use Rattle.std.proofs.Common.{ap, subst, ◌∙◌, arith, append_assoc, length-append}
use Rattle.std.specs.List.{AllByRecursion, concat}
use Rattle.std.proofs.lemmas.Bool.{ne_eqb}
use Rattle.std.proofs.lemmas.List.{append-nil, map-append, replicate-append-replicate}
use Rattle.std.proofs.lemmas.List.Folds.{concat-append}
use Rattle.tm_link.specs.declared.gap.Gap.TheVariants.{Lost}
use Rattle.tm_link.specs.Arrivals.{IsInRange, all_extracted}
use Rattle.tm_link.specs.Extractor.{ExtractorState, new_extractor, gap_of, part_over_gap}
use Rattle.tm_link.specs.Extractor.{finished_packets, part_after, without_idle, extract_step}
use Rattle.tm_link.specs.Layout.{FrameView, IsSpelling}
use Rattle.tm_link.specs.Stream.{IsPointed, IsLaidOut, IsClose, slice_of, carried_octets, marks_of}
use Rattle.tm_link.specs.Stream.{complete_packets, choice, arrived_packets}
use Rattle.tm_link.proofs.PlaceInStream.{complete_packets-short, Packets, Stood, none_opens}
use Rattle.tm_link.proofs.PlaceInStream.{moved_on, complete_packets-alike, AreRecords}
use Rattle.tm_link.proofs.Records.{without_idle-append}
use Rattle.tm_link.proofs.FrameSteps.{kept, Stepped, step_of}

-- ---- the frames from a place on

-- each has the next count, some data, and the pointer of its place
abbrev Follow : Packets → ℕ → ℕ → List FrameView → Type 0
Follow all place count [] = Unit {0}
Follow all place count (f ∷ frames) =
    (f.vc_count ≡ count) × IsInRange f × IsPointed all place f.pointer (length f.payload)
    × Follow all (place + length (slice_of f)) ((count + 1) % 256) frames

abbrev FirstIs : ℕ → List FrameView → Type 0
FirstIs count [] = Unit {0}
FirstIs count (f ∷ frames) = f.vc_count ≡ count

abbrev HasPointers : Packets → List FrameView → Type 0
HasPointers all whole =
    (before after : List FrameView) (f : FrameView) → whole ≡ before ++ f ∷ after
    → IsPointed all (length (carried_octets before)) f.pointer (length f.payload)

abbrev HasCounts : List FrameView → Type 0
HasCounts whole =
    (before after : List FrameView) (f g : FrameView) → whole ≡ before ++ f ∷ g ∷ after
    → g.vc_count ≡ (f.vc_count + 1) % 256

carried_octets-push : (before : List FrameView) (f : FrameView)
    → length (carried_octets (before ++ f ∷ [])) ≡ length (carried_octets before) + length (slice_of f)
carried_octets-push before f =
    ap (λ (xs : Packets). length (concat xs)) (map-append slice_of before (f ∷ []))
    ∙ ap length (concat-append (map slice_of before) (slice_of f ∷ []))
    ∙ length-append (carried_octets before) (slice_of f ++ [])
    ∙ ap (λ (xs : List ℕ). length (carried_octets before) + length xs) (append-nil (slice_of f))

next_first : (whole before frames : List FrameView) (f : FrameView) (count : ℕ) → HasCounts whole
    → whole ≡ before ++ f ∷ frames → f.vc_count ≡ count → FirstIs ((count + 1) % 256) frames
next_first whole before [] f count counts e is = tt
next_first whole before (g ∷ frames) f count counts e is = counts before frames f g e ∙ ap (λ n. (n + 1) % 256) is

follow_of : (all : Packets) (whole before frames : List FrameView) (count : ℕ) → HasPointers all whole → HasCounts whole
    → whole ≡ before ++ frames → AllByRecursion IsInRange frames → FirstIs count frames
    → Follow all (length (carried_octets before)) count frames
follow_of all whole before [] count pointers counts e each first = tt
follow_of all whole before (f ∷ frames) count pointers counts e each first =
    let regrouped : whole ≡ (before ++ f ∷ []) ++ frames = e ∙ sym (append_assoc before (f ∷ []) frames) in
    let rest = follow_of all whole (before ++ f ∷ []) frames ((count + 1) % 256) pointers counts regrouped each.1
    (next_first whole before frames f count counts e first) in (
      first,
      each.0,
      pointers before frames f e,
      subst (λ (n : ℕ). Follow all n ((count + 1) % 256) frames)
          (carried_octets-push before f) rest,
    )

abbrev first_count : List FrameView → ℕ
first_count [] = 0
first_count (f ∷ frames) = f.vc_count

first_is : (frames : List FrameView) → FirstIs (first_count frames) frames
first_is [] = tt
first_is (f ∷ frames) = refl

-- ---- the frames that are left out

-- after a frame that arrived, and n frames that did not
abbrev Spaced : ℕ → List Bool → Type 0
Spaced n [] = Unit {0}
Spaced n (true ∷ chosen) = (n < 256) × Spaced 0 chosen
Spaced n (false ∷ chosen) = Spaced (suc n) chosen

-- before any frame has arrived
abbrev Begins : List Bool → Type 0
Begins [] = Unit {0}
Begins (true ∷ chosen) = Spaced 0 chosen
Begins (false ∷ chosen) = Begins chosen

abbrev Near : Option ℕ → ℕ → List Bool → Type 0
Near None n chosen = Begins chosen
Near (Some last) n chosen = Spaced n chosen

replicate-shift : (n : ℕ) (chosen : List Bool) → replicate n false ++ false ∷ chosen ≡ replicate (suc n) false ++ chosen
replicate-shift zero chosen = refl
replicate-shift (suc n) chosen = ap (λ (xs : List Bool). false ∷ xs) (replicate-shift n chosen)

spaced_from : (n : ℕ) (chosen : List Bool) → IsClose (true ∷ (replicate n false ++ chosen)) → Spaced n chosen
spaced_from n [] h = tt
spaced_from n (true ∷ chosen) h =
    let front : List Bool = true ∷ replicate n false in (
      h [] chosen n refl,
      spaced_from 0 chosen
          (λ before after k e. h (front ++ before) after k
          (ap (λ (xs : List Bool). front ++ xs) e ∙ sym (append_assoc front before _))),
    )
spaced_from n (false ∷ chosen) h =
    spaced_from (suc n) chosen (subst (λ (xs : List Bool). IsClose (true ∷ xs)) (replicate-shift n chosen) h)

begins_from : (chosen : List Bool) → IsClose chosen → Begins chosen
begins_from [] h = tt
begins_from (true ∷ chosen) h = spaced_from 0 chosen h
begins_from (false ∷ chosen) h =
    begins_from chosen (λ before after n e. h (false ∷ before) after n (ap (λ (xs : List Bool). false ∷ xs) e))

near_lost : (last : Option ℕ) (n : ℕ) (chosen : List Bool) → Near last n (false ∷ chosen) → Near last (suc n) chosen
near_lost None n chosen h = h
near_lost (Some last) n chosen h = h

near_came : (last : Option ℕ) (n : ℕ) (chosen : List Bool) → Near last n (true ∷ chosen) → Spaced 0 chosen
near_came None n chosen h = h
near_came (Some last) n chosen h = h.1

-- ---- the extractor's part

-- after n frames that did not arrive, before one with this count: what the part is, and what is kept of the open packet
abbrev Tied : Option ℕ → List ℕ → ℕ → ℕ → List ℕ → Type 0
Tied None part n count keeps = (part ≡ []) × (keeps ≡ [])
Tied (Some last) part n count keeps =
    (last < 256) × (count ≡ (last + 1 + n) % 256) × (n ≡ 0 → part ≡ keeps) × (0 < n → keeps ≡ [])

tied_lost : (last : Option ℕ) (part : List ℕ) (n count : ℕ) (keeps after : List ℕ) → Tied last part n count keeps
    → after ≡ [] → Tied last part (suc n) ((count + 1) % 256) after
tied_lost None part n count keeps after t none = (t.0, none)
tied_lost (Some last) part n count keeps after t none =
    (t.0, omega (arith, t.1), λ (is : suc n ≡ 0). absurd (omega arith), λ some. none)

part_by_gap : (n : ℕ) (part keeps : List ℕ) → (n ≡ 0 → part ≡ keeps) → (0 < n → keeps ≡ [])
    → part_over_gap (Lost n) part ≡ keeps
part_by_gap zero part keeps none some = none refl
part_by_gap (suc n) part keeps none some =
    let t : eqb (suc n) 0 ≡ false = ne_eqb _ _ (λ (is : suc n ≡ 0). omega arith) in
    rw t (sym (some (omega arith)))

tied_part : (last : Option ℕ) (part : List ℕ) (n count : ℕ) (keeps : List ℕ) (chosen : List Bool)
    → Tied last part n count keeps → Near last n (true ∷ chosen) → part_over_gap (gap_of last count) part ≡ keeps
tied_part None part n count keeps chosen t near = t.0 ∙ sym t.1
tied_part (Some last) part n count keeps chosen t near =
    let gap : (count + (255 - last)) % 256 ≡ n = omega (arith, t.0, t.1, near.0) in
    ap (λ k. part_over_gap (Lost k) part) gap ∙ part_by_gap n part keeps t.2 t.3

-- ---- if no more frames arrive, no more packets do

no_more : (all : Packets) (place : ℕ) (tail : List ℕ) (ps : Packets) (others : List ℕ) (marks : List Bool)
    → Stood all place tail ps others → length marks ≡ length tail
    → without_idle (complete_packets ps (marks ++ [])) ≡ []
no_more all place tail [] others marks s sized = refl
no_more all place tail (p ∷ ps) others marks s sized =
    let short : length tail < length p = s.opens in
    ap without_idle (complete_packets-short p ps (marks ++ []) s.each.1 (omega (arith, length-append marks [])))

-- ---- any choice

-- one frame, which arrived or did not
came_one : (came : Bool) (ps added left given : Packets) (marks flags more : List Bool) (n : ℕ)
    → complete_packets ps (marks ++ (replicate n came ++ more)) ≡ added ++ complete_packets left (flags ++ more)
    → given ≡ without_idle added
    → given ++ without_idle (complete_packets left (flags ++ more))
    ≡ without_idle (complete_packets ps (marks ++ (replicate n came ++ more)))
came_one came ps added left given marks flags more n e is =
    ap (λ (xs : Packets). xs ++ without_idle (complete_packets left (flags ++ more))) is
    ∙ sym (without_idle-append added (complete_packets left (flags ++ more))) ∙ ap without_idle (sym e)

-- the step of the next frame, and the place in the stream after it
next_frame : (came : Bool) (f : FrameView) (frames : List FrameView) (all : Packets) (place : ℕ) (tail : List ℕ)
    (ps : Packets) (others : List ℕ) (marks : List Bool) (count : ℕ)
    → Stood all place tail ps (carried_octets (f ∷ frames) ++ others) → length marks ≡ length tail
    → Follow all place count (f ∷ frames)
    → (step : Stepped came ps tail marks f.pointer f.payload)
    × Stood all (place + length (slice_of f)) step.0.begun step.0.left (carried_octets frames ++ others)
next_frame came f frames all place tail ps others marks count stood sized follow =
    let behind : List ℕ = carried_octets frames ++ others in
    let here : Stood all place tail ps (slice_of f ++ behind) =
    subst (Stood all place tail ps) (append_assoc (slice_of f) (carried_octets frames) others) stood in
    let step = step_of came all place tail f.payload behind ps marks f.pointer here sized follow.1.some follow.2 in
    (step, moved_on all place tail ps (slice_of f) behind came marks here step.0)

extracted : (frames : List FrameView) (chosen : List Bool) (all : Packets) (place : ℕ) (tail : List ℕ) (ps : Packets)
    (others : List ℕ) (marks : List Bool) (s : ExtractorState) (n count : ℕ)
    → Stood all place tail ps (carried_octets frames ++ others) → length marks ≡ length tail
    → Follow all place count frames → Near s.last n chosen → Tied s.last s.part n count (kept tail marks)
    → all_extracted s (choice frames chosen) ≡ without_idle (complete_packets ps (marks ++ marks_of frames chosen))
extracted [] chosen all place tail ps others marks s n count stood sized follow near tied =
    sym (no_more all place tail ps others marks stood sized)
extracted (f ∷ frames) [] all place tail ps others marks s n count stood sized follow near tied =
    sym (no_more all place tail ps (carried_octets (f ∷ frames) ++ others) marks stood sized)
extracted (f ∷ frames) (false ∷ chosen) all place tail ps others marks s n count stood sized follow near tied =
    let next = next_frame false f frames all place tail ps others marks count stood sized follow in
    let m = next.0.0 in
    extracted frames chosen all (place + length (slice_of f)) m.begun m.left others m.flags s (suc n)
    ((count + 1) % 256) next.1 m.sized follow.3 (near_lost s.last n chosen near)
    (tied_lost s.last s.part n count (kept tail marks) (kept m.begun m.flags) tied next.0.1.1)
    ∙ came_one false ps m.added m.left [] marks m.flags (marks_of frames chosen) (length (slice_of f))
    (m.comes (marks_of frames chosen)) (ap without_idle (sym next.0.1.0))
extracted (f ∷ frames) (true ∷ chosen) all place tail ps others marks s n count stood sized follow near tied =
    let next = next_frame true f frames all place tail ps others marks count stood sized follow in
    let m = next.0.0 in
    let part : part_over_gap (gap_of s.last f.vc_count) s.part ≡ kept tail marks =
    ap (λ (k : ℕ). part_over_gap (gap_of s.last k) s.part) follow.0
    ∙ tied_part s.last s.part n count (kept tail marks) chosen tied near in
    let given : (extract_step s f).packets ≡ without_idle m.added =
    ap (λ (xs : List ℕ). without_idle (finished_packets xs f.pointer f.payload)) part ∙ ap without_idle next.0.1.0 in
    let after : (extract_step s f).after.part ≡ kept m.begun m.flags =
    ap (λ (xs : List ℕ). part_after xs f.pointer f.payload) part ∙ next.0.1.1 in
    let counted : (count + 1) % 256 ≡ (f.vc_count + 1 + 0) % 256 = omega (arith, follow.0) in
    ap (λ (xs : Packets). (extract_step s f).packets ++ xs)
    (extracted frames chosen all (place + length (slice_of f)) m.begun m.left others m.flags (extract_step s f).after 0
    ((count + 1) % 256) next.1 m.sized follow.3 (near_came s.last n chosen near)
    (follow.1.count, counted, λ is. after, λ (some : 0 < 0). absurd (omega arith)))
    ∙ came_one true ps m.added m.left (extract_step s f).packets marks m.flags (marks_of frames chosen)
    (length (slice_of f)) (m.comes (marks_of frames chosen)) given

-- a new extractor delivers what arrives
pub extraction_exact : (packets : Packets) (frames : List FrameView) (rest : List ℕ)
    (laid : IsLaidOut packets frames rest) (chosen : List Bool) → AllByRecursion IsInRange frames → IsClose chosen
    → all_extracted new_extractor (choice frames chosen) ≡ arrived_packets laid.all frames chosen
extraction_exact packets frames rest laid chosen each close =
    let start : Stood laid.all 0 [] laid.all (carried_octets frames ++ rest) =
    record {
      passed =
          [];
      parts = refl;
      each =
          laid.each;
      place_is = refl;
      opens = none_opens laid.all laid.each;
      ahead = laid.stream;
    } in
    extracted frames chosen laid.all 0 [] laid.all rest [] new_extractor 0 (first_count frames) start refl
    (follow_of laid.all frames [] frames (first_count frames) laid.pointers laid.counts refl each (first_is frames))
    (begins_from chosen close) (refl, refl)

-- If all frames arrive, all packets are delivered.

-- a frame that octets spell is in range
pub spelled_in_range : (total : ℕ) (f : FrameView) (octets : List ℕ) → IsSpelling total f octets → IsInRange f
spelled_in_range total f octets h =
    record {
      count =
          omega (arith, h.octets 3, h.spells.vc_count);
      some = omega (arith, h.spells.payload, h.spells.least);
    }

choice-all : (frames : List FrameView) → choice frames (replicate (length frames) true) ≡ frames
choice-all [] = refl
choice-all (f ∷ frames) = ap (λ (xs : List FrameView). f ∷ xs) (choice-all frames)

marks_of-all : (frames : List FrameView)
    → marks_of frames (replicate (length frames) true) ≡ replicate (length (carried_octets frames)) true
marks_of-all [] = refl
marks_of-all (f ∷ frames) =
    ap (λ (ms : List Bool). replicate (length (slice_of f)) true ++ ms) (marks_of-all frames)
    ∙ replicate-append-replicate (length (slice_of f)) (length (carried_octets frames)) true
    ∙ ap (λ n. replicate n true) (sym (length-append (slice_of f) (carried_octets frames)))

complete_packets-all : (all : Packets) → AreRecords all
    → complete_packets all (replicate (length (concat all)) true) ≡ all
complete_packets-all all each =
    let marks : List Bool = replicate (length (concat all)) true in
    ap (λ (ms : List Bool). complete_packets all ms) (sym (append-nil marks))
    ∙ ap (λ (ps : Packets). complete_packets ps (marks ++ [])) (sym (append-nil all))
    ∙ complete_packets-alike true all [] [] each ∙ append-nil all

-- none is left out
none_out : (k n : ℕ) (before after : List Bool)
    → replicate k true ≡ before ++ true ∷ (replicate n false ++ true ∷ after) → n < 256
none_out zero n [] after e = absurd cc
none_out zero n (b ∷ before) after e = absurd cc
none_out (suc k) n (b ∷ before) after e = none_out k n before after cc
none_out (suc k) zero [] after e = omega arith
none_out (suc zero) (suc n) [] after e = absurd cc
none_out (suc (suc k)) (suc n) [] after e = absurd cc

pub all_handed_out : (packets : Packets) (frames : List FrameView) → IsLaidOut packets frames []
    → AllByRecursion IsInRange frames → all_extracted new_extractor frames ≡ packets
all_handed_out packets frames laid each =
    let chosen : List Bool = replicate (length frames) true in
    let whole : carried_octets frames ≡ concat laid.all = sym (append-nil (carried_octets frames)) ∙ laid.stream in
    ap (all_extracted new_extractor) (sym (choice-all frames))
    ∙ extraction_exact packets frames [] laid chosen each
    (λ before after n e. none_out (length frames) n before after e)
    ∙ ap (λ (ms : List Bool). without_idle (complete_packets laid.all ms))
    (marks_of-all frames ∙ ap (λ (xs : List ℕ). replicate (length xs) true) whole)
    ∙ ap without_idle (complete_packets-all laid.all laid.each)
    ∙ laid.sent
