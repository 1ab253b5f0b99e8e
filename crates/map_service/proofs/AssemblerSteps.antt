-- What one more segment adds to what is assembled from a list of segments of one MAP.
use Rattle.std.proofs.Common.{◌≡◌, ℕ, List, [], ◌∷◌, ◌++◌, Option, Some, None, refl, sym, ap, ◌∙◌}
use Rattle.std.proofs.Common.{append_assoc, arith, Bool, true, false, eqb, ◌≢◌, ◌≤◌, length, not}
use Rattle.std.proofs.Common.{cond, ◌&&◌, set, length-append, inl, inr, get_or}
use Rattle.std.proofs.Common.{replicate}
use Rattle.std.proofs.lemmas.List.{append-nil, get_or-set_same, get_or-set_other, get_or_past}
use Rattle.std.proofs.lemmas.List.{length-set, get_or-replicate, set-get_or}
use Rattle.std.proofs.lemmas.List.{length-replicate}
use Rattle.tc_frame.specs.declared.frame.SegmentFlags.{SegmentFlags}
use Rattle.tc_frame.specs.declared.frame.SegmentFlags.TheVariants.{First, Continuing, Last, Alone}
use Rattle.tc_frame.specs.Layout.{SegmentView}
use Rattle.map_service.specs.declared.limits.Limits.{Limits}
use Rattle.map_service.specs.Assembly.{one_packet, packets_of, up_to_last_from, up_to_last}
use Rattle.map_service.specs.Assembly.{up_to_end_from, up_to_end, block_packets, blocks_packets}
use Rattle.map_service.specs.Assembly.{part_from, ending_part, is_open, of_map, assembled}
use Rattle.map_service.specs.Assembly.{is_too_long, unless_too_long, open_part}
use Rattle.std.proofs.lemmas.List.Elements.{filter-append}
use Rattle.std.proofs.lemmas.Bool.{cond_both, ne_eqb, eq-eqb, le-ltb, cases_lt, cases_eq}
use Rattle.std.proofs.lemmas.Bool.Decides.{nat_tests}
use Rattle.map_service.specs.declared.dropped.Dropped.{Dropped}
use Rattle.map_service.specs.declared.dropped.Dropped.TheVariants.{NotAPacket, TooLong}
use Rattle.map_service.specs.Packets.{packets_in, are_packets, is_packet, is_some_over}
use Rattle.map_service.specs.AssemblerTable.{TakeOutcome, one_fault, several_fault, alone_fault}
use Rattle.map_service.specs.AssemblerTable.{alone_packets, drop_outcome, packets_outcome}
use Rattle.map_service.specs.AssemblerTable.{part_outcome, cell, take_step, lone_packet_cell}
use Rattle.map_service.specs.Exactness.{AssemblerState, part_on_map, step_at, after_step}
use Rattle.map_service.specs.Exactness.{HasPartsOf, IsTakenExactly}
use Rattle.map_service.specs.declared.assembler.Change.{Change}
use Rattle.map_service.specs.Prepared.{part_after}

-- ---- segments that are all continuing end no block, complete no packet and begin no part

pub record AllGoOn (limits : Limits) (segments : List SegmentView) : Type 0 where
  pub unended : up_to_last segments ≡ None
  pub given : blocks_packets limits segments ≡ []
  pub unbegun : ending_part segments ≡ None

one_goes_on : (limits : Limits) (s : SegmentView) (segments : List SegmentView) (flags : SegmentFlags)
    (more : Option (List ℕ)) (joined : List ℕ)
    → s.header.flags ≡ flags → up_to_end_from flags s.payload more ≡ Some joined
    → ((j : List ℕ) → more ≡ Some j → AllGoOn limits segments) → AllGoOn limits (s ∷ segments)
one_goes_on limits s segments Continuing (Some more) joined e h rest =
    let r = rest more refl in
    record { unended = rw (e, r.unended) refl; given = rw (e, r.given) refl; unbegun = rw (e, r.unbegun) refl }
one_goes_on limits s segments Continuing None joined e h rest = absurd cc
one_goes_on limits s segments _ more joined e h rest = absurd cc

pub all_go_on : (limits : Limits) (segments : List SegmentView) (joined : List ℕ) → up_to_end segments ≡ Some joined
    → AllGoOn limits segments
all_go_on limits [] joined h = record { unended = refl; given = refl; unbegun = refl }
all_go_on limits (s ∷ segments) joined h =
    one_goes_on limits s segments s.header.flags (up_to_end segments) joined refl h (all_go_on limits segments)

-- ---- the joined data up to a last segment

-- after one more segment, if these are the data up to a last segment, and up to the end, before it
abbrev pub ended : SegmentFlags → List ℕ → Option (List ℕ) → Option (List ℕ) → Option (List ℕ)
ended flags octets (Some joined) all = Some joined
ended Last octets None (Some joined) = Some (joined ++ octets)
ended Last octets None None = None
ended _ octets None all = None

up_to_last_from-ended : (f flags : SegmentFlags) (octets o : List ℕ) (last all : Option (List ℕ))
    → up_to_last_from f o (ended flags octets last all)
    ≡ ended flags octets (up_to_last_from f o last) (up_to_end_from f o all)
up_to_last_from-ended f flags octets o last all = grind (arith, append_assoc)

pub up_to_last-push : (segments : List SegmentView) (s : SegmentView)
    → up_to_last (segments ++ s ∷ []) ≡ ended s.header.flags s.payload (up_to_last segments) (up_to_end segments)
up_to_last-push [] s = grind arith
up_to_last-push (x ∷ segments) s =
    ap (up_to_last_from x.header.flags x.payload) (up_to_last-push segments s)
    ∙ up_to_last_from-ended x.header.flags s.header.flags s.payload x.payload (up_to_last segments) (up_to_end segments)

-- ---- the joined data up to the end

abbrev pub continued : SegmentFlags → List ℕ → Option (List ℕ) → Option (List ℕ)
continued Continuing octets (Some joined) = Some (joined ++ octets)
continued Continuing octets None = None
continued _ octets all = None

up_to_end_from-continued : (f flags : SegmentFlags) (octets o : List ℕ) (all : Option (List ℕ))
    → up_to_end_from f o (continued flags octets all) ≡ continued flags octets (up_to_end_from f o all)
up_to_end_from-continued f flags octets o all = grind (arith, append_assoc)

pub up_to_end-push : (segments : List SegmentView) (s : SegmentView)
    → up_to_end (segments ++ s ∷ []) ≡ continued s.header.flags s.payload (up_to_end segments)
up_to_end-push [] s = grind (arith, append-nil)
up_to_end-push (x ∷ segments) s =
    ap (up_to_end_from x.header.flags x.payload) (up_to_end-push segments s)
    ∙ up_to_end_from-continued x.header.flags s.header.flags s.payload x.payload (up_to_end segments)

-- ---- the part at the end

abbrev pub part_behind : SegmentFlags → List ℕ → Option (List ℕ) → Option (List ℕ)
part_behind Alone octets part = None
part_behind First octets part = Some octets
part_behind Continuing octets (Some part) = Some (part ++ octets)
part_behind Continuing octets None = None
part_behind Last octets part = None

part_from-behind : (f flags : SegmentFlags) (octets o : List ℕ) (all later : Option (List ℕ))
    → part_from f o (continued flags octets all) (part_behind flags octets later)
    ≡ part_behind flags octets (part_from f o all later)
part_from-behind f flags octets o all later = grind (arith, append_assoc)

pub ending_part-push : (segments : List SegmentView) (s : SegmentView)
    → ending_part (segments ++ s ∷ []) ≡ part_behind s.header.flags s.payload (ending_part segments)
ending_part-push [] s = grind (arith, append-nil)
ending_part-push (x ∷ segments) s =
    rw (up_to_end-push segments s, ending_part-push segments s)
    (part_from-behind x.header.flags s.header.flags s.payload x.payload (up_to_end segments) (ending_part segments))

-- ---- the packets

-- the packets that the last segment adds, if this part was open before it
abbrev pub packets_behind : Limits → SegmentFlags → List ℕ → Option (List ℕ) → List (List ℕ)
packets_behind limits Alone octets part = packets_of limits octets
packets_behind limits First octets part = []
packets_behind limits Continuing octets part = []
packets_behind limits Last octets (Some part) = one_packet limits (part ++ octets)
packets_behind limits Last octets None = []

first_gives : (limits : Limits) (flags : SegmentFlags) (octets o : List ℕ) (last all later : Option (List ℕ))
    (given : List (List ℕ))
    → ((j : List ℕ) → all ≡ Some j → (last ≡ None) × (given ≡ []) × (later ≡ None))
    → block_packets limits First o (ended flags octets last all) ++ (given ++ packets_behind limits flags octets later)
    ≡ (block_packets limits First o last ++ given) ++ packets_behind limits flags octets (part_from First o all later)
first_gives limits flags octets o (Some joined) None later given h =
    sym (append_assoc (one_packet limits (o ++ joined)) given (packets_behind limits flags octets later))
first_gives limits flags octets o (Some joined) (Some j) later given h = let impossible = (h j refl).0 in absurd cc
first_gives limits Last octets o None None later given h = refl
first_gives limits Last octets o None (Some j) later given h =
    let known = h j refl in
    rw (known.1, known.2, append-nil, append_assoc o j octets) refl
first_gives limits _ octets o None all later given h = refl

block_gives : (limits : Limits) (f flags : SegmentFlags) (octets o : List ℕ) (last all later : Option (List ℕ))
    (given : List (List ℕ))
    → ((j : List ℕ) → all ≡ Some j → (last ≡ None) × (given ≡ []) × (later ≡ None))
    → block_packets limits f o (ended flags octets last all) ++ (given ++ packets_behind limits flags octets later)
    ≡ (block_packets limits f o last ++ given) ++ packets_behind limits flags octets (part_from f o all later)
block_gives limits Alone flags octets o last all later given h =
    sym (append_assoc (packets_of limits o) given (packets_behind limits flags octets later))
block_gives limits First flags octets o last all later given h =
    first_gives limits flags octets o last all later given h
block_gives limits _ flags octets o last all later given h = refl

pub blocks_packets-push : (limits : Limits) (segments : List SegmentView) (s : SegmentView)
    → blocks_packets limits (segments ++ s ∷ []) ≡ blocks_packets limits segments
    ++ packets_behind limits s.header.flags s.payload (ending_part segments)
blocks_packets-push limits [] s = grind (arith, append-nil)
blocks_packets-push limits (x ∷ segments) s =
    rw (up_to_last-push segments s, blocks_packets-push limits segments s)
    (block_gives limits x.header.flags s.header.flags s.payload x.payload (up_to_last segments) (up_to_end segments)
    (ending_part segments) (blocks_packets limits segments)
    (λ j e. let known = all_go_on limits segments j e in (known.unended, known.given, known.unbegun)))

-- ---- what is assembled from a beginning of a list of segments

blocks_begin : (limits : Limits) (xs ys : List SegmentView)
    → (more : List (List ℕ)) × (blocks_packets limits (xs ++ ys) ≡ blocks_packets limits xs ++ more)
blocks_begin limits xs [] =
    ([], ap (blocks_packets limits) (append-nil xs) ∙ sym (append-nil (blocks_packets limits xs)))
blocks_begin limits xs (y ∷ ys) =
    let rest = blocks_begin limits (xs ++ y ∷ []) ys in
    let one : List (List ℕ) = packets_behind limits y.header.flags y.payload (ending_part xs) in (
      one ++ rest.0,
      ap (blocks_packets limits) (sym (append_assoc xs (y ∷ []) ys))
          ∙ rest.1
          ∙ ap (λ (ps : List (List ℕ)). ps ++ rest.0) (blocks_packets-push limits xs y)
          ∙ append_assoc (blocks_packets limits xs) one rest.0,
    )

begins_by : (limits : Limits) (m : ℕ) (xs ys : List SegmentView) (opened : Bool) → is_open limits m ≡ opened
    → (more : List (List ℕ)) × (assembled limits m (xs ++ ys) ≡ assembled limits m xs ++ more)
begins_by limits m xs ys true h =
    let rest = blocks_begin limits (of_map m xs) (of_map m ys) in
    (rest.0, rw (h, filter-append (λ (x : SegmentView). eqb x.header.map m) xs ys) rest.1)
begins_by limits m xs ys false h = ([], rw h refl)

-- the packets of a beginning are a beginning of the packets
pub assembled_begins : (limits : Limits) (m : ℕ) (xs ys : List SegmentView)
    → (more : List (List ℕ)) × (assembled limits m (xs ++ ys) ≡ assembled limits m xs ++ more)
assembled_begins limits m xs ys = begins_by limits m xs ys _ refl

-- The assembler's step at a segment is exactly what the segment adds.

-- ---- octets judged as a whole

packets_outcome-part : (earlier : Option Dropped) (packets : List (List ℕ)) (fault : Option Dropped)
    → (packets_outcome earlier packets fault).part ≡ None
packets_outcome-part earlier packets None = refl
packets_outcome-part earlier packets (Some cause) = refl

one_by : (earlier : Option Dropped) (octets : List ℕ) (long whole : Bool)
    → cond (whole && not long) (octets ∷ []) []
    ≡ (packets_outcome earlier (octets ∷ [])
    (cond long (Some TooLong) (cond (not whole) (Some NotAPacket) None))).packets
one_by earlier octets true true = refl
one_by earlier octets true false = refl
one_by earlier octets false true = refl
one_by earlier octets false false = refl

one_given : (limits : Limits) (earlier : Option Dropped) (octets : List ℕ)
    → one_packet limits octets ≡ (packets_outcome earlier (octets ∷ []) (one_fault limits octets)).packets
one_given limits earlier octets = one_by earlier octets (is_too_long limits octets) (is_packet octets)

several_by : (earlier : Option Dropped) (packets : List (List ℕ)) (over whole : Bool)
    → cond (whole && not over) packets []
    ≡ (packets_outcome earlier packets (cond (not whole) (Some NotAPacket) (cond over (Some TooLong) None))).packets
several_by earlier packets true true = refl
several_by earlier packets true false = refl
several_by earlier packets false true = refl
several_by earlier packets false false = refl

alone_by : (limits : Limits) (earlier : Option Dropped) (octets : List ℕ) (blocking : Bool)
    → cond blocking (cond (are_packets octets && not (is_some_over limits.max_packet (packets_in octets)))
    (packets_in octets) []) (one_packet limits octets)
    ≡ (packets_outcome earlier (cond blocking (packets_in octets) (octets ∷ []))
    (cond blocking (several_fault limits octets) (one_fault limits octets))).packets
alone_by limits earlier octets true =
    several_by earlier (packets_in octets) (is_some_over limits.max_packet (packets_in octets)) (are_packets octets)
alone_by limits earlier octets false = one_given limits earlier octets

alone_given : (limits : Limits) (earlier : Option Dropped) (octets : List ℕ)
    → packets_of limits octets
    ≡ (packets_outcome earlier (alone_packets limits octets) (alone_fault limits octets)).packets
alone_given limits earlier octets = alone_by limits earlier octets limits.blocking

-- ---- octets that are opened

opened_by : (earlier : Option Dropped) (octets : List ℕ) (long : Bool)
    → (cond long None (Some octets))
    ≡ (let o : TakeOutcome =
    cond long (record { dropped = Some TooLong; packets = []; part = None })
    (record { dropped = earlier; packets = []; part = Some octets }) in o).part
opened_by earlier octets true = refl
opened_by earlier octets false = refl

part_outcome-part : (limits : Limits) (earlier : Option Dropped) (octets : List ℕ)
    → unless_too_long limits (Some octets) ≡ (part_outcome limits earlier octets).part
part_outcome-part limits earlier octets = opened_by earlier octets (is_too_long limits octets)

part_outcome-packets : (limits : Limits) (earlier : Option Dropped) (octets : List ℕ)
    → (part_outcome limits earlier octets).packets ≡ []
part_outcome-packets limits earlier octets =
    cond_both (is_too_long limits octets) (drop_outcome TooLong) _ (λ o. o.packets ≡ []) (λ t. refl) (λ t. refl)

-- ---- octets that are too long remain too long

too_long_more : (limits : Limits) (part octets : List ℕ) → is_too_long limits part ≡ true
    → is_too_long limits (part ++ octets) ≡ true
too_long_more limits part octets h = grind (arith, nat_tests, length-append part octets)

-- ---- the cells

unless_long : (limits : Limits) (part : List ℕ) → is_too_long limits part ≡ true
    → unless_too_long limits (Some part) ≡ None
unless_long limits part h = rw h refl

unless_fits : (limits : Limits) (part : List ℕ) → is_too_long limits part ≡ false
    → unless_too_long limits (Some part) ≡ Some part
unless_fits limits part h = rw h refl

one_packet-long : (limits : Limits) (octets : List ℕ) → is_too_long limits octets ≡ true → one_packet limits octets ≡ []
one_packet-long limits octets h =
    let by : (whole : Bool) → (let xs : List (List ℕ) = cond (whole && not true) (octets ∷ []) [] in xs) ≡ [] =
    λ (whole : Bool). elim whole as (λ w. (let xs : List (List ℕ) = cond (w && not true) (octets ∷ []) [] in xs) ≡ [])
    [ true ↦ refl | false ↦ refl ] in rw h (by (is_packet octets))

cell-part_joined : (limits : Limits) (flags : SegmentFlags) (octets part : List ℕ) (long : Bool)
    → is_too_long limits part ≡ long
    → unless_too_long limits (part_behind flags octets (Some part))
    ≡ (cell limits flags (unless_too_long limits (Some part)) octets).part
cell-part_joined limits Alone octets part long h =
    sym (packets_outcome-part _ (alone_packets limits octets) (alone_fault limits octets))
cell-part_joined limits First octets part long h = part_outcome-part limits _ octets
cell-part_joined limits Continuing octets part true h =
    rw (unless_long limits part h) (unless_long limits (part ++ octets) (too_long_more limits part octets h))
cell-part_joined limits Continuing octets part false h =
    rw (unless_fits limits part h) (part_outcome-part limits None (part ++ octets))
cell-part_joined limits Last octets part true h = rw (unless_long limits part h) refl
cell-part_joined limits Last octets part false h =
    rw (unless_fits limits part h) (sym (packets_outcome-part None ((part ++ octets) ∷ [])
    (one_fault limits (part ++ octets))))

cell-part : (limits : Limits) (flags : SegmentFlags) (octets : List ℕ) (part : Option (List ℕ))
    → unless_too_long limits (part_behind flags octets part)
    ≡ (cell limits flags (unless_too_long limits part) octets).part
cell-part limits flags octets (Some part) = cell-part_joined limits flags octets part (is_too_long limits part) refl
cell-part limits Alone octets None =
    sym (packets_outcome-part None (alone_packets limits octets) (alone_fault limits octets))
cell-part limits First octets None = part_outcome-part limits None octets
cell-part limits _ octets None = refl

cell-packets_joined : (limits : Limits) (flags : SegmentFlags) (octets part : List ℕ) (long : Bool)
    → is_too_long limits part ≡ long
    → packets_behind limits flags octets (Some part)
    ≡ (cell limits flags (unless_too_long limits (Some part)) octets).packets
cell-packets_joined limits Alone octets part long h = alone_given limits _ octets
cell-packets_joined limits First octets part long h = sym (part_outcome-packets limits _ octets)
cell-packets_joined limits Continuing octets part true h = rw (unless_long limits part h) refl
cell-packets_joined limits Continuing octets part false h =
    rw (unless_fits limits part h) (sym (part_outcome-packets limits None (part ++ octets)))
cell-packets_joined limits Last octets part true h =
    rw (unless_long limits part h) (one_packet-long limits (part ++ octets) (too_long_more limits part octets h))
cell-packets_joined limits Last octets part false h =
    rw (unless_fits limits part h) (one_given limits None (part ++ octets))

cell-packets : (limits : Limits) (flags : SegmentFlags) (octets : List ℕ) (part : Option (List ℕ))
    → packets_behind limits flags octets part ≡ (cell limits flags (unless_too_long limits part) octets).packets
cell-packets limits flags octets (Some part) =
    cell-packets_joined limits flags octets part (is_too_long limits part) refl
cell-packets limits Alone octets None = alone_given limits None octets
cell-packets limits First octets None = sym (part_outcome-packets limits None octets)
cell-packets limits _ octets None = refl

-- ---- the segments of a MAP, with one more

of_one : (m : ℕ) (s : SegmentView) (same : Bool) → eqb s.header.map m ≡ same → of_map m (s ∷ []) ≡ cond same (s ∷ []) []
of_one m s same h = rw h refl

of_map-same : (segments : List SegmentView) (s : SegmentView)
    → of_map s.header.map (segments ++ s ∷ []) ≡ of_map s.header.map segments ++ s ∷ []
of_map-same segments s =
    filter-append (λ (x : SegmentView). eqb x.header.map s.header.map) segments (s ∷ [])
    ∙ ap (λ (xs : List SegmentView). of_map s.header.map segments ++ xs) (of_one s.header.map s true (eq-eqb _ _ refl))

of_map-other : (segments : List SegmentView) (s : SegmentView) (m : ℕ) → m ≢ s.header.map
    → of_map m (segments ++ s ∷ []) ≡ of_map m segments
of_map-other segments s m ne =
    filter-append (λ (x : SegmentView). eqb x.header.map m) segments (s ∷ [])
    ∙ ap (λ (xs : List SegmentView). of_map m segments ++ xs)
    (of_one m s false (ne_eqb _ _ (λ (e : s.header.map ≡ m). ne (sym e))))
    ∙ append-nil (of_map m segments)

-- ---- what is then assembled from the whole list

pub assembled-push : (limits : Limits) (segments : List SegmentView) (s : SegmentView) (opened : Bool)
    → is_open limits s.header.map ≡ opened
    → assembled limits s.header.map (segments ++ s ∷ []) ≡ assembled limits s.header.map segments
    ++ (take_step limits (open_part limits s.header.map segments) s).packets
assembled-push limits segments s true h =
    rw (h, of_map-same segments s)
    (blocks_packets-push limits (of_map s.header.map segments) s
    ∙ ap (λ (ps : List (List ℕ)). blocks_packets limits (of_map s.header.map segments) ++ ps)
    (cell-packets limits s.header.flags s.payload (ending_part (of_map s.header.map segments))))
assembled-push limits segments s false h = rw h refl

pub open_part-push : (limits : Limits) (segments : List SegmentView) (s : SegmentView) (opened : Bool)
    → is_open limits s.header.map ≡ opened
    → open_part limits s.header.map (segments ++ s ∷ [])
    ≡ (take_step limits (open_part limits s.header.map segments) s).part
open_part-push limits segments s true h =
    rw (h, of_map-same segments s)
    (ap (unless_too_long limits) (ending_part-push (of_map s.header.map segments) s)
    ∙ cell-part limits s.header.flags s.payload (ending_part (of_map s.header.map segments)))
open_part-push limits segments s false h = rw h refl

pub assembled-other : (limits : Limits) (segments : List SegmentView) (s : SegmentView) (m : ℕ) → m ≢ s.header.map
    → assembled limits m (segments ++ s ∷ []) ≡ assembled limits m segments
assembled-other limits segments s m ne = rw (of_map-other segments s m ne) refl

pub open_part-other : (limits : Limits) (segments : List SegmentView) (s : SegmentView) (m : ℕ) → m ≢ s.header.map
    → open_part limits m (segments ++ s ∷ []) ≡ open_part limits m segments
open_part-other limits segments s m ne = rw (of_map-other segments s m ne) refl

-- ---- the assembler's parts then

pub no_such_map : (limits : Limits) (m : ℕ) → 64 ≤ m → is_open limits m ≡ false
no_such_map limits m le = rw (le-ltb m 64 le) refl

none_open : (limits : Limits) (segments : List SegmentView) (m : ℕ) → 64 ≤ m → open_part limits m segments ≡ None
none_open limits segments m le = rw (no_such_map limits m le) refl

same_part : (a : AssemblerState) (segments : List SegmentView) (s : SegmentView) → length a.parts ≡ 64
    → HasPartsOf a segments
    → part_on_map (after_step a s) s.header.map ≡ open_part a.limits s.header.map (segments ++ s ∷ [])
same_part a segments s count has =
    elim (cases_lt s.header.map 64) [
      | inl lt ↦ get_or-set_same a.parts s.header.map (step_at a s).part None (omega arith)
          ∙ ap (λ (p : Option (List ℕ)). (take_step a.limits p s).part) (has s.header.map)
          ∙ sym (open_part-push a.limits segments s _ refl)
      | inr ge ↦ get_or_past (set a.parts s.header.map (step_at a s).part) s.header.map None
          (omega (arith, length-set a.parts s.header.map (step_at a s).part))
          ∙ sym (none_open a.limits (segments ++ s ∷ []) s.header.map ge)
    ]

pub parts_kept : (a : AssemblerState) (segments : List SegmentView) (s : SegmentView) → length a.parts ≡ 64
    → HasPartsOf a segments
    → HasPartsOf (after_step a s) (segments ++ s ∷ [])
parts_kept a segments s count has = λ m.
    elim (cases_eq m s.header.map) [
      | inl e ↦ rw e (same_part a segments s count has)
      | inr ne ↦ get_or-set_other a.parts s.header.map m (step_at a s).part None ne ∙ has m
          ∙ sym (open_part-other a.limits segments s m ne)
    ]

-- the step at a segment, after any list of segments
pub taken_exactly : (a : AssemblerState) (segments : List SegmentView) (s : SegmentView) → length a.parts ≡ 64
    → HasPartsOf a segments
    → IsTakenExactly (after_step a s) segments s (step_at a s).packets
taken_exactly a segments s count has = record {
  given = assembled-push a.limits segments s _ refl
      ∙ ap (λ (p : Option (List ℕ)). assembled a.limits s.header.map segments ++ (take_step a.limits p s).packets)
      (sym (has s.header.map));
  others = assembled-other a.limits segments s;
  kept = parts_kept a segments s count has;
}

-- ---- one part among those of all MAPs, as the assembler holds them

nothing_open : (b : Bool) → (let part : Option (List ℕ) = cond b None None in part) ≡ None
nothing_open true = refl
nothing_open false = refl

-- no part is open anywhere, as after no segments
pub no_parts : (limits : Limits) (m : ℕ) → get_or (replicate 64 None) m None ≡ open_part limits m []
no_parts limits m =
    let none : Option (List ℕ) = None in
    elim (cases_lt m 64) [
      | inl lt ↦ get_or-replicate 64 m none None lt ∙ sym (nothing_open (is_open limits m))
      | inr ge ↦ get_or_past (replicate 64 none) m None (omega (arith, length-replicate 64 none))
          ∙ sym (nothing_open (is_open limits m))
    ]

lone_cell : (limits : Limits) (flags : SegmentFlags) (part : Option (List ℕ)) (octets packet : List ℕ)
    → lone_packet_cell limits flags part octets ≡ Some packet → (cell limits flags part octets).part ≡ part
lone_cell limits Alone None octets packet e =
    packets_outcome-part None (alone_packets limits octets) (alone_fault limits octets)
lone_cell limits Alone (Some part) octets packet e = absurd cc
lone_cell limits First part octets packet e = absurd cc
lone_cell limits Continuing part octets packet e = absurd cc
lone_cell limits Last part octets packet e = absurd cc

-- a segment that is one packet changes nothing if no part is open
pub lone_stays : (a : AssemblerState) (s : SegmentView) (packet : List ℕ)
    → lone_packet_cell a.limits s.header.flags (part_on_map a s.header.map) s.payload ≡ Some packet
    → after_step a s ≡ a
lone_stays a s packet lone =
    let part : Option (List ℕ) = part_on_map a s.header.map in
    let same : (step_at a s).part ≡ part =
    cond_both (is_open a.limits s.header.map) (cell a.limits s.header.flags part s.payload) _ (λ o. o.part ≡ part)
    (λ t. lone_cell a.limits s.header.flags part s.payload packet lone) (λ t. refl) in
    ap (λ (ps : List (Option (List ℕ))). let b : AssemblerState = record { limits = a.limits; parts = ps } in b)
    (ap (set a.parts s.header.map) same ∙ set-get_or a.parts s.header.map None)

-- the part of the segment's MAP is that of the step, if the change on an open MAP gives it
put_by : (limits : Limits) (before after : List (Option (List ℕ))) (s : SegmentView) (opened : Bool)
    → is_open limits s.header.map ≡ opened
    → (let a : AssemblerState = record { limits = limits; parts = before } in
    (opened ≡ true → after ≡ set before s.header.map (step_at a s).part) → (opened ≡ false → after ≡ before)
    → (let b : AssemblerState = record { limits = limits; parts = after } in b) ≡ after_step a s)
put_by limits before after s true e put other =
    ap (λ (ps : List (Option (List ℕ))).
    let b : AssemblerState = record { limits = limits; parts = ps } in b) (put refl)
put_by limits before after s false e put other =
    let a : AssemblerState = record { limits = limits; parts = before } in
    let same : (step_at a s).part ≡ get_or before s.header.map None = rw e refl in
    ap (λ (ps : List (Option (List ℕ))). let b : AssemblerState = record { limits = limits; parts = ps } in b)
    (other refl ∙ sym (ap (set before s.header.map) same ∙ set-get_or before s.header.map None))

pub put_part : (limits : Limits) (before after : List (Option (List ℕ))) (s : SegmentView) (change : Change)
    → (is_open limits s.header.map ≡ true
    → after ≡ set before s.header.map (part_after change (get_or before s.header.map None) s.payload))
    → (is_open limits s.header.map ≡ false → after ≡ before)
    → (let a : AssemblerState = record { limits = limits; parts = before } in
    part_after change (get_or before s.header.map None) s.payload ≡ (step_at a s).part
    → (let b : AssemblerState = record { limits = limits; parts = after } in b) ≡ after_step a s)
put_part limits before after s change put other prepared =
    put_by limits before after s (is_open limits s.header.map) refl
    (λ e. put e ∙ ap (set before s.header.map) prepared) other
