-- Packets that were cut or joined are reassembled.
use Rattle.std.proofs.Common.{◌≡◌, ◌≢◌, ◌≤◌, ◌<◌, ◌⊎◌, ℕ, zero, suc, ◌-◌, List, [], ◌∷◌, ◌++◌, length, take, drop}
use Rattle.std.proofs.Common.{Bool, true, false, cond, eqb, ltb, not, Option, Some, None, refl, sym, ap, subst, ◌∙◌}
use Rattle.std.proofs.Common.{arith, inl, inr, append_assoc, length-drop, length-append}
use Rattle.std.specs.List.{AllByRecursion, concat, flat_map}
use Rattle.std.proofs.lemmas.Bool.{cases_lt, lt-ltb, le-ltb, ltb-false, ltb-true, ne_eqb, eq-eqb, eqb-true, and_parts}
use Rattle.std.proofs.lemmas.Bool.{or_parts, eqb-false}
use Rattle.std.proofs.lemmas.List.{append-nil}
use Rattle.std.proofs.lemmas.List.Elements.{filter-append}
use Rattle.octets.specs.Records.{IsRecord}
use Rattle.space_packet.specs.Decoding.{extent_at}
use Rattle.tc_frame.specs.declared.frame.SegmentFlags.{SegmentFlags}
use Rattle.tc_frame.specs.declared.frame.SegmentFlags.TheVariants.{First, Alone}
use Rattle.tc_frame.specs.Layout.{SegmentView}
use Rattle.map_service.specs.declared.fault.MapFault.TheVariants.{NotAPacket, TooLong}
use Rattle.map_service.specs.declared.limits.Limits.{Limits}
use Rattle.map_service.specs.Assembly.{is_open, of_map, one_packet, packets_of, joined_data, up_to_last_from}
use Rattle.map_service.specs.Assembly.{up_to_last, up_to_end_from, up_to_end, block_packets, blocks_packets}
use Rattle.map_service.specs.Assembly.{assembled, part_from, ending_part, unless_too_long, open_part}
use Rattle.map_service.specs.Cutting.{pieces_of, later_segments, segments_of_pieces, parts_of, longest_run}
use Rattle.map_service.specs.Cutting.{first_group, groups_within, groups_of, segments_of, cut_fault, payloads, IsPart}
use Rattle.map_service.specs.Packets.{packets_in, rest_in, are_packets, is_packet, is_some_over}
use Rattle.map_service.proofs.Groups.{IsWhole, again, none_from, all_of, packets-split, behind-each, group-front}
use Rattle.map_service.proofs.Groups.{group-some}
use Rattle.map_service.proofs.Parts.{pieces-some, pieces-more, parts-fit}
use Rattle.map_service.proofs.Parts.{pieces-joined, groups_joined, segments-joined, segments-parts}
use Rattle.octets.specs.Beginning.{IsBeginning}
use Rattle.map_service.specs.Cutting.{Submission, IsSubmitted, segments_of_all, packets_on}
use Rattle.map_service.proofs.AssemblerSteps.{assembled_begins}

-- ---- lists of segments, one after another

up_to_last-append : (xs ys : List SegmentView) → up_to_last ys ≡ None → up_to_last (xs ++ ys) ≡ up_to_last xs
up_to_last-append [] ys e = e
up_to_last-append (s ∷ xs) ys e = ap (up_to_last_from s.header.flags s.payload) (up_to_last-append xs ys e)

-- if a block begins there, the packets are those before it and those from it on
pub blocks-append : (limits : Limits) (xs ys : List SegmentView) → up_to_last ys ≡ None
    → blocks_packets limits (xs ++ ys) ≡ blocks_packets limits xs ++ blocks_packets limits ys
blocks-append limits [] ys e = refl
blocks-append limits (s ∷ xs) ys e =
    let block : List (List ℕ) = block_packets limits s.header.flags s.payload (up_to_last xs) in
    ap (λ (u : Option (List ℕ)). block_packets limits s.header.flags s.payload u ++ blocks_packets limits (xs ++ ys))
    (up_to_last-append xs ys e)
    ∙ ap (λ (ps : List (List ℕ)). block ++ ps) (blocks-append limits xs ys e)
    ∙ sym (append_assoc block (blocks_packets limits xs) (blocks_packets limits ys))

up_to_end_from-none : (flags : SegmentFlags) (octets : List ℕ) → up_to_end_from flags octets None ≡ None
up_to_end_from-none Alone octets = refl
up_to_end_from-none _ octets = refl

part_from-none : (flags : SegmentFlags) (octets : List ℕ) (later : Option (List ℕ))
    → part_from flags octets None later ≡ later
part_from-none Alone octets later = refl
part_from-none _ octets later = refl

up_to_end-append : (xs ys : List SegmentView) → up_to_end ys ≡ None → up_to_end (xs ++ ys) ≡ None
up_to_end-append [] ys e = e
up_to_end-append (s ∷ xs) ys e =
    ap (up_to_end_from s.header.flags s.payload) (up_to_end-append xs ys e)
    ∙ up_to_end_from-none s.header.flags s.payload

-- a part that is open before segments that are not all continuing ones is dropped
pub ending-append : (xs ys : List SegmentView) → up_to_end ys ≡ None → ending_part (xs ++ ys) ≡ ending_part ys
ending-append [] ys e = refl
ending-append (s ∷ xs) ys e =
    ap (λ (u : Option (List ℕ)). part_from s.header.flags s.payload u (ending_part (xs ++ ys)))
    (up_to_end-append xs ys e)
    ∙ part_from-none s.header.flags s.payload (ending_part (xs ++ ys)) ∙ ending-append xs ys e

-- ---- the segments of a group

later_segments-last_data : (m : ℕ) (x : List ℕ) (xs : List (List ℕ))
    → up_to_last (later_segments m (x ∷ xs)) ≡ Some (concat (x ∷ xs))
later_segments-last_data m x [] = ap (λ (ys : List ℕ). Some ys) (sym (append-nil x))
later_segments-last_data m x (y ∷ ys) = ap (joined_data x) (later_segments-last_data m y ys)

later_segments-gives : (limits : Limits) (m : ℕ) (xs : List (List ℕ)) → blocks_packets limits (later_segments m xs) ≡ []
later_segments-gives limits m [] = refl
later_segments-gives limits m (x ∷ []) = refl
later_segments-gives limits m (x ∷ y ∷ ys) = later_segments-gives limits m (y ∷ ys)

later_segments-ends : (m : ℕ) (x : List ℕ) (xs : List (List ℕ)) → up_to_end (later_segments m (x ∷ xs)) ≡ None
later_segments-ends m x [] = refl
later_segments-ends m x (y ∷ ys) = ap (joined_data x) (later_segments-ends m y ys)

later_segments-part_from : (m : ℕ) (xs : List (List ℕ)) → ending_part (later_segments m xs) ≡ None
later_segments-part_from m [] = refl
later_segments-part_from m (x ∷ []) = refl
later_segments-part_from m (x ∷ y ∷ ys) = later_segments-part_from m (y ∷ ys)

-- several parts yield what their joined data form
segments_of_pieces-gives : (limits : Limits) (m : ℕ) (x y : List ℕ) (ys : List (List ℕ))
    → blocks_packets limits (segments_of_pieces m (x ∷ y ∷ ys)) ≡ one_packet limits (concat (x ∷ y ∷ ys))
segments_of_pieces-gives limits m x y ys =
    let all : List (List ℕ) = one_packet limits (concat (x ∷ y ∷ ys)) in
    ap (λ (u : Option (List ℕ)). block_packets limits First x u ++ blocks_packets limits (later_segments m (y ∷ ys)))
    (later_segments-last_data m y ys)
    ∙ ap (λ (ps : List (List ℕ)). all ++ ps) (later_segments-gives limits m (y ∷ ys)) ∙ append-nil all

segments_of_pieces-starts : (m : ℕ) (xs : List (List ℕ)) (rest : List SegmentView) → up_to_last rest ≡ None
    → up_to_last (segments_of_pieces m xs ++ rest) ≡ None
segments_of_pieces-starts m [] rest e = e
segments_of_pieces-starts m (x ∷ []) rest e = refl
segments_of_pieces-starts m (x ∷ y ∷ ys) rest e = refl

segments_of_pieces-ends : (m : ℕ) (xs : List (List ℕ)) (rest : List SegmentView) → (rest ≡ []) ⊎ (up_to_end rest ≡ None)
    → (segments_of_pieces m xs ++ rest ≡ []) ⊎ (up_to_end (segments_of_pieces m xs ++ rest) ≡ None)
segments_of_pieces-ends m [] rest e = e
segments_of_pieces-ends m (x ∷ []) rest e = inr refl
segments_of_pieces-ends m (x ∷ y ∷ ys) rest e = inr refl

segments_of_pieces-part_from : (m : ℕ) (xs : List (List ℕ)) → ending_part (segments_of_pieces m xs) ≡ None
segments_of_pieces-part_from m [] = refl
segments_of_pieces-part_from m (x ∷ []) = refl
segments_of_pieces-part_from m (x ∷ y ∷ ys) =
    ap (λ (u : Option (List ℕ)). part_from First x u (ending_part (later_segments m (y ∷ ys))))
    (later_segments-ends m y ys) ∙ later_segments-part_from m (y ∷ ys)

-- ---- the segments of groups

abbrev all_parts : ℕ → ℕ → List (List (List ℕ)) → List SegmentView
all_parts part m groups = flat_map (λ (g : List (List ℕ)). parts_of part m (concat g)) groups

groups-start : (part m : ℕ) (groups : List (List (List ℕ))) → up_to_last (all_parts part m groups) ≡ None
groups-start part m [] = refl
groups-start part m (g ∷ gs) =
    segments_of_pieces-starts m (pieces_of part (concat g)) (all_parts part m gs) (groups-start part m gs)

groups-end : (part m : ℕ) (groups : List (List (List ℕ)))
    → (all_parts part m groups ≡ []) ⊎ (up_to_end (all_parts part m groups) ≡ None)
groups-end part m [] = inl refl
groups-end part m (g ∷ gs) =
    segments_of_pieces-ends m (pieces_of part (concat g)) (all_parts part m gs) (groups-end part m gs)

open_behind : (xs ys : List SegmentView) → (ys ≡ []) ⊎ (up_to_end ys ≡ None) → ending_part xs ≡ None
    → ending_part ys ≡ None → ending_part (xs ++ ys) ≡ None
open_behind xs ys (inl e) p q =
    ap (λ (zs : List SegmentView). ending_part (xs ++ zs)) e ∙ ap ending_part (append-nil xs) ∙ p
open_behind xs ys (inr e) p q = ending-append xs ys e ∙ q

groups-open : (part m : ℕ) (groups : List (List (List ℕ))) → ending_part (all_parts part m groups) ≡ None
groups-open part m [] = refl
groups-open part m (g ∷ gs) =
    open_behind (parts_of part m (concat g)) (all_parts part m gs) (groups-end part m gs)
    (segments_of_pieces-part_from m (pieces_of part (concat g))) (groups-open part m gs)

abbrev GivesGroup : Limits → ℕ → ℕ → List (List ℕ) → Type 0
GivesGroup limits part m g = blocks_packets limits (parts_of part m (concat g)) ≡ g

groups-give : (limits : Limits) (part m : ℕ) (groups : List (List (List ℕ)))
    → AllByRecursion (GivesGroup limits part m) groups
    → blocks_packets limits (all_parts part m groups) ≡ flat_map (λ g. g) groups
groups-give limits part m [] h = refl
groups-give limits part m (g ∷ gs) h =
    blocks-append limits (parts_of part m (concat g)) (all_parts part m gs) (groups-start part m gs)
    ∙ ap (λ (ps : List (List ℕ)). ps ++ blocks_packets limits (all_parts part m gs)) h.0
    ∙ ap (λ (ps : List (List ℕ)). g ++ ps) (groups-give limits part m gs h.1)

-- ---- what groups there are

-- a packet of at most this many octets
abbrev pub IsTaken : ℕ → List ℕ → Type 0
IsTaken most p = IsRecord 6 extent_at p × (length p ≤ most)

each-taken : (most : ℕ) (packets : List (List ℕ)) → IsWhole packets → is_some_over most packets ≡ false
    → AllByRecursion (IsTaken most) packets
each-taken most [] h e = tt
each-taken most (p ∷ ps) h e =
    let both = or_parts (ltb most (length p)) (is_some_over most ps) e in
    ((h.0, ltb-false _ _ both.0), each-taken most ps h.1 both.1)

taken-whole : (most : ℕ) (packets : List (List ℕ)) → AllByRecursion (IsTaken most) packets → IsWhole packets
taken-whole most [] h = tt
taken-whole most (p ∷ ps) h = (h.0.0, taken-whole most ps h.1)

none-over : (most : ℕ) (packets : List (List ℕ)) → AllByRecursion (IsTaken most) packets
    → is_some_over most packets ≡ false
none-over most [] h = refl
none-over most (p ∷ ps) h = rw (le-ltb most (length p) h.0.1, none-over most ps h.1) refl

front-each : {X : Type 0} (P : X → Type 0) (k : ℕ) (xs : List X) → AllByRecursion P xs → AllByRecursion P (take k xs)
front-each P zero xs h = tt
front-each P (suc k) [] h = tt
front-each P (suc k) (x ∷ xs) h = (h.0, front-each P k xs h.1)

-- a group fits in a part, or is one packet that does not
pub record IsTakenGroup (most part : ℕ) (g : List (List ℕ)) : Type 0 where
  pub each : AllByRecursion (IsTaken most) g
  pub some : 1 ≤ length g
  pub size : (length (concat g) ≤ part) ⊎ ((p : List ℕ) × (g ≡ p ∷ []) × (part < length p))

run-fits : (room : ℕ) (packets : List (List ℕ)) → length (concat (longest_run room packets)) ≤ room
run-fits room [] = omega arith
run-fits room (p ∷ ps) =
    elim (cases_lt room (length p)) [
      | inl lt ↦ rw (lt-ltb room (length p) lt) (omega arith)
      | inr ge ↦ rw (le-ltb room (length p) ge)
          (omega (arith, length-append p (concat (longest_run (room - length p) ps)), run-fits (room - length p) ps))
    ]

pub group-size : (part : ℕ) (p : List ℕ) (ps : List (List ℕ))
    → (length (concat (first_group part (p ∷ ps))) ≤ part)
    ⊎ ((q : List ℕ) × (first_group part (p ∷ ps) ≡ q ∷ []) × (part < length q))
group-size part p ps =
    elim (cases_lt part (length p)) [
      | inl lt ↦ inr (p, rw (lt-ltb part (length p) lt) refl, lt)
      | inr ge ↦ inl (rw (le-ltb part (length p) ge)
          (omega (arith, length-append p (concat (longest_run (part - length p) ps)), run-fits (part - length p) ps)))
    ]

each-group : (most n part : ℕ) (packets : List (List ℕ)) → AllByRecursion (IsTaken most) packets
    → AllByRecursion (IsTakenGroup most part) (groups_within n part packets)
each-group most zero part packets h = tt
each-group most (suc n) part [] h = tt
each-group most (suc n) part (p ∷ ps) h =
    let k : ℕ = length (first_group part (p ∷ ps)) in
    let each : AllByRecursion (IsTaken most) (first_group part (p ∷ ps)) =
    subst (λ (g : List (List ℕ)). AllByRecursion (IsTaken most) g) (group-front part (p ∷ ps))
    (front-each (IsTaken most) k (p ∷ ps) h) in (
      record { each = each; some = group-some part p ps; size = group-size part p ps },
      each-group most n part
          (drop k (p ∷ ps)) (behind-each (IsTaken most) k (p ∷ ps) h),
    )

-- ---- what a group yields

-- a packet is one packet
one-packet : (p : List ℕ) → IsRecord 6 extent_at p → is_packet p ≡ true
one-packet p h =
    let same = again (p ∷ []) (h, tt) in
    let joined : concat (p ∷ []) ≡ p = append-nil p in
    let packets : packets_in p ≡ p ∷ [] = ap packets_in (sym joined) ∙ sym same.0 in
    let left : rest_in p ≡ [] = ap rest_in (sym joined) ∙ sym same.1 in
    rw (packets, left) refl

packet-gives : (limits : Limits) (p : List ℕ) → IsTaken limits.max_packet p → one_packet limits p ≡ p ∷ []
packet-gives limits p h = rw (one-packet p h.0, le-ltb limits.max_packet (length p) h.1) refl

-- packets that were joined
joined-give : (limits : Limits) (g : List (List ℕ)) → limits.blocking ≡ true
    → AllByRecursion (IsTaken limits.max_packet) g → 0 < length (concat g) → packets_of limits (concat g) ≡ g
joined-give limits g blocking each some =
    let same = again g (taken-whole limits.max_packet g each) in
    rw (blocking, lt-ltb 0 (length (concat g)) some, ← same.0, ← same.1, none-over limits.max_packet g each) refl

alone-gives : (limits : Limits) (p : List ℕ) → limits.blocking ≡ false → IsTaken limits.max_packet p
    → packets_of limits p ≡ p ∷ []
alone-gives limits p blocking h = rw blocking (packet-gives limits p h)

concat-some : (most : ℕ) (g : List (List ℕ)) → AllByRecursion (IsTaken most) g → 1 ≤ length g → 6 ≤ length (concat g)
concat-some most [] each some = absurd (omega arith)
concat-some most (p ∷ ps) each some = omega (arith, length-append p (concat ps), each.0.0.has_head)

-- the parts of one packet
long-gives : (limits : Limits) (part m : ℕ) (p : List ℕ) → 1 ≤ part → part < length p
    → blocks_packets limits (parts_of part m p) ≡ one_packet limits p
long-gives limits part m p one lt =
    let behind = pieces-some part (drop part p) one (omega (arith, length-drop part p)) in
    let cut : pieces_of part p ≡ take part p ∷ behind.0 ∷ behind.1 =
    pieces-more part p one lt ∙ ap (λ (ps : List (List ℕ)). take part p ∷ ps) behind.2 in
    ap (λ (ps : List (List ℕ)). blocks_packets limits (segments_of_pieces m ps)) cut
    ∙ segments_of_pieces-gives limits m (take part p) behind.0 behind.1
    ∙ ap (one_packet limits) (ap concat (sym cut) ∙ pieces-joined part p one)

short-gives : (limits : Limits) (part m : ℕ) (xs : List ℕ) → 1 ≤ length xs → length xs ≤ part
    → blocks_packets limits (parts_of part m xs) ≡ packets_of limits xs
short-gives limits part m xs some le =
    ap (blocks_packets limits) (parts-fit m part xs some le) ∙ append-nil (packets_of limits xs)

-- one packet, with blocking or without
single-gives : (limits : Limits) (part m : ℕ) (p : List ℕ) → 1 ≤ part → part < length p → IsTaken limits.max_packet p
    → GivesGroup limits part m (p ∷ [])
single-gives limits part m p one lt h =
    ap (λ (xs : List ℕ). blocks_packets limits (parts_of part m xs)) (append-nil p) ∙ long-gives limits part m p one lt
    ∙ packet-gives limits p h

group-gives : (limits : Limits) (part m : ℕ) (g : List (List ℕ)) → 1 ≤ part → limits.blocking ≡ true
    → IsTakenGroup limits.max_packet part g → GivesGroup limits part m g
group-gives limits part m g one blocking h =
    let some : 6 ≤ length (concat g) = concat-some limits.max_packet g h.each h.some in
    elim h.size [
      | inl le ↦ short-gives limits part m (concat g) (omega arith) le
          ∙ joined-give limits g blocking h.each (omega arith)
      | inr s ↦
          let is : g ≡ s.0 ∷ [] = s.1 in
          let taken : AllByRecursion (IsTaken limits.max_packet) (s.0 ∷ []) =
          subst (λ (x : List (List ℕ)). AllByRecursion (IsTaken limits.max_packet) x) is h.each in
          subst (λ (x : List (List ℕ)). GivesGroup limits part m x) (sym is)
          (single-gives limits part m s.0 one s.2 taken.0)
    ]

groups-gives : (limits : Limits) (part m : ℕ) (groups : List (List (List ℕ))) → 1 ≤ part → limits.blocking ≡ true
    → AllByRecursion (IsTakenGroup limits.max_packet part) groups
    → AllByRecursion (GivesGroup limits part m) groups
groups-gives limits part m [] one blocking h = tt
groups-gives limits part m (g ∷ gs) one blocking h =
    (group-gives limits part m g one blocking h.0, groups-gives limits part m gs one blocking h.1)

-- ---- what octets that are cut yield

joined-octets : (limits : Limits) (part m : ℕ) (octets : List ℕ) → 1 ≤ part → limits.blocking ≡ true
    → AllByRecursion (IsTaken limits.max_packet) (packets_in octets)
    → blocks_packets limits (segments_of part m octets) ≡ packets_in octets
unfolding groups_of
joined-octets limits part m octets one blocking each =
    let packets : List (List ℕ) = packets_in octets in
    let n : ℕ = length packets in
    groups-give limits part m (groups_within n part packets)
    (groups-gives limits part m (groups_within n part packets) one blocking
    (each-group limits.max_packet n part packets each))
    ∙ groups_joined n part packets (omega arith)

-- one packet is one group
pub one-group : (part m : ℕ) (octets : List ℕ) → packets_in octets ≡ octets ∷ []
    → segments_of part m octets ≡ parts_of part m octets
unfolding groups_of
one-group part m octets is =
    elim (cases_lt part (length octets)) [
      | inl lt ↦ rw (is, lt-ltb part (length octets) lt, append-nil octets) (append-nil (parts_of part m octets))
      | inr ge ↦ rw (is, le-ltb part (length octets) ge, append-nil octets) (append-nil (parts_of part m octets))
    ]

alone-octets : (limits : Limits) (part m : ℕ) (octets : List ℕ) → 1 ≤ part → limits.blocking ≡ false
    → packets_in octets ≡ octets ∷ [] → IsTaken limits.max_packet octets
    → blocks_packets limits (segments_of part m octets) ≡ packets_in octets
alone-octets limits part m octets one blocking is taken =
    let some : 6 ≤ length octets = taken.0.has_head in
    ap (blocks_packets limits) (one-group part m octets is)
    ∙ elim (cases_lt part (length octets)) as (λ _. blocks_packets limits (parts_of part m octets) ≡ octets ∷ []) [
      | inl lt ↦ long-gives limits part m octets one lt ∙ packet-gives limits octets taken
      | inr ge ↦ short-gives limits part m octets (omega arith) ge ∙ alone-gives limits octets blocking taken
    ]
    ∙ sym is

-- ---- octets that are not refused

length-none : (xs : List ℕ) → eqb (length xs) 0 ≡ true → xs ≡ []
length-none xs e = none_from xs (sym e)

pub whole-from : (octets : List ℕ) → are_packets octets ≡ true → (1 ≤ length octets) × (rest_in octets ≡ [])
whole-from octets h =
    let both = and_parts (ltb 0 (length octets)) (eqb (length (rest_in octets)) 0) h in
    (ltb-true _ _ both.0, length-none (rest_in octets) both.1)

one_of : (packets : List (List ℕ)) (octets : List ℕ) → eqb (length packets) 1 ≡ true → octets ≡ concat packets
    → packets ≡ octets ∷ []
one_of [] octets len e = absurd cc
one_of (p ∷ []) octets len e = ap (λ (x : List ℕ). x ∷ []) (sym (append-nil p) ∙ sym e)
one_of (p ∷ q ∷ ps) octets len e = let t : suc (suc (length ps)) ≡ 1 = eqb-true _ _ len in absurd (omega arith)

pub one-from : (octets : List ℕ) → is_packet octets ≡ true → (rest_in octets ≡ []) × (packets_in octets ≡ octets ∷ [])
one-from octets h =
    let both = and_parts (eqb (length (packets_in octets)) 1) (eqb (length (rest_in octets)) 0) h in
    let left : rest_in octets ≡ [] = length-none (rest_in octets) both.1 in
    (left, one_of (packets_in octets) octets both.0 (all_of octets left))

-- what is known of octets that are cut
pub record IsCuttable (limits : Limits) (octets : List ℕ) : Type 0 where
  pub some : 1 ≤ length octets
  pub whole : rest_in octets ≡ []
  pub each : AllByRecursion (IsTaken limits.max_packet) (packets_in octets)
  pub one : limits.blocking ≡ false → packets_in octets ≡ octets ∷ []

not_none : (b c : Bool) → cond (not b) (Some NotAPacket) (cond c (Some TooLong) None) ≡ None → (b ≡ true) × (c ≡ false)
not_none true true h = absurd cc
not_none true false h = (refl, refl)
not_none false c h = absurd cc

cuttable_by : (limits : Limits) (octets : List ℕ) (blocking : Bool) → limits.blocking ≡ blocking
    → cond blocking (are_packets octets) (is_packet octets) ≡ true
    → is_some_over limits.max_packet (packets_in octets) ≡ false → IsCuttable limits octets
cuttable_by limits octets true e h over =
    let whole = whole-from octets h in
    record {
      some =
          whole.0;
      whole =
          whole.1;
      each =
          each-taken limits.max_packet (packets_in octets) (packets-split octets).each over;
      one =
          λ f. absurd (cc (e, f));
    }
cuttable_by limits octets false e h over =
    let one = one-from octets h in
    let each : AllByRecursion (IsTaken limits.max_packet) (packets_in octets) =
    each-taken limits.max_packet (packets_in octets) (packets-split octets).each over in
    let here : AllByRecursion (IsTaken limits.max_packet) (octets ∷ []) =
    subst (λ (ps : List (List ℕ)). AllByRecursion (IsTaken limits.max_packet) ps) one.1 each in
    record { some = omega (arith, here.0.0.has_head); whole = one.0; each = each; one = λ f. one.1 }

pub cuttable_from : (limits : Limits) (octets : List ℕ) → cut_fault limits octets ≡ None → IsCuttable limits octets
cuttable_from limits octets h =
    let both = not_none (cond limits.blocking (are_packets octets) (is_packet octets))
    (is_some_over limits.max_packet (packets_in octets)) h in
    cuttable_by limits octets limits.blocking refl both.0 both.1

passed_by : (limits : Limits) (part m : ℕ) (octets : List ℕ) (blocking : Bool) → limits.blocking ≡ blocking → 1 ≤ part
    → IsCuttable limits octets
    → blocks_packets limits (segments_of part m octets) ≡ packets_in octets
passed_by limits part m octets true e one h = joined-octets limits part m octets one e h.each
passed_by limits part m octets false e one h =
    let is : packets_in octets ≡ octets ∷ [] = h.one e in
    let here : AllByRecursion (IsTaken limits.max_packet) (octets ∷ []) =
    subst (λ (ps : List (List ℕ)). AllByRecursion (IsTaken limits.max_packet) ps) is h.each in
    alone-octets limits part m octets one e is here.0

-- ---- and on each MAP

own-map : (part m : ℕ) (segments : List SegmentView) → AllByRecursion (IsPart part m) segments
    → of_map m segments ≡ segments
own-map part m [] h = refl
own-map part m (s ∷ segments) h =
    rw (eq-eqb s.header.map m h.0.on_map) (ap (λ (xs : List SegmentView). s ∷ xs) (own-map part m segments h.1))

other-map : (part m k : ℕ) (segments : List SegmentView) → k ≢ m → AllByRecursion (IsPart part m) segments
    → of_map k segments ≡ []
other-map part m k [] ne h = refl
other-map part m k (s ∷ segments) ne h =
    let own : s.header.map ≡ m = h.0.on_map in
    rw (ne_eqb s.header.map k (λ (e : s.header.map ≡ k). ne (sym e ∙ own))) (other-map part m k segments ne h.1)

map-append : (m : ℕ) (xs ys : List SegmentView) → of_map m (xs ++ ys) ≡ of_map m xs ++ of_map m ys
map-append m xs ys = filter-append (λ (s : SegmentView). eqb s.header.map m) xs ys

own-append : (part m : ℕ) (segments : List SegmentView) (octets : List ℕ) → 1 ≤ part
    → of_map m (segments ++ segments_of part m octets) ≡ of_map m segments ++ segments_of part m octets
own-append part m segments octets one =
    map-append m segments (segments_of part m octets)
    ∙ ap (λ (xs : List SegmentView). of_map m segments ++ xs)
    (own-map part m (segments_of part m octets) (segments-parts part m octets one))

pub other-append : (part m k : ℕ) (segments : List SegmentView) (octets : List ℕ) → 1 ≤ part → k ≢ m
    → of_map k (segments ++ segments_of part m octets) ≡ of_map k segments
other-append part m k segments octets one ne =
    map-append k segments (segments_of part m octets)
    ∙ ap (λ (xs : List SegmentView). of_map k segments ++ xs)
    (other-map part m k (segments_of part m octets) ne (segments-parts part m octets one))
    ∙ append-nil (of_map k segments)

pub given-passed : (limits : Limits) (m : ℕ) (segments : List SegmentView) (octets : List ℕ) → 1 ≤ limits.part
    → is_open limits m ≡ true → cut_fault limits octets ≡ None
    → assembled limits m (segments ++ segments_of limits.part m octets) ≡ assembled limits m segments
    ++ packets_in octets
given-passed limits m segments octets one opened none =
    let cut : List SegmentView = segments_of limits.part m octets in
    let front : List SegmentView = of_map m segments in
    rw opened (ap (blocks_packets limits) (own-append limits.part m segments octets one)
    ∙ blocks-append limits front cut (groups-start limits.part m (groups_of limits.part (packets_in octets)))
    ∙ ap (λ (ps : List (List ℕ)). blocks_packets limits front ++ ps)
    (passed_by limits limits.part m octets limits.blocking refl one (cuttable_from limits octets none)))

-- a nonempty list of octets has at least one segment
no_segments : (part m : ℕ) (octets : List ℕ) → 1 ≤ part → 1 ≤ length octets → rest_in octets ≡ []
    → segments_of part m octets ≡ [] → ⊥
no_segments part m octets one some whole e =
    let none : octets ≡ [] =
    sym (segments-joined part m octets one whole) ∙ ap (λ (s : List SegmentView). concat (payloads s)) e in
    omega (arith, ap length none)

closed_by : (part m : ℕ) (octets : List ℕ) (front : List SegmentView) → 1 ≤ part → 1 ≤ length octets
    → rest_in octets ≡ []
    → (segments_of part m octets ≡ []) ⊎ (up_to_end (segments_of part m octets) ≡ None)
    → ending_part (front ++ segments_of part m octets) ≡ None
closed_by part m octets front one some whole (inl e) = absurd (no_segments part m octets one some whole e)
closed_by part m octets front one some whole (inr e) =
    ending-append front (segments_of part m octets) e ∙ groups-open part m (groups_of part (packets_in octets))

pub closed-passed : (limits : Limits) (m : ℕ) (segments : List SegmentView) (octets : List ℕ) → 1 ≤ limits.part
    → is_open limits m ≡ true → cut_fault limits octets ≡ None
    → open_part limits m (segments ++ segments_of limits.part m octets) ≡ None
closed-passed limits m segments octets one opened none =
    let h = cuttable_from limits octets none in
    let part : ℕ = limits.part in
    rw opened (ap (λ (xs : List SegmentView). unless_too_long limits (ending_part xs))
    (own-append part m segments octets one)
    ∙ ap (unless_too_long limits) (closed_by part m octets (of_map m segments) one h.some h.whole
    (groups-end part m (groups_of part (packets_in octets)))))

-- ---- what is assembled from the segments of a sequence of calls

-- one call, seen from any MAP
one_call : (limits : Limits) (m : ℕ) (segments : List SegmentView) (s : Submission) (b : Bool) → eqb s.on_map m ≡ b
    → 1 ≤ limits.part → IsSubmitted limits s
    → assembled limits m (segments ++ segments_of limits.part s.on_map s.octets) ≡ assembled limits m segments
    ++ cond b (packets_in s.octets) []
one_call limits m segments s true own one h =
    let is : s.on_map ≡ m = eqb-true _ _ own in
    subst (λ (k : ℕ). assembled limits k (segments ++ segments_of limits.part s.on_map s.octets)
    ≡ assembled limits k segments ++ packets_in s.octets) is
    (given-passed limits s.on_map segments s.octets one h.opened h.cut)
one_call limits m segments s false other one h =
    let ne : m ≢ s.on_map = λ e. eqb-false _ _ other (sym e) in
    ap (λ (xs : List SegmentView). cond (is_open limits m) (blocks_packets limits xs) [])
    (other-append limits.part s.on_map m segments s.octets one ne)
    ∙ sym (append-nil (assembled limits m segments))

all_calls : (limits : Limits) (m : ℕ) (segments : List SegmentView) (submissions : List Submission) → 1 ≤ limits.part
    → AllByRecursion (IsSubmitted limits) submissions
    → assembled limits m (segments ++ segments_of_all limits.part submissions) ≡ assembled limits m segments
    ++ packets_on m submissions
all_calls limits m segments [] one h =
    ap (assembled limits m) (append-nil segments) ∙ sym (append-nil (assembled limits m segments))
all_calls limits m segments (s ∷ submissions) one h =
    let here : List SegmentView = segments_of limits.part s.on_map s.octets in
    let behind : List SegmentView = segments_of_all limits.part submissions in
    let packets : List (List ℕ) = cond (eqb s.on_map m) (packets_in s.octets) [] in
    ap (assembled limits m) (sym (append_assoc segments here behind))
    ∙ all_calls limits m (segments ++ here) submissions one h.1
    ∙ ap (λ (ps : List (List ℕ)). ps ++ packets_on m submissions)
    (one_call limits m segments s (eqb s.on_map m) refl one h.0)
    ∙ append_assoc (assembled limits m segments) packets (packets_on m submissions)

nothing : (limits : Limits) (opened : Bool) → cond opened (blocks_packets limits []) [] ≡ []
nothing limits true = refl
nothing limits false = refl

pub all_assembled : (limits : Limits) (m : ℕ) (submissions : List Submission) → 1 ≤ limits.part
    → AllByRecursion (IsSubmitted limits) submissions
    → assembled limits m (segments_of_all limits.part submissions) ≡ packets_on m submissions
all_assembled limits m submissions one h =
    all_calls limits m [] submissions one h
    ∙ ap (λ (ps : List (List ℕ)). ps ++ packets_on m submissions) (nothing limits (is_open limits m))

-- what is assembled from a beginning of the segments is a beginning of the packets
pub some_assembled : (limits : Limits) (m : ℕ) (submissions : List Submission) (segments : List SegmentView)
    → 1 ≤ limits.part → AllByRecursion (IsSubmitted limits) submissions
    → IsBeginning segments (segments_of_all limits.part submissions)
    → IsBeginning (assembled limits m segments) (packets_on m submissions)
some_assembled limits m submissions segments one h b =
    let begins = assembled_begins limits m segments b.0 in
    (begins.0, sym (all_assembled limits m submissions one h) ∙ ap (assembled limits m) b.1 ∙ begins.1)

-- ---- and nothing is left open

one_closed : (limits : Limits) (m : ℕ) (segments : List SegmentView) (s : Submission) (b : Bool) → eqb s.on_map m ≡ b
    → 1 ≤ limits.part → IsSubmitted limits s
    → open_part limits m segments ≡ None
    → open_part limits m (segments ++ segments_of limits.part s.on_map s.octets) ≡ None
one_closed limits m segments s true own one h none =
    let is : s.on_map ≡ m = eqb-true _ _ own in
    subst (λ (k : ℕ). open_part limits k (segments ++ segments_of limits.part s.on_map s.octets) ≡ None) is
    (closed-passed limits s.on_map segments s.octets one h.opened h.cut)
one_closed limits m segments s false other one h none =
    let ne : m ≢ s.on_map = λ e. eqb-false _ _ other (sym e) in
    ap (λ (xs : List SegmentView). cond (is_open limits m) (unless_too_long limits (ending_part xs)) None)
    (other-append limits.part s.on_map m segments s.octets one ne) ∙ none

all_closed_behind : (limits : Limits) (m : ℕ) (segments : List SegmentView) (submissions : List Submission)
    → 1 ≤ limits.part → AllByRecursion (IsSubmitted limits) submissions
    → open_part limits m segments ≡ None
    → open_part limits m (segments ++ segments_of_all limits.part submissions) ≡ None
all_closed_behind limits m segments [] one h none = ap (open_part limits m) (append-nil segments) ∙ none
all_closed_behind limits m segments (s ∷ submissions) one h none =
    ap (open_part limits m) (sym (append_assoc segments (segments_of limits.part s.on_map s.octets)
    (segments_of_all limits.part submissions)))
    ∙ all_closed_behind limits m (segments ++ segments_of limits.part s.on_map s.octets) submissions one h.1
    (one_closed limits m segments s (eqb s.on_map m) refl one h.0 none)

none_open : (limits : Limits) (opened : Bool) → cond opened (unless_too_long limits (ending_part [])) None ≡ None
none_open limits true = refl
none_open limits false = refl

pub all_closed : (limits : Limits) (m : ℕ) (submissions : List Submission) → 1 ≤ limits.part
    → AllByRecursion (IsSubmitted limits) submissions
    → open_part limits m (segments_of_all limits.part submissions) ≡ None
all_closed limits m submissions one h =
    all_closed_behind limits m [] submissions one h (none_open limits (is_open limits m))
