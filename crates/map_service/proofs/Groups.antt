-- Whole packets divided into groups.
use Rattle.std.proofs.Common.{◌≡◌, ◌≤◌, ◌<◌, ℕ, zero, suc, true, false, eqb, ◌+◌, ◌-◌, List, [], ◌∷◌, ◌++◌, length}
use Rattle.std.proofs.Common.{take, drop, Some, None, refl, sym, ap, ◌∙◌, arith, inl, inr, length-take, length-drop}
use Rattle.std.proofs.Common.{length-append}
use Rattle.std.specs.List.{AllByRecursion, concat}
use Rattle.std.specs.Prelude.{nat_lt}
use Rattle.std.proofs.lemmas.Bool.{cases_lt, cond_both, lt-ltb, le-ltb, ltb-true, ne_eqb}
use Rattle.std.proofs.lemmas.List.{take_at, drop_at, drop_all, append-nil, take-append-drop}
use Rattle.std.proofs.Math.Seq.{take-length}
use Rattle.std.proofs.lemmas.List.Folds.{concat-append}
use Rattle.octets.specs.Records.{IsRecord, IsSplit}
use Rattle.octets.proofs.Streams.{split_of, only_split}
use Rattle.space_packet.specs.Laws.{extent_has_header}
use Rattle.space_packet.specs.Decoding.{extent_at}
use Rattle.tc_frame.specs.Layout.{SegmentView}
use Rattle.map_service.specs.Cutting.{longest_run, first_group, groups_within, groups_of, parts_of, segments_of}
use Rattle.map_service.specs.Packets.{first_packet, packets_in, rest_in}
use Rattle.space_packet.proofs.WholePackets.{one_more-by_len, no_more}

-- ---- the longest run, packet by packet

pub run-more : (room n : ℕ) (octets : List ℕ) → Some (take n octets) ≡ first_packet octets → n ≤ length octets
    → n ≤ room
    → length (concat (longest_run room (packets_in octets))) ≡ n
    + length (concat (longest_run (room - n) (packets_in (drop n octets))))
run-more room n octets e le fits =
    let len : length (take n octets) ≡ n = omega (arith, length-take n octets) in
    let first = one_more-by_len octets n e le in
    rw (first.0, le-ltb room (length (take n octets)) (omega arith), len)
    (length-append (take n octets) (concat (longest_run (room - n) (packets_in (drop n octets))))
    ∙ ap (λ (k : ℕ). k + length (concat (longest_run (room - n) (packets_in (drop n octets))))) len)

pub run-over : (room n : ℕ) (octets : List ℕ) → Some (take n octets) ≡ first_packet octets → n ≤ length octets
    → room < n
    → length (concat (longest_run room (packets_in octets))) ≡ 0
run-over room n octets e le over =
    let first = one_more-by_len octets n e le in
    rw (first.0, lt-ltb room (length (take n octets)) (omega (arith, length-take n octets))) refl

pub run-none : (room : ℕ) (octets : List ℕ) → first_packet octets ≡ None
    → length (concat (longest_run room (packets_in octets))) ≡ 0
run-none room octets e = rw ((no_more octets e).0) refl

-- ---- the first group

pub group-over : (part n : ℕ) (octets : List ℕ) → Some (take n octets) ≡ first_packet octets → n ≤ length octets
    → part < n
    → length (concat (first_group part (packets_in octets))) ≡ n
group-over part n octets e le over =
    let first = one_more-by_len octets n e le in
    rw (first.0, lt-ltb part (length (take n octets)) (omega (arith, length-take n octets)))
    (ap length (append-nil (take n octets)) ∙ omega (arith, length-take n octets))

pub group-run : (part n : ℕ) (octets : List ℕ) → Some (take n octets) ≡ first_packet octets → n ≤ length octets
    → n ≤ part
    → length (concat (first_group part (packets_in octets))) ≡ length (concat (longest_run part (packets_in octets)))
group-run part n octets e le fits =
    let first = one_more-by_len octets n e le in
    rw (first.0, le-ltb part (length (take n octets)) (omega (arith, length-take n octets))) refl

-- ---- groups are packets in order

run-front : (room : ℕ) (packets : List (List ℕ))
    → take (length (longest_run room packets)) packets ≡ longest_run room packets
run-front room [] = refl
run-front room (p ∷ ps) =
    elim (cases_lt room (length p)) [
      | inl lt ↦ rw (lt-ltb room (length p) lt) refl
      | inr ge ↦ rw (le-ltb room (length p) ge) (ap (λ (xs : List (List ℕ)). p ∷ xs) (run-front (room - length p) ps))
    ]

pub group-front : (part : ℕ) (packets : List (List ℕ))
    → take (length (first_group part packets)) packets ≡ first_group part packets
group-front part [] = refl
group-front part (p ∷ ps) =
    cond_both (nat_lt part (length p)) (p ∷ []) (longest_run part (p ∷ ps))
    (λ (g : List (List ℕ)). take (length g) (p ∷ ps) ≡ g) (λ t. refl) (λ t. run-front part (p ∷ ps))

-- a group has a packet
pub group-some : (part : ℕ) (p : List ℕ) (ps : List (List ℕ)) → 1 ≤ length (first_group part (p ∷ ps))
group-some part p ps =
    elim (cases_lt part (length p)) [
      | inl lt ↦ rw (lt-ltb part (length p) lt) (omega arith)
      | inr ge ↦ rw (le-ltb part (length p) ge) (omega arith)
    ]

same_groups : (n k part : ℕ) (packets : List (List ℕ)) → length packets ≤ n → length packets ≤ k
    → groups_within n part packets ≡ groups_within k part packets
same_groups zero zero part packets le le' = refl
same_groups zero (suc k) part [] le le' = refl
same_groups zero (suc k) part (p ∷ ps) le le' = absurd (omega arith)
same_groups (suc n) zero part [] le le' = refl
same_groups (suc n) zero part (p ∷ ps) le le' = absurd (omega arith)
same_groups (suc n) (suc k) part [] le le' = refl
same_groups (suc n) (suc k) part (p ∷ ps) le le' =
    let taken : ℕ = length (first_group part (p ∷ ps)) in
    let some : 1 ≤ taken = group-some part p ps in
    ap (λ (gs : List (List (List ℕ))). first_group part (p ∷ ps) ∷ gs)
    (same_groups n k part (drop taken (p ∷ ps)) (omega (arith, length-drop taken (p ∷ ps)))
    (omega (arith, length-drop taken (p ∷ ps))))

pub groups-first : (part : ℕ) (packets : List (List ℕ)) → 1 ≤ length packets
    → groups_of part packets ≡ first_group part packets
    ∷ groups_of part (drop (length (first_group part packets)) packets)
unfolding groups_of
groups-first part [] some = absurd (omega arith)
groups-first part (p ∷ ps) some =
    let taken : ℕ = length (first_group part (p ∷ ps)) in
    let one : 1 ≤ taken = group-some part p ps in
    ap (λ (gs : List (List (List ℕ))). first_group part (p ∷ ps) ∷ gs)
    (same_groups (length ps) (length (drop taken (p ∷ ps))) part (drop taken (p ∷ ps))
    (omega (arith, length-drop taken (p ∷ ps))) (omega (arith)))

-- ---- octets that are whole packets

abbrev pub IsWhole : List (List ℕ) → Type 0
IsWhole packets = AllByRecursion (IsRecord 6 extent_at) packets

pub packets-split : (octets : List ℕ) → IsSplit 6 extent_at octets (packets_in octets) (rest_in octets)
packets-split octets = split_of 6 extent_at (omega arith) extent_has_header octets

pub all_of : (octets : List ℕ) → rest_in octets ≡ [] → octets ≡ concat (packets_in octets)
all_of octets e =
    (packets-split octets).whole ∙ ap (λ (xs : List ℕ). concat (packets_in octets) ++ xs) e
    ∙ append-nil (concat (packets_in octets))

-- packets one after another are found as these packets, and nothing is left
pub again : (packets : List (List ℕ)) → IsWhole packets
    → (packets ≡ packets_in (concat packets)) × ([] ≡ rest_in (concat packets))
again packets each =
    only_split 6 extent_at (omega arith) extent_has_header (concat packets) [] packets
    (record { whole = sym (append-nil (concat packets)); each = each; left = inl (omega arith) })

pub behind-each : {X : Type 0} (P : X → Type 0) (k : ℕ) (xs : List X) → AllByRecursion P xs
    → AllByRecursion P (drop k xs)
behind-each P zero xs h = h
behind-each P (suc k) [] h = tt
behind-each P (suc k) (x ∷ xs) h = behind-each P k xs h.1

-- the segments of the first group, and those of the packets after it
pub record HasGroup (part m n : ℕ) (octets : List ℕ) : Type 0 where
  pub segments : segments_of part m octets ≡ parts_of part m (take n octets) ++ segments_of part m (drop n octets)
  pub whole : rest_in (drop n octets) ≡ []

has_group : (part m : ℕ) (octets : List ℕ) (group behind : List (List ℕ)) → octets ≡ concat group ++ concat behind
    → IsWhole behind
    → groups_of part (packets_in octets) ≡ group ∷ groups_of part behind
    → HasGroup part m (length (concat group)) octets
has_group part m octets group behind whole each groups =
    let front : take (length (concat group)) octets ≡ concat group =
    ap (take (length (concat group))) whole ∙ take_at (concat group) (concat behind) (length (concat group)) refl in
    let back : drop (length (concat group)) octets ≡ concat behind =
    ap (drop (length (concat group))) whole ∙ drop_at (concat group) (concat behind) (length (concat group)) refl in
    let same = again behind each in
    record {
      segments = rw (groups, front, back, ← same.0) refl;
      whole = ap rest_in back ∙ sym same.1;
    }

some_packet : (packets : List (List ℕ)) (octets : List ℕ) → octets ≡ concat packets → 1 ≤ length octets
    → 1 ≤ length packets
some_packet [] octets e some = absurd (omega (arith, ap length e))
some_packet (p ∷ ps) octets e some = omega arith

-- an empty list of octets has no segments
pub groups-none : (part m : ℕ) → segments_of part m [] ≡ []
unfolding groups_of
groups-none part m = rw ((no_more [] refl).0) refl

pub groups-more : (part m : ℕ) (octets : List ℕ) → rest_in octets ≡ [] → 1 ≤ length octets
    → HasGroup part m (length (concat (first_group part (packets_in octets)))) octets
groups-more part m octets none some =
    let packets : List (List ℕ) = packets_in octets in
    let group : List (List ℕ) = first_group part packets in
    let behind : List (List ℕ) = drop (length group) packets in
    let whole : octets ≡ concat packets = all_of octets none in
    let parts : packets ≡ group ++ behind =
    sym (take-append-drop (length group) packets)
    ∙ ap (λ (xs : List (List ℕ)). xs ++ behind) (group-front part packets) in
    has_group part m octets group behind (whole ∙ ap concat parts ∙ concat-append group behind)
    (behind-each (IsRecord 6 extent_at) (length group) packets (packets-split octets).each)
    (groups-first part packets (some_packet packets octets whole some))

pub groups-cut : (part m n : ℕ) (octets group behind : List ℕ) → rest_in octets ≡ [] → 1 ≤ length octets
    → n ≡ length (concat (first_group part (packets_in octets)))
    → group ≡ take n octets → behind ≡ drop n octets
    → (segments_of part m octets ≡ parts_of part m group ++ segments_of part m behind) × (rest_in behind ≡ [])
groups-cut part m n octets group behind none some len front back =
    let has = groups-more part m octets none some in
    rw (front, back, len) (has.segments, has.whole)

run-all : (room : ℕ) (packets : List (List ℕ)) → length (concat packets) ≤ room → longest_run room packets ≡ packets
run-all room [] le = refl
run-all room (p ∷ ps) le =
    let sum : length (concat (p ∷ ps)) ≡ length p + length (concat ps) = length-append p (concat ps) in
    rw (le-ltb room (length p) (omega (arith, sum)))
    (ap (λ (xs : List (List ℕ)). p ∷ xs) (run-all (room - length p) ps (omega (arith, sum))))

group-all : (part : ℕ) (packets : List (List ℕ)) → length (concat packets) ≤ part → first_group part packets ≡ packets
group-all part [] le = refl
group-all part (p ∷ ps) le =
    cond_both (nat_lt part (length p)) (p ∷ []) (longest_run part (p ∷ ps)) (λ (g : List (List ℕ)). g ≡ p ∷ ps)
    (λ t. absurd (omega (arith, ltb-true part (length p) t, length-append p (concat ps), le)))
    (λ t. run-all part (p ∷ ps) le)

-- packets that have at most `part` octets together are one group
pub in-one : (part m : ℕ) (octets : List ℕ) → rest_in octets ≡ [] → 1 ≤ length octets → length octets ≤ part
    → segments_of part m octets ≡ parts_of part m octets
in-one part m octets none some le =
    let whole : octets ≡ concat (packets_in octets) = all_of octets none in
    let len : length octets ≡ length (concat (first_group part (packets_in octets))) =
    ap length whole
    ∙ ap (λ (ps : List (List ℕ)). length (concat ps))
    (sym (group-all part (packets_in octets) (omega (arith, ap length whole)))) in
    (groups-cut part m (length octets) octets octets [] none some len (sym (take-length octets))
    (sym (drop_all (length octets) octets (omega arith)))).0
    ∙ ap (λ (ss : List SegmentView). parts_of part m octets ++ ss) (groups-none part m)
    ∙ append-nil (parts_of part m octets)

-- a list of 0 octets is empty
pub none_from : (octets : List ℕ) → true ≡ eqb (length octets) 0 → octets ≡ []
none_from [] e = refl
none_from (x ∷ xs) e =
    let t : eqb (suc (length xs)) 0 ≡ false =
    ne_eqb (suc (length xs)) 0 (λ (h : suc (length xs) ≡ 0). omega arith) in absurd cc
