-- Octets as pieces and as segments in parts: one by one, joined again, counted, and the only ones.
use Rattle.std.specs.Prelude.{OnOk}
use Rattle.std.proofs.Common.{◌≡◌, ◌≤◌, ◌<◌, ℕ, zero, suc, List, [], ◌∷◌, ◌++◌, length, take, drop, Result, Ok, Err}
use Rattle.std.proofs.Common.{refl, sym, ap, ◌∙◌, arith, inl, inr, append_assoc, length-take, length-drop, ◌+◌, ◌-◌}
use Rattle.std.proofs.Common.{◌/◌, ltb, replicate, subst, length-append, Option, Some, None}
use Rattle.std.proofs.lemmas.Bool.{cases_lt, cond_both, le-leb, lt-leb, ltb-true, ltb-false}
use Rattle.std.proofs.lemmas.List.{take-take, append-nil, map-append, take-append-drop, take_at, drop_at}
use Rattle.tc_frame.specs.declared.frame.SegmentFlags.{SegmentFlags}
use Rattle.tc_frame.specs.declared.frame.SegmentFlags.TheVariants.{First, Continuing, Last, Alone}
use Rattle.tc_frame.specs.Layout.{SegmentView}
use Rattle.map_service.specs.Cutting.{pieces_within, pieces_of, segment_with, flagged_segments, later_segments}
use Rattle.map_service.specs.Cutting.{segments_of_pieces, parts_of, first_group, groups_within, groups_of}
use Rattle.map_service.specs.Cutting.{alone_segment, segments_of, payloads, IsPart, flags_of, IsInParts}
use Rattle.std.specs.List.{AllByRecursion, concat, flat_map}
use Rattle.std.proofs.lemmas.List.Folds.{concat-append}
use Rattle.map_service.specs.Packets.{packets_in, rest_in}
use Rattle.map_service.proofs.Groups.{group-front, group-some, all_of}
use Rattle.std.proofs.Math.Nat.{add-div_right, div-eq_of_lt}

-- the front of a list that grew twice
pub still_before : {A : Type 0} (xs ys zs : List A) → take (length xs) ys ≡ xs → take (length ys) zs ≡ ys
    → take (length xs) zs ≡ xs
still_before xs ys zs p q =
    let le : length xs ≤ length ys = omega (arith, length-take (length xs) ys, ap length p) in
    sym (take-take (length xs) (length ys) zs le) ∙ ap (take (length xs)) q ∙ p

-- each sufficient number of steps yields the same pieces
same_pieces : (n k part : ℕ) (xs : List ℕ) → 1 ≤ part → 1 ≤ length xs → length xs ≤ n → length xs ≤ k
    → pieces_within n part xs ≡ pieces_within k part xs
same_pieces zero k part xs one some le le' = absurd (omega arith)
same_pieces (suc n) zero part xs one some le le' = absurd (omega arith)
same_pieces (suc n) (suc k) part xs one some le le' =
    elim (cases_lt part (length xs)) [
      | inl lt ↦
          rw (lt-leb (length xs) part lt) (ap (λ (ps : List (List ℕ)). take part xs ∷ ps)
          (same_pieces n k part (drop part xs) one (omega (arith, length-drop part xs))
          (omega (arith, length-drop part xs)) (omega (arith, length-drop part xs))))
      | inr ge ↦ rw (le-leb (length xs) part ge) refl
    ]

pub pieces-fit : (part : ℕ) (xs : List ℕ) → 1 ≤ length xs → length xs ≤ part → pieces_of part xs ≡ xs ∷ []
unfolding pieces_of
pieces-fit part [] some le = absurd (omega arith)
pieces-fit part (x ∷ xs) some le = rw (le-leb (length (x ∷ xs)) part le) refl

pub pieces-more : (part : ℕ) (xs : List ℕ) → 1 ≤ part → part < length xs
    → pieces_of part xs ≡ take part xs ∷ pieces_of part (drop part xs)
unfolding pieces_of
pieces-more part [] one lt = absurd (omega arith)
pieces-more part (x ∷ xs) one lt =
    let rest : List ℕ = drop part (x ∷ xs) in
    rw (lt-leb (length (x ∷ xs)) part lt) (ap (λ (ps : List (List ℕ)). take part (x ∷ xs) ∷ ps)
    (same_pieces (length xs) (length rest) part rest one (omega (arith, length-drop part (x ∷ xs)))
    (omega (arith, length-drop part (x ∷ xs))) (omega (arith))))

-- a nonempty list of octets has a piece
pub pieces-some : (part : ℕ) (xs : List ℕ) → 1 ≤ part → 1 ≤ length xs
    → (p : List ℕ) × (ps : List (List ℕ)) × (pieces_of part xs ≡ p ∷ ps)
pieces-some part xs one some =
    elim (cases_lt part (length xs)) [
      | inl lt ↦ (take part xs, pieces_of part (drop part xs), pieces-more part xs one lt)
      | inr ge ↦ (xs, [], pieces-fit part xs some ge)
    ]

-- the last part, and a part before it
pub later_segments-last : (m part : ℕ) (xs : List ℕ) → 1 ≤ length xs → length xs ≤ part
    → later_segments m (pieces_of part xs) ≡ segment_with Last m xs ∷ []
later_segments-last m part xs some le = ap (later_segments m) (pieces-fit part xs some le)

flagged-more : (front single : SegmentFlags) (m part : ℕ) (xs : List ℕ) → 1 ≤ part → part < length xs
    → flagged_segments front single m (pieces_of part xs) ≡ segment_with front m (take part xs)
    ∷ later_segments m (pieces_of part (drop part xs))
flagged-more front single m part xs one lt =
    let rest = pieces-some part (drop part xs) one (omega (arith, length-drop part xs)) in
    let is : pieces_of part (drop part xs) ≡ rest.0 ∷ rest.1 = rest.2 in
    rw (pieces-more part xs one lt, is) refl

pub later_segments-more : (m part : ℕ) (xs : List ℕ) → 1 ≤ part → part < length xs
    → later_segments m (pieces_of part xs) ≡ segment_with Continuing m (take part xs)
    ∷ later_segments m (pieces_of part (drop part xs))
later_segments-more = flagged-more Continuing Last

-- octets in one segment, and in several
pub parts-fit : (m part : ℕ) (xs : List ℕ) → 1 ≤ length xs → length xs ≤ part
    → parts_of part m xs ≡ segment_with Alone m xs ∷ []
parts-fit m part xs some le = ap (segments_of_pieces m) (pieces-fit part xs some le)

-- the segment that octets form, if they form one
pub alone-some : (part m : ℕ) (xs : List ℕ) (s : SegmentView) → Some s ≡ alone_segment part m xs
    → (s ≡ segment_with Alone m xs) × (length xs ≤ part)
alone-some part m xs s =
    cond_both (ltb part (length xs)) None (Some (segment_with Alone m xs))
    (λ (o : Option SegmentView). Some s ≡ o → (s ≡ segment_with Alone m xs) × (length xs ≤ part))
    (λ t e. absurd (cc e)) (λ t e. (let is : s ≡ segment_with Alone m xs = cc e in is, ltb-false _ _ t))

pub alone-none : (part m : ℕ) (xs : List ℕ) → None ≡ alone_segment part m xs → part < length xs
alone-none part m xs =
    cond_both (ltb part (length xs)) None (Some (segment_with Alone m xs))
    (λ (o : Option SegmentView). None ≡ o → part < length xs) (λ t e. ltb-true _ _ t) (λ t e. absurd (cc e))

pub parts-alone : (part m : ℕ) (xs : List ℕ) (s : SegmentView) → 1 ≤ length xs → Some s ≡ alone_segment part m xs
    → s ∷ [] ≡ parts_of part m xs
parts-alone part m xs s some e =
    let is = alone-some part m xs s e in
    ap (λ (x : SegmentView). x ∷ []) is.0 ∙ sym (parts-fit m part xs some is.1)

pub parts-more : (m part : ℕ) (xs : List ℕ) → 1 ≤ part → part < length xs
    → parts_of part m xs ≡ segment_with First m (take part xs) ∷ later_segments m (pieces_of part (drop part xs))
parts-more = flagged-more First Alone

-- ---- segments that were added

pub ok_along : {A E : Type 0} (r : Result A E) (P Q : Type 0) → (P → Q) → OnOk r P → OnOk r Q
ok_along (Ok x) P Q f h = f h
ok_along (Err e) P Q f h = tt

-- a list with one more, and then others
pub and_more : (old new others all : List SegmentView) (s t : SegmentView) → new ≡ old ++ s ∷ [] → s ≡ t
    → all ≡ t ∷ others → new ++ others ≡ old ++ all
and_more old new others all s t e same is =
    ap (λ (vs : List SegmentView). vs ++ others) e ∙ append_assoc old (s ∷ []) others
    ∙ ap (λ (vs : List SegmentView). old ++ vs) (ap (λ (x : SegmentView). x ∷ others) same ∙ sym is)

-- a list with some more, and then others
pub and_others : (old new some others all : List SegmentView) → new ≡ old ++ some → all ≡ some ++ others
    → new ++ others ≡ old ++ all
and_others old new some others all e is =
    ap (λ (vs : List SegmentView). vs ++ others) e ∙ append_assoc old some others
    ∙ ap (λ (vs : List SegmentView). old ++ vs) (sym is)

-- the same lemmas with separate names for the front and for what is after it
pub flagged-cut : (front single : SegmentFlags) (m part : ℕ) (xs piece behind : List ℕ) → 1 ≤ part → part < length xs
    → piece ≡ take part xs → behind ≡ drop part xs
    → flagged_segments front single m (pieces_of part xs) ≡ segment_with front m piece
    ∷ later_segments m (pieces_of part behind)
flagged-cut front single m part xs piece behind one lt taken left =
    rw (taken, left) (flagged-more front single m part xs one lt)

-- ---- the segments of octets contain these octets, part by part

joined_within : (n part : ℕ) (xs : List ℕ) → 1 ≤ part → length xs ≤ n → concat (pieces_within n part xs) ≡ xs
joined_within zero part [] one le = refl
joined_within zero part (x ∷ xs) one le = absurd (omega arith)
joined_within (suc n) part xs one le =
    elim (cases_lt part (length xs)) [
      | inl lt ↦
          rw (lt-leb (length xs) part lt) (ap (λ (ys : List ℕ). take part xs ++ ys)
          (joined_within n part (drop part xs) one (omega (arith, length-drop part xs))) ∙ take-append-drop part xs)
      | inr ge ↦ rw (le-leb (length xs) part ge) (append-nil xs)
    ]

pub pieces-joined : (part : ℕ) (xs : List ℕ) → 1 ≤ part → concat (pieces_of part xs) ≡ xs
unfolding pieces_of
pieces-joined part xs one = joined_within (length xs) part xs one (omega arith)

abbrev pub IsPiece : ℕ → List ℕ → Type 0
IsPiece part piece = (1 ≤ length piece) × (length piece ≤ part)

sizes_within : (n part : ℕ) (xs : List ℕ) → 1 ≤ part → 1 ≤ length xs → length xs ≤ n
    → AllByRecursion (IsPiece part) (pieces_within n part xs)
sizes_within zero part xs one some le = absurd (omega arith)
sizes_within (suc n) part xs one some le =
    elim (cases_lt part (length xs)) [
      | inl lt ↦
          rw (lt-leb (length xs) part lt) (
            (omega (arith, length-take part xs), omega (arith, length-take part xs)),
            sizes_within n part (drop part xs) one (omega (arith, length-drop part xs))
                (omega (arith, length-drop part xs)),
          )
      | inr ge ↦ rw (le-leb (length xs) part ge) ((some, ge), tt)
    ]

pub pieces-sizes : (part : ℕ) (xs : List ℕ) → 1 ≤ part → AllByRecursion (IsPiece part) (pieces_of part xs)
unfolding pieces_of
pieces-sizes part [] one = tt
pieces-sizes part (x ∷ xs) one = sizes_within (length (x ∷ xs)) part (x ∷ xs) one (omega arith) (omega arith)

-- ---- their segments

flagged-payloads : (front single : SegmentFlags) (m : ℕ) (pieces : List (List ℕ))
    → payloads (flagged_segments front single m pieces) ≡ pieces
flagged-payloads front single m [] = refl
flagged-payloads front single m (x ∷ []) = refl
flagged-payloads front single m (x ∷ y ∷ ys) =
    ap (λ (ps : List (List ℕ)). x ∷ ps) (flagged-payloads Continuing Last m (y ∷ ys))

flagged-parts : (front single : SegmentFlags) (part m : ℕ) (pieces : List (List ℕ))
    → AllByRecursion (IsPiece part) pieces → AllByRecursion (IsPart part m) (flagged_segments front single m pieces)
flagged-parts front single part m [] h = tt
flagged-parts front single part m (x ∷ []) h = (record { on_map = refl; least = h.0.0; most = h.0.1 }, tt)
flagged-parts front single part m (x ∷ y ∷ ys) h =
    (record { on_map = refl; least = h.0.0; most = h.0.1 }, flagged-parts Continuing Last part m (y ∷ ys) h.1)

pub parts-joined : (part m : ℕ) (xs : List ℕ) → 1 ≤ part → concat (payloads (parts_of part m xs)) ≡ xs
parts-joined part m xs one = ap concat (flagged-payloads First Alone m (pieces_of part xs)) ∙ pieces-joined part xs one

-- ---- groups

pub groups_joined : (n part : ℕ) (packets : List (List ℕ)) → length packets ≤ n
    → flat_map (λ g. g) (groups_within n part packets) ≡ packets
groups_joined zero part [] le = refl
groups_joined zero part (p ∷ ps) le = absurd (omega arith)
groups_joined (suc n) part [] le = refl
groups_joined (suc n) part (p ∷ ps) le =
    let taken : ℕ = length (first_group part (p ∷ ps)) in
    let some : 1 ≤ taken = group-some part p ps in
    ap (λ (qs : List (List ℕ)). first_group part (p ∷ ps) ++ qs)
    (groups_joined n part (drop taken (p ∷ ps)) (omega (arith, length-drop taken (p ∷ ps))))
    ∙ ap (λ (qs : List (List ℕ)). qs ++ drop taken (p ∷ ps)) (sym (group-front part (p ∷ ps)))
    ∙ take-append-drop taken (p ∷ ps)

segments_joined : (part m : ℕ) (groups : List (List (List ℕ))) → 1 ≤ part
    → concat (payloads (flat_map (λ g. parts_of part m (concat g)) groups)) ≡ concat (flat_map (λ g. g) groups)
segments_joined part m [] one = refl
segments_joined part m (g ∷ gs) one =
    let here : List SegmentView = parts_of part m (concat g) in
    let behind : List SegmentView = flat_map (λ (h : List (List ℕ)). parts_of part m (concat h)) gs in
    ap concat (map-append (λ (s : SegmentView). s.payload) here behind)
    ∙ concat-append (payloads here) (payloads behind)
    ∙ ap (λ (xs : List ℕ). xs ++ concat (payloads behind)) (parts-joined part m (concat g) one)
    ∙ ap (λ (xs : List ℕ). concat g ++ xs) (segments_joined part m gs one)
    ∙ sym (concat-append g (flat_map (λ (h : List (List ℕ)). h) gs))

pub segments-joined : (part m : ℕ) (octets : List ℕ) → 1 ≤ part → rest_in octets ≡ []
    → concat (payloads (segments_of part m octets)) ≡ octets
unfolding groups_of
segments-joined part m octets one whole =
    segments_joined part m (groups_of part (packets_in octets)) one
    ∙ ap concat (groups_joined (length (packets_in octets)) part (packets_in octets) (omega arith))
    ∙ sym (all_of octets whole)

pub all-append : {X : Type 0} (P : X → Type 0) (xs ys : List X) → AllByRecursion P xs → AllByRecursion P ys
    → AllByRecursion P (xs ++ ys)
all-append P [] ys p q = q
all-append P (x ∷ xs) ys p q = (p.0, all-append P xs ys p.1 q)

groups-parts : (part m : ℕ) (groups : List (List (List ℕ))) → 1 ≤ part
    → AllByRecursion (IsPart part m) (flat_map (λ g. parts_of part m (concat g)) groups)
groups-parts part m [] one = tt
groups-parts part m (g ∷ gs) one =
    all-append (IsPart part m) (parts_of part m (concat g))
    (flat_map (λ (h : List (List ℕ)). parts_of part m (concat h)) gs)
    (flagged-parts First Alone part m (pieces_of part (concat g)) (pieces-sizes part (concat g) one))
    (groups-parts part m gs one)

pub segments-parts : (part m : ℕ) (octets : List ℕ) → 1 ≤ part
    → AllByRecursion (IsPart part m) (segments_of part m octets)
segments-parts part m octets one = groups-parts part m (groups_of part (packets_in octets)) one

pub parts-each : (part m : ℕ) (octets : List ℕ) → 1 ≤ part → AllByRecursion (IsPart part m) (parts_of part m octets)
parts-each part m octets one = flagged-parts First Alone part m (pieces_of part octets) (pieces-sizes part octets one)

-- ---- how many segments there are of octets

count_within : (n part : ℕ) (xs : List ℕ) → 1 ≤ part → 1 ≤ length xs → length xs ≤ n
    → length (pieces_within n part xs) ≡ (length xs - 1) / part + 1
count_within zero part xs one some le = absurd (omega arith)
count_within (suc n) part xs one some le =
    elim (cases_lt part (length xs)) [
      | inl lt ↦
          let behind = count_within n part (drop part xs) one (omega (arith, length-drop part xs))
          (omega (arith, length-drop part xs)) in
          let size : length xs - 1 ≡ length (drop part xs) - 1 + part = omega (arith, length-drop part xs) in
          rw (lt-leb (length xs) part lt) (
          let one_more : (length xs - 1) / part ≡ (length (drop part xs) - 1) / part + 1 =
          ap (λ (k : ℕ). k / part) size ∙ add-div_right (length (drop part xs) - 1) (omega arith) in
          omega arith
          )
      | inr ge ↦
          let none : (length xs - 1) / part ≡ 0 = div-eq_of_lt (omega arith) in
          rw (le-leb (length xs) part ge) (omega arith)
    ]

flagged-count : (front single : SegmentFlags) (m : ℕ) (pieces : List (List ℕ))
    → length (flagged_segments front single m pieces) ≡ length pieces
flagged-count front single m [] = refl
flagged-count front single m (x ∷ []) = refl
flagged-count front single m (x ∷ y ∷ ys) = ap suc (flagged-count Continuing Last m (y ∷ ys))

-- the number of parts of a nonempty list of octets
pub parts-count : (part m : ℕ) (xs : List ℕ) → 1 ≤ part → 1 ≤ length xs
    → length (parts_of part m xs) ≡ (length xs - 1) / part + 1
unfolding pieces_of
parts-count part m xs one some =
    flagged-count First Alone m (pieces_of part xs) ∙ count_within (length xs) part xs one some (omega arith)

-- ---- segments in parts are those of their octets, and no others

abbrev IsFull : ℕ → SegmentView → Type 0
IsFull part s = length s.payload ≡ part

record IsFollowing (part m : ℕ) (octets : List ℕ) (segments : List SegmentView) : Type 0 where
  between : ℕ
  flags : flags_of segments ≡ replicate between Continuing ++ Last ∷ []
  full : AllByRecursion (IsFull part) (take between segments)

-- the number of octets decreases with each part
following_is : (n part m : ℕ) (octets : List ℕ) → 1 ≤ part → 1 ≤ length octets → length octets ≤ n
    → IsFollowing part m octets (later_segments m (pieces_of part octets))
following_is zero part m octets one some le = absurd (omega arith)
following_is (suc n) part m octets one some le =
    elim (cases_lt part (length octets)) [
      | inl lt ↦
          let rest = following_is n part m (drop part octets) one (omega (arith, length-drop part octets))
          (omega (arith, length-drop part octets)) in
          let cut = flagged-cut Continuing Last m part octets (take part octets) (drop part octets) one lt refl refl in
          subst (λ (xs : List SegmentView). IsFollowing part m octets xs) (sym cut) (record {
            between = suc rest.between;
            flags = ap (λ (fs : List SegmentFlags). Continuing ∷ fs) rest.flags;
            full = (omega (arith, length-take part octets), rest.full);
          })
      | inr ge ↦ subst (λ (xs : List SegmentView). IsFollowing part m octets xs)
          (sym (later_segments-last m part octets some ge)) (record { between = zero; flags = refl; full = tt })
    ]

pub in_parts : (part m : ℕ) (octets : List ℕ) → 1 ≤ part → part < length octets
    → IsInParts part m octets (parts_of part m octets)
in_parts part m octets one lt =
    let rest = following_is (length octets) part m (drop part octets) one (omega (arith, length-drop part octets))
    (omega (arith, length-drop part octets)) in
    let cut : parts_of part m octets ≡ segment_with First m (take part octets)
    ∷ later_segments m (pieces_of part (drop part octets)) =
    flagged-cut First Alone m part octets (take part octets) (drop part octets) one lt refl refl in
    let full : AllByRecursion (IsFull part)
    (take (suc rest.between) (segment_with First m (take part octets)
    ∷ later_segments m (pieces_of part (drop part octets)))) =
    (omega (arith, length-take part octets), rest.full) in
    record {
      between = rest.between;
      flags = ap flags_of cut ∙ ap (λ (fs : List SegmentFlags). First ∷ fs) rest.flags;
      joined = parts-joined part m octets one;
      each = parts-each part m octets one;
      full = subst (λ (xs : List SegmentView). AllByRecursion (IsFull part) (take (suc rest.between) xs)) (sym cut)
          full;
    }

-- ---- and no others

-- a segment from its fields
segment_is : (s : SegmentView) (flags : SegmentFlags) (m : ℕ) (octets : List ℕ) → s.header.flags ≡ flags
    → s.header.map ≡ m → s.payload ≡ octets → s ≡ segment_with flags m octets
segment_is s flags m octets f e p =
    ap (λ (x : SegmentFlags). segment_with x s.header.map s.payload) f
    ∙ ap (λ (x : ℕ). segment_with flags x s.payload) e ∙ ap (λ (x : List ℕ). segment_with flags m x) p

-- octets after a first part of this many
record IsSplitAt (part : ℕ) (octets piece behind : List ℕ) : Type 0 where
  more : part < length octets
  front : piece ≡ take part octets
  back : behind ≡ drop part octets

split_at_part : (part : ℕ) (octets piece behind : List ℕ) → piece ++ behind ≡ octets → length piece ≡ part
    → 1 ≤ length behind → IsSplitAt part octets piece behind
split_at_part part octets piece behind e len some = record {
  more = omega (arith, ap length e, length-append piece behind);
  front = sym (take_at piece behind part len) ∙ ap (take part) e;
  back = sym (drop_at piece behind part len) ∙ ap (drop part) e;
}

-- segments whose flags end with a last have octets
some_behind : (part m n : ℕ) (segments : List SegmentView) → flags_of segments ≡ replicate n Continuing ++ Last ∷ []
    → AllByRecursion (IsPart part m) segments → 1 ≤ length (concat (payloads segments))
some_behind part m zero [] f each = absurd cc
some_behind part m (suc n) [] f each = absurd cc
some_behind part m n (s ∷ segments) f each =
    omega (arith, each.0.least, length-append s.payload (concat (payloads segments)))

-- the flags of a first segment and of n that follow it, or of one alone
abbrev flags_from : SegmentFlags → SegmentFlags → ℕ → List SegmentFlags
flags_from front single zero = single ∷ []
flags_from front single (suc n) = front ∷ (replicate n Continuing ++ Last ∷ [])

flags_behind : (n : ℕ) → replicate n Continuing ++ Last ∷ [] ≡ flags_from Continuing Last n
flags_behind zero = refl
flags_behind (suc n) = refl

only_from : (front single : SegmentFlags) (part m n : ℕ) (octets : List ℕ) (segments : List SegmentView) → 1 ≤ part
    → flags_of segments ≡ flags_from front single n
    → concat (payloads segments) ≡ octets → AllByRecursion (IsPart part m) segments
    → AllByRecursion (IsFull part) (take n segments)
    → segments ≡ flagged_segments front single m (pieces_of part octets)
only_from front single part m zero octets [] one f joined each full = absurd cc
only_from front single part m (suc n) octets [] one f joined each full = absurd cc
only_from front single part m zero octets (s ∷ t ∷ ts) one f joined each full = absurd cc
only_from front single part m zero octets (s ∷ []) one f joined each full =
    let is : s.payload ≡ octets = sym (append-nil s.payload) ∙ joined in
    let here : s.header.flags ≡ single = cc in
    ap (λ (x : SegmentView). x ∷ []) (segment_is s single m octets here each.0.on_map is)
    ∙ sym (ap (flagged_segments front single m) (pieces-fit part octets (omega (arith, each.0.least, ap length is))
    (omega (arith, each.0.most, ap length is))))
only_from front single part m (suc n) octets (s ∷ segments) one f joined each full =
    let behind : List ℕ = concat (payloads segments) in
    let here : s.header.flags ≡ front = cc in
    let flags : flags_of segments ≡ replicate n Continuing ++ Last ∷ [] = cc in
    let split = split_at_part part octets s.payload behind joined full.0 (some_behind part m n segments flags each.1) in
    ap (λ (x : SegmentView). x ∷ segments) (segment_is s front m s.payload here each.0.on_map refl)
    ∙ ap (λ (xs : List SegmentView). segment_with front m s.payload ∷ xs)
    (only_from Continuing Last part m n behind segments one (flags ∙ flags_behind n) refl each.1 full.1)
    ∙ sym (flagged-cut front single m part octets s.payload behind one split.more split.front split.back)

pub only_in_parts : (part m : ℕ) (octets : List ℕ) (segments : List SegmentView) → 1 ≤ part
    → IsInParts part m octets segments → segments ≡ parts_of part m octets
only_in_parts part m octets segments one h =
    only_from First Alone part m (suc h.between) octets segments one h.flags h.joined h.each h.full
