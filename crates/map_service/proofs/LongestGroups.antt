-- Groups are the packets in order, and each is as long as it can be.
use Rattle.std.proofs.Common.{◌≡◌, ◌≤◌, ◌<◌, ◌⊎◌, ℕ, zero, suc, ◌+◌, ◌-◌, List, [], ◌∷◌, ◌++◌, length, take, drop, Bool}
use Rattle.std.proofs.Common.{true, false, cond, ltb, refl, sym, ap, ◌∙◌, arith, inl, inr, length-append}
use Rattle.std.specs.List.{AllByRecursion, concat, flat_map}
use Rattle.std.proofs.lemmas.Bool.{cases_lt, lt-ltb, le-ltb, ltb-true, ltb-false}
use Rattle.std.proofs.lemmas.List.{append-nil, drop_at}
use Rattle.map_service.specs.Cutting.{longest_run, first_group, groups_within, groups_of, IsGroup, AreLongest}
use Rattle.map_service.specs.Cutting.{IsGrouped}
use Rattle.map_service.proofs.Groups.{group-some, groups-first}
use Rattle.map_service.proofs.Parts.{groups_joined}
use Rattle.map_service.proofs.Passage.{group-size}

-- a packet that is left after the longest run would not have fitted
run-longest_at : (room : ℕ) (p : List ℕ) (ps : List (List ℕ)) (q : List ℕ) (qs : List (List ℕ)) (b : Bool)
    → ltb room (length p) ≡ b
    → (drop (length (longest_run (room - length p) ps)) ps ≡ q ∷ qs
    → room - length p < length (concat (longest_run (room - length p) ps)) + length q)
    → drop (length (cond b [] (p ∷ longest_run (room - length p) ps))) (p ∷ ps) ≡ q ∷ qs
    → room < length (concat (cond b [] (p ∷ longest_run (room - length p) ps))) + length q
run-longest_at room p ps q qs true lt next e =
    let is : p ≡ q = cc in
    omega (arith, ltb-true _ _ lt, ap length is)
run-longest_at room p ps q qs false ge next e =
    omega (arith, ltb-false _ _ ge, length-append p (concat (longest_run (room - length p) ps)), next e)

run-longest : (room : ℕ) (packets : List (List ℕ)) (q : List ℕ) (qs : List (List ℕ))
    → drop (length (longest_run room packets)) packets ≡ q ∷ qs
    → room < length (concat (longest_run room packets)) + length q
run-longest room [] q qs e = absurd cc
run-longest room (p ∷ ps) q qs e =
    run-longest_at room p ps q qs (ltb room (length p)) refl (run-longest (room - length p) ps q qs) e

group-longest_at : (part : ℕ) (p : List ℕ) (ps : List (List ℕ)) (q : List ℕ) (qs : List (List ℕ)) (b : Bool)
    → ltb part (length p) ≡ b
    → drop (length (cond b (p ∷ []) (longest_run part (p ∷ ps)))) (p ∷ ps) ≡ q ∷ qs
    → part < length (concat (cond b (p ∷ []) (longest_run part (p ∷ ps)))) + length q
group-longest_at part p ps q qs true lt e = omega (arith, ltb-true _ _ lt, length-append p [])
group-longest_at part p ps q qs false ge e = run-longest part (p ∷ ps) q qs e

group-longest : (part : ℕ) (p : List ℕ) (ps : List (List ℕ)) (q : List ℕ) (qs : List (List ℕ))
    → drop (length (first_group part (p ∷ ps))) (p ∷ ps) ≡ q ∷ qs
    → part < length (concat (first_group part (p ∷ ps))) + length q
group-longest part p ps q qs e = group-longest_at part p ps q qs (ltb part (length p)) refl e

-- a group begins with the first packet
begins_with : (q : List ℕ) (run : List (List ℕ)) (b : Bool) → take 1 (cond b (q ∷ []) (cond b [] (q ∷ run))) ≡ q ∷ []
begins_with q run true = refl
begins_with q run false = refl

first-length : (part : ℕ) (q : List ℕ) (qs : List (List ℕ))
    → length (concat (take 1 (first_group part (q ∷ qs)))) ≡ length q
first-length part q qs =
    ap (λ (g : List (List ℕ)). length (concat g))
    (begins_with q (longest_run (part - length q) qs) (ltb part (length q))) ∙ ap length (append-nil q)

longest_next : (n part : ℕ) (g : List (List ℕ)) (rest : List (List ℕ))
    → ((q : List ℕ) (qs : List (List ℕ)) → rest ≡ q ∷ qs → part < length (concat g) + length q)
    → AreLongest part (groups_within n part rest) → AreLongest part (g ∷ groups_within n part rest)
longest_next zero part g rest next h = tt
longest_next (suc n) part g [] next h = tt
longest_next (suc n) part g (q ∷ qs) next h = (omega (arith, next q qs refl, first-length part q qs), h)

longest_within : (n part : ℕ) (packets : List (List ℕ)) → AreLongest part (groups_within n part packets)
longest_within zero part packets = tt
longest_within (suc n) part [] = tt
longest_within (suc n) part (p ∷ ps) =
    let taken : ℕ = length (first_group part (p ∷ ps)) in
    longest_next n part (first_group part (p ∷ ps)) (drop taken (p ∷ ps)) (group-longest part p ps)
    (longest_within n part (drop taken (p ∷ ps)))

one_packet : (g : List (List ℕ)) (part : ℕ)
    → (length (concat g) ≤ part) ⊎ ((q : List ℕ) × (g ≡ q ∷ []) × (part < length q))
    → (length (concat g) ≤ part) ⊎ (length g ≡ 1)
one_packet g part (inl le) = inl le
one_packet g part (inr s) = inr (ap length s.1)

groups_within_each : (n part : ℕ) (packets : List (List ℕ))
    → AllByRecursion (IsGroup part) (groups_within n part packets)
groups_within_each zero part packets = tt
groups_within_each (suc n) part [] = tt
groups_within_each (suc n) part (p ∷ ps) =
    let g : List (List ℕ) = first_group part (p ∷ ps) in (
      record { some = group-some part p ps; size = one_packet g part (group-size part p ps) },
      groups_within_each n part
          (drop (length g) (p ∷ ps)),
    )

pub is_grouped : (part : ℕ) (packets : List (List ℕ)) → IsGrouped part packets (groups_of part packets)
unfolding groups_of
is_grouped part packets = record {
  joined = groups_joined (length packets) part packets (omega arith);
  each = groups_within_each (length packets) part packets;
  longest = longest_within (length packets) part packets;
}

-- ---- and no others

-- the first packet after would not fit
abbrev NoneFits : ℕ → List (List ℕ) → List (List ℕ) → Type 0
NoneFits room g rest = (q : List ℕ) (qs : List (List ℕ)) → rest ≡ q ∷ qs → room < length (concat g) + length q

run_is : (room : ℕ) (g rest : List (List ℕ)) → length (concat g) ≤ room → NoneFits room g rest
    → longest_run room (g ++ rest) ≡ g
run_is room [] [] le next = refl
run_is room [] (q ∷ qs) le next = rw (lt-ltb room (length q) (omega (arith, next q qs refl))) refl
run_is room (p ∷ g) rest le next =
    let both : length (p ++ concat g) ≡ length p + length (concat g) = length-append p (concat g) in
    rw (le-ltb room (length p) (omega arith)) (ap (λ (ps : List (List ℕ)). p ∷ ps)
    (run_is (room - length p) g rest (omega arith) (λ q qs e. omega (arith, next q qs e))))

group_is : (part : ℕ) (p : List ℕ) (g rest : List (List ℕ)) → (length (concat (p ∷ g)) ≤ part) ⊎ (length (p ∷ g) ≡ 1)
    → NoneFits part (p ∷ g) rest
    → first_group part (p ∷ g ++ rest) ≡ p ∷ g
group_is part p g rest (inl le) next =
    let both : length (p ++ concat g) ≡ length p + length (concat g) = length-append p (concat g) in
    rw (le-ltb part (length p) (omega arith)) (ap (λ (ps : List (List ℕ)). p ∷ ps)
    (run_is (part - length p) g rest (omega arith) (λ q qs e. omega (arith, next q qs e))))
group_is part p (x ∷ g) rest (inr one) next = absurd (omega arith)
group_is part p [] rest (inr one) next =
    elim (cases_lt part (length p)) [
      | inl lt ↦ rw (lt-ltb part (length p) lt) refl
      | inr ge ↦
          rw (le-ltb part (length p) ge) (ap (λ (ps : List (List ℕ)). p ∷ ps)
          (run_is (part - length p) [] rest (omega arith) (λ q qs e. omega (arith, next q qs e, length-append p []))))
    ]

next_of : (part : ℕ) (g : List (List ℕ)) (gs : List (List (List ℕ))) → AreLongest part (g ∷ gs)
    → AllByRecursion (IsGroup part) gs → NoneFits part g (flat_map (λ h. h) gs)
next_of part g [] longest each = λ q qs e. absurd cc
next_of part g ([] ∷ gs) longest each = absurd (omega (arith, each.0.some))
next_of part g ((x ∷ h) ∷ gs) longest each = λ q qs e.
    let is : x ≡ q = cc in
    omega (arith, longest.0, length-append x [], ap length is)

longest_behind : (part : ℕ) (g : List (List ℕ)) (gs : List (List (List ℕ))) → AreLongest part (g ∷ gs)
    → AreLongest part gs
longest_behind part g [] longest = tt
longest_behind part g (h ∷ gs) longest = longest.1

only_groups : (part : ℕ) (groups : List (List (List ℕ))) → AllByRecursion (IsGroup part) groups → AreLongest part groups
    → groups ≡ groups_of part (flat_map (λ g. g) groups)
unfolding groups_of
only_groups part [] each longest = refl
only_groups part ([] ∷ gs) each longest = absurd (omega (arith, each.0.some))
only_groups part ((p ∷ g) ∷ gs) each longest =
    let rest : List (List ℕ) = flat_map (λ (h : List (List ℕ)). h) gs in
    let first : first_group part (p ∷ g ++ rest) ≡ p ∷ g =
    group_is part p g rest each.0.size (next_of part (p ∷ g) gs longest each.1) in
    let behind : drop (length (p ∷ g)) (p ∷ g ++ rest) ≡ rest = drop_at (p ∷ g) rest (length (p ∷ g)) refl in
    ap (λ (hs : List (List (List ℕ))). (p ∷ g) ∷ hs)
    (only_groups part gs each.1 (longest_behind part (p ∷ g) gs longest))
    ∙ sym (groups-first part (p ∷ g ++ rest) (omega arith)
    ∙ ap (λ (h : List (List ℕ)). h ∷ groups_of part (drop (length h) (p ∷ g ++ rest))) first
    ∙ ap (λ (xs : List (List ℕ)). (p ∷ g) ∷ groups_of part xs) behind)

pub only_grouped : (part : ℕ) (packets : List (List ℕ)) (groups : List (List (List ℕ))) → IsGrouped part packets groups
    → groups ≡ groups_of part packets
only_grouped part packets groups h = only_groups part groups h.each h.longest ∙ ap (groups_of part) h.joined
