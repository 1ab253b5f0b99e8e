-- The list of the parts, which has no place for a MAP on which no part was opened.
use Rattle.std.proofs.Common.{◌≡◌, ◌≤◌, ◌<◌, ◌-◌, ◌+◌, ◌∙◌, ℕ, List, [], ◌∷◌, ◌++◌, Option, Some, None}
use Rattle.std.proofs.Common.{refl, sym, ap, arith}
use Rattle.std.proofs.Common.{length, map, set, get_or, replicate, true, false, Bool, inl, inr}
use Rattle.std.proofs.Common.{◌/◌, ◌^◌, ◌&&◌, take, zero, suc}
use Rattle.std.specs.Prelude.{nat_lt, is_some, Result, Ok, Err, IfOk}
use Rattle.tc_frame.specs.Layout.{SegmentView}
use Rattle.map_service.specs.declared.assembler.Prepared.{Prepared}
use Rattle.map_service.specs.declared.fault.MapFault.{MapFault}
use Rattle.std.specs.Int.Count.{count_leading_zeros}
use Rattle.std.specs.List.{AllByRecursion, FoldsTo}
use Rattle.std.proofs.Math.Nat.{div-eq_of_lt, pow-le-pow_right}
use Rattle.std.proofs.lemmas.Nat.{leading_length}
use Rattle.std.specs.declared.vec.Vec.{Vec}
use Rattle.std.proofs.lemmas.Bool.{cases_lt}
use Rattle.std.proofs.lemmas.List.{get_or_append_left, get_or-append_right, get_or-replicate, get_or_past, get_or-map}
use Rattle.std.proofs.lemmas.List.{set-append_left, set-get_or, length-set, length-map, map-set, length-replicate}
use Rattle.std.proofs.lemmas.List.{replicate-append-replicate, length-append}
use Rattle.map_service.specs.declared.limits.Limits.{Limits}
use Rattle.map_service.specs.declared.assembler.Change.{Change}
use Rattle.map_service.specs.declared.assembler.Change.TheVariants.{Same, Closed, Opened, Grown}
use Rattle.map_service.specs.Assembly.{is_open}
use Rattle.map_service.specs.AssemblerFields.{on_all_maps, parts_of, HasPlaces, IsPartList}
use Rattle.map_service.specs.Prepared.{part_after, is_opened, AreClosed, IsFoundBy, IsPreparedBy}
use Rattle.map_service.specs.Views.{part_view}

-- ---- a list with places for all MAPs

of_none : (k i : ℕ) → (let none : Option (List ℕ) = None in get_or (replicate k none) i none ≡ none)
of_none k i =
    let none : Option (List ℕ) = None in
    elim (cases_lt i k) [
      | inl lt ↦ get_or-replicate k i none none lt
      | inr ge ↦ get_or_past (replicate k none) i none (omega (arith, length-replicate k none))
    ]

pub at_place : (parts : List (Option (List ℕ))) (m : ℕ)
    → get_or (on_all_maps parts) m None ≡ get_or parts m None
at_place parts m =
    let none : Option (List ℕ) = None in
    let more : List (Option (List ℕ)) = replicate (64 - length parts) none in
    elim (cases_lt m (length parts)) [
      | inl lt ↦ get_or_append_left parts more none m lt
      | inr ge ↦ get_or-append_right parts more (length parts) m none refl ge
          ∙ of_none (64 - length parts) (m - length parts) ∙ sym (get_or_past parts m none ge)
    ]

put_place : (parts : List (Option (List ℕ))) (m : ℕ) (part : Option (List ℕ)) → m < length parts
    → on_all_maps (set parts m part) ≡ set (on_all_maps parts) m part
put_place parts m part lt =
    rw (length-set parts m part) (sym (set-append_left parts (replicate (64 - length parts) None) m part lt))

-- a change that opens no part leaves no open part on a MAP that has no place
unopened : (change : Change) (octets : List ℕ) → is_opened change ≡ false → part_after change None octets ≡ None
unopened Same octets e = refl
unopened Closed octets e = refl
unopened (Opened new) octets e = absurd cc
unopened Grown octets e = refl

both-false : (b : Bool) → (b && false) ≡ false
both-false true = refl
both-false false = refl

-- ---- the list of the parts

module _ {Z : Type 0} where
  closed_view : (parts : List (Option (Vec ℕ Z))) → AllByRecursion (λ part. part ≡ None) parts
      → map part_view parts ≡ replicate (length parts) None
  closed_view [] closed = refl
  closed_view (part ∷ parts) closed =
      let first : part_view part ≡ None = ap part_view closed.0 in
      rw first (ap (λ (xs : List (Option (List ℕ))). None ∷ xs) (closed_view parts closed.1))

  -- a list in which no part is open represents the same parts as no list
  pub closed_list : (parts : List (Option (Vec ℕ Z))) → length parts ≤ 64
      → AllByRecursion (λ part. part ≡ None) parts → parts_of parts ≡ replicate 64 None
  closed_list parts most closed =
      let none : Option (List ℕ) = None in
      let rest : 64 - length (map part_view parts) ≡ 64 - length parts =
      ap (λ n. 64 - n) (length-map parts part_view) in
      let all : length parts + (64 - length parts) ≡ 64 = omega (arith, most) in
      rw rest
      (ap (λ (xs : List (Option (List ℕ))). xs ++ replicate (64 - length parts) none) (closed_view parts closed)
      ∙ replicate-append-replicate (length parts) (64 - length parts) none
      ∙ ap (λ n. replicate n none) all)

  pub of_all_maps : (parts : List (Option (Vec ℕ Z))) → length parts ≤ 64 → length (parts_of parts) ≡ 64
  of_all_maps parts most =
      let none : Option (List ℕ) = None in
      omega (
        arith,
        most,
        length-map parts part_view,
        length-append (map part_view parts) (replicate (64 - length (map part_view parts)) none),
        length-replicate (64 - length (map part_view parts)) none,
      )

  pub no_list : (parts : List (Option (Vec ℕ Z))) → length parts ≡ 0 → parts_of parts ≡ replicate 64 None
  no_list [] none = refl
  no_list (part ∷ parts) none = absurd (omega arith)

  passed_by : (limits : Limits) (parts : List (Option (Vec ℕ Z))) (m : ℕ) (change : Change) (octets : List ℕ)
      → IsPartList limits parts → is_open limits m ≡ true → (is_opened change ≡ true → 1 ≤ length parts)
      → length parts ≤ m → (b : Bool) → is_opened change ≡ b
      → parts_of parts ≡ set (parts_of parts) m (part_after change (get_or (parts_of parts) m None) octets)
  passed_by limits parts m change octets kept opened listed past true e =
      let there = kept.places (listed e) m opened in
      absurd (omega arith)
  passed_by limits parts m change octets kept opened listed past false e =
      let count : length (map part_view parts) ≤ m = omega (arith, length-map parts part_view) in
      let none : get_or (parts_of parts) m None ≡ None =
      at_place (map part_view parts) m ∙ get_or_past (map part_view parts) m None count in
      let gone : part_after change (get_or (parts_of parts) m None) octets ≡ get_or (parts_of parts) m None =
      ap (λ p. part_after change p octets) none ∙ unopened change octets e ∙ sym none in
      sym (ap (set (parts_of parts) m) gone ∙ set-get_or (parts_of parts) m None)

  pub passed : (limits : Limits) (parts : List (Option (Vec ℕ Z))) (m : ℕ) (change : Change) (octets : List ℕ)
      → IsPartList limits parts → is_open limits m ≡ true → (is_opened change ≡ true → 1 ≤ length parts)
      → length parts ≤ m
      → parts_of parts ≡ set (parts_of parts) m (part_after change (get_or (parts_of parts) m None) octets)
  passed limits parts m change octets kept opened listed past =
      passed_by limits parts m change octets kept opened listed past (is_opened change) refl

  pub put_at : (parts : List (Option (Vec ℕ Z))) (m place : ℕ) (change : Change) (octets : List ℕ)
      (old new : Option (Vec ℕ Z)) → place ≡ m → place < length parts
      → part_view new ≡ part_after change (part_view (get_or parts place old)) octets
      → parts_of (set parts place new)
      ≡ set (parts_of parts) m (part_after change (get_or (parts_of parts) m None) octets)
  put_at parts m place change octets old new at lt put =
      let within : place < length (map part_view parts) = omega (arith, length-map parts part_view) in
      let same : get_or (parts_of parts) place None ≡ part_view (get_or parts place old) =
      at_place (map part_view parts) place ∙ get_or-map part_view parts place old None lt in
      rw (← at, same, ← put)
      (ap on_all_maps (map-set part_view parts place new)
      ∙ put_place (map part_view parts) place (part_view new) within)

  -- if there is no list, no part is open
  pub closed_none : (parts : List (Option (Vec ℕ Z))) → length parts ≡ 0
      → AreClosed (λ m. get_or (parts_of parts) m None)
  closed_none [] none = λ m. of_none 64 m
  closed_none (part ∷ parts) none = absurd (omega arith)

  -- after a part is opened there is a list, which is brought if there was none
  pub there : (limits : Limits) (m : ℕ) (change : Change) (old laid list : List (Option (Vec ℕ Z)))
      → is_open limits m ≡ true
      → (is_opened change ≡ true → length old ≡ 0 → HasPlaces limits (length list))
      → (length old ≡ 0 → laid ≡ list) → (1 ≤ length old → laid ≡ old) → is_opened change ≡ true
      → 1 ≤ length laid
  there limits m change [] laid list opened brought is same opens =
      let below : m < length list = brought opens refl m opened in
      rw (is refl) (omega arith)
  there limits m change (part ∷ old) laid list opened brought is same opens = rw (same (omega arith)) (omega arith)

  -- a place of a list with no open part
  closed_at : (parts : List (Option (Vec ℕ Z))) (place : ℕ) (old : Option (Vec ℕ Z))
      → AreClosed (λ m. get_or (parts_of parts) m None) → place < length parts
      → part_view (get_or parts place old) ≡ None
  closed_at parts place old closed lt =
      sym (get_or-map part_view parts place old None lt) ∙ sym (at_place (map part_view parts) place) ∙ closed place

  none_view : (part : Option (Vec ℕ Z)) → part_view part ≡ None → is_some part ≡ false
  none_view None e = refl
  none_view (Some part) e = absurd cc

  pub no_part : (parts : List (Option (Vec ℕ Z))) (place : ℕ) (part : Option (Vec ℕ Z))
      → AreClosed (λ m. get_or (parts_of parts) m None) → place < length parts → part ≡ get_or parts place part
      → is_some part ≡ false
  no_part parts place part closed lt is = none_view part (ap part_view is ∙ closed_at parts place part closed lt)

  -- calls that each return no part
  pub taken_none : (n : ℕ) (ys : List (Option (Vec ℕ Z))) → take n [] ++ ys ≡ ys
  taken_none zero ys = refl
  taken_none (suc n) ys = refl

  pub closed_calls : {F : Type 0} (step : F → Option (Vec ℕ Z) → F → Type 0) (ys : List (Option (Vec ℕ Z)))
      (f last : F) → ((p : F) (y : Option (Vec ℕ Z)) (q : F) → step p y q → y ≡ None) → FoldsTo step f ys last
      → AllByRecursion (λ part. part ≡ None) ys
  closed_calls step [] f last each folds = tt
  closed_calls step (y ∷ ys) f last each folds =
      (each f y folds.0 folds.1, closed_calls step ys folds.0 last each folds.2)

-- ---- the MAPs up to the highest open MAP

no_bit : (limits : Limits) (m places : ℕ) → limits.maps < 2 ^ places → places ≤ m → is_open limits m ≡ false
no_bit limits m places below past =
    let gone : limits.maps / 2 ^ m ≡ 0 =
    div-eq_of_lt (omega (arith, below, pow-le-pow_right {n = 2} (omega arith) {i = places} {j = m} past)) in
    rw gone (both-false (nat_lt m 64))

pub all_places : (limits : Limits) (zeros : ℕ) → limits.maps < 2 ^ 64 → zeros ≡ count_leading_zeros 64 limits.maps
    → HasPlaces limits (64 - zeros)
all_places limits zeros fits is =
    λ m opened.
    let top = leading_length 64 limits.maps fits in
    elim (cases_lt m (64 - zeros)) [
      | inl lt ↦ lt
      | inr ge ↦ absurd
          (let none = no_bit limits m top.0 top.2 (omega (arith, top.1, is)) in cc)
    ]

-- what is found out if there is a list whenever a part is open
pub prepared_of : (limits : Limits) (parts : ℕ → Option (List ℕ)) (is_listed : Bool) (s : SegmentView)
    (r : Result Prepared MapFault) → (AreClosed parts → is_listed ≡ false)
    → IfOk r (IsFoundBy limits (parts s.header.map) (is_listed ≡ false) s) → IfOk r (IsPreparedBy limits parts s)
prepared_of limits parts is_listed s (Ok p) lacks h = record {
  outcome = h.outcome;
  room = h.room;
  list = h.list;
  brought = λ opens closed. h.brought opens (lacks closed);
}
prepared_of limits parts is_listed s (Err e) lacks h = tt
