-- How the parts of octets begin.
use Rattle.std.proofs.Common.{◌≡◌, ◌≤◌, ◌<◌, ℕ, zero, suc, ◌-◌, List, [], ◌∷◌, ◌++◌, length, drop}
use Rattle.std.proofs.Common.{Bool, true, false, ltb, Option, Some, None, refl, sym, ap, subst, ◌∙◌, inl, inr}
use Rattle.std.proofs.Common.{arith, length-drop}
use Rattle.std.proofs.lemmas.Bool.{ltb-true, ltb-false}
use Rattle.std.proofs.lemmas.List.{append-nil}
use Rattle.frame_search.specs.Search.{good_frame}
use Rattle.frame_search.specs.Parts.{Part, Frame, IsReached, AreParts, skipped, parts_after}
use Rattle.frame_search.specs.Parts.{parts_of}
use Rattle.frame_search.proofs.Places.{good_is}

module _ (scid vcid : ℕ) where
  -- the octets of an earlier frame are passed over
  pub passes : (n k : ℕ) (octets : List ℕ)
      → parts_after scid vcid n k octets ≡ parts_after scid vcid n 0 (drop k octets)
  passes n zero [] = refl
  passes n (suc k) [] = refl
  passes n zero (octet ∷ octets) = refl
  passes n (suc k) (octet ∷ octets) = passes n k octets

  -- if a good frame begins here
  pub parts_frame : (n : ℕ) (octets frame : List ℕ) → good_frame scid vcid octets ≡ Some frame
      → parts_after scid vcid n 0 octets
      ≡ skipped n ++ Frame frame ∷ parts_after scid vcid 0 0 (drop (length frame) octets)
  parts_frame n [] frame h = let is = good_is scid vcid [] frame h in absurd (none frame is.0 is.1)
    where
      none : (f : List ℕ) → 5 ≤ length f → [] ≡ f ++ drop (length f) [] → ⊥
      none [] five e = omega arith
      none (x ∷ xs) five e = cc
  parts_frame n (octet ∷ octets) frame h =
      let is = good_is scid vcid (octet ∷ octets) frame h in
      rw h (ap (λ (ps : List Part). skipped n ++ Frame frame ∷ ps)
      (passes 0 (length frame - 1) octets
      ∙ ap (parts_after scid vcid 0 0) (dropped (length frame) (omega (arith, is.0)))))
    where
      dropped : (k : ℕ) → 1 ≤ k → drop (k - 1) octets ≡ drop k (octet ∷ octets)
      dropped zero some = absurd (omega arith)
      dropped (suc k) some =
          let one_less : suc k - 1 ≡ k = omega arith in ap (λ (j : ℕ). drop j octets) one_less

  -- if no good frame begins here
  pub parts_none : (n octet : ℕ) (octets : List ℕ) → good_frame scid vcid (octet ∷ octets) ≡ None
      → parts_after scid vcid n 0 (octet ∷ octets) ≡ parts_after scid vcid (suc n) 0 octets
  parts_none n octet octets h = rw h refl

-- ---- the parts meet their definition

drop_none : (w : List ℕ) → drop 0 w ≡ w
drop_none [] = refl
drop_none (x ∷ xs) = refl

drop_next : (n : ℕ) (w : List ℕ) (octet : ℕ) (octets : List ℕ) → drop n w ≡ octet ∷ octets → drop (suc n) w ≡ octets
drop_next zero [] octet octets e = absurd cc
drop_next zero (x ∷ xs) octet octets e =
    let is : xs ≡ octets = cc in drop_none xs ∙ is
drop_next (suc n) [] octet octets e = absurd cc
drop_next (suc n) (x ∷ xs) octet octets e = drop_next n xs octet octets e

-- what holds below a number and at the number holds up to it
up_to : (P : ℕ → Type 0) (n : ℕ) → ((i : ℕ) → i < n → P i) → P n → (i : ℕ) (b : Bool) → ltb i n ≡ b → i < suc n → P i
up_to P n below at i true lt le = below i (ltb-true i n lt)
up_to P n below at i false ge le =
    let more = ltb-false i n ge in
    let is : n ≡ i = omega (arith, more, le) in subst P is at

module _ (scid vcid : ℕ) where
  -- What is known if this many octets were skipped: the octets that follow, and that no good frame began
  -- before.
  pub record HasSkipped (n : ℕ) (w octets : List ℕ) : Type 0 where
    pub left : drop n w ≡ octets
    pub within : n ≤ length w
    pub none : (i : ℕ) → i < n → good_frame scid vcid (drop i w) ≡ None

  after_skipped : (n : ℕ) (w octets : List ℕ) (parts : List Part) → HasSkipped n w octets → IsReached scid vcid octets
      → AreParts scid vcid octets parts → AreParts scid vcid w (skipped n ++ parts)
  after_skipped zero w octets parts has reached are =
      subst (λ (x : List ℕ). AreParts scid vcid x parts) (sym has.left ∙ drop_none w) are
  after_skipped (suc n) w octets parts has reached are = (
    omega arith,
    record {
      within = has.within;
      none_before = has.none;
      reached = subst (IsReached scid vcid) (sym has.left) reached;
    },
    subst (λ (x : List ℕ). AreParts scid vcid x parts) (sym has.left) are,
  )

  -- before anything is skipped
  none_skipped : (w : List ℕ) → HasSkipped 0 w w
  none_skipped w = record { left = drop_none w; within = omega arith; none = λ i lt. absurd (omega (arith, lt)) }

  one_more : (n : ℕ) (w : List ℕ) (octet : ℕ) (octets : List ℕ) → HasSkipped n w (octet ∷ octets)
      → good_frame scid vcid (octet ∷ octets) ≡ None → HasSkipped (suc n) w octets
  one_more n w octet octets has h =
      let len = ap length has.left in
      record {
        left = drop_next n w octet octets has.left;
        within = omega (arith, len, length-drop n w, has.within);
        none = λ i lt. up_to (λ (k : ℕ). good_frame scid vcid (drop k w) ≡ None) n has.none
            (ap (good_frame scid vcid) has.left ∙ h) i (ltb i n) refl lt;
      }

  at_end : (n : ℕ) (w : List ℕ) → HasSkipped n w [] → AreParts scid vcid w (parts_after scid vcid n 0 [])
  at_end n w has =
      subst (AreParts scid vcid w) (append-nil (skipped n)) (after_skipped n w [] [] has (inl refl) refl)

  step : (fuel n : ℕ) (w : List ℕ) (octet : ℕ) (octets : List ℕ) → length octets ≤ fuel
      → HasSkipped n w (octet ∷ octets) → (r : Option (List ℕ)) → good_frame scid vcid (octet ∷ octets) ≡ r
      → ((m : ℕ) (v xs : List ℕ) → length xs ≤ fuel → HasSkipped m v xs
      → AreParts scid vcid v (parts_after scid vcid m 0 xs))
      → AreParts scid vcid w (parts_after scid vcid n 0 (octet ∷ octets))
  step fuel n w octet octets le has None h go =
      subst (AreParts scid vcid w) (sym (parts_none scid vcid n octet octets h))
      (go (suc n) w octets le (one_more n w octet octets has h))
  step fuel n w octet octets le has (Some frame) h go =
      let is = good_is scid vcid (octet ∷ octets) frame h in
      let rest : List ℕ = drop (length frame) (octet ∷ octets) in
      let shorter : length rest ≤ fuel = omega (arith, length-drop (length frame) (octet ∷ octets), is.0, le) in
      subst (AreParts scid vcid w) (sym (parts_frame scid vcid n (octet ∷ octets) frame h))
      (after_skipped n w (octet ∷ octets) (Frame frame ∷ parts_after scid vcid 0 0 rest) has (inr (frame, h))
      (h, go 0 rest rest shorter (none_skipped rest)))

  within : (fuel n : ℕ) (w octets : List ℕ) → length octets ≤ fuel → HasSkipped n w octets
      → AreParts scid vcid w (parts_after scid vcid n 0 octets)
  within zero n w [] le has = at_end n w has
  within zero n w (octet ∷ octets) le has = absurd (omega (arith, le))
  within (suc fuel) n w [] le has = at_end n w has
  within (suc fuel) n w (octet ∷ octets) le has =
      step fuel n w octet octets (omega (arith, le)) has (good_frame scid vcid (octet ∷ octets)) refl (within fuel)

  pub are_parts : (octets : List ℕ) → AreParts scid vcid octets (parts_of scid vcid octets)
  are_parts octets = within (length octets) 0 octets octets (omega arith) (none_skipped octets)
