-- What the proofs need about lists.
use Rattle.tc_link.proofs.Common.{◌≡◌, ℕ, zero, suc, ◌+◌, List, [], ◌∷◌, ◌++◌, take, drop, Some, ap, arith, slice_get}
use Rattle.tc_link.proofs.Common.{Bool, true, false, map, refl, if◌then◌else◌, SentUnit, oldest_marked}
use Rattle.tc_link.proofs.Common.{without_oldest_mark, unmarked_unit, marked_unit, units_of, sym, ◌∙◌}
use Rattle.std.proofs.Common.{add-one, zero-add}
use Rattle.std.proofs.Math.Seq.{drop-nil}

module _ {A : Type 0} where
  -- the rest of a list from n on, split into head and tail
  pub drop_cons_get : (xs : List A) (n : ℕ) (u : A) (us : List A) → drop n xs ≡ u ∷ us → slice_get xs n ≡ Some u
  drop_cons_get (x ∷ xs) (suc n) u us e = drop_cons_get xs n u us e
  drop_cons_get [] (suc n) u us e = cc
  drop_cons_get _ zero u us e = cc

  pub drop_cons_rest : (xs : List A) (n : ℕ) (u : A) (us : List A) → drop n xs ≡ u ∷ us → drop (n + 1) xs ≡ us
  drop_cons_rest (x ∷ xs) (suc n) u us e =
      let here : drop (n + 1) xs ≡ us = drop_cons_rest xs n u us e in rw add-one (rw add-one at here)
  drop_cons_rest [] (suc n) u us e = cc
  drop_cons_rest _ zero u us e = cc

  pub take_next : (xs : List A) (n : ℕ) (u : A) → slice_get xs n ≡ Some u → take (n + 1) xs ≡ take n xs ++ u ∷ []
  take_next (x ∷ xs) (suc n) u e =
      let here : take (n + 1) xs ≡ take n xs ++ u ∷ [] =
      take_next xs n u e in rw add-one (ap (λ l. x ∷ l) (rw add-one at here))
  take_next _ _ u e = cc

  pub get_append : (xs ys : List A) (n : ℕ) (u : A) → slice_get xs n ≡ Some u → slice_get (xs ++ ys) n ≡ Some u
  get_append [] ys n u e = cc
  get_append (x ∷ xs) ys zero u e = e
  get_append (x ∷ xs) ys (suc n) u e = get_append xs ys n u e

  pub get_drop : (xs : List A) (a j : ℕ) (u : A) → slice_get (drop a xs) j ≡ Some u → slice_get xs (a + j) ≡ Some u
  get_drop xs zero j u e = rw (zero-add) e
  get_drop [] (suc a) j u e = cc
  get_drop (x ∷ xs) (suc a) j u e = let same : suc a + j ≡ suc (a + j) = omega arith in rw same (get_drop xs a j u e)

  pub get_take : (xs : List A) (n j : ℕ) (u : A) → slice_get (take n xs) j ≡ Some u → slice_get xs j ≡ Some u
  get_take (x ∷ xs) (suc n) zero u e = e
  get_take (x ∷ xs) (suc n) (suc j) u e = get_take xs n j u e
  get_take [] (suc n) j u e = cc
  get_take xs zero j u e = cc

  pub drop_on : (a k : ℕ) (xs : List A) → drop k (drop a xs) ≡ drop (a + k) xs
  drop_on zero k xs = rw zero-add refl
  drop_on (suc a) k [] = drop-nil k ∙ sym (drop-nil (suc a + k))
  drop_on (suc a) k (x ∷ xs) = let same : suc a + k ≡ suc (a + k) = omega arith in rw same (drop_on a k xs)

-- The sent queue as the list of its units.

module _ {U : Type 0} where
  pub units-marked : (xs : List (SentUnit U)) → units_of (map marked_unit xs) ≡ units_of xs
  units-marked [] = refl
  units-marked (x ∷ xs) = ap (λ l. x.unit ∷ l) (units-marked xs)

  pub units-drop : (k : ℕ) (xs : List (SentUnit U)) → units_of (drop k xs) ≡ drop k (units_of xs)
  units-drop (suc k) (x ∷ xs) = units-drop k xs
  units-drop _ _ = refl

  pub units-push : (xs : List (SentUnit U)) (u : U) → units_of (xs ++ unmarked_unit u ∷ []) ≡ units_of xs ++ u ∷ []
  units-push [] u = refl
  units-push (x ∷ xs) u = ap (λ l. x.unit ∷ l) (units-push xs u)

  units-put_back : (b : Bool) (x : SentUnit U) (xs ys : List (SentUnit U)) → units_of ys ≡ units_of xs
      → units_of (if b then record x { marked = false } ∷ xs else x ∷ ys) ≡ x.unit ∷ units_of xs
  units-put_back true x xs ys same = refl
  units-put_back false x xs ys same = ap (λ l. x.unit ∷ l) same

  pub units-without : (xs : List (SentUnit U)) → units_of (without_oldest_mark xs) ≡ units_of xs
  units-without [] = refl
  units-without (x ∷ xs) = units-put_back x.marked x xs (without_oldest_mark xs) (units-without xs)

  -- the oldest marked unit is at its place
  abbrev pub Stands : ℕ → List (SentUnit U) → ℕ × U → Type 0
  Stands k xs x = (j : ℕ) × (x.0 ≡ k + j) × (slice_get (units_of xs) j ≡ Some x.1)

  stands_in : (b : Bool) (k : ℕ) (u : SentUnit U) (us : List (SentUnit U)) (x : ℕ × U)
      → (oldest_marked (k + 1) us ≡ Some x → Stands (k + 1) us x)
      → (if b then Some (k, u.unit) else oldest_marked (k + 1) us) ≡ Some x → Stands k (u ∷ us) x
  stands_in true k u us x more e =
      let place : k ≡ x.0 = cc in let unit : u.unit ≡ x.1 = cc in (0, omega arith, ap Some unit)
  stands_in false k u us x more e = let t = more e in (suc t.0, omega (arith, t.1), t.2)

  pub oldest_stands : (k : ℕ) (xs : List (SentUnit U)) (x : ℕ × U) → oldest_marked k xs ≡ Some x → Stands k xs x
  oldest_stands k [] x e = cc
  oldest_stands k (u ∷ us) x e = stands_in u.marked k u us x (oldest_stands (k + 1) us x) e
