-- Lists in which the first octets, or one element, change.
use Rattle.simulated_link.proofs.Common.{◌≡◌, ◌≤◌, ℕ, List, ◌++◌, length, take, drop, ap, ◌∙◌, arith, length-append}
use Rattle.simulated_link.proofs.Common.{length-drop, ◌<◌, zero, suc, ◌+◌, [], ◌∷◌, map, get_or, refl, sym, inl, inr}
use Rattle.simulated_link.proofs.Common.{◌==◌, if◌then◌else◌, vec_len, vec_capacity, cases_eq, eq-eqb, ne_eqb}
use Rattle.simulated_link.proofs.Common.{length-map, append-nil, packets_view}
use Rattle.std.proofs.Common.{set}
use Rattle.std.proofs.lemmas.List.{take_at, map-set, get_or-map, get_or-set_same, get_or-set_other}
use Rattle.std.specs.declared.vec.Vec.{Vec}
use Rattle.std.proofs.Math.Seq.{map-set_same}
use Rattle.simulated_link.specs.MapLists.{packets_at, HasRoom}

-- The octets written over the first ones are then the first ones.

pub front_is : (n : ℕ) (out front old : List ℕ) → out ≡ front ++ drop n old → length out ≡ length old → n ≤ length old
    → take n out ≡ front
front_is n out front old written same within =
    ap (take n) written
    ∙ take_at front (drop n old) n (omega (arith, ap length written, length-append {A = ℕ}, length-drop n old))

-- The lists of packets for each MAP when one list changes.

-- if each list is empty
pub none_at : {Y Z : Type 0} (lists : List (Vec (Vec ℕ Y) Z))
    → ((i : ℕ) (d : Vec (Vec ℕ Y) Z) → i < length lists → packets_view (get_or lists i d) ≡ []) → (m : ℕ)
    → packets_at lists m ≡ []
none_at [] h m = refl
none_at (x ∷ xs) h zero = h 0 x (omega arith)
none_at (x ∷ xs) h (suc m) = none_at xs (λ i d lt. h (suc i) d (omega arith)) m

room_set : {Y Z : Type 0} (xs : List (Vec (Vec ℕ Y) Z)) (i : ℕ) (new : Vec (Vec ℕ Y) Z) (more : ℕ)
    → vec_len new + more ≤ vec_capacity new → HasRoom (set xs i new) i more
room_set [] i new more le = tt
room_set (x ∷ xs) zero new more le = le
room_set (x ∷ xs) (suc i) new more le = room_set xs i new more le

room_found : {Y Z : Type 0} (xs : List (Vec (Vec ℕ Y) Z)) (i : ℕ) (d : Vec (Vec ℕ Y) Z) (more : ℕ) → i < length xs
    → HasRoom xs i more → vec_len (get_or xs i d) + more ≤ vec_capacity (get_or xs i d)
room_found [] i d more lt h = absurd (omega arith)
room_found (x ∷ xs) zero d more lt h = h
room_found (x ∷ xs) (suc i) d more lt h = room_found xs i d more (omega arith) h

module _ {Y Z : Type 0} (lists : List (Vec (Vec ℕ Y) Z)) (i m : ℕ) (d : Vec (Vec ℕ Y) Z) (is_map : i ≡ m)
    (within : i < length lists) where
  -- packets were appended to those of a MAP
  pub append_at : (new : Vec (Vec ℕ Y) Z) (packets : List (List ℕ))
      → packets_view new ≡ packets_view (get_or lists i d) ++ packets
      → (k : ℕ) → packets_at (set lists i new) k ≡ packets_at lists k ++ (if m == k then packets else [])
  append_at new packets is k =
      ap (λ (xs : List (List (List ℕ))). get_or xs k []) (map-set packets_view lists i new)
      ∙ elim (cases_eq k i) [
        | inl same ↦ rw (same, eq-eqb m i (sym is_map))
            (get_or-set_same (map packets_view lists) i (packets_view new) []
            (omega (arith, within, length-map lists packets_view)) ∙ is
            ∙ ap (λ (xs : List (List ℕ)). xs ++ packets) (sym (get_or-map packets_view lists i d [] within)))
        | inr apart ↦ rw (ne_eqb m k (λ e. apart (sym e ∙ sym is_map)))
            (get_or-set_other (map packets_view lists) i k (packets_view new) [] apart
            ∙ sym (append-nil (packets_at lists k)))
      ]

  -- the packets of a MAP did not change
  pub same_at : (new : Vec (Vec ℕ Y) Z) → packets_view new ≡ packets_view (get_or lists i d) → (k : ℕ)
      → packets_at (set lists i new) k ≡ packets_at lists k
  same_at new is k = ap (λ (xs : List (List (List ℕ))). get_or xs k []) (map-set_same packets_view lists i new d is)

  pub room_at : (new : Vec (Vec ℕ Y) Z) (more : ℕ) → vec_len new + more ≤ vec_capacity new
      → HasRoom (set lists i new) m more
  room_at new more le = rw (← is_map) (room_set lists i new more le)

  pub has_room : (more : ℕ) → HasRoom lists m more → vec_len (get_or lists i d) + more ≤ vec_capacity (get_or lists i d)
  has_room more room = let it : HasRoom lists i more = rw is_map room in room_found lists i d more within it
