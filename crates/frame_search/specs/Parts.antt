-- A stream as the good frames of a channel and the octets skipped between them.
use Rattle.std.specs.Prelude.{◌≡◌, ◌<◌, ◌≤◌, ◌-◌, ◌⊎◌, ℕ, zero, suc}
use Rattle.std.specs.Prelude.{List, [], ◌∷◌, ◌++◌, length, drop, Option, Some, None}
use Rattle.frame_search.specs.Search.{good_frame}

pub data Part : Type 0 where
  -- a good frame
  Frame : List ℕ → Part
  -- this many octets; no good frame begins at any of them
  Skipped : ℕ → Part

-- ---- what the parts of a stream are

module _ (scid vcid : ℕ) where
  -- a good frame begins here, or nothing is left
  abbrev pub IsReached : List ℕ → Type 0
  IsReached octets =
      (octets ≡ []) ⊎ ((frame : List ℕ) × (good_frame scid vcid octets ≡ Some frame))

  -- the first place from here on at which a good frame begins is after this many octets; or there
  -- is no such place, and these are all octets
  pub record IsLeast (octets : List ℕ) (n : ℕ) : Type 0 where
    pub within : n ≤ length octets
    pub none_before : (i : ℕ) → i < n → good_frame scid vcid (drop i octets) ≡ None
    pub reached : IsReached (drop n octets)

  -- The parts of octets: a good frame if one begins there, and otherwise all octets up to the first
  -- place at which one begins.
  abbrev pub AreParts : List ℕ → List Part → Type 0
  AreParts octets [] = octets ≡ []
  AreParts octets (Frame frame ∷ parts) =
      (good_frame scid vcid octets ≡ Some frame) × AreParts (drop (length frame) octets) parts
  AreParts octets (Skipped n ∷ parts) =
      (0 < n) × IsLeast octets n × AreParts (drop n octets) parts

-- ---- the parts of a stream

-- the skipped octets, if there are any
abbrev pub skipped : ℕ → List Part
skipped zero = []
skipped (suc n) = Skipped (suc n) ∷ []

abbrev pub by_frame : {A : Type 0} → Option (List ℕ) → A → (List ℕ → A) → A
by_frame None none some = none
by_frame (Some frame) none some = some frame

-- the parts of octets after this many skipped octets, if the first k belong to an earlier frame
abbrev pub parts_after : ℕ → ℕ → ℕ → ℕ → List ℕ → List Part
parts_after scid vcid n k [] = skipped n
parts_after scid vcid n (suc k) (octet ∷ octets) = parts_after scid vcid n k octets
parts_after scid vcid n zero (octet ∷ octets) =
    by_frame (good_frame scid vcid (octet ∷ octets)) (parts_after scid vcid (suc n) zero octets)
    (λ frame. skipped n ++ Frame frame ∷ parts_after scid vcid zero (length frame - 1) octets)

abbrev pub parts_of : ℕ → ℕ → List ℕ → List Part
parts_of scid vcid octets = parts_after scid vcid 0 0 octets
