-- Lists of packets, one for each MAP.
use Rattle.std.specs.Prelude.{◌≤◌, ℕ, ◌+◌, List, [], map, get_or, slice_get, IfSome}
use Rattle.std.specs.declared.vec.Vec.{Vec}
use Rattle.std.specs.Vec.{vec_len, vec_capacity}
use Rattle.map_service.specs.Views.{packets_view}

-- the packets on a MAP; above MAP 63 there are none
abbrev pub packets_at : {Y Z : Type 0} → List (Vec (Vec ℕ Y) Z) → ℕ → List (List ℕ)
packets_at lists m = get_or (map packets_view lists) m []

-- there is room for this many more packets on a MAP
abbrev pub HasRoom : {Y Z : Type 0} → List (Vec (Vec ℕ Y) Z) → ℕ → ℕ → Type 0
HasRoom lists m more =
    IfSome (slice_get lists m) (λ packets. vec_len packets + more ≤ vec_capacity packets)
