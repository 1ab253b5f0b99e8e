-- The same link with whole numbers without a bound. It has no window, modulus, flag, timer or
-- state.
use Rattle.std.specs.Prelude.{◌≡◌, ◌⊎◌, ◌<◌, ◌≤◌, ℕ, ◌+◌, List, [], ◌∷◌, ◌++◌, slice_get, Some}
use Rattle.tc_frame.specs.Layout.{SegmentView}

-- The units to be sent; how many of them, from the first, are acknowledged, were accepted and were
-- sent; the numbered units in transit on the uplink and the numbers in transit on the downlink, the
-- oldest first.
pub record PlainLink : Type 0 where
  pub units : List SegmentView
  pub a : ℕ
  pub r : ℕ
  pub n : ℕ
  pub up : List (ℕ × SegmentView)
  pub down : List ℕ

abbrev pub new_link : PlainLink
new_link = record { units = []; a = 0; r = 0; n = 0; up = []; down = [] }

pub data PlainStep : PlainLink → PlainLink → Type 0 where
  -- units are added at the end
  adds : {p : PlainLink} (more : List SegmentView)
      → PlainStep p (record p { units = p.units ++ more })
  -- the next unit is sent for the first time
  puts_next : {p : PlainLink} {u : SegmentView} → slice_get p.units p.n ≡ Some u
      → PlainStep p (record p { n = p.n + 1; up = p.up ++ (p.n, u) ∷ [] })
  -- a unit that was sent, and is not acknowledged, is retransmitted
  puts_again : {p : PlainLink} {i : ℕ} {u : SegmentView} → p.a ≤ i → i < p.n
      → slice_get p.units i ≡ Some u
      → PlainStep p (record p { up = p.up ++ (i, u) ∷ [] })
  loses_up : {p : PlainLink} {x : ℕ × SegmentView} {up : List (ℕ × SegmentView)} → p.up ≡ x ∷ up
      → PlainStep p (record p { up = up })
  -- the expected unit arrives, and is accepted
  takes : {p : PlainLink} {u : SegmentView} {up : List (ℕ × SegmentView)} → p.up ≡ (p.r, u) ∷ up
      → PlainStep p (record p { r = p.r + 1; up = up })
  -- any unit arrives, and is not accepted
  leaves : {p : PlainLink} {x : ℕ × SegmentView} {up : List (ℕ × SegmentView)} → p.up ≡ x ∷ up
      → PlainStep p (record p { up = up })
  reports : {p : PlainLink} → PlainStep p (record p { down = p.down ++ p.r ∷ [] })
  loses_down : {p : PlainLink} {v : ℕ} {down : List ℕ} → p.down ≡ v ∷ down
      → PlainStep p (record p { down = down })
  -- a number arrives, and all units before it are then acknowledged
  hears : {p : PlainLink} {v : ℕ} {down : List ℕ} → p.down ≡ v ∷ down
      → PlainStep p (record p { a = v; down = down })
  -- a number arrives, and nothing changes
  ignores : {p : PlainLink} {v : ℕ} {down : List ℕ} → p.down ≡ v ∷ down
      → PlainStep p (record p { down = down })

-- one step, or none
abbrev pub AtMostOneStep : PlainLink → PlainLink → Type 0
AtMostOneStep p q = (q ≡ p) ⊎ PlainStep p q

-- some steps, one after another
pub data PlainRun : PlainLink → PlainLink → Type 0 where
  none : {p : PlainLink} → PlainRun p p
  more : {p q s : PlainLink} → PlainRun p q → PlainStep q s → PlainRun p s
