-- What the record of a ground contains of its submissions.
use Rattle.std.proofs.Common.{◌≡◌, ◌≤◌, ◌<◌, ℕ, zero, suc, ◌+◌, ◌-◌, List, [], ◌∷◌, ◌++◌, length, take, drop}
use Rattle.std.proofs.Common.{ap, sym, ◌∙◌, arith, ◌⊎◌, inl, inr, get_or, set, append_assoc}
use Rattle.std.proofs.lemmas.List.{drop_more, take_more, set-append_right}
use Rattle.std.proofs.lemmas.List.{take-take, take-append-le, length-take, length-take-le}
use Rattle.std.proofs.lemmas.Slice.{drop-append-drop}
use Rattle.std.specs.Prelude.{◌/◌}
use Rattle.cop1.specs.Modulo.{ahead_by}
use Rattle.nodes.specs.declared.config.Config.{Config}
use Rattle.nodes.specs.declared.ground_node.kept.KeptGround.{KeptGround}
use Rattle.nodes.specs.Fates.{whole_within}
use Rattle.nodes.specs.Ground.{GroundState, sent_beyond}
use Rattle.nodes.specs.KeptGround.{IsKept, kept_of, whole_sent, no_counts}
use Rattle.nodes.proofs.Owed.{Needs, none_whole, one_whole, left_none, fewer_left}

-- how many segments complete a submission that lacks this many
abbrev needed_of : ℕ → ℕ
needed_of zero = 1
needed_of (suc n) = suc n

needs_so : (n : ℕ) → Needs n (needed_of n)
needs_so zero = (omega arith, omega arith, λ h. omega (arith, h), λ h. omega arith)
needs_so (suc n) = (omega arith, omega arith, λ h. omega arith, λ h. h)

none_of : (k : ℕ) → whole_within k [] ≡ 0
none_of k = omega (arith, ap length (left_none k))

pub whole_most : (k : ℕ) (left : List ℕ) → whole_within k left ≤ length left
whole_most k left = omega arith

-- no more submissions are whole than there are units
few_whole : (k : ℕ) (left : List ℕ) → whole_within k left ≤ k
few_whole k left = omega (arith, (fewer_left k left).1)

-- so a record has no more submissions than the number of units that may be sent and not acknowledged
pub few_kept : (c : Config) (kept : KeptGround) → IsKept c kept
    → length (take kept.whole kept.segments) ≤ c.width / 2
few_kept c kept is =
    let left : List ℕ = take kept.whole kept.segments in
    omega (arith, length-take kept.whole kept.segments, is.sent, few_whole (ahead_by kept.vs kept.nn) left, is.apart)

fewer_or : (k n : ℕ) → (k < n) ⊎ (n ≤ k)
fewer_or k n = grind arith

-- If j is at most k, j segments complete equally many of all submissions and of those that k segments complete.
pub whole_first : (j k : ℕ) (left : List ℕ) → j ≤ k
    → whole_within j (take (whole_within k left) left) ≡ whole_within j left
whole_first j k [] le = ap (λ (w : ℕ). whole_within j (take w [])) (none_of k)
whole_first j k (n ∷ ns) le =
    let m : ℕ = needed_of n in
    let is = needs_so n in
    elim (fewer_or k m) [
      | inl lt ↦ (
          let none : take (whole_within k (n ∷ ns)) (n ∷ ns) ≡ [] =
          ap (λ (w : ℕ). take w (n ∷ ns)) (none_whole k n m ns is lt) in
          ap (whole_within j) none ∙ none_of j ∙ sym (none_whole j n m ns is (omega (arith, lt, le))))
      | inr enough ↦ (
          let one : whole_within k (n ∷ ns) ≡ suc (whole_within (k - m) ns) =
          omega (arith, one_whole k n m ns is enough) in
          let first : take (whole_within k (n ∷ ns)) (n ∷ ns) ≡ n ∷ take (whole_within (k - m) ns) ns =
          ap (λ (w : ℕ). take w (n ∷ ns)) one in
          elim (fewer_or j m) [
            | inl lt ↦ (
                ap (whole_within j) first ∙ none_whole j n m (take (whole_within (k - m) ns) ns) is lt
                ∙ sym (none_whole j n m ns is lt))
            | inr more ↦ (
                ap (whole_within j) first ∙ one_whole j n m (take (whole_within (k - m) ns) ns) is more
                ∙ ap (λ (w : ℕ). 1 + w) (whole_first (j - m) (k - m) ns (omega (arith, le, more, enough)))
                ∙ sym (one_whole j n m ns is more))
          ])
    ]

-- ---- the record

module _ (s : GroundState) where
  abbrev left : List ℕ
  left = s.fates.left

  abbrev w : ℕ
  w = whole_sent s

  front_length : length (take w left) ≡ w
  front_length = length-take-le w left (whole_most (sent_beyond s) left)

  -- the record contains the submissions that were sent whole
  pub front_is : take (kept_of s).whole (kept_of s).segments ≡ take w left
  front_is =
      take-append-le w (take w left) (drop w no_counts) (omega (arith, front_length))
      ∙ take-take w w left (omega arith)

  -- the record is one that a ground with its configuration can return
  pub kept_fits : ahead_by s.fop.vs s.fop.nn ≤ s.config.width / 2 → IsKept s.config (kept_of s)
  kept_fits apart = record {
    apart = apart;
    sent =
        ap (whole_within (sent_beyond s)) front_is
        ∙ whole_first (sent_beyond s) (sent_beyond s) left (omega arith);
    rest = drop-append-drop w no_counts (take w left) w (omega arith) front_length;
  }

-- ---- the record is written slot by slot

pub put_next : (left old out : List ℕ) (k n : ℕ) → out ≡ take k left ++ drop k old → k < length left
    → k < length old → n ≡ get_or left k n → set out k n ≡ take (k + 1) left ++ drop (k + 1) old
put_next left old out k n is lt room at =
    let front : length (take k left) ≡ k = length-take-le k left (omega (arith, lt)) in
    let zero_is : k - k ≡ 0 = omega arith in
    ap (λ (xs : List ℕ). set xs k n) (is ∙ ap (λ (xs : List ℕ). take k left ++ xs) (drop_more old k n room))
    ∙ set-append_right (take k left) (get_or old k n ∷ drop (k + 1) old) k k n front (omega arith)
    ∙ ap (λ (i : ℕ). take k left ++ set (get_or old k n ∷ drop (k + 1) old) i n) zero_is
    ∙ sym (append_assoc (take k left) (n ∷ []) (drop (k + 1) old))
    ∙ ap (λ (m : ℕ). (take k left ++ m ∷ []) ++ drop (k + 1) old) at
    ∙ ap (λ (xs : List ℕ). xs ++ drop (k + 1) old) (sym (take_more left k n lt))
