-- A sentence, and the zeros after it.
use Rattle.std.proofs.Common.{ℕ, ◌≡◌, ◌-◌, List, ◌++◌, length, drop, replicate, ap, ◌∙◌}
use Rattle.std.proofs.lemmas.List.{drop-replicate}

pub begins : (s t u : List ℕ) (room : ℕ) → t ≡ u → u ≡ s
    → t ++ drop (length s) (replicate room 0) ≡ s ++ replicate (room - length s) 0
begins s t u room was is =
    ap (λ (x : List ℕ). x ++ drop {A = ℕ} (length s) (replicate room 0)) (was ∙ is)
    ∙ ap (λ (x : List ℕ). s ++ x) (drop-replicate {X = ℕ} (length s) room 0)
