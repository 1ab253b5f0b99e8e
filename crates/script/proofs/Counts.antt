-- Counts over all MAPs.
use Rattle.std.proofs.Common.{◌≡◌, ◌∙◌, ◌++◌, ap, ℕ, List, Result, Ok, Err, OnOk, refl}
use Rattle.std.specs.Prelude.{decimal}
use Rattle.std.proofs.lemmas.List.{append_assoc}
use Rattle.script.specs.Player.{count_below_map, count_over_maps}

-- a count on the MAPs below 64 is a count on all MAPs
pub all_maps : (packets_on : ℕ → List (List ℕ)) (count map : ℕ) → count ≡ count_below_map packets_on map → map ≡ 64
    → count ≡ count_over_maps packets_on
unfolding count_over_maps
all_maps packets_on count map counted end = counted ∙ ap (count_below_map packets_on) end

-- two counts that are written one after the other
pub two_counts : {E : Type 0} (r : Result (Unit {0}) E) (before middle new first second : List ℕ) (m n k l : ℕ)
    → middle ≡ before ++ (first ++ decimal m) → m ≡ k → n ≡ l → OnOk r (new ≡ middle ++ (second ++ decimal n))
    → OnOk r (new ≡ before ++ (first ++ (decimal k ++ (second ++ decimal l))))
two_counts (Err e) before middle new first second m n k l is same_k same_l told = tt
two_counts (Ok done) before middle new first second m n k l is same_k same_l told =
    told ∙ rw (is, same_k, same_l, append_assoc, append_assoc) refl
