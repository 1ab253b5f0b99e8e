-- Beginnings of a text that continues, and what follows from an answer that is Ok.
use Rattle.std.proofs.Common.{◌≡◌, ◌∙◌, ℕ, List, ◌++◌, Result, Ok, Err, sym, ap, append_assoc}
use Rattle.std.specs.Prelude.{IfOk, OnOk}
use Rattle.octets.specs.Beginning.{IsBeginning}

-- A beginning of a text is a beginning of each longer one.

pub begins_more : (a b t u whole : List ℕ) → whole ≡ t ++ u → IsBeginning a (b ++ t) → IsBeginning a (b ++ whole)
begins_more a b t u whole e h = (
  h.0 ++ u,
  ap (λ (x : List ℕ). b ++ x) e ∙ sym (append_assoc b t u) ∙ ap (λ (x : List ℕ). x ++ u) h.1 ∙ append_assoc a h.0 u,
)

pub begins_same : (a b t whole : List ℕ) → whole ≡ t → IsBeginning a (b ++ t) → IsBeginning a (b ++ whole)
begins_same a b t whole e h = (h.0, ap (λ (x : List ℕ). b ++ x) e ∙ h.1)

-- what follows from each answer that is Ok
pub on_ok_from : {T E Q : Type 0} (P : T → Type 0) (r : Result T E) → ((x : T) → P x → Q) → IfOk r P → OnOk r Q
on_ok_from P (Ok x) h p = h x p
on_ok_from P (Err e) h p = tt
