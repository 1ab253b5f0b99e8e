-- A script's lines, one after another.
use Rattle.std.proofs.Common.{◌≡◌, ◌∙◌, ◌+◌, ◌-◌, ◌≤◌, ℕ, zero, suc, Bool, false, ◌||◌, List, [], ◌∷◌, map, drop}
use Rattle.std.proofs.Common.{refl, ap, arith}
use Rattle.streams.specs.Lines.{parts_of}
use Rattle.node_lines.specs.Lines.{LineView, line_in}
use Rattle.script.specs.Scripts.{script_in, is_action, is_refused, first_refused}

pub script_begins : (text line : List ℕ) (more : List (List ℕ)) (what : LineView)
    → parts_of text ≡ line ∷ more → what ≡ line_in line → script_in text ≡ what ∷ map line_in more
script_begins text line more what is says = rw (is, says) refl

pub goes_past : (n : ℕ) (begun next : Bool) (line : LineView) (more all : List LineView) → all ≡ line ∷ more
    → is_refused begun line ≡ false → next ≡ begun || is_action line
    → first_refused (n + 1) next more ≡ first_refused n begun all
goes_past n begun next line more all is kept begins = rw (begins, is, kept) refl

drop_one : {A : Type 0} (k : ℕ) (all : List A) (one : A) (more : List A) → drop k all ≡ one ∷ more
    → drop (suc k) all ≡ more
drop_one zero [] one more e = cc e
drop_one zero (first ∷ rest) one more e = cc e
drop_one (suc k) [] one more e = cc e
drop_one (suc k) (first ∷ rest) one more e = drop_one k rest one more e

-- what is left after the line of this number
pub left_after : {A : Type 0} (n : ℕ) (all : List A) (one : A) (more : List A) → 1 ≤ n
    → drop (n - 1) all ≡ one ∷ more → drop (n + 1 - 1) all ≡ more
left_after n all one more some e =
    let same : n + 1 - 1 ≡ suc (n - 1) = omega (arith, some) in
    ap (λ (k : ℕ). drop k all) same ∙ drop_one (n - 1) all one more e
