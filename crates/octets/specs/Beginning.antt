-- One list is a beginning of another.
use Rattle.std.specs.Prelude.{◌≡◌, List, ◌++◌, ℕ, Result, String, string_bytes, OnOk}

abbrev pub IsBeginning : {A : Type 0} → List A → List A → Type 0
IsBeginning {A = A} xs ys = (rest : List A) × (ys ≡ xs ++ rest)

-- What a call appends to a text.

-- if the call succeeds, these octets follow the octets that the text had
abbrev pub Appends : {Z T E : Type 0} → Result T E → String Z → String Z → List ℕ → Type 0
Appends result old new octets = OnOk result (string_bytes new ≡ string_bytes old ++ octets)
