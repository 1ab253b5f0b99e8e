-- Words as C represents them, and the word for a number.
use Rattle.std.specs.Prelude.{ℕ, List, [], ◌∷◌, ◌++◌, ◌-◌, length, replicate, codes, Option, Some}
use Rattle.std.specs.Prelude.{None, ◌==◌, if◌then◌else◌}

-- a word, followed by zeros up to 20 octets
abbrev pub text_of : List ℕ → List ℕ
text_of word = word ++ replicate (20 - length word) 0

-- a sentence, followed by zeros up to 160 octets
abbrev pub sentence_of : List ℕ → List ℕ
sentence_of sentence = sentence ++ replicate (160 - length sentence) 0

-- the one of these that has the number
abbrev pub found_by : {A : Type 0} → (A → ℕ) → List A → ℕ → Option A
found_by number [] n = None
found_by number (x ∷ xs) n = if n == number x then Some x else found_by number xs n

-- the name, or "?" if there is none
abbrev pub name_if : {A : Type 0} → (A → ℕ × List ℕ) → Option A → List ℕ
name_if row None = codes "?"
name_if row (Some x) = (row x).1

-- the name of the one of these that has the number
abbrev pub name_by : {A : Type 0} → (A → ℕ × List ℕ) → List A → ℕ → List ℕ
name_by row xs n = name_if row (found_by (λ x. (row x).0) xs n)
