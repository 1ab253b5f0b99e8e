-- The lines of a text: those that a line feed ends, and what is left after the last of them.
use Rattle.std.specs.Prelude.{ℕ, ◌==◌, List, [], ◌∷◌, ◌++◌}
use Rattle.std.specs.List.{slice_split}

-- the parts of a text between its line feeds; the last one follows the last line feed
abbrev pub parts_of : List ℕ → List (List ℕ)
parts_of text = slice_split (λ octet. octet == 10) text

abbrev pub all_but_last : List (List ℕ) → List (List ℕ)
all_but_last [] = []
all_but_last (part ∷ []) = []
all_but_last (part ∷ next ∷ more) = part ∷ all_but_last (next ∷ more)

abbrev pub last_part : List (List ℕ) → List ℕ
last_part [] = []
last_part (part ∷ []) = part
last_part (part ∷ next ∷ more) = last_part (next ∷ more)

-- the lines that a line feed ends
abbrev pub ended_lines : List ℕ → List (List ℕ)
ended_lines text = all_but_last (parts_of text)

-- what is left after the last line feed
abbrev pub left_of : List ℕ → List ℕ
left_of text = last_part (parts_of text)

-- what is left is a line if it is not empty
abbrev pub line_left : List ℕ → List (List ℕ)
line_left [] = []
line_left (octet ∷ octets) = (octet ∷ octets) ∷ []

-- the lines of a text that has ended
abbrev pub lines_of : List ℕ → List (List ℕ)
lines_of text = ended_lines text ++ line_left (left_of text)
