-- How each line is spelled.
use Rattle.std.specs.Prelude.{◌≤◌, ◌⊎◌, ℕ, List, [], ◌++◌, codes, decimal}
use Rattle.std.specs.List.{Contains}
use Rattle.nodes.specs.declared.parameter.Parameter.{Parameter}
use Rattle.nodes.specs.Parameters.{row_of}
use Rattle.streams.specs.Hex.{IsHex}
use Rattle.node_lines.specs.Lines.{AskView, LineView, Skipped, Setting, Asking, Helping}
use Rattle.node_lines.specs.Lines.{Form, Number, Octets, Submission, plain_asks, worded_asks}

-- what follows a line's words, by its form, if the line asks this. Numbers are spelled as they are
-- printed.
pub data Follows : Form → AskView → List ℕ → Type 0 where
  number : {most : ℕ} {ask : ℕ → AskView} (x : ℕ) → x ≤ most
      → Follows (Number most ask) (ask x) (decimal x)
  octets : {ask : List ℕ → AskView} (octets hex : List ℕ) → IsHex octets hex
      → Follows (Octets ask) (ask octets) hex
  submission : {ask : ℕ → List ℕ → AskView} {said : AskView} {rest : List ℕ} (map : ℕ)
      → map ≤ 255 → Follows (Octets (ask map)) said rest
      → Follows (Submission ask) said (decimal map ++ (codes " " ++ rest))

-- The lines that spell each meaning. Each parameter takes the numbers up to 65,542 and those of its
-- range.
pub data Spells : LineView → List ℕ → Type 0 where
  empty : Spells Skipped []
  note : (text : List ℕ) → Spells Skipped (codes "#" ++ text)
  help : Spells Helping (codes "help")
  plain : (ask : AskView) (line : List ℕ) → Contains plain_asks (line, ask)
      → Spells (Asking ask) line
  worded : (words : List ℕ) (form : Form) (ask : AskView) (rest : List ℕ)
      → Contains worded_asks (words, form) → Follows form ask rest
      → Spells (Asking ask) (words ++ rest)
  config : (parameter : Parameter) (n : ℕ) → (n ≤ 65542) ⊎ (n ≤ (row_of parameter).most)
      → Spells (Setting parameter n)
      (codes "config " ++ ((row_of parameter).name ++ (codes " " ++ decimal n)))
