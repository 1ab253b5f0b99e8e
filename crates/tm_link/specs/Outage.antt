-- What an extractor delivers after an outage (CCSDS 132.0-B-3, 4.3.2).
use Rattle.std.specs.Prelude.{◌≡◌, ◌≤◌, ℕ, List, ◌++◌, length}

-- the given packets are those packets, preceded by at most one more packet
pub record AreButForTheFirst (given those : List (List ℕ)) : Type 0 where
  pub first : List (List ℕ)
  pub most : length first ≤ 1
  pub parts : given ≡ first ++ those
