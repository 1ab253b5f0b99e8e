-- The state of a splitter once the loan of its answer has ended.
use Rattle.std.specs.Prelude.{◌≡◌, ℕ, List, Option, Result}
use Rattle.std.specs.Borrow.{Fml, RattleType, MutBor}
use Rattle.std.specs.Io.BufRead.{Rests}
use Rattle.octets.specs.Splitter.{Held, held_after}

-- the splitter holds what is left after the answer
abbrev pub EndsAfter : {F : Type 0} (R : RattleType) (s : MutBor R.Denot) → (R.Denot → Held F)
    → Option (Result (List ℕ) F) → Fml
EndsAfter R s held answer = Rests R s (λ last. held last ≡ held_after answer (held s.now))
