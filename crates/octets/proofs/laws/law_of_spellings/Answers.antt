use Rattle.std.proofs.Common.{List, [], ◌∷◌}
use Rattle.std.specs.List.{AllByRecursion}
use Rattle.octets.specs.Records.{IsRecord}
use Rattle.octets.proofs.Streams.{records_of-concat}
use Rattle.octets.proofs.laws.law_of_spellings.Goals as goal

all-same : {X : Type 0} (P Q : X → Type 0) → ((x : X) → P x → Q x) → (xs : List X) → AllByRecursion P xs
    → AllByRecursion Q xs
all-same P Q f [] h = tt
all-same P Q f (x ∷ xs) h = (f x h.0, all-same P Q f xs h.1)

pub returns-clause-records : goal.returns-clause-records
returns-clause-records g c = λ spellings more h.
    let law = g.met.W.Wire in
    records_of-concat _ _ law.some_head law.extent_has_head spellings more
    (all-same _ (IsRecord _ _) (λ octets p. let own =
    law.own_extent p.0 octets p.1 in record { has_head = own.0; extent_is = own.1 }) spellings h)
