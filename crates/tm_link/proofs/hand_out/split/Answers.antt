use Rattle.std.proofs.Common.{◌≡◌, ℕ, true, false, ◌-◌, List, [], ◌∷◌, ◌++◌, ◌∙◌, length, take, drop, sym, ap}
use Rattle.std.proofs.lemmas.List.{append-nil}
use Rattle.octets.specs.Records.{records_of}
use Rattle.space_packet.specs.Decoding.{extent_at}
use Rattle.tm_link.specs.Extractor.{without_idle, octets_of}
use Rattle.space_packet.proofs.WholePackets.{no_more}
use Rattle.tm_link.proofs.Records.{records-next, rest-next, handed_on, none_handed-first}
use Rattle.tm_link.proofs.hand_out.split.Goals as goal

pub loop-size-preserved : goal.loop-size-preserved
loop-size-preserved c =
    let rest : List ℕ = c.loop-size.rest.now in
    let n : ℕ = c.in-Some.size in
    let before : List (List ℕ) = octets_of c.loop-size.found.items in
    let packet : take n rest ++ [] ≡ take n rest = append-nil (take n rest) in
    let handed : octets_of c.hand_out.new.found.items ≡ before ++ without_idle (take n rest ∷ []) =
    c.in_ok-hand_out.ensures.ok ∙ ap (λ (x : List ℕ). before ++ without_idle (x ∷ [])) packet in
    let more : List (List ℕ) = records_of 6 extent_at (take (length rest - n) (drop n rest)) in
    let next : take n rest ∷ more ≡ records_of 6 extent_at rest =
    records-next rest n c.in-Some.ensures.first c.in-Some.ensures.within.1 in
    record {
      handed = handed_on before (octets_of c.hand_out.new.found.items) (take n rest) more handed
          ∙ ap (λ (xs : List (List ℕ)). before ++ without_idle xs) next ∙ c.loop-size.invariant.handed;
      none = λ none. (none_handed-first (take n rest) more (ap without_idle next ∙ c.loop-size.invariant.none none)).1;
      left = rest-next rest n c.in-Some.ensures.first c.in-Some.ensures.within.1 ∙ c.loop-size.invariant.left;
    }

pub returns-clause-ok : goal.returns-clause-ok
returns-clause-ok c =
    let found : List (List ℕ) = octets_of c.loop-size.found.items in
    sym (append-nil found)
    ∙ ap (λ (xs : List (List ℕ)). found ++ without_idle xs)
    (sym (no_more c.loop-size.rest.now (sym c.in_default.ensures.first)).0)
    ∙ c.loop-size.invariant.handed

pub returns-clause-rest : goal.returns-clause-rest
returns-clause-rest c =
    sym (no_more c.loop-size.rest.now (sym c.in_default.ensures.first)).1 ∙ c.loop-size.invariant.left

pub returns-in_err-hand_out-clause-none : goal.returns-in_err-hand_out-clause-none
returns-in_err-hand_out-clause-none c = λ none.
    let rest : List ℕ = c.loop-size.rest.now in
    let n : ℕ = c.in-Some.size in
    let packet : take n rest ++ [] ≡ take n rest = append-nil (take n rest) in
    let next : take n rest ∷ records_of 6 extent_at (take (length rest - n) (drop n rest))
    ≡ records_of 6 extent_at rest = records-next rest n c.in-Some.ensures.first c.in-Some.ensures.within.1 in
    let first : without_idle (take n rest ∷ []) ≡ [] =
    (none_handed-first (take n rest) (records_of 6 extent_at (take (length rest - n) (drop n rest)))
    (ap without_idle next ∙ c.loop-size.invariant.none none)).0 in
    let never : false ≡ true =
    c.in_err-hand_out.ensures.none (ap (λ (x : List ℕ). without_idle (x ∷ [])) packet ∙ first) in
    absurd cc
