use Rattle.std.proofs.Common.{◌≡◌, ◌<◌, ◌+◌, ℕ, List, ◌∷◌, length, drop, ap, arith, get_or, ◌∙◌, sym}
use Rattle.std.proofs.lemmas.List.{drop_more}
use Rattle.nodes.specs.Fates.{whole_within}
use Rattle.nodes.proofs.Owed.{Needs, none_whole, one_whole}
use Rattle.nodes.proofs.ground_node.kept.are_whole.Goals as goal

pub returns-then-more-needed : goal.returns-then-more-needed
returns-then-more-needed c =
    let ns : List ℕ = c.args.segments.now in
    let k : ℕ = c.loop-count.count-index in
    let n : ℕ = c.from.result in
    let lt : k < length ns = c.loop-count-test.true in
    let at : n ≡ get_or ns k 0 = c.from.ensures in
    let here : drop k ns ≡ n ∷ drop (k + 1) ns =
    drop_more ns k 0 lt ∙ ap (λ (m : ℕ). m ∷ drop (k + 1) ns) (sym at) in
    let is : Needs n c.needed-needed.result = (
      c.needed-needed.ensures.least,
      c.needed-needed.ensures.covers,
      c.needed-needed.ensures.most,
      c.needed-needed.ensures.one,
    ) in
    let none = none_whole c.loop-count.more n c.needed-needed.result (drop (k + 1) ns) is c.if-more-needed.true in (
      λ no. absurd (cc no),
      λ all. absurd (omega (arith, c.loop-count.invariant, ap (whole_within c.loop-count.more) here, none, all, lt)),
    )

pub loop-count-preserved : goal.loop-count-preserved
loop-count-preserved c =
    let ns : List ℕ = c.args.segments.now in
    let k : ℕ = c.loop-count.count-index in
    let n : ℕ = c.from.result in
    let lt : k < length ns = c.loop-count-test.true in
    let at : n ≡ get_or ns k 0 = c.from.ensures in
    let here : drop k ns ≡ n ∷ drop (k + 1) ns =
    drop_more ns k 0 lt ∙ ap (λ (m : ℕ). m ∷ drop (k + 1) ns) (sym at) in
    let is : Needs n c.needed-needed.result = (
      c.needed-needed.ensures.least,
      c.needed-needed.ensures.covers,
      c.needed-needed.ensures.most,
      c.needed-needed.ensures.one,
    ) in
    let one = one_whole c.loop-count.more n c.needed-needed.result (drop (k + 1) ns) is c.if-more-needed.false in
    omega (arith, c.loop-count.invariant, ap (whole_within c.loop-count.more) here, one)
