use Rattle.std.proofs.Common.{◌≡◌, ◌<◌, ◌+◌, ℕ, List, ◌∷◌, length, drop, refl, ap, arith}
use Rattle.nodes.specs.Fates.{whole_within}
use Rattle.nodes.proofs.Kept.{put_next}
use Rattle.nodes.proofs.Owed.{Needs, from_here, none_whole, one_whole}
use Rattle.nodes.proofs.ground_node.kept.put_whole.Goals as goal

pub returns-then-more-needed-clause-count : goal.returns-then-more-needed-clause-count
returns-then-more-needed-clause-count c =
    let ns : List ℕ = c.args.left.now.items in
    let k : ℕ = c.submissions.whole in
    let n : ℕ = c.in-Some.segments.now in
    let lt : k < length ns = omega (arith, c.in-Some.ensures.variant.0 refl, c.args.left.now.ok.0) in
    let here : drop k ns ≡ n ∷ drop (k + 1) ns = from_here ns k n lt c.in-Some.ensures.lookup in
    let is : Needs n c.needed-needed.result = (
      c.needed-needed.ensures.least,
      c.needed-needed.ensures.covers,
      c.needed-needed.ensures.most,
      c.needed-needed.ensures.one,
    ) in
    let none = none_whole c.submissions.more n c.needed-needed.result (drop (k + 1) ns) is c.if-more-needed.true in
    omega (arith, c.submissions.invariant.counted, ap (whole_within c.submissions.more) here, none)

pub submissions-preserved : goal.submissions-preserved
submissions-preserved c =
    let ns : List ℕ = c.args.left.now.items in
    let k : ℕ = c.submissions.whole in
    let n : ℕ = c.in-Some.segments.now in
    let lt : k < length ns = omega (arith, c.in-Some.ensures.variant.0 refl, c.args.left.now.ok.0) in
    let here : drop k ns ≡ n ∷ drop (k + 1) ns = from_here ns k n lt c.in-Some.ensures.lookup in
    let is : Needs n c.needed-needed.result = (
      c.needed-needed.ensures.least,
      c.needed-needed.ensures.covers,
      c.needed-needed.ensures.most,
      c.needed-needed.ensures.one,
    ) in
    let most = c.submissions.invariant.most in
    let enough = c.if-more-needed.false in
    record {
      counted =
          let one = one_whole c.submissions.more n c.needed-needed.result (drop (k + 1) ns) is enough in
          omega (arith, c.submissions.invariant.counted, ap (whole_within c.submissions.more) here, one);
      within = omega (arith, lt);
      most = omega (arith, most, enough, is.0);
      put =
          put_next ns c.args.out.now c.submissions.out k n c.submissions.invariant.put lt
          (omega (arith, most, enough, is.0, c.requires.most, c.told-out)) c.in-Some.ensures.lookup;
    }
