use Rattle.std.proofs.Common.{◌≡◌, ℕ, List, take, drop, length, arith, ◌∙◌, sym}
use Rattle.std.proofs.lemmas.List.{length-take-le}
use Rattle.cop1.specs.Modulo.{ahead_by}
use Rattle.std.proofs.Common.{subst}
use Rattle.nodes.specs.Fates.{whole_within}
use Rattle.nodes.specs.KeptGround.{no_counts}
use Rattle.nodes.proofs.ground_node.kept.KeptGround.is_of.Goals as goal

pub returns : goal.returns
returns c =
    let ns : List ℕ = c.args.self.now.segments in
    let w : ℕ = c.from-whole.result in
    let is : w ≡ c.args.self.now.whole = c.from-whole.ensures in
    let front : length (take w ns) ≡ w = length-take-le w ns (omega (arith, c.if-whole-gt127.false)) in
    let k : ℕ = ahead_by c.args.self.now.vs c.args.self.now.nn in (
      λ same. record {
        apart = omega (arith, c.if-from-config.false, c.from.ensures);
        sent =
            subst (λ (n : ℕ). whole_within k (take n ns) ≡ n) is
            (c.are_whole.ensures.0 c.if-not-are_whole.false ∙ front);
        rest = subst (λ (n : ℕ). drop n ns ≡ drop n no_counts) is (c.are_same.ensures.0 same);
      },
      λ kept. c.are_same.ensures.1 (subst (λ (n : ℕ). drop n ns ≡ drop n no_counts) (sym is) kept.rest),
    )
