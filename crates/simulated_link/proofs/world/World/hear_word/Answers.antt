use Rattle.simulated_link.proofs.Common.{◌≡◌, ◌≤◌, ◌+◌, length, sym, subst, arith, ahead_by, GroundState, ℕ, ap, ◌∙◌}
use Rattle.clcw.specs.Decoding.{clcw_at}
use Rattle.simulated_link.proofs.Counted.{word_less}
use Rattle.simulated_link.proofs.world.World.hear_word.Goals as goal

pub invariant_of-self : goal.invariant_of-self
invariant_of-self c =
    let s : GroundState = c.self.inside.ground_node in
    let t : GroundState = c.clcw-heard.new.self in
    let moved : c.from.result ≡ ahead_by t.fop.nn s.fop.nn =
    c.from.ensures ∙ ap (λ (n : ℕ). ahead_by n c.nn-before.result) c.nn.ensures
    ∙ ap (ahead_by t.fop.nn) c.nn-before.ensures in
    let less : ahead_by t.fop.nn s.fop.nn + length t.fop.sent ≤ length s.fop.sent =
    subst (λ (x : GroundState). ahead_by x.fop.nn s.fop.nn + length x.fop.sent ≤ length s.fop.sent)
    (sym c.clcw-heard.ensures.after)
    (word_less s c.state-mode.ensures.holds (omega (arith, c.nn-before.ensures, c.nn-before.type_inv))
    (clcw_at c.args.word)) in
    let counted : c.self.inside.session.acknowledged + c.from.result + length t.fop.sent
    ≤ length c.self.inside.session.sent.items = omega (arith, c.self.invariant.counted, less, moved) in
    assumption (counted, c.self.invariant)
