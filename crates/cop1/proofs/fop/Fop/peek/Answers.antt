use Rattle.std.proofs.Common.{option_copied, sym, ap, ◌∙◌}
use Rattle.cop1.specs.FopPull.{pull_step}
use Rattle.cop1.proofs.UnitsFollow.{next-goes}
use Rattle.cop1.proofs.fop.Fop.peek.Goals as goal

pub returns : goal.returns
returns g c =
    let none = ap option_copied c.in_default.is in
    let goes = next-goes c.self.invariant.sender c.self.invariant.fits c.oldest_bypass.ensures none in
    rw (c.unit_at.ensures, ap (λ s. s.nn) c.fields-nn.ensures.fields, sym goes.same_nn, c.peek.ensures)
    (sym goes.seen ∙ sym (ap (λ o. o.answer) goes.same) ∙ ap (λ s. (pull_step s).answer) c.self.view_is)
