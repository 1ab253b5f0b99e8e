use Rattle.std.proofs.Common.{sym, ap, ◌∙◌}
use Rattle.cop1.specs.FopTick.{tick_step}
use Rattle.cop1.proofs.UnitsFollow.{tick-follows, trimmed-state, trimmed-sound}
use Rattle.cop1.proofs.fop.Fop.tick.Goals as goal

pub invariant_of-self : goal.invariant_of-self
invariant_of-self g c =
    trimmed-sound c.self.inside (tick-follows c.self.invariant.fits) c.tick-alert.ensures.after
    c.trim.ensures.waiting c.trim.ensures.sent c.trim.ensures.holds c.self.invariant

pub returns-clause-after : goal.returns-clause-after
returns-clause-after g c =
    trimmed-state c.self.inside (tick-follows c.self.invariant.fits) c.tick-alert.ensures.after
    c.trim.ensures.waiting c.trim.ensures.sent ∙ ap (λ s. (tick_step s).after) c.self.view_is

pub returns-clause-alert : goal.returns-clause-alert
returns-clause-alert g c =
    c.tick-alert.ensures.alert ∙ sym (ap (λ o. o.answer) (tick-follows c.self.invariant.fits).same)
    ∙ ap (λ s. (tick_step s).answer) c.self.view_is
