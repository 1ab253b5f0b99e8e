use Rattle.std.proofs.Common.{sym, ap, ◌∙◌}
use Rattle.cop1.specs.FopDirective.{directive_step}
use Rattle.cop1.proofs.UnitsFollow.{directive-follows, trimmed-state, trimmed-sound}
use Rattle.cop1.proofs.fop.Fop.directive.Goals as goal

pub invariant_of-self : goal.invariant_of-self
invariant_of-self g c =
    trimmed-sound c.self.inside (directive-follows c.self.invariant.fits c.args.directive)
    c.directive-answer.ensures.after c.trim.ensures.waiting c.trim.ensures.sent c.trim.ensures.holds
    c.self.invariant

pub returns-clause-after : goal.returns-clause-after
returns-clause-after g c =
    trimmed-state c.self.inside (directive-follows c.self.invariant.fits c.args.directive)
    c.directive-answer.ensures.after c.trim.ensures.waiting c.trim.ensures.sent
    ∙ ap (λ s. (directive_step s c.args.directive).after) c.self.view_is

pub returns-clause-answer : goal.returns-clause-answer
returns-clause-answer g c =
    c.directive-answer.ensures.answer
    ∙ sym (ap (λ o. o.answer) (directive-follows c.self.invariant.fits c.args.directive).same)
    ∙ ap (λ s. (directive_step s c.args.directive).answer) c.self.view_is
