use Rattle.std.proofs.Common.{sym, ap, ◌∙◌}
use Rattle.cop1.specs.FopReport.{clcw_step}
use Rattle.cop1.proofs.UnitsFollow.{report-follows, trimmed-state, trimmed-sound}
use Rattle.cop1.proofs.fop.Fop.clcw.Goals as goal

pub invariant_of-self : goal.invariant_of-self
invariant_of-self g c =
    trimmed-sound c.self.inside (report-follows c.self.invariant.fits c.args.report.now) c.report-heard.ensures.after
    c.trim.ensures.waiting c.trim.ensures.sent c.trim.ensures.holds c.self.invariant

pub returns-clause-after : goal.returns-clause-after
returns-clause-after g c =
    trimmed-state c.self.inside (report-follows c.self.invariant.fits c.args.report.now) c.report-heard.ensures.after
    c.trim.ensures.waiting c.trim.ensures.sent ∙ ap (λ s. (clcw_step s c.args.report.now).after) c.self.view_is

pub returns-clause-alert : goal.returns-clause-alert
returns-clause-alert g c =
    ap (λ heard. heard.alert) c.report-heard.ensures.answer
    ∙ sym (ap (λ o. o.answer) (report-follows c.self.invariant.fits c.args.report.now).same)
    ∙ ap (λ s. (clcw_step s c.args.report.now).answer) c.self.view_is
