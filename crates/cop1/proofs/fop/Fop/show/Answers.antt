use Rattle.std.proofs.Common.{◌<◌, length, sym, subst, ap, ◌∙◌}
use Rattle.cop1.specs.UnitsNext.{units_of, IsPlaced}
use Rattle.cop1.proofs.UnitsFollow.{slice_get-within, map-unit-marked_last, is_some_copied}
use Rattle.cop1.proofs.fop.Fop.show.Goals as goal

pub unwrap-requires : goal.unwrap-requires
unwrap-requires g c =
    let f = c.self.inside in
    let units = ap (λ s. units_of s.sent) (sym c.self.view_is) ∙ map-unit-marked_last f.sender.sent.due f.sent.items in
    let placed = subst (λ next. IsPlaced (units_of c.args.self.now.sent) next) c.in-Sequence.is c.requires in
    let within = subst (λ us. c.in-Sequence.place < length us) units placed in
    let found = slice_get-within f.sent.items c.in-Sequence.place within in
    is_some_copied c.get.result found.0 (c.get.ensures ∙ found.1)
