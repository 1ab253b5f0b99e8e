use Rattle.simulated_link.proofs.Common.{ℕ, List, drop, ap, sym, ◌∙◌, segment_octets, octets_of, World, accepted}
use Rattle.std.proofs.lemmas.List.{drop-map}
use Rattle.simulated_link.proofs.world.World.accepted.Goals as goal

pub returns : goal.returns
returns c =
    ap octets_of c.split_at.ensures.back
    ∙ sym (drop-map (λ v. v.items) c.self.inside.session.before c.deref.result.now)
    ∙ ap (λ (xs : List (List ℕ)). drop c.self.inside.session.before xs)
    (ap octets_of c.deref.ensures.value ∙ c.self.invariant.accepted)
    ∙ drop-map segment_octets c.self.inside.session.before c.self.inside.spacecraft.accepted
    ∙ ap (λ (w : World). accepted w) c.self.view_is
