use Rattle.simulated_link.proofs.Common.{◌≤◌, ◌+◌, length, ap, arith, GroundState}
use Rattle.simulated_link.proofs.Counted.{tick_shorter}
use Rattle.simulated_link.proofs.world.World.tick.Goals as goal

pub invariant_of-self : goal.invariant_of-self
invariant_of-self c =
    let counted : c.self.inside.session.acknowledged + length c.tick.new.self.fop.sent
    ≤ length c.self.inside.session.sent.items =
    let same = ap (λ (s : GroundState). length s.fop.sent) c.tick.ensures.after in
    omega (arith, c.self.invariant.counted, tick_shorter c.self.inside.ground_node) in
    assumption (counted, c.self.invariant)
