use Rattle.simulated_link.proofs.Common.{◌≤◌, ◌+◌, length, ap, arith, GroundState}
use Rattle.simulated_link.proofs.Counted.{directive_shorter}
use Rattle.simulated_link.proofs.world.World.directive.Goals as goal

pub invariant_of-self-else-is_initiation : goal.invariant_of-self-else-is_initiation
invariant_of-self-else-is_initiation c =
    let counted : c.self.inside.session.acknowledged + length c.directive.new.self.fop.sent
    ≤ length c.self.inside.session.sent.items =
    let same = ap (λ (s : GroundState). length s.fop.sent) c.directive.ensures.after in
    omega (arith, c.self.invariant.counted, directive_shorter c.self.inside.ground_node c.args.directive) in
    assumption (counted, c.self.invariant)
