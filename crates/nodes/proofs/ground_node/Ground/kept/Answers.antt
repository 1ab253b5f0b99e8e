use Rattle.std.proofs.Common.{sym, subst}
use Rattle.nodes.specs.declared.ground_node.kept.KeptGround.{KeptGround}
use Rattle.nodes.specs.Ground.{GroundState}
use Rattle.nodes.specs.KeptGround.{IsKept}
use Rattle.nodes.proofs.Kept.{kept_fits}
use Rattle.nodes.proofs.ground_node.Ground.kept.Goals as goal

pub returns-clause-taken : goal.returns-clause-taken
returns-clause-taken c =
    let s : GroundState = c.args.self.now in
    subst (λ (kept : KeptGround). IsKept s.config kept) (sym c.record.ensures.kept)
    (kept_fits s c.record.ensures.apart)
