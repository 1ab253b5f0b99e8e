use Rattle.std.proofs.Common.{subst}
use Rattle.cop1.specs.Units.{IsFop}
use Rattle.cop1.proofs.UnitsFollow.{IsFop-fop_state_of}
use Rattle.cop1.proofs.fop.Fop.state.Goals as goal

pub returns-clause-holds : goal.returns-clause-holds
returns-clause-holds g c = subst IsFop c.self.view_is (IsFop-fop_state_of c.self.inside c.self.invariant)
