use Rattle.sedgechisel_nodes.proofs.Handled.{into_meets}
use Rattle.sedgechisel_nodes.proofs.Handled.{of_commander}
use Rattle.sedgechisel_nodes.proofs.commanding.CommanderHandleHolds.into_kept.Statement.{statement}
use Rattle.sedgechisel_nodes.proofs.commanding.CommanderHandleHolds.into_kept.Code as code

pub into_kept_spec : {M : Type 1} → statement M
into_kept_spec 𝓤 𝓛 𝓜 𝓡 wired = into_meets of_commander 𝓤 𝓛 𝓜 𝓡 _ (code.unfolded 𝓤 𝓛.H 𝓜 𝓡 wired)
