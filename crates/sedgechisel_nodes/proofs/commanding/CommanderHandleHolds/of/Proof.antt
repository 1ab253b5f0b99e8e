use denote.Exit.{yes}
use Rattle.sedgechisel_nodes.proofs.Handled.{of_meets}
use Rattle.sedgechisel_nodes.proofs.Handled.{of_commander}
use Rattle.sedgechisel_nodes.proofs.commanding.CommanderHandleHolds.of.Statement.{statement}
use Rattle.sedgechisel_nodes.proofs.commanding.CommanderHandleHolds.of.Code as code

pub of_spec : {M : Type 1} → statement M
of_spec 𝓤 𝓛 𝓜 𝓡 wired = of_meets of_commander 𝓤 𝓛 𝓜 𝓡 _ yes (code.unfolded 𝓤 𝓛.H 𝓜 𝓡 wired)
