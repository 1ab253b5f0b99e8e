use denote.Exit.{no}
use Rattle.sedgechisel_nodes.proofs.Handled.{of_meets}
use Rattle.sedgechisel_nodes.proofs.Handled.{of_link}
use Rattle.sedgechisel_nodes.proofs.handles.SimHandleHolds.of.Statement.{statement}
use Rattle.sedgechisel_nodes.proofs.handles.SimHandleHolds.of.Code as code

pub of_spec : {M : Type 1} → statement M
of_spec 𝓤 𝓛 𝓜 𝓡 wired = of_meets of_link 𝓤 𝓛 𝓜 𝓡 _ no (code.unfolded 𝓤 𝓛.H 𝓜 𝓡 wired)
