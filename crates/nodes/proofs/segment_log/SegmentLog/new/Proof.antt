-- A new log has no segments. Assumes `Logic`.
use Rattle.std.proofs.Common.{[], refl}
use contract.Monad.{fact_i}
use Rattle.octets.proofs.Walks.{makes, owned}
use Rattle.nodes.specs.contracts.segment_log.SegmentLog.new as F
use Rattle.nodes.proofs.segment_log.SegmentLog.new.Statement.{statement}
use Rattle.nodes.proofs.segment_log.SegmentLog.new.Code as code

pub new_spec : {M : Type 1} → statement M
new_spec 𝓤 𝓛 𝓜 𝓡 wired =
    makes 𝓛 𝓜 𝓡 _ F.signature.result (F.clauses 𝓛 𝓜.mem 𝓡.returns) (record { segments = [] }) (owned 𝓛)
    (λ g. fact_i 𝓤 _ _ refl) (code.unfolded 𝓤 𝓛.H 𝓜 𝓡 wired)
