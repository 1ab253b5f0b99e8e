-- `new` begins with no octets and no failure. Assumes `Logic`.
use Rattle.std.proofs.Common.{[], false, refl}
use contract.Monad.{fact_i}
use Rattle.octets.proofs.Walks.{makes, owned}
use Rattle.streams.specs.contracts.device_log.DeviceLog.new as F
use Rattle.streams.proofs.device_log.DeviceLog.new.Statement.{statement}
use Rattle.streams.proofs.device_log.DeviceLog.new.Code as code

pub new_spec : {M : Type 1} → statement M
new_spec 𝓤 𝓛 𝓜 𝓡 wired =
    makes 𝓛 𝓜 𝓡 _ F.signature.result (F.clauses 𝓛 𝓜.mem 𝓡.returns)
    (record { octets = []; has_ended = false; failures = 0 }) (owned 𝓛)
    (λ g. fact_i 𝓤 _ _ (record { went_through = refl; at_end = refl; failed = refl }))
    (code.unfolded 𝓤 𝓛.H 𝓜 𝓡 wired)
