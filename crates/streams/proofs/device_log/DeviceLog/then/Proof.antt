-- What `then` logs is what was logged, with one call more. Assumes `Logic`.
use Rattle.std.proofs.Common.{refl}
use contract.Monad.{fact_i}
use denote.Signature.{plain, named_lft}
use Rattle.octets.proofs.Walks.{makes_from, owned}
use Rattle.streams.specs.Devices.{octets_with, ended_with, failures_with}
use Rattle.streams.specs.contracts.device_log.Call as Call
use Rattle.streams.specs.contracts.device_log.DeviceLog as DeviceLog
use Rattle.streams.specs.contracts.device_log.DeviceLog.then as F
use Rattle.streams.proofs.device_log.DeviceLog.then.Statement.{statement}
use Rattle.streams.proofs.device_log.DeviceLog.then.Code as code

pub then_spec : {M : Type 1} → statement M
then_spec 𝓤 𝓛 𝓜 𝓡 wired =
    makes_from 𝓛 𝓜 𝓡 _ _ _ _ (plain (λ _. DeviceLog.the_row)) (plain (λ κs. Call.the_row (named_lft 3 2 tt κs)))
    F.signature.result (F.clauses 𝓛 𝓜.mem 𝓡.returns)
    (λ κs a. record {
      octets = octets_with a.0.now.octets a.1.0.now;
      has_ended = ended_with a.0.now.has_ended a.1.0.now;
      failures = failures_with a.0.now.failures a.1.0.now;
    }) (λ κs a. owned 𝓛)
    (λ κs a g. fact_i 𝓤 _ _ (record { went_through = refl; at_end = refl; failed = refl }))
    (code.unfolded 𝓤 𝓛.H 𝓜 𝓡 wired)
