use Rattle.std.proofs.Common.{◌≡◌, ◌+◌, ℕ, Result, Ok, Err, OnOk, arith}
use Rattle.streams.specs.Devices.{failed_in}
use Rattle.streams.specs.declared.output.WriteFailed.{WriteFailed}
use Rattle.stream_commands.proofs.status.ending.Goals as goal

-- if no call of the sink failed, what follows from each answer that is Ok
none_failed : {P : Type 0} (r : Result (Unit {0}) WriteFailed) (before now : ℕ)
    → OnOk r P → now ≡ before + failed_in r → now ≡ before → P
none_failed (Ok u) before now ok failures same = ok
none_failed (Err e) before now ok failures same = absurd (omega (arith, failures, same))

pub returns-clause-whole : goal.returns-clause-whole
returns-clause-whole g c =
    none_failed c.write_ending.result _ _ c.write_ending.ensures.ok c.write_ending.ensures.failures
