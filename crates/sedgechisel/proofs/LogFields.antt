-- The fields that are kept of a board's commands describe them again.
use Rattle.std.proofs.Common.{◌≡◌, Bool, true, false, Some, Ok, refl}
use Rattle.std.specs.Prelude.{nat_lt, ◌==◌}
use Rattle.command_log.specs.declared.executor.Stage.{Stage}
use Rattle.command_log.specs.declared.executor.Stage.TheVariants.{Lost}
use Rattle.command_log.specs.Executor.{ExecutorState}
use Rattle.sedgechisel.specs.CommandLogs.{log_of, log_described, stage_at, stage_number, stage_mark}
use Rattle.sedgechisel.specs.Receivers.{flag_number}

flag_again : (b : Bool) → (flag_number b == 1) ≡ b
flag_again true = refl
flag_again false = refl

flag_small : (b : Bool) → nat_lt (flag_number b) 2 ≡ true
flag_small true = refl
flag_small false = refl

stage_again : (stage : Stage) → stage_at (stage_number stage) (stage_mark stage) ≡ Some stage
stage_again (Lost mark) = refl
stage_again _ = refl

pub described_again : (s : ExecutorState) → log_described (log_of s) ≡ Ok s
described_again s = rw (flag_small s.kept.begun, stage_again s.stage, flag_again s.kept.begun) refl
