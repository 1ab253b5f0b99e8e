-- When a frame is sent, and when a session begins.
use Rattle.std.specs.Prelude.{◌≡◌, ℕ, false, Some, None}
use Rattle.command_ledger.specs.Store.{Reading}
use Rattle.command_ledger.specs.Ledger.{Nothing, next_of}
use Rattle.tc_frame.specs.Layout.{FrameView}
use Rattle.nodes.specs.declared.config.Config.{Config}
use Rattle.nodes.specs.Ground.{ground_step, TakeTelemetry}
use Rattle.commander.specs.declared.mission.Mission.{Mission}
use Rattle.commander.specs.declared.commander.Commander.{Commander}
use Rattle.commander.specs.Opened.{opened}
use Rattle.commander.specs.Next.{owed, next_frame, opening}
use Rattle.commander.specs.Moves.{Call, after_call}

-- A frame is sent only if everything given and received is in the store, and nothing is left to be
-- reported or taken.
pub record IsAtRest (s : Commander) : Type 0 where
  pub ledger : next_of s.ledger ≡ Nothing
  pub alert : s.session.alert ≡ None
  pub telemetry : (ground_step s.ground_node TakeTelemetry).answer ≡ None

abbrev pub EachFrameIsLast : Type 0
EachFrameIsLast =
    (s : Commander) (frame : FrameView) → next_frame s (owed s) ≡ Some frame → IsAtRest s

-- the value of a CLCW is kept only in a silence
abbrev pub IsQuiet : Commander → Type 0
IsQuiet s = (value : ℕ) → s.session.value ≡ Some value → s.session.busy ≡ 0

-- A session begins only with a value that was kept, and so only in a silence.
pub record BeginsInSilence : Type 0 where
  pub at_first : (c : Config) (m : Mission) (all : Reading) → IsQuiet (opened c m all)
  pub after : (s : Commander) (call : Call) → IsQuiet s → IsQuiet (after_call s call)
  pub begins : (s : Commander) (value : ℕ) → IsQuiet s → opening s ≡ Some value
      → (s.session.busy ≡ 0) × (s.session.paused ≡ false)
