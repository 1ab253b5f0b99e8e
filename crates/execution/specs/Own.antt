-- When no command on board is reported as foreign.
use Rattle.std.specs.Prelude.{⊤, ℕ, ◌<◌, List, [], ◌∷◌}
use Rattle.std.specs.List.{AllByRecursion}
use Rattle.command_ledger.specs.declared.state.Tell.{Tell}
use Rattle.command_ledger.specs.declared.state.Tell.TheVariants.{Executed, Unknown, Restarted}
use Rattle.command_ledger.specs.declared.state.Tell.TheVariants.{RecordLost, Foreign}
use Rattle.execution.specs.System.{System, Report, Deed, Commands, Hears, Rebuilds, Appends}
use Rattle.execution.specs.System.{Reports}
use Rattle.execution.specs.System.{Renews, Crashes, Sends, Orders, OrdersRestart, Happens}
use Rattle.execution.specs.System.{SendsStatus, new_system, system_step, system_run}
use Rattle.execution.specs.Execution.{AreOwed}

-- no order that brings a record is made, and the boot count does not begin at 0 again
abbrev pub IsCalm : System → Deed → Type 0
IsCalm s (Commands tag on_map apid count content) = ⊤
IsCalm s (Hears octets) = ⊤
IsCalm s Rebuilds = ⊥
IsCalm s Appends = ⊤
IsCalm s (Reports noted) = ⊤
IsCalm s Renews = ⊤
IsCalm s (Crashes torn) = ⊤
IsCalm s (Sends number) = ⊤
IsCalm s (Orders apid count) = ⊤
IsCalm s (OrdersRestart apid count) = ⊤
IsCalm s (Happens event) = s.board.executor.kept.boot < 4294967295
IsCalm s (SendsStatus waits) = ⊤

abbrev pub AreCalm : System → List Deed → Type 0
AreCalm s [] = ⊤
AreCalm s (deed ∷ deeds) = IsCalm s deed × AreCalm (system_step s deed) deeds

abbrev pub IsOwn : Tell → Type 0
IsOwn (Executed tag) = ⊤
IsOwn (Unknown tag) = ⊤
IsOwn (Restarted boot) = ⊤
IsOwn (RecordLost mark) = ⊤
IsOwn (Foreign first last) = ⊥

abbrev pub EachCommandIsOwn : Type 0
EachCommandIsOwn =
    (max_packet : ℕ) (deeds : List Deed) → AreOwed (new_system max_packet) deeds
    → AreCalm (new_system max_packet) deeds
    → AllByRecursion (λ (r : Report). IsOwn r.tell) (system_run (new_system max_packet) deeds).told
