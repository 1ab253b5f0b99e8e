use Rattle.std.proofs.Common.{◌≡◌, take, drop}
use Rattle.command_ledger.specs.State.{history_over}
use Rattle.command_ledger.proofs.state.history_over.Given as goal

abbrev pub invariant-loop-i : goal.invariant-loop-i
invariant-loop-i l =
    history_over l.over (drop l.i (take l.end l.commands.items))
    ≡ history_over l.fn.history (drop l.first (take l.end l.commands.items))
