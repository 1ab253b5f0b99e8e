use Rattle.std.proofs.Common.{◌≡◌, ◌++◌, drop}
use Rattle.command_ledger.specs.Ledger.{commands_octets, fresh_octets}
use Rattle.command_ledger.proofs.ledger.fresh_octets.Given as goal

abbrev pub invariant-loop-i : goal.invariant-loop-i
invariant-loop-i l =
    l.octets.items ++ commands_octets (drop l.i l.state.commands) ≡ fresh_octets l.state
