use Rattle.std.proofs.Common.{◌≡◌, ◌-◌, ◌≤◌, length}
use Rattle.command_ledger.specs.State.{new_state}
use Rattle.command_ledger.specs.Store.{reading, read_on}
use Rattle.command_ledger.proofs.store.read.Given as goal

abbrev pub invariant-loop-entry : goal.invariant-loop-entry
invariant-loop-entry l =
    record {
      within : l.good ≤ length l.octets;
      goes_on :
          read_on (length l.octets - l._entry) (reading l.state l.good) l.octets
          ≡ read_on (length l.octets) (reading new_state 0) l.octets;
    }
