-- The ledger that the fields represent.
use Rattle.command_ledger.specs.declared.ledger.Ledger.TheInside.{Inside}
use Rattle.command_ledger.specs.Ledger.{LedgerState}

abbrev pub ledger_of : Inside → LedgerState
ledger_of l =
    record {
      max_packet = l.max_packet;
      state = l.state;
      unstored = l.unstored.items;
      due = l.due;
      safe = l.safe;
      stored = l.stored;
    }
