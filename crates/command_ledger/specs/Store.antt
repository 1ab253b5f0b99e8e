-- Reading a store: its entries, one after another, until the octets no longer form an entry that
-- may follow.
use Rattle.std.specs.Prelude.{ℕ, zero, suc, ◌+◌, List, take, drop, if◌then◌else◌, ◌==◌}
use Rattle.std.specs.Prelude.{Option, Some, None, is_some}
use Rattle.command_ledger.specs.State.{State, Entry, after_entry, follows}
use Rattle.command_ledger.specs.Entries.{entry_in, entry_len}

abbrev pub following : State → Option Entry → Option Entry
following s None = None
following s (Some e) = if follows s e then Some e else None

-- the next entry
abbrev pub next_entry : State → List ℕ → Option Entry
next_entry s octets =
    if entry_len octets == 0 then None else following s (entry_in (take (entry_len octets) octets))

abbrev pub next_len : State → List ℕ → ℕ
next_len s octets = if is_some (next_entry s octets) then entry_len octets else 0

abbrev pub after_some : State → Option Entry → State
after_some s None = s
after_some s (Some e) = after_entry s e

-- the state after the entries, and how many octets they have
pub record Reading : Type 0 where
  pub state : State
  pub good : ℕ

abbrev pub reading : State → ℕ → Reading
reading s good = record { state = s; good = good }

-- continues the reading, for at most this many entries
abbrev pub read_on : (most : ℕ) → Reading → List ℕ → Reading
read_on zero r octets = r
read_on (suc n) r octets =
    let rest = drop r.good octets in
    if next_len r.state rest == 0 then r
    else read_on n
    (reading (after_some r.state (next_entry r.state rest)) (r.good + next_len r.state rest)) octets
