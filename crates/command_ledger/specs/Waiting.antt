-- A command without a fate.
use Rattle.std.specs.Prelude.{ℕ, ◌≤◌, List, length}
use Rattle.std.specs.Borrow.{Bor}
use Rattle.command_ledger.specs.declared.given.Given.TheInside.{Inside}

pub record Waiting : Type 0 where
  pub tag : ℕ
  pub on_map : ℕ
  pub packet : List ℕ

abbrev pub waiting : (tag on_map : ℕ) → List ℕ → Waiting
waiting tag on_map packet = record { tag = tag; on_map = on_map; packet = packet }

-- the command that the fields represent
abbrev pub waiting_of : Inside → Waiting
waiting_of c = waiting c.tag c.map c.packet.items

-- no packet is longer
abbrev pub IsShort : Inside → Type 0
IsShort c = length c.packet.items ≤ 65542

-- its MAP and its packet; then the same, lent
abbrev pub sent_as : Waiting → ℕ × List ℕ
sent_as c = (c.on_map, c.packet)

abbrev pub goes_up : ℕ × Bor (List ℕ) → ℕ × List ℕ
goes_up p = (p.0, p.1.now)
