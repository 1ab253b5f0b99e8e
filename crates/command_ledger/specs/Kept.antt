-- A store is read as it was written, and an entry that was cut off is left out.
use Rattle.std.specs.Prelude.{◌≡◌, ⊤, ℕ, ◌<◌, ◌^◌, List, [], ◌∷◌, ◌++◌, length, take, true}
use Rattle.std.specs.Prelude.{Option, Some, None}
use Rattle.command_log.specs.Layout.{IsInRange}
use Rattle.command_ledger.specs.declared.known.Standing.{Standing}
use Rattle.command_ledger.specs.declared.known.Rebuild.{Rebuild}
use Rattle.command_ledger.specs.State.{State, Entry, Gives, Hears, Loses, Rebuilds, Tells, Stands}
use Rattle.command_ledger.specs.State.{new_state, after_entry, follows}
use Rattle.command_ledger.specs.Entries.{spelling, IsShort}
use Rattle.command_ledger.specs.Store.{reading, read_on}

pub record IsRebuild (o : Rebuild) : Type 0 where
  pub mark : o.mark < 2 ^ 32
  pub boot : o.boot < 2 ^ 32
  pub last : o.last < 2 ^ 32

abbrev pub IsMark : Option ℕ → Type 0
IsMark None = ⊤
IsMark (Some mark) = mark < 2 ^ 32

abbrev pub IsOrder : Option Rebuild → Type 0
IsOrder None = ⊤
IsOrder (Some o) = IsRebuild o

pub record IsStanding (s : Standing) : Type 0 where
  pub below : s.below < 2 ^ 32
  pub board : IsInRange s.board
  pub doubt : s.doubt < 2 ^ 32
  pub mark : IsMark s.mark
  pub order : IsOrder s.order

-- each field fits into its octets
abbrev pub IsFitting : Entry → Type 0
IsFitting (Gives tag on_map packet) = (tag < 2 ^ 64) × IsShort (Gives tag on_map packet)
IsFitting (Hears kept) = IsInRange kept
IsFitting (Loses mark) = mark < 2 ^ 32
IsFitting (Rebuilds order) = IsRebuild order
IsFitting Tells = ⊤
IsFitting (Stands standing) = IsStanding standing

-- entries, each of which fits and may follow those before it
abbrev pub AreEntries : State → List Entry → Type 0
AreEntries s [] = ⊤
AreEntries s (e ∷ es) = (follows s e ≡ true) × IsFitting e × AreEntries (after_entry s e) es

abbrev pub after_entries : State → List Entry → State
after_entries s [] = s
after_entries s (e ∷ es) = after_entries (after_entry s e) es

-- the octets of a store with these entries
abbrev pub store_octets : List Entry → List ℕ
store_octets [] = []
store_octets (e ∷ es) = spelling e ++ store_octets es

-- an entry that was cut off: the first n of its octets, and not all
pub record IsCutOff (octets : List ℕ) : Type 0 where
  pub entry : Entry
  pub fits : IsFitting entry
  pub n : ℕ
  pub few : n < length (spelling entry)
  pub same : octets ≡ take n (spelling entry)

-- A store is read as the state after its entries, and the octets of an entry that was cut off are
-- not good.
abbrev pub EachStoreIsRead : Type 0
EachStoreIsRead =
    (es : List Entry) (rest : List ℕ) → AreEntries new_state es → IsCutOff rest
    → let octets = store_octets es ++ rest in
    read_on (length octets) (reading new_state 0) octets
    ≡ reading (after_entries new_state es) (length (store_octets es))
