-- A write that is cut off, in a memory that takes octets in order: the octets already written are
-- new, and the rest are old. A place contains the record twice, so one of the two is whole.
use Rattle.std.specs.Prelude.{◌≡◌, ◌⊎◌, ℕ, List, ◌++◌, take, drop, replicate}
use Rattle.command_log.specs.declared.record.Record.{Record}
use Rattle.command_log.specs.Layout.{place_octets, IsInRange}

-- the octets after a write that was cut off after this many octets
abbrev pub torn : ℕ → List ℕ → List ℕ → List ℕ
torn done old new = take done new ++ drop done old

-- the place contains the old record, the new one or no record
abbrev pub EachTornIsOneOfBoth : Type 0
EachTornIsOneOfBoth =
    (old new kept : Record) (done : ℕ) → IsInRange old → IsInRange new → IsInRange kept
    → torn done (place_octets old) (place_octets new) ≡ place_octets kept
    → (kept ≡ old) ⊎ (kept ≡ new)

-- erased memory, all zeros or all ones, does not spell a record
abbrev pub EachErasedIsNone : Type 0
EachErasedIsNone =
    (kept : Record) → (place_octets kept ≡ replicate 50 0
    → ⊥) × (place_octets kept ≡ replicate 50 255 → ⊥)
