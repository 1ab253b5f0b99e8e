-- No number is given twice, or after the board has reached it.
use Rattle.std.proofs.Common.{◌≡◌, ℕ, ◌+◌, ◌-◌, ◌≤◌, max, List, [], ◌∷◌, length}
use Rattle.std.proofs.Common.{Bool, true, false, refl, arith, eqb-true, ltb-true, length-append, length-drop}
use Rattle.std.proofs.lemmas.Bool.{ltb-false}
use Rattle.std.specs.Prelude.{◌&&◌, ◌==◌, nat_lt, nat_le, if◌then◌else◌}
use Rattle.std.specs.List.{AllByRecursion}
use Rattle.command_log.specs.Packets.{is_command, number_in}
use Rattle.command_log.specs.declared.record.Record.{Record}
use Rattle.command_log.proofs.Steps.{both}
use Rattle.command_ledger.specs.Known.{reach}
use Rattle.command_ledger.specs.State.{State, Entry, Gives, Hears, Loses, Rebuilds, Tells, Stands}
use Rattle.command_ledger.specs.State.{highest, after_entry, follows, passed, hears}
use Rattle.command_ledger.specs.Kept.{AreEntries}
use Rattle.command_ledger.specs.Numbers.{IsAppended, AreNew, EachNumberIsNew}

-- the highest number after a record, if it is above the board's reach or not
reached : (b : Bool) (below many count r : ℕ) → nat_lt (below + many) r ≡ b → count ≤ many
    → max (below + many) r ≤ (if b then r else below + count) + (many - count)
reached true below many count r e few = let above = ltb-true (below + many) r e in omega (arith, above, few)
reached false below many count r e few = let low = ltb-false (below + many) r e in omega (arith, low, few)

after_record : (s : State) (kept : Record) → max (highest s) (reach kept) ≤ highest (hears s kept)
after_record s kept =
    let many : ℕ = length s.commands in
    let count : ℕ = passed s.standing.below many kept in
    let few : count ≤ many = omega arith in
    let left = length-drop count s.commands in
    let below : ℕ = s.standing.below in
    let is = reached (nat_lt (below + many) (reach kept)) below many count (reach kept) refl few in
    omega (arith, is, left)

next_number : (s : State) (tag on_map : ℕ) (packet : List ℕ) → follows s (Gives tag on_map packet) ≡ true
    → number_in packet ≡ highest s + 1
next_number s tag on_map packet e =
    let rest = both (nat_lt (highest s) 4294967295)
    (nat_le (length packet) 65542 && (is_command packet && (number_in packet == highest s + 1))) e in
    let more = both (nat_le (length packet) 65542) (is_command packet && (number_in packet == highest s + 1)) rest.1 in
    let last = both (is_command packet) (number_in packet == highest s + 1) more.1 in
    eqb-true (number_in packet) (highest s + 1) last.1

are_new : (bound : ℕ) (s : State) (es : List Entry) → bound ≤ highest s → AllByRecursion IsAppended es → AreEntries s es
    → AreNew bound es
are_new bound s [] low all are = tt
are_new bound s (Gives tag on_map packet ∷ es) low all are =
    let number = next_number s tag on_map packet are.0 in
    let after = length-append s.commands (record { tag = tag; on_map = on_map; packet = packet } ∷ []) in (
      omega (arith, low, number),
      are_new (max bound (number_in packet)) (after_entry s (Gives tag on_map packet)) es
          (omega (arith, low, number, after)) all.1 are.2,
    )
are_new bound s (Hears kept ∷ es) low all are =
    (tt, are_new (max bound (reach kept)) (hears s kept) es (omega (arith, low, after_record s kept)) all.1 are.2)
are_new bound s (Loses mark ∷ es) low all are =
    (tt, are_new (max bound 0) (after_entry s (Loses mark)) es (omega (arith, low)) all.1 are.2)
are_new bound s (Rebuilds order ∷ es) low all are =
    (tt, are_new (max bound 0) (after_entry s (Rebuilds order)) es (omega (arith, low)) all.1 are.2)
are_new bound s (Tells ∷ es) low all are =
    (tt, are_new (max bound 0) (after_entry s Tells) es (omega (arith, low)) all.1 are.2)
are_new bound s (Stands standing ∷ es) low all are = absurd all.0

pub each_number : EachNumberIsNew
each_number s es all are = are_new (highest s) s es (omega arith) all are
