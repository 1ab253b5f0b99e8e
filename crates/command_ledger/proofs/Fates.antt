-- What is reported of a command comes from a record.
use Rattle.std.proofs.Common.{◌≡◌, ℕ, zero, suc, ◌+◌, ◌-◌, ◌<◌, ◌≤◌, min, max, inl, inr, List, [], ◌∷◌, ◌++◌}
use Rattle.std.proofs.Common.{Some, None, refl, subst, arith, eqb-true, ltb-true, Bool, true, false}
use Rattle.std.proofs.lemmas.Bool.{leb-true}
use Rattle.std.specs.Prelude.{◌⊎◌, ◌^◌, ◌&&◌, ◌==◌, nat_lt, nat_le, if◌then◌else◌, slice_get, take, drop, length}
use Rattle.std.specs.Prelude.{option_to_list}
use Rattle.std.specs.Int.{bit_at}
use Rattle.command_log.specs.declared.record.Record.{Record}
use Rattle.command_log.specs.Board.{IsAmong, IsKnown}
use Rattle.command_ledger.specs.declared.known.Standing.{Standing}
use Rattle.command_ledger.specs.declared.state.Tell.{Tell}
use Rattle.command_ledger.specs.declared.state.Tell.TheVariants.{Executed, Unknown, Restarted, RecordLost, Foreign}
use Rattle.command_ledger.specs.Waiting.{Waiting}
use Rattle.command_ledger.specs.Known.{reach, is_marked, obeyed}
use Rattle.command_ledger.specs.State.{State, Entry, Gives, Hears, Loses, Rebuilds, Tells, Stands, agrees, after_entry}
use Rattle.command_ledger.specs.State.{fates, passed, doubt_after, foreign, restarted, heard}
use Rattle.command_ledger.specs.Fates.{IsWaiting, IsSaid, IsPassed, IsHeard, EachFateIsSaid}

both : (a b : Bool) → (a && b) ≡ true → (a ≡ true) × (b ≡ true)
both true b e = (refl, e)
both false b e = absurd cc

-- a command among those that are reported
pub record IsTold (kept : Record) (doubt n : ℕ) (cs : List Waiting) (tag : ℕ) (as_executed : Bool) : Type 0 where
  pub place : ℕ
  pub command : Waiting
  pub there : slice_get cs place ≡ Some command
  pub tagged : command.tag ≡ tag
  pub why : as_executed ≡ true → (doubt < n + place) × (is_marked kept (n + place) ≡ true)

later : (kept : Record) (doubt n : ℕ) (c : Waiting) (cs : List Waiting) (tag : ℕ) (executed : Bool)
    → IsTold kept doubt (n + 1) cs tag executed → IsTold kept doubt n (c ∷ cs) tag executed
later kept doubt n c cs tag executed h =
    let same : n + 1 + h.place ≡ n + suc h.place = omega arith in
    record {
      place = suc h.place;
      command = h.command;
      there = h.there;
      tagged = h.tagged;
      why = λ t. subst (λ (m : ℕ). (doubt < m) × (is_marked kept m ≡ true)) same (h.why t);
    }

marked : (b : Bool) (tag t : ℕ) → Executed tag ≡ (if b then Executed t else Unknown t) → (b ≡ true) × (t ≡ tag)
marked true tag t e = (refl, cc)
marked false tag t e = absurd cc

unmarked : (b : Bool) (tag t : ℕ) → Unknown tag ≡ (if b then Executed t else Unknown t) → t ≡ tag
unmarked true tag t e = absurd cc
unmarked false tag t e = cc

told_executed : (kept : Record) (doubt n : ℕ) (cs : List Waiting) (tag : ℕ)
    → IsAmong (Executed tag) (fates kept doubt n cs) → IsTold kept doubt n cs tag true
told_executed kept doubt n [] tag h = absurd h
told_executed kept doubt n (c ∷ cs) tag (inr h) =
    later kept doubt n c cs tag true (told_executed kept doubt (n + 1) cs tag h)
told_executed kept doubt n (c ∷ cs) tag (inl e) =
    let m = marked (nat_lt doubt n && is_marked kept n) tag c.tag e in
    let b = both (nat_lt doubt n) (is_marked kept n) m.0 in
    let same : n ≡ n + 0 = omega arith in
    record {
      place = 0;
      command = c;
      there = refl;
      tagged = m.1;
      why = λ t. subst (λ (k : ℕ). (doubt < k) × (is_marked kept k ≡ true)) same (ltb-true doubt n b.0, b.1);
    }

told_unknown : (kept : Record) (doubt n : ℕ) (cs : List Waiting) (tag : ℕ)
    → IsAmong (Unknown tag) (fates kept doubt n cs) → IsTold kept doubt n cs tag false
told_unknown kept doubt n [] tag h = absurd h
told_unknown kept doubt n (c ∷ cs) tag (inr h) =
    later kept doubt n c cs tag false (told_unknown kept doubt (n + 1) cs tag h)
told_unknown kept doubt n (c ∷ cs) tag (inl e) =
    record {
      place = 0;
      command = c;
      there = refl;
      tagged = unmarked (nat_lt doubt n && is_marked kept n) tag c.tag e;
      why = λ t. absurd cc;
    }

-- a command among the first n is among all commands, and its index is below n
get_take : (n : ℕ) (cs : List Waiting) (i : ℕ) (c : Waiting) → slice_get (take n cs) i ≡ Some c
    → (slice_get cs i ≡ Some c) × (i < n)
get_take zero [] i c e = absurd cc
get_take zero (x ∷ cs) i c e = absurd cc
get_take (suc n) [] i c e = absurd cc
get_take (suc n) (x ∷ cs) zero c e = (e, omega arith)
get_take (suc n) (x ∷ cs) (suc i) c e = let r = get_take n cs i c e in (r.0, omega (arith, r.1))

among_both : (t : Tell) (xs ys : List Tell) → IsAmong t (xs ++ ys) → IsAmong t xs ⊎ IsAmong t ys
among_both t [] ys h = inr h
among_both t (x ∷ xs) ys (inl e) = inl (inl e)
among_both t (x ∷ xs) ys (inr h) =
    elim (among_both t xs ys h) as (λ _. IsAmong t (x ∷ xs) ⊎ IsAmong t ys) [
      | inl there ↦ inl (inr there)
      | inr there ↦ inr there
    ]

-- the reports before the fates are not fates
not_first : (t x : Tell) (b : Bool) (ts : List Tell) → (t ≡ x → ⊥)
    → IsAmong t (option_to_list (if b then None else Some x) ++ ts) → IsAmong t ts
not_first t x true ts other h = h
not_first t x false ts other (inl e) = absurd (other e)
not_first t x false ts other (inr h) = h

reached : (doubt : ℕ) (kept : Record) (begun : Bool) (n : ℕ) → kept.last < 2 ^ 32 → n ≤ kept.last
    → max doubt (if begun then min (kept.last + 1) 4294967295 else kept.last) < n → ⊥
reached doubt kept true n range low above = omega arith
reached doubt kept false n range low above = omega arith

-- a record that does not agree leaves all numbers up to its last one in doubt
must_agree : (agree : Bool) (known : Standing) (kept : Record) (n : ℕ) → kept.last < 2 ^ 32 → n ≤ kept.last
    → doubt_after agree known kept < n → agree ≡ true
must_agree true known kept n range low above = refl
must_agree false known kept n range low above = absurd (reached known.doubt kept kept.begun n range low above)

known_of : (kept : Record) (n : ℕ) → 0 < n → is_marked kept n ≡ true → IsKnown kept n
known_of kept n some e =
    let b = both (nat_le n kept.last) (nat_lt (kept.last - n) 64 && (bit_at kept.known (kept.last - n) == 1)) e in
    let d = both (nat_lt (kept.last - n) 64) (bit_at kept.known (kept.last - n) == 1) b.1 in
    (some, leb-true n kept.last b.0, eqb-true (bit_at kept.known (kept.last - n)) 1 d.1)

heard_executed : (s : State) (known : Standing) (kept : Record) (agree : Bool) (tag : ℕ) → kept.last < 2 ^ 32
    → IsAmong (Executed tag) (heard s known kept agree).tells
    → IsAmong (Executed tag) s.tells
    ⊎ ((place : ℕ) × IsWaiting s place tag × IsKnown kept (s.standing.below + 1 + place) × (agree ≡ true))
heard_executed s known kept agree tag range h =
    let count = passed s.standing.below (length s.commands) kept in
    let doubt = doubt_after agree known kept in
    let told = fates kept doubt (s.standing.below + 1) (take count s.commands) in
    let some = option_to_list (foreign agree known.board kept) ++ told in
    elim (among_both (Executed tag) s.tells (option_to_list (restarted s.standing.board kept) ++ some) h) as (λ _.
    IsAmong (Executed tag) s.tells
    ⊎ ((place : ℕ) × IsWaiting s place tag × IsKnown kept (s.standing.below + 1 + place) × (agree ≡ true))) [
      | inl before ↦ inl before
      | inr new ↦
          let same = s.standing.board.boot == kept.boot in
          let one = not_first (Executed tag) (Restarted kept.boot) same some (λ e. cc) new in
          let first = min (reach known.board + 1) 4294967295 in
          let two = not_first (Executed tag) (Foreign first (reach kept)) agree told (λ e. cc) one in
          let t = told_executed kept doubt (s.standing.below + 1) (take count s.commands) tag two in
          let there = get_take count s.commands t.place t.command t.there in
          let n : ℕ = s.standing.below + 1 + t.place in
          let some : 0 < n = omega arith in
          let why = t.why refl in
          let is : IsKnown kept n = known_of kept n some why.1 in
          inr (
            t.place,
            record { command = t.command; there = there.0; tagged = t.tagged },
            is,
            must_agree agree known kept n range is.1 why.0,
          )
    ]

heard_unknown : (s : State) (known : Standing) (kept : Record) (agree : Bool) (tag : ℕ)
    → IsAmong (Unknown tag) (heard s known kept agree).tells → IsAmong (Unknown tag) s.tells ⊎ IsPassed s kept tag
heard_unknown s known kept agree tag h =
    let count = passed s.standing.below (length s.commands) kept in
    let doubt = doubt_after agree known kept in
    let told = fates kept doubt (s.standing.below + 1) (take count s.commands) in
    let some = option_to_list (foreign agree known.board kept) ++ told in
    elim (among_both (Unknown tag) s.tells (option_to_list (restarted s.standing.board kept) ++ some) h) as (λ _.
    IsAmong (Unknown tag) s.tells ⊎ IsPassed s kept tag) [
      | inl before ↦ inl before
      | inr new ↦
          let same = s.standing.board.boot == kept.boot in
          let one = not_first (Unknown tag) (Restarted kept.boot) same some (λ e. cc) new in
          let first = min (reach known.board + 1) 4294967295 in
          let two = not_first (Unknown tag) (Foreign first (reach kept)) agree told (λ e. cc) one in
          let t = told_unknown kept doubt (s.standing.below + 1) (take count s.commands) tag two in
          let there = get_take count s.commands t.place t.command t.there in
          let few : t.place < min (kept.last - s.standing.below) (length s.commands) = there.1 in
          inr (record {
            place = t.place;
            waits = record { command = t.command; there = there.0; tagged = t.tagged };
            passed = omega arith;
          })
    ]

among_rest : (t : Tell) (xs : List Tell) → IsAmong t (drop 1 xs) → IsAmong t xs
among_rest t [] h = h
among_rest t (x ∷ xs) h = inr h

executed : (s : State) (e : Entry) (tag : ℕ) → ((kept : Record) → e ≡ Hears kept → kept.last < 2 ^ 32)
    → IsAmong (Executed tag) (after_entry s e).tells → IsAmong (Executed tag) s.tells ⊎ IsHeard IsSaid s e tag
executed s (Gives t m packet) tag range h = inl h
executed s (Rebuilds order) tag range h = inl h
executed s Tells tag range h = inl (among_rest (Executed tag) s.tells h)
executed s (Stands standing) tag range h = absurd h
executed s (Loses mark) tag range h =
    elim (among_both (Executed tag) s.tells (RecordLost mark ∷ []) h) as (λ _.
    IsAmong (Executed tag) s.tells ⊎ IsHeard IsSaid s (Loses mark) tag) [
      | inl before ↦ inl before
      | inr new ↦ absurd (not_first (Executed tag) (RecordLost mark) false [] (λ e. cc) new)
    ]
executed s (Hears kept) tag range h =
    let known = obeyed s.standing kept in
    let agree = agrees s.standing.below s.commands known.board kept in
    elim (heard_executed s known kept agree tag (range kept refl) h) as (λ _.
    IsAmong (Executed tag) s.tells ⊎ IsHeard IsSaid s (Hears kept) tag) [
      | inl before ↦ inl before
      | inr is ↦ inr (kept, refl, record { place = is.0; waits = is.1; known = is.2; agree = is.3 })
    ]

unknown : (s : State) (e : Entry) (tag : ℕ) → IsAmong (Unknown tag) (after_entry s e).tells
    → IsAmong (Unknown tag) s.tells ⊎ IsHeard IsPassed s e tag
unknown s (Gives t m packet) tag h = inl h
unknown s (Rebuilds order) tag h = inl h
unknown s Tells tag h = inl (among_rest (Unknown tag) s.tells h)
unknown s (Stands standing) tag h = absurd h
unknown s (Loses mark) tag h =
    elim (among_both (Unknown tag) s.tells (RecordLost mark ∷ []) h) as (λ _.
    IsAmong (Unknown tag) s.tells ⊎ IsHeard IsPassed s (Loses mark) tag) [
      | inl before ↦ inl before
      | inr new ↦ absurd (not_first (Unknown tag) (RecordLost mark) false [] (λ e. cc) new)
    ]
unknown s (Hears kept) tag h =
    let known = obeyed s.standing kept in
    let agree = agrees s.standing.below s.commands known.board kept in
    elim (heard_unknown s known kept agree tag h) as (λ _.
    IsAmong (Unknown tag) s.tells ⊎ IsHeard IsPassed s (Hears kept) tag) [
      | inl before ↦ inl before
      | inr is ↦ inr (kept, refl, is)
    ]

pub each_fate : EachFateIsSaid
each_fate s e tag range = (executed s e tag range, unknown s e tag)
