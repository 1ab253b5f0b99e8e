-- What holds of each record of a board, at its places and in the executor.
use Rattle.std.proofs.Common.{◌≡◌, ℕ, ◌+◌, ◌<◌, ◌≤◌, min, List, Bool, true, false, Option, Some, None, Result}
use Rattle.std.proofs.Common.{Ok, Err, refl, arith, IfSome}
use Rattle.std.specs.Prelude.{⊤, ◌^◌, nat_eq}
use Rattle.std.proofs.lemmas.Bool.{cond_both}
use Rattle.command_log.specs.declared.record.Record.{Record}
use Rattle.command_log.specs.declared.executor.Place.TheVariants.{First, Second}
use Rattle.command_log.specs.declared.executor.Stage.{Stage}
use Rattle.command_log.specs.declared.executor.Stage.TheVariants.{Lost, RepairsFirst, RepairsSecond, WritesFirst}
use Rattle.command_log.specs.declared.executor.Stage.TheVariants.{WritesSecond, Executes, Rests, Ordered}
use Rattle.command_log.specs.declared.fault.LogFault.{LogFault}
use Rattle.command_log.specs.declared.status.Status.{Status}
use Rattle.command_log.specs.declared.status.Status.TheVariants.{Says, Changes, Starts}
use Rattle.command_log.specs.declared.status.Status.TheVariants as statuses
use Rattle.command_log.specs.declared.packets.Order.{Order}
use Rattle.command_log.specs.declared.packets.Order.TheVariants.{Rebuild}
use Rattle.command_log.specs.declared.packets.Order.TheVariants as orders
use Rattle.command_log.specs.Check.{check_after}
use Rattle.command_log.specs.Layout.{IsInRange}
use Rattle.command_log.specs.Status.{IsStatusInRange}
use Rattle.command_log.specs.Packets.{order_at}
use Rattle.command_log.specs.Record.{no_commands, begun, passed, passed_if_begun, counted, after_start}
use Rattle.command_log.specs.History.{check_octets}
use Rattle.command_log.specs.Executor.{ExecutorState, at_stage, start, action_at, after_action, after_writes}
use Rattle.command_log.specs.Executor.{is_at_rest, is_taken, is_obeyed, obey_any, status_at}
use Rattle.command_log.specs.Board.{Board, Event, Offers, Orders, Acts, Restarts, BreaksOff, Spoils, board_step}
use Rattle.command_log.specs.Board.{after_doing, after_break}
use Rattle.command_log.proofs.Steps.{HasNoOther, both, taken_parts}
use Rattle.command_ledger.specs.Known.{reach}

-- the record of the executor at each stage; the mark, if the record is lost
abbrev pub RecordsAt : (Record → Type 0) → (ℕ → Type 0) → Record → Stage → Type 0
RecordsAt P M kept (Lost mark) = M mark
RecordsAt P M kept RepairsFirst = P kept
RecordsAt P M kept RepairsSecond = P kept
RecordsAt P M kept WritesFirst = P kept
RecordsAt P M kept WritesSecond = P kept
RecordsAt P M kept Executes = P kept × (kept.begun ≡ true)
RecordsAt P M kept Rests = P kept × (kept.begun ≡ false)
RecordsAt P M kept Ordered = P kept

-- the places contain no other record than this one once it is written
abbrev pub SameAt : (one two : Option Record) → Record → Stage → Type 0
SameAt one two kept (Lost mark) = ⊤
SameAt one two kept RepairsFirst = ⊤
SameAt one two kept RepairsSecond = ⊤
SameAt one two kept WritesFirst = ⊤
SameAt one two kept WritesSecond = HasNoOther one kept
SameAt one two kept Executes = HasNoOther one kept × HasNoOther two kept
SameAt one two kept Rests = HasNoOther one kept × HasNoOther two kept
SameAt one two kept Ordered = HasNoOther one kept × HasNoOther two kept

pub record HasRecords (P : Record → Type 0) (M : ℕ → Type 0) (b : Board) : Type 0 where
  pub first : IfSome b.first P
  pub second : IfSome b.second P
  pub now : RecordsAt P M b.executor.kept b.executor.stage
  pub same : SameAt b.first b.second b.executor.kept b.executor.stage

-- what an event must keep
abbrev pub KeepsOrder : (Record → Type 0) → ExecutorState → Result Order LogFault → Type 0
KeepsOrder P s (Err e) = ⊤
KeepsOrder P s (Ok (orders.Restart boot)) = ⊤
KeepsOrder P s (Ok (Rebuild mark boot last)) =
    is_obeyed s (Rebuild mark boot last) ≡ true → P (no_commands boot last)

abbrev pub Keeps : (Record → Type 0) → (ℕ → Type 0) → Board → Event → Type 0
Keeps P M b (Offers octets) =
    is_taken b.executor octets ≡ true → b.executor.kept.begun ≡ false → P b.executor.kept
    → P (begun b.executor.kept octets)
Keeps P M b (Orders octets) = KeepsOrder P b.executor (order_at octets)
Keeps P M b Acts =
    (P b.executor.kept → P (after_start b.executor.kept))
    × (b.executor.kept.begun ≡ true → P b.executor.kept → P (passed b.executor.kept 1))
Keeps P M b (Restarts mark) = M mark
Keeps P M b (BreaksOff mark) = M mark
Keeps P M b (Spoils place) = ⊤

at_rest : (P : Record → Type 0) (M : ℕ → Type 0) (kept : Record) (stage : Stage) → is_at_rest stage ≡ true
    → RecordsAt P M kept stage → P kept × (kept.begun ≡ false)
at_rest P M kept Rests e is = is
at_rest P M kept Ordered e is = absurd cc
at_rest P M kept (Lost mark) e is = absurd cc
at_rest P M kept RepairsFirst e is = absurd cc
at_rest P M kept RepairsSecond e is = absurd cc
at_rest P M kept WritesFirst e is = absurd cc
at_rest P M kept WritesSecond e is = absurd cc
at_rest P M kept Executes e is = absurd cc

started : (P : Record → Type 0) (M : ℕ → Type 0) (one two : Option Record) (mark : ℕ) → IfSome one P → IfSome two P
    → M mark → RecordsAt P M (start one two mark).kept (start one two mark).stage
started P M (Some first) two mark f s m = f
started P M None (Some second) mark f s m = s
started P M None None mark f s m = m

written : (P : Record → Type 0) (M : ℕ → Type 0) (kept : Record) (flag : Bool) → kept.begun ≡ flag → P kept
    → RecordsAt P M (after_writes kept flag).kept (after_writes kept flag).stage
written P M kept true e is = (is, e)
written P M kept false e is = (is, e)

written_same : (one : Option Record) (kept : Record) (flag : Bool) → HasNoOther one kept
    → SameAt one (Some kept) (after_writes kept flag).kept (after_writes kept flag).stage
written_same one kept true only = (only, refl)
written_same one kept false only = (only, refl)

started_same : (one two : Option Record) (mark : ℕ)
    → SameAt one two (start one two mark).kept (start one two mark).stage
started_same (Some first) two mark = tt
started_same None (Some second) mark = tt
started_same None None mark = tt

ordered_same : (one two : Option Record) (kept : Record) (stage : Stage) → is_at_rest stage ≡ true
    → SameAt one two kept stage → SameAt one two kept Ordered
ordered_same one two kept Rests e is = is
ordered_same one two kept Ordered e is = absurd cc
ordered_same one two kept (Lost mark) e is = absurd cc
ordered_same one two kept RepairsFirst e is = absurd cc
ordered_same one two kept RepairsSecond e is = absurd cc
ordered_same one two kept WritesFirst e is = absurd cc
ordered_same one two kept WritesSecond e is = absurd cc
ordered_same one two kept Executes e is = absurd cc

obeyed_same : (one two : Option Record) (s : ExecutorState) (read : Result Order LogFault)
    → SameAt one two s.kept s.stage → SameAt one two (obey_any s read).kept (obey_any s read).stage
obeyed_same one two s (Err e) is = is
obeyed_same one two s (Ok (orders.Restart boot)) is =
    cond_both (is_obeyed s (orders.Restart boot)) (at_stage s.kept Ordered) s
    (λ (after : ExecutorState). SameAt one two after.kept after.stage)
    (λ t. ordered_same one two s.kept s.stage (both (is_at_rest s.stage) (nat_eq boot s.kept.boot) t).0 is) (λ f. is)
obeyed_same one two s (Ok (Rebuild mark boot last)) is =
    cond_both (is_obeyed s (Rebuild mark boot last)) (at_stage (no_commands boot last) WritesFirst) s
    (λ (after : ExecutorState). SameAt one two after.kept after.stage) (λ t. tt) (λ f. is)

-- a copy is spoiled
spoiled_same : (one two : Option Record) (kept : Record) (stage : Stage) → SameAt one two kept stage
    → SameAt None two kept stage × SameAt one None kept stage
spoiled_same one two kept (Lost mark) is = (tt, tt)
spoiled_same one two kept RepairsFirst is = (tt, tt)
spoiled_same one two kept RepairsSecond is = (tt, tt)
spoiled_same one two kept WritesFirst is = (tt, tt)
spoiled_same one two kept WritesSecond is = (tt, is)
spoiled_same one two kept Executes is = ((tt, is.1), (is.0, tt))
spoiled_same one two kept Rests is = ((tt, is.1), (is.0, tt))
spoiled_same one two kept Ordered is = ((tt, is.1), (is.0, tt))

done : (P : Record → Type 0) (M : ℕ → Type 0) (b : Board) (kept : Record) (stage : Stage)
    → (P kept → P (after_start kept)) → (kept.begun ≡ true → P kept → P (passed kept 1)) → IfSome b.first P
    → IfSome b.second P → RecordsAt P M kept stage → SameAt b.first b.second kept stage
    → HasRecords P M (record (after_doing b (action_at kept stage)) { executor = after_action kept stage })
done P M b kept (Lost mark) s x f g is same = record { first = f; second = g; now = is; same = tt }
done P M b kept RepairsFirst s x f g is same = record { first = is; second = g; now = s is; same = tt }
done P M b kept RepairsSecond s x f g is same = record { first = f; second = is; now = s is; same = tt }
done P M b kept WritesFirst s x f g is same = record { first = is; second = g; now = is; same = refl }
done P M b kept WritesSecond s x f g is same =
    record {
      first = f;
      second = is;
      now = written P M kept kept.begun refl is;
      same = written_same b.first kept kept.begun same;
    }
done P M b kept Executes s x f g is same = record { first = f; second = g; now = x is.1 is.0; same = tt }
done P M b kept Rests s x f g is same = record { first = f; second = g; now = is; same = same }
done P M b kept Ordered s x f g is same = record { first = f; second = g; now = is; same = same }

broken : (P : Record → Type 0) (b : Board) (kept : Record) (stage : Stage) → IfSome b.first P → IfSome b.second P
    → IfSome (after_break b (action_at kept stage)).first P × IfSome (after_break b (action_at kept stage)).second P
broken P b kept (Lost mark) f g = (f, g)
broken P b kept Rests f g = (f, g)
broken P b kept Ordered f g = (f, g)
broken P b kept Executes f g = (f, g)
broken P b kept RepairsFirst f g = (tt, g)
broken P b kept RepairsSecond f g = (f, tt)
broken P b kept WritesFirst f g = (tt, g)
broken P b kept WritesSecond f g = (f, tt)

obeyed : (P : Record → Type 0) (M : ℕ → Type 0) (s : ExecutorState) (read : Result Order LogFault)
    → KeepsOrder P s read → RecordsAt P M s.kept s.stage
    → RecordsAt P M (obey_any s read).kept (obey_any s read).stage
obeyed P M s (Err e) keeps is = is
obeyed P M s (Ok (orders.Restart boot)) keeps is =
    cond_both (is_obeyed s (orders.Restart boot)) (at_stage s.kept Ordered) s
    (λ (after : ExecutorState). RecordsAt P M after.kept after.stage)
    (λ t. (at_rest P M s.kept s.stage (both (is_at_rest s.stage) (nat_eq boot s.kept.boot) t).0 is).0) (λ f. is)
obeyed P M s (Ok (Rebuild mark boot last)) keeps is =
    cond_both (is_obeyed s (Rebuild mark boot last)) (at_stage (no_commands boot last) WritesFirst) s
    (λ (after : ExecutorState). RecordsAt P M after.kept after.stage) (λ t. keeps t) (λ f. is)

pub records_step : (P : Record → Type 0) (M : ℕ → Type 0) (b : Board) (event : Event) → Keeps P M b event
    → HasRecords P M b → HasRecords P M (board_step b event)
records_step P M b (Offers octets) keeps h =
    record {
      first = h.first;
      second = h.second;
      now =
          cond_both (is_taken b.executor octets) (at_stage (begun b.executor.kept octets) WritesFirst) b.executor
          (λ (after : ExecutorState). RecordsAt P M after.kept after.stage)
          (λ t.
          let before = at_rest P M b.executor.kept b.executor.stage (taken_parts b.executor octets t).1 h.now in
          keeps t before.1 before.0)
          (λ f. h.now);
      same =
          cond_both (is_taken b.executor octets) (at_stage (begun b.executor.kept octets) WritesFirst) b.executor
          (λ (after : ExecutorState). SameAt b.first b.second after.kept after.stage) (λ t. tt) (λ f. h.same);
    }
records_step P M b (Orders octets) keeps h =
    record {
      first = h.first;
      second = h.second;
      now = obeyed P M b.executor (order_at octets) keeps h.now;
      same = obeyed_same b.first b.second b.executor (order_at octets) h.same;
    }
records_step P M b Acts keeps h =
    done P M b b.executor.kept b.executor.stage keeps.0 keeps.1 h.first h.second h.now h.same
records_step P M b (Restarts mark) keeps h =
    record {
      first = h.first;
      second = h.second;
      now = started P M b.first b.second mark h.first h.second keeps;
      same = started_same b.first b.second mark;
    }
records_step P M b (BreaksOff mark) keeps h =
    let after = after_break b (action_at b.executor.kept b.executor.stage) in
    let both_so = broken P b b.executor.kept b.executor.stage h.first h.second in
    record {
      first = both_so.0;
      second = both_so.1;
      now = started P M after.first after.second mark both_so.0 both_so.1 keeps;
      same = started_same after.first after.second mark;
    }
records_step P M b (Spoils First) keeps h =
    record {
      first = tt;
      second = h.second;
      now = h.now;
      same = (spoiled_same b.first b.second b.executor.kept b.executor.stage h.same).0;
    }
records_step P M b (Spoils Second) keeps h =
    record {
      first = h.first;
      second = tt;
      now = h.now;
      same = (spoiled_same b.first b.second b.executor.kept b.executor.stage h.same).1;
    }

if_more : (P Q : Record → Type 0) → ((r : Record) → P r → Q r) → (place : Option Record) → IfSome place P
    → IfSome place Q
if_more P Q f None is = tt
if_more P Q f (Some r) is = f r is

at_more : (P Q : Record → Type 0) (M : ℕ → Type 0) → ((r : Record) → P r → Q r) → (kept : Record) (stage : Stage)
    → RecordsAt P M kept stage → RecordsAt Q M kept stage
at_more P Q M f kept (Lost mark) is = is
at_more P Q M f kept RepairsFirst is = f kept is
at_more P Q M f kept RepairsSecond is = f kept is
at_more P Q M f kept WritesFirst is = f kept is
at_more P Q M f kept WritesSecond is = f kept is
at_more P Q M f kept Executes is = (f kept is.0, is.1)
at_more P Q M f kept Rests is = (f kept is.0, is.1)
at_more P Q M f kept Ordered is = f kept is

pub records_more : (P Q : Record → Type 0) (M : ℕ → Type 0) (b : Board) → ((r : Record) → P r → Q r)
    → HasRecords P M b → HasRecords Q M b
records_more P Q M b f h =
    record {
      first = if_more P Q f b.first h.first;
      second = if_more P Q f b.second h.second;
      now = at_more P Q M f b.executor.kept b.executor.stage h.now;
      same = h.same;
    }

-- a status reports such a record, or such a mark
abbrev pub Reports : (Record → Type 0) → (ℕ → Type 0) → Status → Type 0
Reports P M (Says kept) = P kept
Reports P M Changes = ⊤
Reports P M Starts = ⊤
Reports P M (statuses.Lost mark) = M mark

pub reports : (P : Record → Type 0) (M : ℕ → Type 0) (kept : Record) (stage : Stage) → RecordsAt P M kept stage
    → Reports P M (status_at kept stage)
reports P M kept (Lost mark) is = is
reports P M kept RepairsFirst is = tt
reports P M kept RepairsSecond is = tt
reports P M kept WritesFirst is = tt
reports P M kept WritesSecond is = tt
reports P M kept Executes is = is.0
reports P M kept Rests is = is.0
reports P M kept Ordered is = is

-- ---- a record whose fields fit, and which reaches no number above the bound

pub record IsFit (bound : ℕ) (kept : Record) : Type 0 where
  pub range : IsInRange kept
  pub reach : reach kept ≤ bound
  pub room : kept.begun ≡ true → kept.last < 4294967295

pub fit_more : (a b : ℕ) → a ≤ b → (kept : Record) → IsFit a kept → IsFit b kept
fit_more a b low kept is = let up = is.reach in record { range = is.range; reach = omega arith; room = is.room }

pub reach_begun : (kept : Record) → kept.begun ≡ true → reach kept ≡ min (kept.last + 1) 4294967295
reach_begun kept e = rw e refl

pub reach_not_begun : (kept : Record) → kept.begun ≡ false → reach kept ≡ kept.last
reach_not_begun kept e = rw e refl

passed_range : (kept : Record) (bit : ℕ) → bit < 2 → IsInRange kept → IsInRange (passed kept bit)
passed_range kept bit small is =
    let a = is.boot in
    let b = is.history in
    record { boot = a; last = omega arith; known = omega arith; history = b }

pub fit_executed : (bound : ℕ) (kept : Record) → kept.begun ≡ true → IsFit bound kept → IsFit bound (passed kept 1)
fit_executed bound kept e is =
    let up = is.reach in
    let same = reach_begun kept e in
    record {
      range = passed_range kept 1 (omega arith) is.range;
      reach = omega (arith, up, same);
      room = λ t. absurd (cc t);
    }

pub fit_counted : (bound : ℕ) (kept : Record) → kept.begun ≡ false → IsFit bound kept → IsFit bound (counted kept)
fit_counted bound kept e is =
    let r = is.range in
    let up = is.reach in
    let same = reach_not_begun kept e in
    let after = reach_not_begun (counted kept) e in
    record {
      range = record { boot = omega arith; last = r.last; known = r.known; history = r.history };
      reach = omega (arith, up, same, after);
      room = λ t. absurd (cc (e, t));
    }

pub started_fit : (bound : ℕ) (kept : Record) (flag : Bool) → kept.begun ≡ flag → IsFit bound kept
    → IsFit bound (counted (passed_if_begun kept flag))
started_fit bound kept false e is = fit_counted bound kept e is
started_fit bound kept true e is =
    let up = is.reach in
    let same = reach_begun kept e in
    fit_counted bound (passed kept 0) refl
    (record {
      range = passed_range kept 0 (omega arith) is.range;
      reach = omega (arith, up, same);
      room = λ t. absurd (cc t);
    })

pub fit_started : (bound : ℕ) (kept : Record) → IsFit bound kept → IsFit bound (after_start kept)
fit_started bound kept is = started_fit bound kept kept.begun refl is

after_below : (check : ℕ) (octets : List ℕ) → check_after check octets < 2 ^ 32
unfolding check_after
after_below check octets = omega arith

pub fit_begun : (bound : ℕ) (kept : Record) (octets : List ℕ) → kept.last < 4294967295 → kept.last + 1 ≤ bound
    → IsFit bound kept → IsFit bound (begun kept octets)
fit_begun bound kept octets room low is =
    let r = is.range in
    let up = reach_begun (begun kept octets) refl in
    record {
      range =
          record {
            boot = r.boot;
            last = r.last;
            known = r.known;
            history = after_below kept.history (check_octets octets);
          };
      reach = omega (arith, up, low);
      room = λ t. room;
    }

pub fit_brought : (bound boot last : ℕ) → boot < 2 ^ 32 → last < 2 ^ 32 → last ≤ bound
    → IsFit bound (no_commands boot last)
fit_brought bound boot last b l low =
    record {
      range = record { boot = b; last = l; known = omega arith; history = omega arith };
      reach = low;
      room = λ t. absurd (cc t);
    }

-- a number up to the last is within the reach
pub last_reached : (bound : ℕ) (kept : Record) (flag : Bool) → kept.begun ≡ flag → IsFit bound kept → kept.last ≤ bound
last_reached bound kept true e is =
    let up = is.reach in
    let l = is.range.last in
    let same = reach_begun kept e in
    omega (arith, up, l, same)
last_reached bound kept false e is =
    let up = is.reach in
    let same = reach_not_begun kept e in
    omega (arith, up, same)

pub in_range : (status : Status) (bound : ℕ) → Reports (IsFit bound) (λ m. m < 2 ^ 32) status
    → IsStatusInRange status
in_range (Says kept) bound is = is.range
in_range Changes bound is = tt
in_range Starts bound is = tt
in_range (statuses.Lost mark) bound is = is
