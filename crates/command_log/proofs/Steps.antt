-- An invariant of a board, which each event preserves.
use Rattle.std.proofs.Common.{◌≡◌, ℕ, ◌+◌, ◌<◌, inl, inr, min, List, [], ◌∷◌, Bool, true, false, Option, Some}
use Rattle.std.proofs.Common.{None}
use Rattle.std.proofs.Common.{refl, sym, ◌∙◌, arith, subst, IfSome, ltb-true, eqb-true, Result, Ok, Err}
use Rattle.std.specs.Prelude.{◌&&◌, ⊤, nat_lt, nat_eq}
use Rattle.std.proofs.lemmas.Bool.{cond_both}
use Rattle.command_log.specs.declared.record.Record.{Record}
use Rattle.command_log.specs.declared.executor.Place.TheVariants.{First, Second}
use Rattle.command_log.specs.declared.status.Status.TheVariants.{Says}
use Rattle.command_log.specs.declared.executor.Stage.{Stage}
use Rattle.command_log.specs.declared.executor.Stage.TheVariants.{Lost, RepairsFirst, RepairsSecond, WritesFirst}
use Rattle.command_log.specs.declared.executor.Stage.TheVariants.{WritesSecond, Executes, Rests, Ordered}
use Rattle.command_log.specs.Record.{no_commands, begun, passed, passed_if_begun, counted}
use Rattle.command_log.specs.Executor.{ExecutorState, at_stage, start, action_at, after_action, after_writes}
use Rattle.command_log.specs.Executor.{is_at_rest}
use Rattle.command_log.specs.declared.fault.LogFault.{LogFault}
use Rattle.command_log.specs.declared.packets.Order.{Order}
use Rattle.command_log.specs.declared.packets.Order.TheVariants.{Rebuild}
use Rattle.command_log.specs.declared.packets.Order.TheVariants as orders
use Rattle.command_log.specs.Packets.{is_command, number_in, order_at}
use Rattle.command_log.specs.Executor.{is_taken, is_obeyed, obey_any, status_at}
use Rattle.command_log.specs.Board.{Board, Event, Offers, Orders, Acts, Restarts, BreaksOff, Spoils, new_board}
use Rattle.command_log.specs.Board.{board_step, board_run}
use Rattle.command_log.specs.Board.{after_doing, after_break, AreBelow, IsAmong, IsKnown, IsTrueOf, IsSound, AreSound}
use Rattle.command_log.specs.Board.{IsCarriedOut, IsSoundOrder}
use Rattle.command_log.proofs.Numbers.{below_more, known_passed, none_known}

-- a record from which the board may start
pub record IsSafe (ns ws : List ℕ) (kept : Record) : Type 0 where
  pub is_true : IsTrueOf ns ws kept
  pub low : kept.begun ≡ true → kept.last < 4294967295

-- a record that may also be written, and whose begun command may then be executed
pub record IsReady (ns ws : List ℕ) (kept : Record) : Type 0 where
  pub safe : IsSafe ns ws kept
  pub below : AreBelow (kept.last + 1) ns

-- a place that is not spoiled contains this record
abbrev pub HasNoOther : Option Record → Record → Type 0
HasNoOther place kept = IfSome place (λ copy. copy ≡ kept)

-- what holds at each stage
abbrev pub AtStage : (ns ws : List ℕ) (one two : Option Record) → Record → Stage → Type 0
AtStage ns ws one two kept (Lost mark) = ⊤
AtStage ns ws one two kept RepairsFirst = IsSafe ns ws kept
AtStage ns ws one two kept RepairsSecond = IsSafe ns ws kept
AtStage ns ws one two kept WritesFirst = IsReady ns ws kept
AtStage ns ws one two kept WritesSecond = IsReady ns ws kept × HasNoOther one kept
AtStage ns ws one two kept Executes =
    IsReady ns ws kept × (kept.begun ≡ true) × HasNoOther one kept × HasNoOther two kept
AtStage ns ws one two kept Rests =
    IsReady ns ws kept × (kept.begun ≡ false) × HasNoOther one kept × HasNoOther two kept
AtStage ns ws one two kept Ordered =
    IsReady ns ws kept × (kept.begun ≡ false) × HasNoOther one kept × HasNoOther two kept

-- what holds at every stage
pub record Kept (ns ws : List ℕ) (one two : Option Record) : Type 0 where
  pub first : IfSome one (IsSafe ns ws)
  pub second : IfSome two (IsSafe ns ws)
  pub within : (n : ℕ) → IsAmong n ws → IsAmong n ns
  pub once : (bound : ℕ) × AreBelow bound ns

pub record Holds (b : Board) : Type 0 where
  pub always : Kept b.begun b.whole b.first b.second
  pub stage : AtStage b.begun b.whole b.first b.second b.executor.kept b.executor.stage

-- ---- records

-- a record with no begun command, if no number above its last was begun
not_begun : (ns ws : List ℕ) (kept : Record) → kept.begun ≡ false → AreBelow (kept.last + 1) ns
    → ((n : ℕ) → IsKnown kept n → IsAmong n ws) → IsReady ns ws kept
not_begun ns ws kept e below known =
    record {
      safe =
          record {
            is_true = record { no_more = rw e below; known = known };
            low = λ t. absurd (cc (e, t));
          };
      below = below;
    }

begins : (ns ws : List ℕ) (kept : Record) (packet : List ℕ) → kept.last < 4294967295 → IsReady ns ws kept
    → IsReady ns ws (begun kept packet)
begins ns ws kept packet low is =
    record {
      safe =
          record {
            is_true =
                record {
                  no_more = below_more (kept.last + 1) (kept.last + 2) ns (omega arith) is.below;
                  known = is.safe.is_true.known;
                };
            low = λ t. low;
          };
      below = is.below;
    }

-- if the record has a command as begun, no number above this command's was begun
below_begun : (ns ws : List ℕ) (kept : Record) → kept.begun ≡ true → IsSafe ns ws kept → AreBelow (kept.last + 2) ns
below_begun ns ws kept e is = rw e at is.is_true.no_more

below_not_begun : (ns ws : List ℕ) (kept : Record) → kept.begun ≡ false → IsSafe ns ws kept
    → AreBelow (kept.last + 1) ns
below_not_begun ns ws kept e is = rw e at is.is_true.no_more

starts_so : (ns ws : List ℕ) (kept : Record) (flag : Bool) → kept.begun ≡ flag → IsSafe ns ws kept
    → IsReady ns ws (counted (passed_if_begun kept flag))
starts_so ns ws kept false e is =
    not_begun ns ws (counted kept) e (below_not_begun ns ws kept e is) is.is_true.known
starts_so ns ws kept true e is =
    let low : kept.last < 4294967295 = is.low e in
    let below : AreBelow (kept.last + 2) ns = below_begun ns ws kept e is in
    let known : (n : ℕ) → IsKnown (passed kept 0) n → IsAmong n ws =
    λ (n : ℕ) (k : IsKnown (passed kept 0) n).
    elim (known_passed kept 0 n (omega arith) low k) as (λ _. IsAmong n ws) [
      | inl new ↦ let zero : ◌≡◌ {A = ℕ} 0 1 = new.1 in absurd (omega arith)
      | inr old ↦ is.is_true.known n old
    ] in
    not_begun ns ws (counted (passed kept 0)) refl
    (below_more (kept.last + 2) (min (kept.last + 1) 4294967295 + 1) ns (omega arith) below) known

-- ---- a start

starts : (ns ws : List ℕ) (one two : Option Record) (mark : ℕ) → IfSome one (IsSafe ns ws) → IfSome two (IsSafe ns ws)
    → AtStage ns ws one two (start one two mark).kept (start one two mark).stage
starts ns ws (Some first) two mark f s = f
starts ns ws None (Some second) mark f s = s
starts ns ws None None mark f s = tt

-- ---- a command is begun, and executed

-- what holds of a record with a begun command once its execution has begun
executing : (ns ws more : List ℕ) (kept : Record) → kept.begun ≡ true → IsReady ns ws kept
    → ((n : ℕ) → IsAmong n ws → IsAmong n more) → IsSafe (min (kept.last + 1) 4294967295 ∷ ns) more kept
executing ns ws more kept e is adds =
    let low : kept.last < 4294967295 = is.safe.low e in
    let last : kept.last + 1 ≡ min (kept.last + 1) 4294967295 = omega arith in
    let below : AreBelow (min (kept.last + 1) 4294967295) ns = subst (λ (n : ℕ). AreBelow n ns) last is.below in
    let all : AreBelow (kept.last + 2) (min (kept.last + 1) 4294967295 ∷ ns) = (omega arith, below) in
    record {
      is_true =
          record {
            no_more = rw e all;
            known = λ n k. adds n (is.safe.is_true.known n k);
          };
      low = is.safe.low;
    }

-- and of the record that is written afterwards
executed : (ns ws : List ℕ) (kept : Record) → kept.begun ≡ true → IsReady ns ws kept
    → IsReady (min (kept.last + 1) 4294967295 ∷ ns) (min (kept.last + 1) 4294967295 ∷ ws) (passed kept 1)
executed ns ws kept e is =
    let low : kept.last < 4294967295 = is.safe.low e in
    let number = min (kept.last + 1) 4294967295 in
    let last : kept.last + 1 ≡ min (kept.last + 1) 4294967295 = omega arith in
    let below : AreBelow (min (kept.last + 1) 4294967295) ns = subst (λ (n : ℕ). AreBelow n ns) last is.below in
    let known : (n : ℕ) → IsKnown (passed kept 1) n → IsAmong n (min (kept.last + 1) 4294967295 ∷ ws) =
    λ (n : ℕ) (k : IsKnown (passed kept 1) n).
    elim (known_passed kept 1 n (omega arith) low k) as (λ _. IsAmong n (min (kept.last + 1) 4294967295 ∷ ws)) [
      | inl new ↦ inl (new.0 ∙ last)
      | inr old ↦ inr (is.safe.is_true.known n old)
    ] in
    not_begun (min (kept.last + 1) 4294967295 ∷ ns) (min (kept.last + 1) 4294967295 ∷ ws) (passed kept 1) refl
    (omega arith, below) known

-- a place that contains no other record is safe if this record is
pub no_other : (P : Record → Type 0) (place : Option Record) (kept : Record) → HasNoOther place kept → P kept
    → IfSome place P
no_other P None kept only is = tt
no_other P (Some copy) kept only is = subst P (sym only) is

one_more : (n : ℕ) (ns ws : List ℕ) → ((m : ℕ) → IsAmong m ws → IsAmong m ns)
    → (m : ℕ) → IsAmong m (n ∷ ws) → IsAmong m (n ∷ ns)
one_more n ns ws within m (inl e) = inl e
one_more n ns ws within m (inr h) = inr (within m h)

-- ---- an action that is completed, and one that is broken off

-- both copies are the record
written : (ns ws : List ℕ) (one : Option Record) (kept : Record) (flag : Bool) → kept.begun ≡ flag
    → IsReady ns ws kept
    → HasNoOther one kept
    → AtStage ns ws one (Some kept) (after_writes kept flag).kept (after_writes kept flag).stage
written ns ws one kept true e is only = (is, e, only, refl)
written ns ws one kept false e is only = (is, e, only, refl)

-- what holds when an execution begins, whether or not it ends
with_begun : (ns ws more : List ℕ) (one two : Option Record) (kept : Record) → kept.begun ≡ true → IsReady ns ws kept
    → HasNoOther one kept → HasNoOther two kept → ((n : ℕ) → IsAmong n ws → IsAmong n more)
    → ((n : ℕ) → IsAmong n more → IsAmong n (min (kept.last + 1) 4294967295 ∷ ns))
    → Kept (min (kept.last + 1) 4294967295 ∷ ns) more one two
with_begun ns ws more one two kept e is only_one only_two adds within =
    let safe : IsSafe (min (kept.last + 1) 4294967295 ∷ ns) more kept = executing ns ws more kept e is adds in
    record {
      first =
          no_other (IsSafe (min (kept.last + 1) 4294967295 ∷ ns) more) one kept only_one safe;
      second = no_other (IsSafe (min (kept.last + 1) 4294967295 ∷ ns) more) two kept only_two safe;
      within = within;
      once = (kept.last + 2, below_begun (min (kept.last + 1) 4294967295 ∷ ns) more kept e safe);
    }

after_all : (b : Board) (kept : Record) (stage : Stage) → Kept b.begun b.whole b.first b.second
    → AtStage b.begun b.whole b.first b.second kept stage
    → Holds (record (after_doing b (action_at kept stage)) { executor = after_action kept stage })
after_all b kept (Lost mark) k is = record { always = k; stage = tt }
after_all b kept RepairsFirst k is =
    record {
      always = record { first = is; second = k.second; within = k.within; once = k.once };
      stage = starts_so b.begun b.whole kept kept.begun refl is;
    }
after_all b kept RepairsSecond k is =
    record {
      always = record { first = k.first; second = is; within = k.within; once = k.once };
      stage = starts_so b.begun b.whole kept kept.begun refl is;
    }
after_all b kept WritesFirst k is =
    record {
      always = record { first = is.safe; second = k.second; within = k.within; once = k.once };
      stage = (is, refl);
    }
after_all b kept WritesSecond k is =
    record {
      always = record { first = k.first; second = is.0.safe; within = k.within; once = k.once };
      stage = written b.begun b.whole b.first kept kept.begun refl is.0 is.1;
    }
after_all b kept Executes k is =
    let number = min (kept.last + 1) 4294967295 in
    record {
      always =
          with_begun b.begun b.whole (number ∷ b.whole) b.first b.second kept is.1 is.0 is.2 is.3 (λ n h. inr h)
          (one_more number b.begun b.whole k.within);
      stage = executed b.begun b.whole kept is.1 is.0;
    }
after_all b kept Rests k is = record { always = k; stage = is }
after_all b kept Ordered k is = record { always = k; stage = is }

broken : (b : Board) (kept : Record) (stage : Stage) → Kept b.begun b.whole b.first b.second
    → AtStage b.begun b.whole b.first b.second kept stage
    → Kept (after_break b (action_at kept stage)).begun (after_break b (action_at kept stage)).whole
    (after_break b (action_at kept stage)).first (after_break b (action_at kept stage)).second
broken b kept (Lost mark) k is = k
broken b kept Rests k is = k
broken b kept Ordered k is = k
broken b kept RepairsFirst k is = record { first = tt; second = k.second; within = k.within; once = k.once }
broken b kept WritesFirst k is = record { first = tt; second = k.second; within = k.within; once = k.once }
broken b kept RepairsSecond k is = record { first = k.first; second = tt; within = k.within; once = k.once }
broken b kept WritesSecond k is = record { first = k.first; second = tt; within = k.within; once = k.once }
broken b kept Executes k is =
    with_begun b.begun b.whole b.whole b.first b.second kept is.1 is.0 is.2 is.3 (λ n h. h)
    (λ n h. inr (k.within n h))

-- ---- the calls

pub both : (a b : Bool) → (a && b) ≡ true → (a ≡ true) × (b ≡ true)
both true true e = (refl, refl)
both true false e = absurd cc
both false b e = absurd cc

-- a command is taken
taken : (ns ws : List ℕ) (one two : Option Record) (kept : Record) (packet : List ℕ) (stage : Stage)
    → is_at_rest stage ≡ true → kept.last < 4294967295 → AtStage ns ws one two kept stage
    → IsReady ns ws (begun kept packet)
taken ns ws one two kept packet Rests e low is = begins ns ws kept packet low is.0
taken ns ws one two kept packet Ordered e low is = absurd cc
taken ns ws one two kept packet (Lost mark) e low is = absurd cc
taken ns ws one two kept packet RepairsFirst e low is = absurd cc
taken ns ws one two kept packet RepairsSecond e low is = absurd cc
taken ns ws one two kept packet WritesFirst e low is = absurd cc
taken ns ws one two kept packet WritesSecond e low is = absurd cc
taken ns ws one two kept packet Executes e low is = absurd cc

-- the conditions under which a board takes octets
pub taken_parts : (s : ExecutorState) (octets : List ℕ) → is_taken s octets ≡ true
    → (is_command octets ≡ true) × (is_at_rest s.stage ≡ true) × (s.kept.last < 4294967295)
    × (number_in octets ≡ s.kept.last + 1)
taken_parts s octets e =
    let number : Bool = nat_eq (number_in octets) (s.kept.last + 1) in
    let low : Bool = nat_lt s.kept.last 4294967295 in
    let one = both (is_command octets) (is_at_rest s.stage && (low && number)) e in
    let two = both (is_at_rest s.stage) (low && number) one.1 in
    let three = both low number two.1 in (
      one.0,
      two.0,
      ltb-true s.kept.last 4294967295 three.0,
      eqb-true (number_in octets) (s.kept.last + 1) three.1,
    )

-- a restart is ordered
ordered : (ns ws : List ℕ) (one two : Option Record) (kept : Record) (stage : Stage) → is_at_rest stage ≡ true
    → AtStage ns ws one two kept stage → AtStage ns ws one two kept Ordered
ordered ns ws one two kept Rests e is = is
ordered ns ws one two kept Ordered e is = absurd cc
ordered ns ws one two kept (Lost mark) e is = absurd cc
ordered ns ws one two kept RepairsFirst e is = absurd cc
ordered ns ws one two kept RepairsSecond e is = absurd cc
ordered ns ws one two kept WritesFirst e is = absurd cc
ordered ns ws one two kept WritesSecond e is = absurd cc
ordered ns ws one two kept Executes e is = absurd cc

-- a record is brought
brought : (ns ws : List ℕ) (boot last : ℕ) → AreBelow (last + 1) ns → IsReady ns ws (no_commands boot last)
brought ns ws boot last below =
    not_begun ns ws (no_commands boot last) refl below (λ n k. absurd (none_known boot last n k))

-- a copy is spoiled
spoiled : (ns ws : List ℕ) (one two : Option Record) (kept : Record) (stage : Stage)
    → AtStage ns ws one two kept stage
    → AtStage ns ws None two kept stage × AtStage ns ws one None kept stage
spoiled ns ws one two kept (Lost mark) is = (tt, tt)
spoiled ns ws one two kept RepairsFirst is = (is, is)
spoiled ns ws one two kept RepairsSecond is = (is, is)
spoiled ns ws one two kept WritesFirst is = (is, is)
spoiled ns ws one two kept WritesSecond is = ((is.0, tt), is)
spoiled ns ws one two kept Executes is = ((is.0, is.1, tt, is.3), (is.0, is.1, is.2, tt))
spoiled ns ws one two kept Rests is = ((is.0, is.1, tt, is.3), (is.0, is.1, is.2, tt))
spoiled ns ws one two kept Ordered is = ((is.0, is.1, tt, is.3), (is.0, is.1, is.2, tt))

-- an order arrives, or octets that do not form an order
obeyed : (b : Board) (read : Result Order LogFault) → IsSoundOrder b read
    → AtStage b.begun b.whole b.first b.second b.executor.kept b.executor.stage
    → AtStage b.begun b.whole b.first b.second (obey_any b.executor read).kept (obey_any b.executor read).stage
obeyed b (Err e) sound is = is
obeyed b (Ok (orders.Restart boot)) sound is =
    cond_both (is_obeyed b.executor (orders.Restart boot)) (at_stage b.executor.kept Ordered) b.executor
    (λ (after : ExecutorState). AtStage b.begun b.whole b.first b.second after.kept after.stage)
    (λ (t : is_obeyed b.executor (orders.Restart boot) ≡ true).
    ordered b.begun b.whole b.first b.second b.executor.kept b.executor.stage
    (both (is_at_rest b.executor.stage) (nat_eq boot b.executor.kept.boot) t).0 is)
    (λ (f : is_obeyed b.executor (orders.Restart boot) ≡ false). is)
obeyed b (Ok (Rebuild mark boot last)) sound is =
    cond_both (is_obeyed b.executor (Rebuild mark boot last)) (at_stage (no_commands boot last) WritesFirst) b.executor
    (λ (after : ExecutorState). AtStage b.begun b.whole b.first b.second after.kept after.stage)
    (λ (t : is_obeyed b.executor (Rebuild mark boot last) ≡ true). brought b.begun b.whole boot last (sound t))
    (λ (f : is_obeyed b.executor (Rebuild mark boot last) ≡ false). is)

-- ---- each event

pub step_holds : (b : Board) (event : Event) → IsSound b event → Holds b → Holds (board_step b event)
step_holds b (Offers octets) sound h =
    record {
      always = h.always;
      stage =
          cond_both (is_taken b.executor octets) (at_stage (begun b.executor.kept octets) WritesFirst) b.executor
          (λ (after : ExecutorState). AtStage b.begun b.whole b.first b.second after.kept after.stage)
          (λ (t : is_taken b.executor octets ≡ true).
          let parts = taken_parts b.executor octets t in
          taken b.begun b.whole b.first b.second b.executor.kept octets b.executor.stage parts.1 parts.2 h.stage)
          (λ (f : is_taken b.executor octets ≡ false). h.stage);
    }
step_holds b (Orders octets) sound h =
    record { always = h.always; stage = obeyed b (order_at octets) sound h.stage }
step_holds b Acts sound h = after_all b b.executor.kept b.executor.stage h.always h.stage
step_holds b (Restarts mark) sound h =
    record { always = h.always; stage = starts b.begun b.whole b.first b.second mark h.always.first h.always.second }
step_holds b (BreaksOff mark) sound h =
    let after = after_break b (action_at b.executor.kept b.executor.stage) in
    let k : Kept after.begun after.whole after.first after.second = broken b b.executor.kept b.executor.stage
    h.always h.stage in
    record { always = k; stage = starts after.begun after.whole after.first after.second mark k.first k.second }
step_holds b (Spoils First) sound h =
    record {
      always = record { first = tt; second = h.always.second; within = h.always.within; once = h.always.once };
      stage = (spoiled b.begun b.whole b.first b.second b.executor.kept b.executor.stage h.stage).0;
    }
step_holds b (Spoils Second) sound h =
    record {
      always = record { first = h.always.first; second = tt; within = h.always.within; once = h.always.once };
      stage = (spoiled b.begun b.whole b.first b.second b.executor.kept b.executor.stage h.stage).1;
    }

pub run_holds : (b : Board) (events : List Event) → AreSound b events → Holds b → Holds (board_run b events)
run_holds b [] sound h = h
run_holds b (event ∷ events) sound h =
    run_holds (board_step b event) events sound.1 (step_holds b event sound.0 h)

pub new_holds : Holds new_board
new_holds =
    let ready : IsReady [] [] (no_commands 0 0) = brought [] [] 0 0 tt in
    record {
      always =
          record { first = ready.safe; second = ready.safe; within = λ n h. h; once = (0, tt) };
      stage = ready.safe;
    }

-- a status is true
says_so : (ns ws : List ℕ) (one two : Option Record) (kept : Record) (stage : Stage) (said : Record)
    → AtStage ns ws one two kept stage → status_at kept stage ≡ Says said → IsTrueOf ns ws said
says_so ns ws one two kept Rests said is e = let same : kept ≡ said = cc in subst (IsTrueOf ns ws) same
    is.0.safe.is_true
says_so ns ws one two kept Ordered said is e = let same : kept ≡ said = cc in subst (IsTrueOf ns ws) same
    is.0.safe.is_true
says_so ns ws one two kept Executes said is e = let same : kept ≡ said = cc in subst (IsTrueOf ns ws) same
    is.0.safe.is_true
says_so ns ws one two kept (Lost mark) said is e = absurd cc
says_so ns ws one two kept RepairsFirst said is e = absurd cc
says_so ns ws one two kept RepairsSecond said is e = absurd cc
says_so ns ws one two kept WritesFirst said is e = absurd cc
says_so ns ws one two kept WritesSecond said is e = absurd cc

pub carried_out : (b : Board) → Holds b → IsCarriedOut b
carried_out b h =
    record {
      once = h.always.once;
      whole = h.always.within;
      said =
          λ kept e. says_so b.begun b.whole b.first b.second b.executor.kept b.executor.stage kept h.stage e;
    }

pub each_is_carried_out : (events : List Event) → AreSound new_board events
    → IsCarriedOut (board_run new_board events)
each_is_carried_out events sound = carried_out (board_run new_board events)
    (run_holds new_board events sound new_holds)
