-- How many numbers are not known to be executed.
use Rattle.std.proofs.Common.{◌≡◌, ℕ, zero, suc, ◌+◌, ◌-◌, ◌*◌, ◌%◌, ◌^◌, ◌<◌, ◌≤◌, inl, inr, min, List, [], ◌∷◌}
use Rattle.std.proofs.Common.{Bool, true, false}
use Rattle.std.proofs.Common.{Result, Ok, Err, Option, Some, None, IfSome, refl, sym, ◌∙◌, ap, arith, subst}
use Rattle.std.specs.Prelude.{⊤, nat_eq, if◌then◌else◌}
use Rattle.std.specs.Int.{bit_at}
use Rattle.std.proofs.lemmas.Bool.{cases_lt, cond_both}
use Rattle.std.proofs.lemmas.Nat.Bits.{bit_at_cat_low, bit_at_cat_high, bit_at_lowest}
use Rattle.command_log.specs.declared.record.Record.{Record}
use Rattle.command_log.specs.declared.executor.Place.TheVariants.{First, Second}
use Rattle.command_log.specs.declared.status.Status.TheVariants.{Says}
use Rattle.command_log.specs.declared.executor.Stage.{Stage}
use Rattle.command_log.specs.declared.executor.Stage.TheVariants.{Lost, RepairsFirst, RepairsSecond, WritesFirst}
use Rattle.command_log.specs.declared.executor.Stage.TheVariants.{WritesSecond, Executes, Rests, Ordered}
use Rattle.command_log.specs.Record.{no_commands, begun, passed, passed_if_begun, counted}
use Rattle.command_log.specs.Executor.{ExecutorState, at_stage, start, action_at, after_action, after_writes}
use Rattle.command_log.specs.declared.fault.LogFault.{LogFault}
use Rattle.command_log.specs.declared.packets.Order.{Order}
use Rattle.command_log.specs.declared.packets.Order.TheVariants.{Rebuild}
use Rattle.command_log.specs.declared.packets.Order.TheVariants as orders
use Rattle.command_log.specs.Packets.{order_at}
use Rattle.command_log.specs.Executor.{is_at_rest, is_taken, is_obeyed, obey_any, status_at}
use Rattle.command_log.specs.Board.{Board, Event, Offers, Orders, Acts, Restarts, BreaksOff, Spoils, new_board}
use Rattle.command_log.specs.Board.{board_step, board_run}
use Rattle.command_log.specs.Board.{after_doing, after_break, AreSound}
use Rattle.command_log.specs.KnowsMost.{unknown_among, unknown_of, brought_by, excuse_of, excuses_of}
use Rattle.command_log.specs.KnowsMost.{EachKnowsMost}
use Rattle.command_log.proofs.Numbers.{low_bit}
use Rattle.command_log.proofs.Steps.{Holds, AtStage, both, taken_parts, step_holds, new_holds}

unknown_shifted : (m a bit : ℕ) → bit < 2 → unknown_among (suc m) (a * 2 + bit) ≡ (1 - bit) + unknown_among m a
unknown_shifted zero a bit small =
    let low : bit_at (a * 2 + bit) 0 ≡ bit_at bit 0 = bit_at_cat_low a 1 bit 0 (omega arith) in
    let lowest : bit_at bit 0 ≡ bit % 2 = bit_at_lowest bit in
    let same : bit_at (a * 2 + bit) 0 ≡ bit = low ∙ lowest ∙ omega arith in
    ap (λ (n : ℕ). (1 - n) + 0) same
unknown_shifted (suc m) a bit small =
    let high : bit_at (a * 2 + bit) (suc m) ≡ bit_at a (suc m - 1) = bit_at_cat_high a 1 bit (suc m) small
    (omega arith) in
    let place : suc m - 1 ≡ m = omega arith in
    let here : bit_at (a * 2 + bit) (suc m) ≡ bit_at a m = high ∙ ap (λ (i : ℕ). bit_at a i) place in
    let rest : unknown_among (suc m) (a * 2 + bit) ≡ (1 - bit) + unknown_among m a = unknown_shifted m a bit small in
    let joined : (1 - bit_at (a * 2 + bit) (suc m)) + unknown_among (suc m) (a * 2 + bit)
    ≡ (1 - bit_at a m) + ((1 - bit) + unknown_among m a) = cc in
    joined ∙ omega arith

unknown_low : (m known : ℕ) → m ≤ 63 → unknown_among m (known % 2 ^ 63) ≡ unknown_among m known
unknown_low zero known low = refl
unknown_low (suc m) known low =
    let here : bit_at (known % 2 ^ 63) m ≡ bit_at known m = low_bit known 63 m (omega arith) in
    let rest : unknown_among m (known % 2 ^ 63) ≡ unknown_among m known = unknown_low m known (omega arith) in
    cc

unknown_more : (m n known : ℕ) → m ≤ n → unknown_among m known ≤ unknown_among n known
unknown_more m zero known low = let none : m ≡ 0 = omega arith in rw none (omega arith)
unknown_more m (suc n) known low =
    elim (cases_lt m (suc n)) as (λ _. unknown_among m known ≤ unknown_among (suc n) known) [
      | inl less ↦
          let rest : unknown_among m known ≤ unknown_among n known = unknown_more m n known (omega arith) in
          omega arith
      | inr all ↦
          let same : m ≡ suc n = omega arith in
          subst (λ (k : ℕ). unknown_among k known ≤ unknown_among (suc n) known) (sym same) (omega arith)
    ]

at_most : (m known : ℕ) → unknown_among m known ≤ m
at_most zero known = omega arith
at_most (suc m) known = let rest : unknown_among m known ≤ m = at_most m known in omega arith

unknown_passed : (kept : Record) (bit : ℕ) → bit < 2 → kept.last < 4294967295
    → unknown_of (passed kept bit) ≤ (1 - bit) + unknown_of kept
unknown_passed kept bit small low =
    let m = min kept.last 63 in
    let ages : min (min (kept.last + 1) 4294967295) 64 ≡ suc (min kept.last 63) = omega arith in
    let shifted : unknown_among (suc (min kept.last 63)) (kept.known % 2 ^ 63 * 2 + bit)
    ≡ (1 - bit) + unknown_among (min kept.last 63) (kept.known % 2 ^ 63) =
    unknown_shifted (min kept.last 63) (kept.known % 2 ^ 63) bit small in
    let same : unknown_among (min kept.last 63) (kept.known % 2 ^ 63) ≡ unknown_among (min kept.last 63) kept.known =
    unknown_low (min kept.last 63) kept.known (omega arith) in
    let less : unknown_among (min kept.last 63) kept.known ≤ unknown_among (min kept.last 64) kept.known =
    unknown_more (min kept.last 63) (min kept.last 64) kept.known (omega arith) in
    let all : unknown_among (suc (min kept.last 63)) (kept.known % 2 ^ 63 * 2 + bit) ≤ (1 - bit) + unknown_among
    (min kept.last 64) kept.known
    = omega arith in
    subst (λ (n : ℕ). unknown_among n (kept.known % 2 ^ 63 * 2 + bit) ≤ (1 - bit) + unknown_among (min kept.last 64)
    kept.known)
    (sym ages) all

-- ---- what each event excuses

abbrev pub KnowsAt : ℕ → Record → Stage → Type 0
KnowsAt k kept (Lost mark) = ⊤
KnowsAt k kept RepairsFirst = unknown_of kept + (if kept.begun then 1 else 0) ≤ k
KnowsAt k kept RepairsSecond = unknown_of kept + (if kept.begun then 1 else 0) ≤ k
KnowsAt k kept WritesFirst = unknown_of kept ≤ k
KnowsAt k kept WritesSecond = unknown_of kept ≤ k
KnowsAt k kept Executes = unknown_of kept ≤ k
KnowsAt k kept Rests = unknown_of kept ≤ k
KnowsAt k kept Ordered = unknown_of kept ≤ k

pub record CopiesKnow (k : ℕ) (one two : Option Record) : Type 0 where
  pub first : IfSome one (λ copy. unknown_of copy ≤ k)
  pub second : IfSome two (λ copy. unknown_of copy ≤ k)

pub record KnowsMost (k : ℕ) (b : Board) : Type 0 where
  pub copies : CopiesKnow k b.first b.second
  pub kept : KnowsAt k b.executor.kept b.executor.stage

start_knows : (k : ℕ) (kept : Record) (flag : Bool) → kept.begun ≡ flag → (kept.begun ≡ true → kept.last < 4294967295)
    → unknown_of kept + (if flag then 1 else 0) ≤ k → unknown_of (counted (passed_if_begun kept flag)) ≤ k
start_knows k kept false e low is = omega arith
start_knows k kept true e low is =
    let most : unknown_of (passed kept 0) ≤ (1 - 0) + unknown_of kept = unknown_passed kept 0 (omega arith) (low e)
    in omega arith

after_spare : (k : ℕ) (kept : Record) (flag : Bool) → unknown_of kept + (if flag then 1 else 0) ≤ k
    → unknown_of kept ≤ k
after_spare k kept true is = omega arith
after_spare k kept false is = omega arith

written_knows : (k : ℕ) (kept : Record) (flag : Bool) → unknown_of kept ≤ k
    → KnowsAt k (after_writes kept flag).kept (after_writes kept flag).stage
written_knows k kept true is = is
written_knows k kept false is = is

acts_knows : (k : ℕ) (b : Board) (kept : Record) (stage : Stage) → AtStage b.begun b.whole b.first b.second kept stage
    → CopiesKnow k b.first b.second → KnowsAt k kept stage
    → KnowsMost k (record (after_doing b (action_at kept stage)) { executor = after_action kept stage })
acts_knows k b kept (Lost mark) at copies is = record { copies = copies; kept = tt }
acts_knows k b kept Rests at copies is = record { copies = copies; kept = is }
acts_knows k b kept Ordered at copies is = record { copies = copies; kept = is }
acts_knows k b kept RepairsFirst at copies is =
    record {
      copies = record { first = after_spare k kept kept.begun is; second = copies.second };
      kept = start_knows k kept kept.begun refl at.low is;
    }
acts_knows k b kept RepairsSecond at copies is =
    record {
      copies = record { first = copies.first; second = after_spare k kept kept.begun is };
      kept = start_knows k kept kept.begun refl at.low is;
    }
acts_knows k b kept WritesFirst at copies is =
    record { copies = record { first = is; second = copies.second }; kept = is }
acts_knows k b kept WritesSecond at copies is =
    record { copies = record { first = copies.first; second = is }; kept = written_knows k kept kept.begun is }
acts_knows k b kept Executes at copies is =
    let most : unknown_of (passed kept 1) ≤ (1 - 1) + unknown_of kept =
    unknown_passed kept 1 (omega arith) (at.0.safe.low at.1) in
    record { copies = copies; kept = omega arith }

broken_knows : (k : ℕ) (b : Board) (kept : Record) (stage : Stage) → CopiesKnow k b.first b.second
    → CopiesKnow k (after_break b (action_at kept stage)).first (after_break b (action_at kept stage)).second
broken_knows k b kept (Lost mark) copies = copies
broken_knows k b kept Rests copies = copies
broken_knows k b kept Ordered copies = copies
broken_knows k b kept RepairsFirst copies = record { first = tt; second = copies.second }
broken_knows k b kept RepairsSecond copies = record { first = copies.first; second = tt }
broken_knows k b kept WritesFirst copies = record { first = tt; second = copies.second }
broken_knows k b kept WritesSecond copies = record { first = copies.first; second = tt }
broken_knows k b kept Executes copies = copies

-- a start may pass over one number
one_spare : (k : ℕ) (kept : Record) (flag : Bool) → unknown_of kept ≤ k → unknown_of kept + (if flag then 1 else 0) ≤
    k + 1
one_spare k kept true is = omega arith
one_spare k kept false is = omega arith

start_at : (k : ℕ) (one two : Option Record) (mark : ℕ) → CopiesKnow k one two
    → KnowsAt (k + 1) (start one two mark).kept (start one two mark).stage
start_at k (Some one) two mark is = one_spare k one one.begun is.first
start_at k None (Some two) mark is = one_spare k two two.begun is.second
start_at k None None mark is = tt

copy_more : (k l : ℕ) (place : Option Record) → k ≤ l → IfSome place (λ copy. unknown_of copy ≤ k)
    → IfSome place (λ copy. unknown_of copy ≤ l)
copy_more k l None low is = tt
copy_more k l (Some copy) low is = omega arith

copies_more : (k l : ℕ) (one two : Option Record) → k ≤ l → CopiesKnow k one two → CopiesKnow l one two
copies_more k l one two low is =
    record { first = copy_more k l one low is.first; second = copy_more k l two low is.second }

kept_more : (k l : ℕ) (kept : Record) (stage : Stage) → k ≤ l → KnowsAt k kept stage → KnowsAt l kept stage
kept_more k l kept (Lost mark) low is = tt
kept_more k l kept RepairsFirst low is = omega arith
kept_more k l kept RepairsSecond low is = omega arith
kept_more k l kept WritesFirst low is = omega arith
kept_more k l kept WritesSecond low is = omega arith
kept_more k l kept Executes low is = omega arith
kept_more k l kept Rests low is = omega arith
kept_more k l kept Ordered low is = omega arith

taken_knows : (k : ℕ) (kept : Record) (stage : Stage) → is_at_rest stage ≡ true → KnowsAt k kept stage
    → unknown_of kept ≤ k
taken_knows k kept Rests e is = is
taken_knows k kept Ordered e is = absurd cc
taken_knows k kept (Lost mark) e is = absurd cc
taken_knows k kept RepairsFirst e is = absurd cc
taken_knows k kept RepairsSecond e is = absurd cc
taken_knows k kept WritesFirst e is = absurd cc
taken_knows k kept WritesSecond e is = absurd cc
taken_knows k kept Executes e is = absurd cc

no_excuse : (k : ℕ) (b : Board) → KnowsMost k b → KnowsMost (k + 0) b
no_excuse k b h = let same : k ≡ k + 0 = omega arith in subst (λ (n : ℕ). KnowsMost n b) same h

ordered_knows : (k : ℕ) (kept : Record) (stage : Stage) → is_at_rest stage ≡ true → KnowsAt k kept stage
    → KnowsAt (k + 0) kept Ordered
ordered_knows k kept stage e is =
    let most : unknown_of kept ≤ k = taken_knows k kept stage e is in omega arith

obeyed_knows : (k : ℕ) (s : ExecutorState) (read : Result Order LogFault) → KnowsAt k s.kept s.stage
    → KnowsAt (k + brought_by read) (obey_any s read).kept (obey_any s read).stage
obeyed_knows k s (Err e) is = kept_more k (k + 0) s.kept s.stage (omega arith) is
obeyed_knows k s (Ok (orders.Restart boot)) is =
    cond_both (is_obeyed s (orders.Restart boot)) (at_stage s.kept Ordered) s
    (λ (after : ExecutorState). KnowsAt (k + 0) after.kept after.stage)
    (λ (t : is_obeyed s (orders.Restart boot) ≡ true).
    ordered_knows k s.kept s.stage (both (is_at_rest s.stage) (nat_eq boot s.kept.boot) t).0 is)
    (λ (f : is_obeyed s (orders.Restart boot) ≡ false). kept_more k (k + 0) s.kept s.stage (omega arith) is)
obeyed_knows k s (Ok (Rebuild mark boot last)) is =
    cond_both (is_obeyed s (Rebuild mark boot last)) (at_stage (no_commands boot last) WritesFirst) s
    (λ (after : ExecutorState). KnowsAt (k + 64) after.kept after.stage)
    (λ (t : is_obeyed s (Rebuild mark boot last) ≡ true).
    let most : unknown_among (min last 64) 0 ≤ min last 64 = at_most (min last 64) 0 in omega arith)
    (λ (f : is_obeyed s (Rebuild mark boot last) ≡ false). kept_more k (k + 64) s.kept s.stage (omega arith) is)

step_knows : (k : ℕ) (b : Board) (event : Event) → Holds b → KnowsMost k b → KnowsMost (k + excuse_of event)
    (board_step b event)
step_knows k b (Offers octets) holds h =
    no_excuse k (board_step b (Offers octets)) (record {
      copies = h.copies;
      kept =
          cond_both (is_taken b.executor octets) (at_stage (begun b.executor.kept octets) WritesFirst) b.executor
          (λ (after : ExecutorState). KnowsAt k after.kept after.stage)
          (λ (t : is_taken b.executor octets ≡ true).
          let parts = taken_parts b.executor octets t in
          taken_knows k b.executor.kept b.executor.stage parts.1 h.kept)
          (λ (f : is_taken b.executor octets ≡ false). h.kept);
    })
step_knows k b (Orders octets) holds h =
    record {
      copies = copies_more k (k + brought_by (order_at octets)) b.first b.second (omega arith) h.copies;
      kept = obeyed_knows k b.executor (order_at octets) h.kept;
    }
step_knows k b Acts holds h =
    no_excuse k (board_step b Acts) (acts_knows k b b.executor.kept b.executor.stage holds.stage h.copies h.kept)
step_knows k b (Restarts mark) holds h =
    record {
      copies = copies_more k (k + 1) b.first b.second (omega arith) h.copies;
      kept = start_at k b.first b.second mark h.copies;
    }
step_knows k b (BreaksOff mark) holds h =
    let after = after_break b (action_at b.executor.kept b.executor.stage) in
    let copies : CopiesKnow k after.first after.second = broken_knows k b b.executor.kept b.executor.stage h.copies in
    record {
      copies = copies_more k (k + 1) after.first after.second (omega arith) copies;
      kept = start_at k after.first after.second mark copies;
    }
step_knows k b (Spoils First) holds h =
    no_excuse k (board_step b (Spoils First))
    (record { copies = record { first = tt; second = h.copies.second }; kept = h.kept })
step_knows k b (Spoils Second) holds h =
    no_excuse k (board_step b (Spoils Second))
    (record { copies = record { first = h.copies.first; second = tt }; kept = h.kept })

run_knows : (k : ℕ) (b : Board) (events : List Event) → AreSound b events → Holds b → KnowsMost k b
    → KnowsMost (k + excuses_of events) (board_run b events)
run_knows k b [] sound holds h = no_excuse k b h
run_knows k b (event ∷ events) sound holds h =
    let more : KnowsMost ((k + excuse_of event) + excuses_of events) (board_run (board_step b event) events) =
    run_knows (k + excuse_of event) (board_step b event) events sound.1 (step_holds b event sound.0 holds)
    (step_knows k b event holds h) in
    let sum : (k + excuse_of event) + excuses_of events ≡ k + (excuse_of event + excuses_of events) = omega arith in
    subst (λ (n : ℕ). KnowsMost n (board_run (board_step b event) events)) sum more

says_most : (k : ℕ) (kept : Record) (stage : Stage) (said : Record) → status_at kept stage ≡ Says said
    → KnowsAt k kept stage
    → unknown_of said ≤ k
says_most k kept Rests said e is = let same : kept ≡ said = cc in subst (λ (r : Record). unknown_of r ≤ k) same is
says_most k kept Ordered said e is = let same : kept ≡ said = cc in subst (λ (r : Record). unknown_of r ≤ k) same is
says_most k kept Executes said e is = let same : kept ≡ said = cc in subst (λ (r : Record). unknown_of r ≤ k) same is
says_most k kept (Lost mark) said e is = absurd cc
says_most k kept RepairsFirst said e is = absurd cc
says_most k kept RepairsSecond said e is = absurd cc
says_most k kept WritesFirst said e is = absurd cc
says_most k kept WritesSecond said e is = absurd cc

pub each_knows_most : EachKnowsMost
each_knows_most events sound kept e =
    let new : KnowsMost 0 new_board =
    record { copies = record { first = omega arith; second = omega arith }; kept = omega arith } in
    let all : KnowsMost (0 + excuses_of events) (board_run new_board events) =
    run_knows 0 new_board events sound new_holds new in
    let most : unknown_of kept ≤ 0 + excuses_of events =
    says_most (0 + excuses_of events) (board_run new_board events).executor.kept
    (board_run new_board events).executor.stage kept e all.kept in
    omega arith
