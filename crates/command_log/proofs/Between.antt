-- Each record on board lies between what a status has reported and what has been sent.
use Rattle.std.proofs.Common.{◌≡◌, ℕ, ◌+◌, ◌<◌, ◌≤◌, inl, inr, List, ◌∷◌, Bool, true, false, Option, Some, None}
use Rattle.std.proofs.Common.{refl, sym, arith, subst, IfSome, Result, Ok, Err}
use Rattle.std.specs.Prelude.{⊤, nat_eq, if◌then◌else◌}
use Rattle.std.proofs.lemmas.Bool.{cond_both}
use Rattle.command_log.specs.declared.record.Record.{Record}
use Rattle.command_log.specs.declared.executor.Place.TheVariants.{First, Second}
use Rattle.command_log.specs.declared.status.Status.TheVariants.{Says}
use Rattle.command_log.specs.declared.executor.Stage.{Stage}
use Rattle.command_log.specs.declared.executor.Stage.TheVariants.{Lost, RepairsFirst, RepairsSecond, WritesFirst}
use Rattle.command_log.specs.declared.executor.Stage.TheVariants.{WritesSecond, Executes, Rests, Ordered}
use Rattle.command_log.specs.declared.fault.LogFault.{LogFault}
use Rattle.command_log.specs.declared.packets.Order.{Order}
use Rattle.command_log.specs.declared.packets.Order.TheVariants.{Rebuild}
use Rattle.command_log.specs.declared.packets.Order.TheVariants as orders
use Rattle.command_log.specs.Packets.{is_command, number_in, order_at}
use Rattle.command_log.specs.Record.{no_commands, begun, passed, passed_if_begun, counted}
use Rattle.command_log.specs.Executor.{ExecutorState, at_stage, start, action_at, after_action, after_writes}
use Rattle.command_log.specs.Executor.{is_at_rest, status_at, is_taken, is_obeyed, obey_any}
use Rattle.command_log.specs.Board.{Board, Event, Offers, Orders, Acts, Restarts, BreaksOff, Spoils, board_step}
use Rattle.command_log.specs.Board.{after_doing, after_break, IsAmong}
use Rattle.command_log.proofs.Steps.{Holds, AtStage, HasNoOther, both, no_other, taken_parts}

-- the highest number that may be begun by this record
abbrev pub top : Record → ℕ
top kept = if kept.begun then kept.last + 1 else kept.last

pub record IsBetween (high : ℕ) (said : List Record) (kept : Record) : Type 0 where
  pub no_less : (earlier : Record) → IsAmong earlier said → earlier.last ≤ kept.last
  pub no_more : top kept ≤ high

abbrev pub BetweenAt : ℕ → List Record → Record → Stage → Type 0
BetweenAt high said kept (Lost mark) = ⊤
BetweenAt high said kept RepairsFirst = IsBetween high said kept
BetweenAt high said kept RepairsSecond = IsBetween high said kept
BetweenAt high said kept WritesFirst = IsBetween high said kept
BetweenAt high said kept WritesSecond = IsBetween high said kept
BetweenAt high said kept Executes = IsBetween high said kept
BetweenAt high said kept Rests = IsBetween high said kept
BetweenAt high said kept Ordered = IsBetween high said kept

pub record AreBetween (high : ℕ) (said : List Record) (one two : Option Record) : Type 0 where
  pub first : IfSome one (IsBetween high said)
  pub second : IfSome two (IsBetween high said)

pub record LiesBetween (high : ℕ) (said : List Record) (b : Board) : Type 0 where
  pub copies : AreBetween high said b.first b.second
  pub kept : BetweenAt high said b.executor.kept b.executor.stage

-- a record with no begun command, whose last lies between the last and the top of the one before
later : (high : ℕ) (said : List Record) (kept after : Record) → after.begun ≡ false
    → kept.last ≤ after.last
    → after.last ≤ top kept → IsBetween high said kept → IsBetween high said after
later high said kept after e low up is =
    let less : top kept ≤ high = is.no_more in
    let most : after.last ≤ high = omega arith in
    record {
      no_less =
          λ earlier among. let was : earlier.last ≤ kept.last = is.no_less earlier among in omega arith;
      no_more = rw e most;
    }

started_between : (high : ℕ) (said : List Record) (kept : Record) (flag : Bool) → kept.begun ≡ flag
    → (kept.begun ≡ true → kept.last < 4294967295) → IsBetween high said kept
    → IsBetween high said (counted (passed_if_begun kept flag))
started_between high said kept false e low is =
    let same : top kept ≡ kept.last = rw e refl in
    later high said kept (counted kept) e (omega arith) (omega arith) is
started_between high said kept true e low is =
    let same : top kept ≡ kept.last + 1 = rw e refl in
    let small : kept.last < 4294967295 = low e in
    later high said kept (counted (passed kept 0)) refl (omega arith) (omega arith) is

written_between : (high : ℕ) (said : List Record) (kept : Record) (flag : Bool) → IsBetween high said kept
    → BetweenAt high said (after_writes kept flag).kept (after_writes kept flag).stage
written_between high said kept true is = is
written_between high said kept false is = is

acts_between : (high : ℕ) (said : List Record) (b : Board) (kept : Record) (stage : Stage)
    → AtStage b.begun b.whole b.first b.second kept stage → AreBetween high said b.first b.second
    → BetweenAt high said kept stage
    → LiesBetween high said (record (after_doing b (action_at kept stage)) { executor = after_action kept stage })
acts_between high said b kept (Lost mark) at copies is = record { copies = copies; kept = tt }
acts_between high said b kept Rests at copies is = record { copies = copies; kept = is }
acts_between high said b kept Ordered at copies is = record { copies = copies; kept = is }
acts_between high said b kept RepairsFirst at copies is =
    record {
      copies = record { first = is; second = copies.second };
      kept = started_between high said kept kept.begun refl at.low is;
    }
acts_between high said b kept RepairsSecond at copies is =
    record {
      copies = record { first = copies.first; second = is };
      kept = started_between high said kept kept.begun refl at.low is;
    }
acts_between high said b kept WritesFirst at copies is =
    record { copies = record { first = is; second = copies.second }; kept = is }
acts_between high said b kept WritesSecond at copies is =
    record {
      copies = record { first = copies.first; second = is };
      kept = written_between high said kept kept.begun is;
    }
acts_between high said b kept Executes at copies is =
    let begun : kept.begun ≡ true = at.1 in
    let same : top kept ≡ kept.last + 1 = rw begun refl in
    let small : kept.last < 4294967295 = at.0.safe.low begun in
    record { copies = copies; kept = later high said kept (passed kept 1) refl (omega arith) (omega arith) is }

broken_between : (high : ℕ) (said : List Record) (b : Board) (kept : Record) (stage : Stage)
    → AreBetween high said b.first b.second
    → AreBetween high said (after_break b (action_at kept stage)).first (after_break b (action_at kept stage)).second
broken_between high said b kept (Lost mark) copies = copies
broken_between high said b kept Rests copies = copies
broken_between high said b kept Ordered copies = copies
broken_between high said b kept RepairsFirst copies = record { first = tt; second = copies.second }
broken_between high said b kept RepairsSecond copies = record { first = copies.first; second = tt }
broken_between high said b kept WritesFirst copies = record { first = tt; second = copies.second }
broken_between high said b kept WritesSecond copies = record { first = copies.first; second = tt }
broken_between high said b kept Executes copies = copies

between_at_start : (high : ℕ) (said : List Record) (one two : Option Record) (mark : ℕ) → AreBetween high said one two
    → BetweenAt high said (start one two mark).kept (start one two mark).stage
between_at_start high said (Some one) two mark is = is.first
between_at_start high said None (Some two) mark is = is.second
between_at_start high said None None mark is = tt

-- the next command is one that was sent
taken_between : (high : ℕ) (said : List Record) (kept : Record) (packet : List ℕ) (stage : Stage)
    → is_at_rest stage ≡ true → BetweenAt high said kept stage → kept.last + 1 ≤ high
    → IsBetween high said (begun kept packet)
taken_between high said kept packet Rests e is up = record { no_less = is.no_less; no_more = up }
taken_between high said kept packet Ordered e is up = absurd cc
taken_between high said kept packet (Lost mark) e is up = absurd cc
taken_between high said kept packet RepairsFirst e is up = absurd cc
taken_between high said kept packet RepairsSecond e is up = absurd cc
taken_between high said kept packet WritesFirst e is up = absurd cc
taken_between high said kept packet WritesSecond e is up = absurd cc
taken_between high said kept packet Executes e is up = absurd cc

ordered_between : (high : ℕ) (said : List Record) (kept : Record) (stage : Stage) → is_at_rest stage ≡ true
    → BetweenAt high said kept stage → BetweenAt high said kept Ordered
ordered_between high said kept Rests e is = is
ordered_between high said kept Ordered e is = absurd cc
ordered_between high said kept (Lost mark) e is = absurd cc
ordered_between high said kept RepairsFirst e is = absurd cc
ordered_between high said kept RepairsSecond e is = absurd cc
ordered_between high said kept WritesFirst e is = absurd cc
ordered_between high said kept WritesSecond e is = absurd cc
ordered_between high said kept Executes e is = absurd cc

-- the assumption about an order that brings a record and that the board obeys
abbrev pub BringsHighest : ℕ → List Record → ExecutorState → Result Order LogFault → Type 0
BringsHighest high said s (Err e) = ⊤
BringsHighest high said s (Ok (orders.Restart boot)) = ⊤
BringsHighest high said s (Ok (Rebuild mark boot last)) =
    is_obeyed s (Rebuild mark boot last) ≡ true
    → ((earlier : Record) → IsAmong earlier said → earlier.last ≤ last) × (last ≤ high)

abbrev pub ComesFrom : ℕ → List Record → ExecutorState → Event → Type 0
ComesFrom high said s (Offers octets) = is_command octets ≡ true → number_in octets ≤ high
ComesFrom high said s (Orders octets) = BringsHighest high said s (order_at octets)
ComesFrom high said s Acts = ⊤
ComesFrom high said s (Restarts mark) = ⊤
ComesFrom high said s (BreaksOff mark) = ⊤
ComesFrom high said s (Spoils place) = ⊤

obeyed_between : (high : ℕ) (said : List Record) (s : ExecutorState) (read : Result Order LogFault)
    → BringsHighest high said s read → BetweenAt high said s.kept s.stage
    → BetweenAt high said (obey_any s read).kept (obey_any s read).stage
obeyed_between high said s (Err e) brings is = is
obeyed_between high said s (Ok (orders.Restart boot)) brings is =
    cond_both (is_obeyed s (orders.Restart boot)) (at_stage s.kept Ordered) s
    (λ (after : ExecutorState). BetweenAt high said after.kept after.stage)
    (λ (t : is_obeyed s (orders.Restart boot) ≡ true).
    ordered_between high said s.kept s.stage (both (is_at_rest s.stage) (nat_eq boot s.kept.boot) t).0 is)
    (λ (f : is_obeyed s (orders.Restart boot) ≡ false). is)
obeyed_between high said s (Ok (Rebuild mark boot last)) brings is =
    cond_both (is_obeyed s (Rebuild mark boot last)) (at_stage (no_commands boot last) WritesFirst) s
    (λ (after : ExecutorState). BetweenAt high said after.kept after.stage)
    (λ (t : is_obeyed s (Rebuild mark boot last) ≡ true).
    record { no_less = (brings t).0; no_more = (brings t).1 })
    (λ (f : is_obeyed s (Rebuild mark boot last) ≡ false). is)

pub between_step : (high : ℕ) (said : List Record) (b : Board) (event : Event)
    → ComesFrom high said b.executor event → Holds b → LiesBetween high said b
    → LiesBetween high said (board_step b event)
between_step high said b (Offers octets) comes holds h =
    record {
      copies = h.copies;
      kept =
          cond_both (is_taken b.executor octets) (at_stage (begun b.executor.kept octets) WritesFirst) b.executor
          (λ (after : ExecutorState). BetweenAt high said after.kept after.stage)
          (λ (t : is_taken b.executor octets ≡ true).
          let parts = taken_parts b.executor octets t in
          let number : number_in octets ≡ b.executor.kept.last + 1 = parts.3 in
          let most : number_in octets ≤ high = comes parts.0 in
          let up : b.executor.kept.last + 1 ≤ high = subst (λ (n : ℕ). n ≤ high) number most in
          taken_between high said b.executor.kept octets b.executor.stage parts.1 h.kept up)
          (λ (f : is_taken b.executor octets ≡ false). h.kept);
    }
between_step high said b (Orders octets) comes holds h =
    record { copies = h.copies; kept = obeyed_between high said b.executor (order_at octets) comes h.kept }
between_step high said b Acts comes holds h =
    acts_between high said b b.executor.kept b.executor.stage holds.stage h.copies h.kept
between_step high said b (Restarts mark) comes holds h =
    record { copies = h.copies; kept = between_at_start high said b.first b.second mark h.copies }
between_step high said b (BreaksOff mark) comes holds h =
    let after = after_break b (action_at b.executor.kept b.executor.stage) in
    let copies : AreBetween high said after.first after.second =
    broken_between high said b b.executor.kept b.executor.stage h.copies in
    record { copies = copies; kept = between_at_start high said after.first after.second mark copies }
between_step high said b (Spoils First) comes holds h =
    record { copies = record { first = tt; second = h.copies.second }; kept = h.kept }
between_step high said b (Spoils Second) comes holds h =
    record { copies = record { first = h.copies.first; second = tt }; kept = h.kept }

-- ---- a packet is sent, a status is reported

higher : (high more : ℕ) (said : List Record) (kept : Record) → high ≤ more → IsBetween high said kept
    → IsBetween more said kept
higher high more said kept low is =
    let most : top kept ≤ high = is.no_more in
    record { no_less = is.no_less; no_more = omega arith }

for_copies : (P Q : Record → Type 0) → ((kept : Record) → P kept → Q kept) → (place : Option Record) → IfSome place P
    → IfSome place Q
for_copies P Q f None is = tt
for_copies P Q f (Some kept) is = f kept is

kept_more : (high more : ℕ) (said : List Record) (kept : Record) (stage : Stage) → high ≤ more
    → BetweenAt high said kept stage → BetweenAt more said kept stage
kept_more high more said kept (Lost mark) low is = tt
kept_more high more said kept RepairsFirst low is = higher high more said kept low is
kept_more high more said kept RepairsSecond low is = higher high more said kept low is
kept_more high more said kept WritesFirst low is = higher high more said kept low is
kept_more high more said kept WritesSecond low is = higher high more said kept low is
kept_more high more said kept Executes low is = higher high more said kept low is
kept_more high more said kept Rests low is = higher high more said kept low is
kept_more high more said kept Ordered low is = higher high more said kept low is

pub between_more : (high more : ℕ) (said : List Record) (b : Board) → high ≤ more → LiesBetween high said b
    → LiesBetween more said b
between_more high more said b low h =
    let all = λ (kept : Record) (is : IsBetween high said kept). higher high more said kept low is in
    record {
      copies =
          record {
            first = for_copies (IsBetween high said) (IsBetween more said) all b.first h.copies.first;
            second = for_copies (IsBetween high said) (IsBetween more said) all b.second h.copies.second;
          };
      kept = kept_more high more said b.executor.kept b.executor.stage low h.kept;
    }

said_more : (high : ℕ) (said : List Record) (new kept : Record) → new.last ≤ kept.last
    → IsBetween high said kept → IsBetween high (new ∷ said) kept
said_more high said new kept low is =
    record {
      no_less =
          λ earlier among. elim among as (λ _. earlier.last ≤ kept.last) [
            | inl same ↦ subst (λ (r : Record). r.last ≤ kept.last) (sym same) low
            | inr was ↦ is.no_less earlier was
          ];
      no_more = is.no_more;
    }

-- a copy is the record that is reported
said_of_copies : (high : ℕ) (said : List Record) (kept : Record) (place : Option Record)
    → HasNoOther place kept
    → IsBetween high said kept → IfSome place (IsBetween high (kept ∷ said))
said_of_copies high said kept place only is =
    no_other (IsBetween high (kept ∷ said)) place kept only (said_more high said kept kept (omega arith) is)

top_more : (kept : Record) (flag : Bool) → kept.begun ≡ flag → kept.last ≤ top kept
top_more kept true e = let same : top kept ≡ kept.last + 1 = rw e refl in omega arith
top_more kept false e = let same : top kept ≡ kept.last = rw e refl in omega arith

last_below : (high : ℕ) (kept : Record) → kept.last ≤ top kept → top kept ≤ high → kept.last ≤ high
last_below high kept low most = omega arith

said_at : (high : ℕ) (said : List Record) (one two : Option Record) (kept new : Record) → kept ≡ new
    → HasNoOther one kept → HasNoOther two kept → IsBetween high said kept
    → AreBetween high (new ∷ said) one two × IsBetween high (new ∷ said) kept × (new.last ≤ high)
said_at high said one two kept new same only_one only_two is =
    let here : AreBetween high (kept ∷ said) one two × IsBetween high (kept ∷ said) kept × (kept.last ≤ high) = (
      record {
        first = said_of_copies high said kept one only_one is;
        second = said_of_copies high said kept two only_two is;
      },
      said_more high said kept kept (omega arith) is,
      last_below high kept (top_more kept kept.begun refl) is.no_more,
    ) in
    subst (λ (r : Record). AreBetween high (r ∷ said) one two × IsBetween high (r ∷ said) kept
    × (r.last ≤ high)) same here

pub between_said : (high : ℕ) (said : List Record) (ns ws : List ℕ) (one two : Option Record)
    (kept : Record)
    (stage : Stage) (new : Record) → status_at kept stage ≡ Says new → AtStage ns ws one two kept stage
    → BetweenAt high said kept stage
    → AreBetween high (new ∷ said) one two × BetweenAt high (new ∷ said) kept stage × (new.last ≤ high)
between_said high said ns ws one two kept Rests new e at is =
    let same : kept ≡ new = cc in said_at high said one two kept new same at.2 at.3 is
between_said high said ns ws one two kept Ordered new e at is =
    let same : kept ≡ new = cc in said_at high said one two kept new same at.2 at.3 is
between_said high said ns ws one two kept Executes new e at is =
    let same : kept ≡ new = cc in said_at high said one two kept new same at.2 at.3 is
between_said high said ns ws one two kept (Lost mark) new e at is = absurd cc
between_said high said ns ws one two kept RepairsFirst new e at is = absurd cc
between_said high said ns ws one two kept RepairsSecond new e at is = absurd cc
between_said high said ns ws one two kept WritesFirst new e at is = absurd cc
between_said high said ns ws one two kept WritesSecond new e at is = absurd cc

-- the last number of a status is at least the last number of each earlier status
pub no_less_said : (high : ℕ) (said : List Record) (kept : Record) (stage : Stage) (new : Record)
    → status_at kept stage ≡ Says new → BetweenAt high said kept stage → (earlier : Record) → IsAmong earlier said
    → earlier.last ≤ new.last
no_less_said high said kept Rests new e is earlier among =
    let same : kept ≡ new = cc in subst (λ (r : Record). earlier.last ≤ r.last) same (is.no_less earlier among)
no_less_said high said kept Ordered new e is earlier among =
    let same : kept ≡ new = cc in subst (λ (r : Record). earlier.last ≤ r.last) same (is.no_less earlier among)
no_less_said high said kept Executes new e is earlier among =
    let same : kept ≡ new = cc in subst (λ (r : Record). earlier.last ≤ r.last) same (is.no_less earlier among)
no_less_said high said kept (Lost mark) new e is earlier among = absurd cc
no_less_said high said kept RepairsFirst new e is earlier among = absurd cc
no_less_said high said kept RepairsSecond new e is earlier among = absurd cc
no_less_said high said kept WritesFirst new e is earlier among = absurd cc
no_less_said high said kept WritesSecond new e is earlier among = absurd cc
