-- A copy of the record is good at every moment.
use Rattle.std.proofs.Common.{◌≡◌, ℕ, ◌⊎◌, inl, inr, List, [], ◌∷◌, Bool, true, false, Option, Some, None}
use Rattle.std.proofs.Common.{refl, Result, Ok, Err}
use Rattle.std.specs.Prelude.{◌&&◌, not, is_some, nat_eq}
use Rattle.std.proofs.lemmas.Bool.{cond_both}
use Rattle.command_log.specs.declared.record.Record.{Record}
use Rattle.command_log.specs.declared.executor.Place.TheVariants.{First, Second}
use Rattle.command_log.specs.declared.executor.Stage.{Stage}
use Rattle.command_log.specs.declared.executor.Stage.TheVariants.{Lost, RepairsFirst, RepairsSecond, WritesFirst}
use Rattle.command_log.specs.declared.executor.Stage.TheVariants.{WritesSecond, Executes, Rests, Ordered}
use Rattle.command_log.specs.Record.{no_commands, begun}
use Rattle.command_log.specs.Executor.{ExecutorState, at_stage, start, action_at, after_action, after_writes}
use Rattle.command_log.specs.declared.fault.LogFault.{LogFault}
use Rattle.command_log.specs.declared.packets.Order.{Order}
use Rattle.command_log.specs.declared.packets.Order.TheVariants.{Rebuild}
use Rattle.command_log.specs.declared.packets.Order.TheVariants as orders
use Rattle.command_log.specs.Packets.{order_at}
use Rattle.command_log.specs.Executor.{is_at_rest, has_lost, has_mark, is_taken, is_obeyed, obey_any, is_lost}
use Rattle.command_log.specs.Board.{Board, Event, Offers, Orders, Acts, Restarts, BreaksOff, Spoils, new_board}
use Rattle.command_log.specs.Board.{board_step, board_run}
use Rattle.command_log.specs.Board.{after_doing, after_break}
use Rattle.command_log.specs.NeverLost.{are_both_good, still_spoiled, IsMild, AreMild, EachKeepsItsRecord}
use Rattle.command_log.proofs.Steps.{both, taken_parts}

-- if no copy is spoiled: the copies that are good at each stage; a torn write spoils only one
abbrev pub GoodAt : Option Record → Option Record → Stage → Type 0
GoodAt one two (Lost mark) = ⊥
GoodAt one two RepairsFirst = is_some two ≡ true
GoodAt one two RepairsSecond = is_some one ≡ true
GoodAt one two WritesFirst = (is_some one ≡ true) × (is_some two ≡ true)
GoodAt one two WritesSecond = (is_some one ≡ true) × (is_some two ≡ true)
GoodAt one two Executes = (is_some one ≡ true) × (is_some two ≡ true)
GoodAt one two Rests = (is_some one ≡ true) × (is_some two ≡ true)
GoodAt one two Ordered = (is_some one ≡ true) × (is_some two ≡ true)

abbrev pub OneIsGood : Option Record → Option Record → Stage → Type 0
OneIsGood one two stage = ((is_some one ≡ true) ⊎ (is_some two ≡ true)) × (has_lost stage ≡ false)

abbrev pub GoodBy : Bool → Option Record → Option Record → Stage → Type 0
GoodBy true one two stage = OneIsGood one two stage
GoodBy false one two stage = GoodAt one two stage

both_good : (one two : Option Record) (stage : Stage) → has_lost stage ≡ false
    → (is_some one ≡ true) × (is_some two ≡ true)
    → GoodAt one two stage
both_good one two (Lost mark) e is = absurd cc
both_good one two RepairsFirst e is = is.1
both_good one two RepairsSecond e is = is.0
both_good one two WritesFirst e is = is
both_good one two WritesSecond e is = is
both_good one two Executes e is = is
both_good one two Rests e is = is
both_good one two Ordered e is = is

started_good : (one two : Option Record) → (is_some one ≡ true) ⊎ (is_some two ≡ true)
    → (mark : ℕ) → GoodAt one two (start one two mark).stage
started_good (Some one) two is mark = refl
started_good None (Some two) is mark = refl
started_good None None (inl e) mark = absurd cc
started_good None None (inr e) mark = absurd cc

started_one : (one two : Option Record) → (is_some one ≡ true) ⊎ (is_some two ≡ true)
    → (mark : ℕ) → OneIsGood one two (start one two mark).stage
started_one (Some one) two is mark = (is, refl)
started_one None (Some two) is mark = (is, refl)
started_one None None (inl e) mark = absurd cc
started_one None None (inr e) mark = absurd cc

one_of : (one two : Option Record) (stage : Stage) → GoodAt one two stage → OneIsGood one two stage
one_of one two (Lost mark) is = absurd is
one_of one two RepairsFirst is = (inr is, refl)
one_of one two RepairsSecond is = (inl is, refl)
one_of one two WritesFirst is = (inl is.0, refl)
one_of one two WritesSecond is = (inl is.0, refl)
one_of one two Executes is = (inl is.0, refl)
one_of one two Rests is = (inl is.0, refl)
one_of one two Ordered is = (inl is.0, refl)

one_by : (spoiled : Bool) (one two : Option Record) (stage : Stage) → GoodBy spoiled one two stage
    → OneIsGood one two stage
one_by true one two stage is = is
one_by false one two stage is = one_of one two stage is

-- the calls lead only to stages that need both copies
by_calls : (spoiled : Bool) (one two : Option Record) (stage : Stage) → is_at_rest stage ≡ true
    → GoodBy spoiled one two stage
    → GoodBy spoiled one two WritesFirst
by_calls true one two stage e is = (is.0, refl)
by_calls false one two Rests e is = is
by_calls false one two Ordered e is = absurd cc
by_calls false one two (Lost mark) e is = absurd cc
by_calls false one two RepairsFirst e is = absurd cc
by_calls false one two RepairsSecond e is = absurd cc
by_calls false one two WritesFirst e is = absurd cc
by_calls false one two WritesSecond e is = absurd cc
by_calls false one two Executes e is = absurd cc

by_order : (spoiled : Bool) (one two : Option Record) (stage : Stage) → is_at_rest stage ≡ true
    → GoodBy spoiled one two stage
    → GoodBy spoiled one two Ordered
by_order true one two stage e is = (is.0, refl)
by_order false one two Rests e is = is
by_order false one two Ordered e is = absurd cc
by_order false one two (Lost mark) e is = absurd cc
by_order false one two RepairsFirst e is = absurd cc
by_order false one two RepairsSecond e is = absurd cc
by_order false one two WritesFirst e is = absurd cc
by_order false one two WritesSecond e is = absurd cc
by_order false one two Executes e is = absurd cc

written_stage : (kept : Record) (flag : Bool) (one two : Option Record) → (is_some one ≡ true) × (is_some two ≡ true)
    → GoodAt one two (after_writes kept flag).stage
written_stage kept true one two is = is
written_stage kept false one two is = is

written_not_lost : (kept : Record) (flag : Bool) → has_lost (after_writes kept flag).stage ≡ false
written_not_lost kept true = refl
written_not_lost kept false = refl

-- an action that is completed
done_good : (b : Board) (kept : Record) (stage : Stage) → GoodAt b.first b.second stage
    → GoodAt (after_doing b (action_at kept stage)).first (after_doing b (action_at kept stage)).second
    (after_action kept stage).stage
done_good b kept (Lost mark) is = is
done_good b kept RepairsFirst is = (refl, is)
done_good b kept RepairsSecond is = (is, refl)
done_good b kept WritesFirst is = (refl, is.1)
done_good b kept WritesSecond is = written_stage kept kept.begun b.first (Some kept) (is.0, refl)
done_good b kept Executes is = is
done_good b kept Rests is = is
done_good b kept Ordered is = is

done_one : (b : Board) (kept : Record) (stage : Stage) → OneIsGood b.first b.second stage
    → OneIsGood (after_doing b (action_at kept stage)).first (after_doing b (action_at kept stage)).second
    (after_action kept stage).stage
done_one b kept (Lost mark) is = is
done_one b kept RepairsFirst is = (inl refl, refl)
done_one b kept RepairsSecond is = (inr refl, refl)
done_one b kept WritesFirst is = (inl refl, refl)
done_one b kept WritesSecond is = (inr refl, written_not_lost kept kept.begun)
done_one b kept Executes is = is
done_one b kept Rests is = is
done_one b kept Ordered is = is

broken_good : (b : Board) (kept : Record) (stage : Stage) → GoodAt b.first b.second stage
    → (is_some (after_break b (action_at kept stage)).first ≡ true) ⊎
    (is_some (after_break b (action_at kept stage)).second ≡ true)
broken_good b kept (Lost mark) is = absurd is
broken_good b kept RepairsFirst is = inr is
broken_good b kept RepairsSecond is = inl is
broken_good b kept WritesFirst is = inr is.1
broken_good b kept WritesSecond is = inl is.0
broken_good b kept Executes is = inl is.0
broken_good b kept Rests is = inl is.0
broken_good b kept Ordered is = inl is.0

-- whether the copy is repaired
mended : (good : Bool) (one two : Option Record) (stage : Stage) → (is_some one && is_some two) ≡ good
    → OneIsGood one two stage → GoodBy (not good) one two stage
mended false one two stage e is = is
mended true one two stage e is = both_good one two stage is.1 (both (is_some one) (is_some two) e)

acts_good : (spoiled : Bool) (b : Board) → GoodBy spoiled b.first b.second b.executor.stage
    → GoodBy (spoiled && not (are_both_good (board_step b Acts))) (board_step b Acts).first (board_step b Acts).second
    (board_step b Acts).executor.stage
acts_good false b is = done_good b b.executor.kept b.executor.stage is
acts_good true b is =
    let after = board_step b Acts in
    mended (are_both_good (board_step b Acts)) (board_step b Acts).first (board_step b Acts).second
    (board_step b Acts).executor.stage refl (done_one b b.executor.kept b.executor.stage is)

-- a stage with a mark is a loss
marked_is_lost : (stage : Stage) (mark : ℕ) → has_mark stage mark ≡ true → has_lost stage ≡ true
marked_is_lost (Lost of_loss) mark e = refl
marked_is_lost Rests mark e = absurd cc
marked_is_lost Ordered mark e = absurd cc
marked_is_lost RepairsFirst mark e = absurd cc
marked_is_lost RepairsSecond mark e = absurd cc
marked_is_lost WritesFirst mark e = absurd cc
marked_is_lost WritesSecond mark e = absurd cc
marked_is_lost Executes mark e = absurd cc

obeyed_good : (spoiled : Bool) (one two : Option Record) (s : ExecutorState) (read : Result Order LogFault)
    → GoodBy spoiled one two s.stage → GoodBy spoiled one two (obey_any s read).stage
obeyed_good spoiled one two s (Err e) is = is
obeyed_good spoiled one two s (Ok (orders.Restart boot)) is =
    cond_both (is_obeyed s (orders.Restart boot)) (at_stage s.kept Ordered) s
    (λ (after : ExecutorState). GoodBy spoiled one two after.stage)
    (λ (t : is_obeyed s (orders.Restart boot) ≡ true).
    by_order spoiled one two s.stage (both (is_at_rest s.stage) (nat_eq boot s.kept.boot) t).0 is)
    (λ (f : is_obeyed s (orders.Restart boot) ≡ false). is)
obeyed_good spoiled one two s (Ok (Rebuild mark boot last)) is =
    cond_both (is_obeyed s (Rebuild mark boot last)) (at_stage (no_commands boot last) WritesFirst) s
    (λ (after : ExecutorState). GoodBy spoiled one two after.stage)
    (λ (t : is_obeyed s (Rebuild mark boot last) ≡ true).
    let none : has_lost s.stage ≡ false = (one_by spoiled one two s.stage is).1 in
    let some : has_lost s.stage ≡ true = marked_is_lost s.stage mark t in
    absurd (cc (some, none)))
    (λ (f : is_obeyed s (Rebuild mark boot last) ≡ false). is)

pub step_good : (spoiled : Bool) (b : Board) (event : Event) → IsMild spoiled b event
    → GoodBy spoiled b.first b.second b.executor.stage
    → GoodBy (still_spoiled spoiled event (board_step b event)) (board_step b event).first (board_step b event).second
    (board_step b event).executor.stage
step_good spoiled b (Offers octets) mild is =
    cond_both (is_taken b.executor octets) (at_stage (begun b.executor.kept octets) WritesFirst) b.executor
    (λ (after : ExecutorState). GoodBy spoiled b.first b.second after.stage)
    (λ (t : is_taken b.executor octets ≡ true).
    let parts = taken_parts b.executor octets t in
    by_calls spoiled b.first b.second b.executor.stage parts.1 is)
    (λ (f : is_taken b.executor octets ≡ false). is)
step_good spoiled b (Orders octets) mild is =
    obeyed_good spoiled b.first b.second b.executor (order_at octets) is
step_good spoiled b Acts mild is = acts_good spoiled b is
step_good true b (Restarts mark) mild is = started_one b.first b.second is.0 mark
step_good false b (Restarts mark) mild is = started_good b.first b.second
    (one_of b.first b.second b.executor.stage is).0 mark
step_good true b (BreaksOff mark) mild is = absurd cc
step_good false b (BreaksOff mark) mild is =
    let after = after_break b (action_at b.executor.kept b.executor.stage) in
    started_good after.first after.second (broken_good b b.executor.kept b.executor.stage is) mark
step_good spoiled b (Spoils First) mild is =
    (inr (both (is_some b.first) (is_some b.second) mild).1, (one_by spoiled b.first b.second b.executor.stage is).1)
step_good spoiled b (Spoils Second) mild is =
    (inl (both (is_some b.first) (is_some b.second) mild).0, (one_by spoiled b.first b.second b.executor.stage is).1)

run_good : (spoiled : Bool) (b : Board) (events : List Event) → AreMild spoiled b events
    → GoodBy spoiled b.first b.second b.executor.stage → is_lost (board_run b events).executor ≡ false
run_good spoiled b [] mild is = (one_by spoiled b.first b.second b.executor.stage is).1
run_good spoiled b (event ∷ events) mild is =
    run_good (still_spoiled spoiled event (board_step b event)) (board_step b event) events mild.1
    (step_good spoiled b event mild.0 is)

pub each_keeps : EachKeepsItsRecord
each_keeps events mild = run_good false new_board events mild refl
