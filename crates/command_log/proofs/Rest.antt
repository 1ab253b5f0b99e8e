-- A board that is not cut off comes to rest.
use Rattle.std.proofs.Common.{◌≡◌, ℕ, ◌+◌, ◌<◌, min, List, ◌∷◌, Bool, true, false, refl, sym, ap, arith, subst, lt-ltb}
use Rattle.std.proofs.Common.{eq-eqb}
use Rattle.std.specs.Prelude.{◌&&◌, nat_lt, nat_eq, if◌then◌else◌}
use Rattle.command_log.specs.declared.record.Record.{Record}
use Rattle.command_log.specs.declared.executor.Stage.{Stage}
use Rattle.command_log.specs.declared.executor.Stage.TheVariants.{Lost, RepairsFirst, RepairsSecond, WritesFirst}
use Rattle.command_log.specs.declared.executor.Stage.TheVariants.{WritesSecond, Executes, Rests, Ordered}
use Rattle.command_log.specs.Packets.{is_command, number_in}
use Rattle.command_log.specs.Record.{begun}
use Rattle.command_log.specs.Executor.{ExecutorState, at_stage, has_lost, is_taken}
use Rattle.command_log.specs.Board.{Board, Offers, board_run}
use Rattle.command_log.proofs.Exact.{are_both}
use Rattle.command_log.specs.Progress.{five, IsExecuted, EachComesToRest, EachNextIsExecuted}

comes : (b : Board) (kept : Record) (stage : Stage) (flag : Bool) → kept.begun ≡ flag → has_lost stage ≡ false
    → (stage ≡ Ordered → ⊥) → (board_run (record b { executor = at_stage kept stage }) five).executor.stage ≡ Rests
comes b kept (Lost mark) flag e is not = absurd cc
comes b kept RepairsFirst true e is not = rw e refl
comes b kept RepairsFirst false e is not = rw e (rw e refl)
comes b kept RepairsSecond true e is not = rw e refl
comes b kept RepairsSecond false e is not = rw e (rw e refl)
comes b kept WritesFirst true e is not = rw e refl
comes b kept WritesFirst false e is not = rw e refl
comes b kept WritesSecond true e is not = rw e refl
comes b kept WritesSecond false e is not = rw e refl
comes b kept Executes flag e is not = refl
comes b kept Rests flag e is not = refl
comes b kept Ordered flag e is not = absurd (not refl)

pub each_comes_to_rest : EachComesToRest
each_comes_to_rest b is not = comes b b.executor.kept b.executor.stage b.executor.kept.begun refl is not

chosen : (b : Board) (packet : List ℕ) (taken dropped : ExecutorState) (flag : Bool) → flag ≡ true
    → ◌≡◌ {A = Board}
    (record b { executor = if flag then taken else dropped; held = if flag then packet else b.held })
    (record b { executor = taken; held = packet })
chosen b packet taken dropped true e = refl
chosen b packet taken dropped false e = absurd cc

-- the command that was taken is executed
executed_next : (b : Board) (kept : Record) (packet : List ℕ) → kept.last < 4294967295
    → IsExecuted (record b { executor = at_stage kept Rests }) packet
    (board_run (record b { executor = at_stage (begun kept packet) WritesFirst; held = packet }) five)
executed_next b kept packet low =
    let last : min (kept.last + 1) 4294967295 ≡ kept.last + 1 = omega arith in
    record { whole = ap (λ (n : ℕ). n ∷ b.whole) last; packets = refl; said = refl }

next_is : (b : Board) (kept : Record) (packet : List ℕ) → kept.last < 4294967295
    → is_command packet ≡ true → number_in packet ≡ kept.last + 1
    → IsExecuted (record b { executor = at_stage kept Rests }) packet
    (board_run (record b { executor = at_stage kept Rests }) (Offers packet ∷ five))
next_is b kept packet low whole number =
    let parts : (nat_lt kept.last 4294967295 && nat_eq (number_in packet) (kept.last + 1)) ≡ true =
    are_both (nat_lt kept.last 4294967295) (nat_eq (number_in packet) (kept.last + 1))
    (lt-ltb kept.last 4294967295 low) (eq-eqb (number_in packet) (kept.last + 1) number) in
    let is : is_taken (at_stage kept Rests) packet ≡ true =
    are_both (is_command packet) (nat_lt kept.last 4294967295 && nat_eq (number_in packet) (kept.last + 1)) whole parts
    in
    let offered = chosen (record b { executor = at_stage kept Rests }) packet (at_stage (begun kept packet) WritesFirst)
    (at_stage kept Rests)
    (is_taken (at_stage kept Rests) packet) is in
    subst (λ (after : Board). IsExecuted (record b { executor = at_stage kept Rests }) packet (board_run after five))
    (sym offered) (executed_next b kept packet low)

pub each_next : EachNextIsExecuted
each_next b packet rests low whole number =
    subst (λ (stage : Stage).
    IsExecuted (record b { executor = at_stage b.executor.kept stage }) packet
    (board_run (record b { executor = at_stage b.executor.kept stage }) (Offers packet ∷ five))) (sym rests)
    (next_is b b.executor.kept packet low whole number)
