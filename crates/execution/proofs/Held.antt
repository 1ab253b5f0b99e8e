-- Each packet whose execution begins was given.
use Rattle.std.proofs.Common.{◌≡◌, ℕ, List, Bool, true, false, Option, Some, None, Result, Ok, Err, refl}
use Rattle.std.specs.Prelude.{⊤, if◌then◌else◌}
use Rattle.std.specs.List.{AllByRecursion}
use Rattle.std.proofs.lemmas.Bool.{cond_both}
use Rattle.command_log.specs.declared.record.Record.{Record}
use Rattle.command_log.specs.declared.executor.Place.TheVariants.{First, Second}
use Rattle.command_log.specs.declared.executor.Stage.{Stage}
use Rattle.command_log.specs.declared.executor.Stage.TheVariants.{Lost, RepairsFirst, RepairsSecond, WritesFirst}
use Rattle.command_log.specs.declared.executor.Stage.TheVariants.{WritesSecond, Executes, Rests, Ordered}
use Rattle.command_log.specs.declared.fault.LogFault.{LogFault}
use Rattle.command_log.specs.declared.packets.Order.{Order}
use Rattle.command_log.specs.declared.packets.Order.TheVariants.{Restart, Rebuild}
use Rattle.command_log.specs.Packets.{order_at}
use Rattle.command_log.specs.Record.{no_commands, begun, passed_if_begun, counted}
use Rattle.command_log.specs.Executor.{ExecutorState, at_stage, start, action_at, after_action, after_writes}
use Rattle.command_log.specs.Executor.{is_taken, is_obeyed, obey_any}
use Rattle.command_log.specs.Board.{Board, Event, Offers, Orders, Acts, Restarts, BreaksOff, Spoils, board_step}
use Rattle.command_log.specs.Board.{after_doing, after_break}
use Rattle.execution.proofs.Lists.{all_more}

-- the packet that was taken last, if it is to be executed
abbrev pub HeldAt : (List ℕ → Type 0) → List ℕ → Record → Stage → Type 0
HeldAt G held kept (Lost mark) = ⊤
HeldAt G held kept RepairsFirst = ⊤
HeldAt G held kept RepairsSecond = ⊤
HeldAt G held kept WritesFirst = kept.begun ≡ true → G held
HeldAt G held kept WritesSecond = kept.begun ≡ true → G held
HeldAt G held kept Executes = G held
HeldAt G held kept Rests = ⊤
HeldAt G held kept Ordered = ⊤

pub record HasHeld (G : List ℕ → Type 0) (b : Board) : Type 0 where
  pub packets : AllByRecursion G b.packets
  pub held : HeldAt G b.held b.executor.kept b.executor.stage

not_begun : (kept : Record) (flag : Bool) → kept.begun ≡ flag → (counted (passed_if_begun kept flag)).begun ≡ false
not_begun kept true e = refl
not_begun kept false e = e

written : (G : List ℕ → Type 0) (held : List ℕ) (kept : Record) (flag : Bool) → kept.begun ≡ flag
    → (kept.begun ≡ true → G held) → HeldAt G held (after_writes kept flag).kept (after_writes kept flag).stage
written G held kept true e is = is e
written G held kept false e is = tt

acts : (G : List ℕ → Type 0) (b : Board) (kept : Record) (stage : Stage) → AllByRecursion G b.packets
    → HeldAt G b.held kept stage
    → HasHeld G (record (after_doing b (action_at kept stage)) { executor = after_action kept stage })
acts G b kept (Lost mark) all held = record { packets = all; held = tt }
acts G b kept Rests all held = record { packets = all; held = tt }
acts G b kept Ordered all held = record { packets = all; held = tt }
acts G b kept RepairsFirst all held =
    record { packets = all; held = λ t. let f = not_begun kept kept.begun refl in absurd (cc (f, t)) }
acts G b kept RepairsSecond all held =
    record { packets = all; held = λ t. let f = not_begun kept kept.begun refl in absurd (cc (f, t)) }
acts G b kept WritesFirst all held = record { packets = all; held = held }
acts G b kept WritesSecond all held =
    record { packets = all; held = written G b.held kept kept.begun refl held }
acts G b kept Executes all held = record { packets = (held, all); held = λ t. absurd (cc t) }

broken : (G : List ℕ → Type 0) (b : Board) (kept : Record) (stage : Stage) → AllByRecursion G b.packets
    → HeldAt G b.held kept stage → AllByRecursion G (after_break b (action_at kept stage)).packets
broken G b kept (Lost mark) all held = all
broken G b kept Rests all held = all
broken G b kept Ordered all held = all
broken G b kept RepairsFirst all held = all
broken G b kept RepairsSecond all held = all
broken G b kept WritesFirst all held = all
broken G b kept WritesSecond all held = all
broken G b kept Executes all held = (held, all)

started : (G : List ℕ → Type 0) (held : List ℕ) (one two : Option Record) (mark : ℕ)
    → HeldAt G held (start one two mark).kept (start one two mark).stage
started G held (Some one) two mark = tt
started G held None (Some two) mark = tt
started G held None None mark = tt

offered : (G : List ℕ → Type 0) (b : Board) (octets : List ℕ) (flag : Bool) → (flag ≡ true → G octets)
    → HeldAt G b.held b.executor.kept b.executor.stage
    → HeldAt G (if flag then octets else b.held)
    (if flag then at_stage (begun b.executor.kept octets) WritesFirst else b.executor).kept
    (if flag then at_stage (begun b.executor.kept octets) WritesFirst else b.executor).stage
offered G b octets false is held = held
offered G b octets true is held = λ t. is refl

obeyed : (G : List ℕ → Type 0) (s : ExecutorState) (held : List ℕ) (read : Result Order LogFault)
    → HeldAt G held s.kept s.stage → HeldAt G held (obey_any s read).kept (obey_any s read).stage
obeyed G s held (Err e) is = is
obeyed G s held (Ok (Restart boot)) is =
    cond_both (is_obeyed s (Restart boot)) (at_stage s.kept Ordered) s
    (λ (after : ExecutorState). HeldAt G held after.kept after.stage) (λ t. tt) (λ f. is)
obeyed G s held (Ok (Rebuild mark boot last)) is =
    cond_both (is_obeyed s (Rebuild mark boot last)) (at_stage (no_commands boot last) WritesFirst) s
    (λ (after : ExecutorState). HeldAt G held after.kept after.stage) (λ t. λ e. absurd (cc e)) (λ f. is)

-- octets that are taken were given
abbrev pub TakesGiven : (List ℕ → Type 0) → Board → Event → Type 0
TakesGiven G b (Offers octets) = is_taken b.executor octets ≡ true → G octets
TakesGiven G b (Orders octets) = ⊤
TakesGiven G b Acts = ⊤
TakesGiven G b (Restarts mark) = ⊤
TakesGiven G b (BreaksOff mark) = ⊤
TakesGiven G b (Spoils place) = ⊤

pub held_step : (G : List ℕ → Type 0) (b : Board) (event : Event) → TakesGiven G b event → HasHeld G b
    → HasHeld G (board_step b event)
held_step G b (Offers octets) is h =
    record { packets = h.packets; held = offered G b octets (is_taken b.executor octets) is h.held }
held_step G b (Orders octets) is h =
    record { packets = h.packets; held = obeyed G b.executor b.held (order_at octets) h.held }
held_step G b Acts is h = acts G b b.executor.kept b.executor.stage h.packets h.held
held_step G b (Restarts mark) is h = record { packets = h.packets; held = started G b.held b.first b.second mark }
held_step G b (BreaksOff mark) is h =
    let after = after_break b (action_at b.executor.kept b.executor.stage) in
    record {
      packets = broken G b b.executor.kept b.executor.stage h.packets h.held;
      held = started G after.held after.first after.second mark;
    }
held_step G b (Spoils First) is h = record { packets = h.packets; held = h.held }
held_step G b (Spoils Second) is h = record { packets = h.packets; held = h.held }

at_more : (G H : List ℕ → Type 0) → ((packet : List ℕ) → G packet → H packet) → (held : List ℕ) (kept : Record)
    (stage : Stage) → HeldAt G held kept stage → HeldAt H held kept stage
at_more G H f held kept (Lost mark) is = tt
at_more G H f held kept RepairsFirst is = tt
at_more G H f held kept RepairsSecond is = tt
at_more G H f held kept WritesFirst is = λ t. f held (is t)
at_more G H f held kept WritesSecond is = λ t. f held (is t)
at_more G H f held kept Executes is = f held is
at_more G H f held kept Rests is = tt
at_more G H f held kept Ordered is = tt

pub held_more : (G H : List ℕ → Type 0) → ((packet : List ℕ) → G packet → H packet) → (b : Board) → HasHeld G b
    → HasHeld H b
held_more G H f b h =
    record {
      packets = all_more G H f b.packets h.packets;
      held = at_more G H f b.held b.executor.kept b.executor.stage h.held;
    }
