-- Each command that begins on board was sent with the number that the board gives to it.
use Rattle.std.proofs.Common.{◌≡◌, ℕ, ◌+◌, ◌<◌, ◌≤◌, inl, inr, min, List, [], ◌∷◌, Bool, true, false, Option}
use Rattle.std.proofs.Common.{Some, None, Result, Ok, Err}
use Rattle.std.proofs.Common.{refl, sym, ◌∙◌, arith, subst}
use Rattle.std.specs.Prelude.{⊤, if◌then◌else◌}
use Rattle.std.specs.List.{AllByRecursion}
use Rattle.std.proofs.lemmas.Bool.{cond_both}
use Rattle.command_log.specs.declared.record.Record.{Record}
use Rattle.command_log.specs.declared.executor.Place.TheVariants.{First, Second}
use Rattle.command_log.specs.declared.executor.Stage.{Stage}
use Rattle.command_log.specs.declared.executor.Stage.TheVariants.{Lost, RepairsFirst, RepairsSecond, WritesFirst}
use Rattle.command_log.specs.declared.executor.Stage.TheVariants.{WritesSecond, Executes, Rests, Ordered}
use Rattle.command_log.specs.Record.{no_commands, begun, passed_if_begun, counted}
use Rattle.command_log.specs.Executor.{ExecutorState, at_stage, start, action_at, after_action, after_writes}
use Rattle.command_log.specs.declared.fault.LogFault.{LogFault}
use Rattle.command_log.specs.declared.packets.Order.{Order}
use Rattle.command_log.specs.declared.packets.Order.TheVariants.{Rebuild}
use Rattle.command_log.specs.declared.packets.Order.TheVariants as orders
use Rattle.command_log.specs.Packets.{is_command, number_in, order_at}
use Rattle.command_log.specs.Executor.{is_taken, is_obeyed, obey_any}
use Rattle.command_log.specs.Board.{Board, Event, Offers, Orders, Acts, Restarts, BreaksOff, Spoils, board_step}
use Rattle.command_log.specs.Board.{after_doing, after_break, AreBelow, IsAmong}
use Rattle.command_log.specs.CarriedOut.{AreInOrder}
use Rattle.command_log.proofs.Steps.{Holds, AtStage, IsReady, taken_parts}

-- the packets have these numbers
abbrev pub HaveNumbers : List (List ℕ) → List ℕ → Type 0
HaveNumbers [] [] = ⊤
HaveNumbers (packet ∷ packets) (n ∷ ns) = (number_in packet ≡ n) × HaveNumbers packets ns
HaveNumbers [] (n ∷ ns) = ⊥
HaveNumbers (packet ∷ packets) [] = ⊥

-- the packet that was taken last is the next command, if the record has the command as begun
abbrev pub IsHeld : List (List ℕ) → List ℕ → Record → Type 0
IsHeld sent held kept = (number_in held ≡ kept.last + 1) × IsAmong held sent

abbrev pub HeldAt : List (List ℕ) → List ℕ → Record → Stage → Type 0
HeldAt sent held kept (Lost mark) = ⊤
HeldAt sent held kept RepairsFirst = ⊤
HeldAt sent held kept RepairsSecond = ⊤
HeldAt sent held kept WritesFirst = kept.begun ≡ true → IsHeld sent held kept
HeldAt sent held kept WritesSecond = kept.begun ≡ true → IsHeld sent held kept
HeldAt sent held kept Executes = IsHeld sent held kept
HeldAt sent held kept Rests = ⊤
HeldAt sent held kept Ordered = ⊤

pub record AreLinked (sent packets : List (List ℕ)) (ns : List ℕ) : Type 0 where
  pub numbers : HaveNumbers packets ns
  pub from_sent : AllByRecursion (λ packet. IsAmong packet sent) packets

pub record Linked (sent : List (List ℕ)) (b : Board) : Type 0 where
  pub packets : AreLinked sent b.packets b.begun
  pub holds : HeldAt sent b.held b.executor.kept b.executor.stage

not_begun_after : (kept : Record) (flag : Bool) → kept.begun ≡ flag → (counted (passed_if_begun kept flag)).begun
    ≡ false
not_begun_after kept true e = refl
not_begun_after kept false e = e

executed_too : (sent : List (List ℕ)) (ns ws : List ℕ) (packets : List (List ℕ)) (held : List ℕ) (kept : Record)
    → kept.begun ≡ true → IsReady ns ws kept → IsHeld sent held kept → AreLinked sent packets ns
    → AreLinked sent (held ∷ packets) (min (kept.last + 1) 4294967295 ∷ ns)
executed_too sent ns ws packets held kept e ready is linked =
    let low : kept.last < 4294967295 = ready.safe.low e in
    let number : number_in held ≡ kept.last + 1 = is.0 in
    record { numbers = (omega arith, linked.numbers); from_sent = (is.1, linked.from_sent) }

written_too : (sent : List (List ℕ)) (held : List ℕ) (kept : Record) (flag : Bool) → kept.begun ≡ flag
    → (kept.begun ≡ true → IsHeld sent held kept)
    → HeldAt sent held (after_writes kept flag).kept (after_writes kept flag).stage
written_too sent held kept true e is = is e
written_too sent held kept false e is = tt

acts_too : (sent : List (List ℕ)) (b : Board) (kept : Record) (stage : Stage)
    → AtStage b.begun b.whole b.first b.second kept stage → AreLinked sent b.packets b.begun
    → HeldAt sent b.held kept stage
    → Linked sent (record (after_doing b (action_at kept stage)) { executor = after_action kept stage })
acts_too sent b kept (Lost mark) is linked held = record { packets = linked; holds = tt }
acts_too sent b kept Rests is linked held = record { packets = linked; holds = tt }
acts_too sent b kept Ordered is linked held = record { packets = linked; holds = tt }
acts_too sent b kept RepairsFirst is linked held =
    record { packets = linked; holds = λ t. let f = not_begun_after kept kept.begun refl in absurd (cc (f, t)) }
acts_too sent b kept RepairsSecond is linked held =
    record { packets = linked; holds = λ t. let f = not_begun_after kept kept.begun refl in absurd (cc (f, t)) }
acts_too sent b kept WritesFirst is linked held = record { packets = linked; holds = held }
acts_too sent b kept WritesSecond is linked held =
    record { packets = linked; holds = written_too sent b.held kept kept.begun refl held }
acts_too sent b kept Executes is linked held =
    record {
      packets = executed_too sent b.begun b.whole b.packets b.held kept is.1 is.0 held linked;
      holds = λ t. absurd (cc t);
    }

broken_too : (sent : List (List ℕ)) (b : Board) (kept : Record) (stage : Stage)
    → AtStage b.begun b.whole b.first b.second kept stage → AreLinked sent b.packets b.begun
    → HeldAt sent b.held kept stage
    → AreLinked sent (after_break b (action_at kept stage)).packets (after_break b (action_at kept stage)).begun
broken_too sent b kept (Lost mark) is linked held = linked
broken_too sent b kept Rests is linked held = linked
broken_too sent b kept Ordered is linked held = linked
broken_too sent b kept RepairsFirst is linked held = linked
broken_too sent b kept RepairsSecond is linked held = linked
broken_too sent b kept WritesFirst is linked held = linked
broken_too sent b kept WritesSecond is linked held = linked
broken_too sent b kept Executes is linked held =
    executed_too sent b.begun b.whole b.packets b.held kept is.1 is.0 held linked

held_at_start : (sent : List (List ℕ)) (held : List ℕ) (one two : Option Record) (mark : ℕ)
    → HeldAt sent held (start one two mark).kept (start one two mark).stage
held_at_start sent held (Some one) two mark = tt
held_at_start sent held None (Some two) mark = tt
held_at_start sent held None None mark = tt

offered_too : (sent : List (List ℕ)) (b : Board) (octets : List ℕ) → (is_command octets ≡ true → IsAmong octets sent)
    → Linked sent b → (flag : Bool) → is_taken b.executor octets ≡ flag
    → HeldAt sent (if flag then octets else b.held)
    (if flag then at_stage (begun b.executor.kept octets) WritesFirst else b.executor).kept
    (if flag then at_stage (begun b.executor.kept octets) WritesFirst else b.executor).stage
offered_too sent b octets among h false e = h.holds
offered_too sent b octets among h true e =
    let parts = taken_parts b.executor octets e in
    λ t. (parts.3, among parts.0)

-- an order leads to no stage that holds a packet
obeyed_too : (sent : List (List ℕ)) (s : ExecutorState) (held : List ℕ) (read : Result Order LogFault)
    → HeldAt sent held s.kept s.stage → HeldAt sent held (obey_any s read).kept (obey_any s read).stage
obeyed_too sent s held (Err e) is = is
obeyed_too sent s held (Ok (orders.Restart boot)) is =
    cond_both (is_obeyed s (orders.Restart boot)) (at_stage s.kept Ordered) s
    (λ (after : ExecutorState). HeldAt sent held after.kept after.stage) (λ t. tt) (λ f. is)
obeyed_too sent s held (Ok (Rebuild mark boot last)) is =
    cond_both (is_obeyed s (Rebuild mark boot last)) (at_stage (no_commands boot last) WritesFirst) s
    (λ (after : ExecutorState). HeldAt sent held after.kept after.stage) (λ t. λ begun. absurd (cc begun)) (λ f. is)

-- the assumption about an event
abbrev pub IsFromSent : List (List ℕ) → Event → Type 0
IsFromSent sent (Offers octets) = is_command octets ≡ true → IsAmong octets sent
IsFromSent sent (Orders octets) = ⊤
IsFromSent sent Acts = ⊤
IsFromSent sent (Restarts mark) = ⊤
IsFromSent sent (BreaksOff mark) = ⊤
IsFromSent sent (Spoils place) = ⊤

pub linked_step : (sent : List (List ℕ)) (b : Board) (event : Event) → IsFromSent sent event → Holds b
    → Linked sent b
    → Linked sent (board_step b event)
linked_step sent b (Offers octets) is holds h =
    record {
      packets = h.packets;
      holds = offered_too sent b octets is h (is_taken b.executor octets) refl;
    }
linked_step sent b (Orders octets) is holds h =
    record { packets = h.packets; holds = obeyed_too sent b.executor b.held (order_at octets) h.holds }
linked_step sent b Acts is holds h = acts_too sent b b.executor.kept b.executor.stage holds.stage h.packets h.holds
linked_step sent b (Restarts mark) is holds h =
    record { packets = h.packets; holds = held_at_start sent b.held b.first b.second mark }
linked_step sent b (BreaksOff mark) is holds h =
    let after = after_break b (action_at b.executor.kept b.executor.stage) in
    record {
      packets = broken_too sent b b.executor.kept b.executor.stage holds.stage h.packets h.holds;
      holds = held_at_start sent after.held after.first after.second mark;
    }
linked_step sent b (Spoils First) is holds h = record { packets = h.packets; holds = h.holds }
linked_step sent b (Spoils Second) is holds h = record { packets = h.packets; holds = h.holds }

-- ---- one more packet is sent

pub all_weaker : {X : Type 0} (P Q : X → Type 0) → ((x : X) → P x → Q x) → (xs : List X) → AllByRecursion P xs
    → AllByRecursion Q xs
all_weaker P Q f [] is = tt
all_weaker P Q f (x ∷ xs) is = (f x is.0, all_weaker P Q f xs is.1)

pub all_at : {X : Type 0} (P : X → Type 0) (x : X) (xs : List X) → IsAmong x xs → AllByRecursion P xs → P x
all_at P x [] among is = absurd among
all_at P x (y ∷ ys) (inl e) is = subst P (sym e) is.0
all_at P x (y ∷ ys) (inr h) is = all_at P x ys h is.1

held_more : (sent : List (List ℕ)) (packet held : List ℕ) (kept : Record) (stage : Stage) → HeldAt sent held kept stage
    → HeldAt (packet ∷ sent) held kept stage
held_more sent packet held kept (Lost mark) h = tt
held_more sent packet held kept RepairsFirst h = tt
held_more sent packet held kept RepairsSecond h = tt
held_more sent packet held kept WritesFirst h = λ t. ((h t).0, inr (h t).1)
held_more sent packet held kept WritesSecond h = λ t. ((h t).0, inr (h t).1)
held_more sent packet held kept Executes h = (h.0, inr h.1)
held_more sent packet held kept Rests h = tt
held_more sent packet held kept Ordered h = tt

pub linked_more : (sent : List (List ℕ)) (packet : List ℕ) (b : Board) → Linked sent b → Linked (packet ∷ sent) b
linked_more sent packet b h =
    record {
      packets =
          record {
            numbers = h.packets.numbers;
            from_sent =
                all_weaker (λ (q : List ℕ). IsAmong q sent) (λ (q : List ℕ). IsAmong q (packet ∷ sent)) (λ q m. inr m)
                b.packets
                h.packets.from_sent;
          };
      holds = held_more sent packet b.held b.executor.kept b.executor.stage h.holds;
    }

-- ---- consequences

pub in_order : (bound : ℕ) (packets : List (List ℕ)) (ns : List ℕ) → HaveNumbers packets ns → AreBelow bound ns
    → AreInOrder bound packets
in_order bound [] ns same below = tt
in_order bound (packet ∷ packets) [] same below = absurd same
in_order bound (packet ∷ packets) (n ∷ ns) same below =
    let number : number_in packet ≡ n = same.0 in
    let low : n < bound = below.0 in
    (omega arith, in_order (number_in packet) packets ns same.1 (subst (λ (m : ℕ). AreBelow m ns) (sym number) below.1))

pub has_command : (n : ℕ) (packets : List (List ℕ)) (ns : List ℕ) → HaveNumbers packets ns → IsAmong n ns
    → (packet : List ℕ) × IsAmong packet packets × (number_in packet ≡ n)
has_command n [] [] same among = absurd among
has_command n [] (m ∷ ns) same among = absurd same
has_command n (packet ∷ packets) [] same among = absurd same
has_command n (packet ∷ packets) (m ∷ ns) same (inl e) = (packet, inl refl, same.0 ∙ sym e)
has_command n (packet ∷ packets) (m ∷ ns) same (inr h) =
    let rest = has_command n packets ns same.1 h in
    (rest.0, inr rest.1, rest.2)

-- no number above the last was begun if none was sent
pub below_sent : (last bound : ℕ) (sent packets : List (List ℕ)) (ns : List ℕ)
    → AllByRecursion (λ (packet : List ℕ). number_in packet ≤ last) sent → HaveNumbers packets ns
    → AllByRecursion (λ packet. IsAmong packet sent) packets → AreBelow bound ns → AreBelow (last + 1) ns
below_sent last bound sent [] [] all same from_sent below = tt
below_sent last bound sent [] (n ∷ ns) all same from_sent below = absurd same
below_sent last bound sent (packet ∷ packets) [] all same from_sent below = absurd same
below_sent last bound sent (packet ∷ packets) (n ∷ ns) all same from_sent below =
    let number : number_in packet ≡ n = same.0 in
    let within : number_in packet ≤ last = all_at (λ (q : List ℕ). number_in q ≤ last) packet sent from_sent.0 all in
    (omega arith, below.1)
