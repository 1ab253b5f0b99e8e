-- An invariant of a ground and a board, which each deed preserves.
use Rattle.std.proofs.Common.{◌≡◌, ℕ, zero, suc, ◌+◌, ◌-◌, ◌≤◌, min, max, inl, inr, List, [], ◌∷◌, ◌++◌, Some, None}
use Rattle.std.proofs.Common.{refl, sym, ◌∙◌, ap, subst, append_assoc, arith, eqb-true, Bool, true, false, Option}
use Rattle.std.proofs.Common.{Result, Ok, Err}
use Rattle.std.specs.Prelude.{slice_get, ⊤}
use Rattle.std.specs.List.{AllByRecursion}
use Rattle.std.proofs.lemmas.Bool.{cond_both}
use Rattle.command_log.specs.declared.record.Record.{Record}
use Rattle.command_log.specs.declared.executor.Place.TheVariants.{First, Second}
use Rattle.command_log.specs.declared.status.Status.{Status}
use Rattle.command_log.specs.declared.status.Status.TheVariants.{Says, Changes, Starts}
use Rattle.command_log.specs.declared.status.Status.TheVariants as status
use Rattle.command_log.specs.declared.executor.Stage.{Stage}
use Rattle.command_log.specs.declared.executor.Stage.TheVariants.{Lost, RepairsFirst, RepairsSecond, WritesFirst}
use Rattle.command_log.specs.declared.executor.Stage.TheVariants.{WritesSecond, Executes, Rests, Ordered}
use Rattle.command_log.specs.declared.fault.LogFault.{LogFault}
use Rattle.command_log.specs.declared.packets.Order.{Order}
use Rattle.command_log.specs.declared.packets.Order.TheVariants.{Rebuild}
use Rattle.command_log.specs.declared.packets.Order.TheVariants as orders
use Rattle.command_log.specs.Packets.{number_in, content_in, order_at, last_of}
use Rattle.command_log.specs.Record.{no_commands}
use Rattle.command_log.specs.Record as records
use Rattle.command_log.specs.Executor.{ExecutorState, at_stage, start, action_at, after_action, after_writes}
use Rattle.command_log.specs.Executor.{has_mark, is_taken, is_obeyed, obey_any, executor_step, Takes}
use Rattle.command_log.specs.Executor.{status_of, status_at}
use Rattle.command_log.specs.Board.{Board, Event, Offers, Orders, Acts, Restarts, BreaksOff, Spoils, board_step}
use Rattle.command_log.specs.Board.{after_doing, after_break, AreBelow, IsAmong, IsKnown, IsTrueOf, IsSound}
use Rattle.command_log.specs.Board.{IsSoundOrder}
use Rattle.command_log.specs.CarriedOut.{Pair, Deed, Gives, Stores, Sends, Directs, LosesGround, Happens, Tells}
use Rattle.command_log.specs.CarriedOut.{new_pair, pair_step, pair_run, after_status, IsNumbered, IsOfTheLink}
use Rattle.command_log.specs.CarriedOut.{IsDirected, IsOwed, AreOwed, AreCarriedOut}
use Rattle.command_log.proofs.Steps.{Holds, step_holds, new_holds, carried_out}
use Rattle.command_log.proofs.Between.{IsBetween, LiesBetween, BringsHighest, ComesFrom, between_step, between_more}
use Rattle.command_log.proofs.Between.{between_said, no_less_said}
use Rattle.command_log.proofs.Linked.{Linked, IsFromSent, linked_step, linked_more, all_at, all_weaker, in_order}
use Rattle.command_log.proofs.Linked.{has_command, below_sent}

number_up : (high last n : ℕ) → n ≤ high → high ≤ last → n ≤ last
number_up high last n low up = omega arith

-- an order that brings a record to a board whose loss has this mark has a last above everything
-- begun and reported
abbrev pub IsAbove : List Record → List ℕ → ℕ → Type 0
IsAbove said begun last =
    AreBelow (last + 1) begun × ((earlier : Record) → IsAmong earlier said → earlier.last ≤ last)

-- an order that was sent brings nothing that was not meant for this loss
abbrev pub Suits : List ℕ → List Record → List ℕ → Stage → Order → Type 0
Suits lost said begun stage (orders.Restart boot) = ⊤
Suits lost said begun stage (Rebuild mark boot last) =
    IsAmong mark lost × (has_mark stage mark ≡ true → IsAbove said begun last)

pub record PairHolds (p : Pair) : Type 0 where
  pub board : Holds p.board
  pub linked : Linked p.sent p.board
  pub numbered : AllByRecursion (IsNumbered p.stored) p.sent
  pub goes_on : (more : List (List ℕ)) × (p.given ≡ p.stored ++ more)
  pub said : (kept : Record) (n : ℕ) → IsAmong kept p.said → IsKnown kept n → IsAmong n p.board.whole
  pub sent_low : AllByRecursion (λ packet. number_in packet ≤ p.high) p.sent
  pub directed_low : AllByRecursion (λ order. last_of order ≤ p.high) p.directed
  pub said_low : (kept : Record) → IsAmong kept p.said → kept.last ≤ p.high
  pub between : LiesBetween p.high p.said p.board
  pub suits : AllByRecursion (Suits p.lost p.said p.board.begun p.board.executor.stage) p.directed

-- ---- orders

-- if the board has a record, no order brings one
suits_none : (lost : List ℕ) (said said_too : List Record) (begun begun_too : List ℕ) (stage stage_too : Stage)
    (order : Order) → ((mark : ℕ) → has_mark stage_too mark ≡ false) → Suits lost said begun stage order
    → Suits lost said_too begun_too stage_too order
suits_none lost said said_too begun begun_too stage stage_too (orders.Restart boot) none is = tt
suits_none lost said said_too begun begun_too stage stage_too (Rebuild mark boot last) none is =
    (is.0, λ t. let f : has_mark stage_too mark ≡ false = none mark in absurd (cc (t, f)))

suits_written : (lost : List ℕ) (said : List Record) (begun : List ℕ) (kept : Record) (stage : Stage) (flag : Bool)
    (order : Order) → Suits lost said begun stage order
    → Suits lost said begun (after_writes kept flag).stage order
suits_written lost said begun kept stage true order is =
    suits_none lost said said begun begun stage Executes order (λ mark. refl) is
suits_written lost said begun kept stage false order is =
    suits_none lost said said begun begun stage Rests order (λ mark. refl) is

suits_acts : (lost : List ℕ) (said : List Record) (b : Board) (kept : Record) (stage : Stage) (order : Order)
    → Suits lost said b.begun stage order
    → Suits lost said (after_doing b (action_at kept stage)).begun (after_action kept stage).stage order
suits_acts lost said b kept (Lost mark) order is = is
suits_acts lost said b kept Rests order is = is
suits_acts lost said b kept Ordered order is = is
suits_acts lost said b kept RepairsFirst order is =
    suits_none lost said said b.begun b.begun RepairsFirst WritesFirst order (λ mark. refl) is
suits_acts lost said b kept RepairsSecond order is =
    suits_none lost said said b.begun b.begun RepairsSecond WritesFirst order (λ mark. refl) is
suits_acts lost said b kept WritesFirst order is =
    suits_none lost said said b.begun b.begun WritesFirst WritesSecond order (λ mark. refl) is
suits_acts lost said b kept WritesSecond order is =
    suits_written lost said b.begun kept WritesSecond kept.begun order is
suits_acts lost said b kept Executes order is =
    suits_none lost said said b.begun (min (kept.last + 1) 4294967295 ∷ b.begun) Executes WritesFirst order
    (λ mark. refl) is

-- a start has a mark that is in no order
suits_start : (lost : List ℕ) (said : List Record) (begun begun_too : List ℕ) (stage : Stage) (one two : Option Record)
    (mark : ℕ) (order : Order) → (IsAmong mark lost → ⊥) → Suits lost said begun stage order
    → Suits lost said begun_too (start one two mark).stage order
suits_start lost said begun begun_too stage (Some one) two mark order new is =
    suits_none lost said said begun begun_too stage RepairsSecond order (λ m. refl) is
suits_start lost said begun begun_too stage None (Some two) mark order new is =
    suits_none lost said said begun begun_too stage RepairsFirst order (λ m. refl) is
suits_start lost said begun begun_too stage None None mark (orders.Restart boot) new is = tt
suits_start lost said begun begun_too stage None None mark (Rebuild of_loss boot last) new is = (
  is.0,
  λ t.
      let same : of_loss ≡ mark = eqb-true of_loss mark t in
      absurd (new (subst (λ (m : ℕ). IsAmong m lost) same is.0)),
)

suits_offer : (lost : List ℕ) (said : List Record) (begun : List ℕ) (s : ExecutorState) (octets : List ℕ)
    (order : Order) → Suits lost said begun s.stage order
    → Suits lost said begun (executor_step s (Takes octets)).stage order
suits_offer lost said begun s octets order is =
    cond_both (is_taken s octets) (at_stage (records.begun s.kept octets) WritesFirst) s
    (λ (after : ExecutorState). Suits lost said begun after.stage order)
    (λ t. suits_none lost said said begun begun s.stage WritesFirst order (λ mark. refl) is) (λ f. is)

suits_obey : (lost : List ℕ) (said : List Record) (begun : List ℕ) (s : ExecutorState) (read : Result Order LogFault)
    (order : Order) → Suits lost said begun s.stage order
    → Suits lost said begun (obey_any s read).stage order
suits_obey lost said begun s (Err e) order is = is
suits_obey lost said begun s (Ok (orders.Restart boot)) order is =
    cond_both (is_obeyed s (orders.Restart boot)) (at_stage s.kept Ordered) s
    (λ (after : ExecutorState). Suits lost said begun after.stage order)
    (λ t. suits_none lost said said begun begun s.stage Ordered order (λ mark. refl) is) (λ f. is)
suits_obey lost said begun s (Ok (Rebuild mark boot last)) order is =
    cond_both (is_obeyed s (Rebuild mark boot last)) (at_stage (no_commands boot last) WritesFirst) s
    (λ (after : ExecutorState). Suits lost said begun after.stage order)
    (λ t. suits_none lost said said begun begun s.stage WritesFirst order (λ mark. refl) is) (λ f. is)

suits_step : (p : Pair) (event : Event) → IsOfTheLink p event → (order : Order)
    → Suits p.lost p.said p.board.begun p.board.executor.stage order
    → Suits p.lost p.said (board_step p.board event).begun (board_step p.board event).executor.stage order
suits_step p (Offers octets) link order is =
    suits_offer p.lost p.said p.board.begun p.board.executor octets order is
suits_step p (Orders octets) link order is =
    suits_obey p.lost p.said p.board.begun p.board.executor (order_at octets) order is
suits_step p Acts link order is =
    suits_acts p.lost p.said p.board p.board.executor.kept p.board.executor.stage order is
suits_step p (Restarts mark) link order is =
    suits_start p.lost p.said p.board.begun p.board.begun p.board.executor.stage p.board.first p.board.second mark
    order link is
suits_step p (BreaksOff mark) link order is =
    let after = after_break p.board (action_at p.board.executor.kept p.board.executor.stage) in
    suits_start p.lost p.said p.board.begun after.begun p.board.executor.stage after.first after.second mark order
    link is
suits_step p (Spoils First) link order is = is
suits_step p (Spoils Second) link order is = is

-- one more status: if it reports a record, the board has this record
suits_told : (lost : List ℕ) (said : List Record) (begun : List ℕ) (kept new : Record) (stage : Stage)
    (order : Order) → status_at kept stage ≡ Says new → Suits lost said begun stage order
    → Suits lost (new ∷ said) begun stage order
suits_told lost said begun kept new Rests order e is =
    suits_none lost said (new ∷ said) begun begun Rests Rests order (λ mark. refl) is
suits_told lost said begun kept new Executes order e is =
    suits_none lost said (new ∷ said) begun begun Executes Executes order (λ mark. refl) is
suits_told lost said begun kept new Ordered order e is =
    suits_none lost said (new ∷ said) begun begun Ordered Ordered order (λ mark. refl) is
suits_told lost said begun kept new (Lost mark) order e is = absurd cc
suits_told lost said begun kept new RepairsFirst order e is = absurd cc
suits_told lost said begun kept new RepairsSecond order e is = absurd cc
suits_told lost said begun kept new WritesFirst order e is = absurd cc
suits_told lost said begun kept new WritesSecond order e is = absurd cc

suits_lost : (lost : List ℕ) (new : ℕ) (said : List Record) (begun : List ℕ) (stage : Stage) (order : Order)
    → Suits lost said begun stage order → Suits (new ∷ lost) said begun stage order
suits_lost lost new said begun stage (orders.Restart boot) is = tt
suits_lost lost new said begun stage (Rebuild mark boot last) is = (inr is.0, is.1)

-- an order that is sent
suits_new : (p : Pair) (order : Order) → IsDirected p order → PairHolds p
    → Suits p.lost p.said p.board.begun p.board.executor.stage order
suits_new p (orders.Restart boot) is h = tt
suits_new p (Rebuild mark boot last) is h = (
  is.0,
  λ t. (
    below_sent last h.board.always.once.0 p.sent p.board.packets p.board.begun
        (all_weaker (λ (packet : List ℕ). number_in packet ≤ p.high) (λ (packet : List ℕ). number_in packet ≤ last)
        (λ packet low. number_up p.high last (number_in packet) low is.1) p.sent h.sent_low)
        h.linked.packets.numbers h.linked.packets.from_sent h.board.always.once.1,
    λ earlier among. number_up p.high last earlier.last (h.said_low earlier among) is.1,
  ),
)

-- executed commands remain executed
more_whole : (b : Board) (kept : Record) (stage : Stage) (n : ℕ) → IsAmong n b.whole
    → IsAmong n (after_doing b (action_at kept stage)).whole
more_whole b kept (Lost mark) n h = h
more_whole b kept Rests n h = h
more_whole b kept Ordered n h = h
more_whole b kept RepairsFirst n h = h
more_whole b kept RepairsSecond n h = h
more_whole b kept WritesFirst n h = h
more_whole b kept WritesSecond n h = h
more_whole b kept Executes n h = inr h

same_whole : (b : Board) (kept : Record) (stage : Stage) (n : ℕ) → IsAmong n b.whole
    → IsAmong n (after_break b (action_at kept stage)).whole
same_whole b kept (Lost mark) n h = h
same_whole b kept Rests n h = h
same_whole b kept Ordered n h = h
same_whole b kept RepairsFirst n h = h
same_whole b kept RepairsSecond n h = h
same_whole b kept WritesFirst n h = h
same_whole b kept WritesSecond n h = h
same_whole b kept Executes n h = h

whole_stays : (b : Board) (event : Event) (n : ℕ) → IsAmong n b.whole → IsAmong n (board_step b event).whole
whole_stays b (Offers octets) n h = h
whole_stays b (Orders octets) n h = h
whole_stays b Acts n h = more_whole b b.executor.kept b.executor.stage n h
whole_stays b (Restarts mark) n h = h
whole_stays b (BreaksOff mark) n h = same_whole b b.executor.kept b.executor.stage n h
whole_stays b (Spoils First) n h = h
whole_stays b (Spoils Second) n h = h

-- the assumption about the link implies the assumption about the board
sound_order : (p : Pair) (read : Result Order LogFault)
    → ((order : Order) → read ≡ Ok order → IsAmong order p.directed) → PairHolds p → IsSoundOrder p.board read
sound_order p (Err e) is h = tt
sound_order p (Ok (orders.Restart boot)) is h = tt
sound_order p (Ok (Rebuild mark boot last)) is h =
    let suits = all_at (Suits p.lost p.said p.board.begun p.board.executor.stage) (Rebuild mark boot last) p.directed
    (is (Rebuild mark boot last) refl) h.suits in
    λ t. (suits.1 t).0

sound_of : (p : Pair) (event : Event) → PairHolds p → IsOfTheLink p event → IsSound p.board event
sound_of p (Offers octets) h is = tt
sound_of p (Orders octets) h is = sound_order p (order_at octets) is h
sound_of p Acts h is = tt
sound_of p (Restarts mark) h is = tt
sound_of p (BreaksOff mark) h is = tt
sound_of p (Spoils place) h is = tt

from_sent_of : (p : Pair) (event : Event) → IsOfTheLink p event → IsFromSent p.sent event
from_sent_of p (Offers octets) is = is
from_sent_of p (Orders octets) is = tt
from_sent_of p Acts is = tt
from_sent_of p (Restarts mark) is = tt
from_sent_of p (BreaksOff mark) is = tt
from_sent_of p (Spoils place) is = tt

brings_highest : (p : Pair) (read : Result Order LogFault)
    → ((order : Order) → read ≡ Ok order → IsAmong order p.directed) → PairHolds p
    → BringsHighest p.high p.said p.board.executor read
brings_highest p (Err e) is h = tt
brings_highest p (Ok (orders.Restart boot)) is h = tt
brings_highest p (Ok (Rebuild mark boot last)) is h =
    let among = is (Rebuild mark boot last) refl in
    let suits = all_at (Suits p.lost p.said p.board.begun p.board.executor.stage) (Rebuild mark boot last) p.directed
    among h.suits in
    λ t. (
      (suits.1 t).1,
      all_at (λ (order : Order). last_of order ≤ p.high) (Rebuild mark boot last) p.directed among h.directed_low,
    )

comes_from : (p : Pair) (event : Event) → IsOfTheLink p event → PairHolds p
    → ComesFrom p.high p.said p.board.executor event
comes_from p (Offers octets) is h =
    λ t. all_at (λ (packet : List ℕ). number_in packet ≤ p.high) octets p.sent (is t) h.sent_low
comes_from p (Orders octets) is h = brings_highest p (order_at octets) is h
comes_from p Acts is h = tt
comes_from p (Restarts mark) is h = tt
comes_from p (BreaksOff mark) is h = tt
comes_from p (Spoils place) is h = tt

get_append : (xs ys : List (List ℕ)) (n : ℕ) (u : List ℕ) → slice_get xs n ≡ Some u → slice_get (xs ++ ys) n ≡ Some u
get_append [] ys n u e = absurd cc
get_append (x ∷ xs) ys zero u e = e
get_append (x ∷ xs) ys (suc n) u e = get_append xs ys n u e

joined_with_none : (xs : List (List ℕ)) → xs ≡ xs ++ []
joined_with_none [] = refl
joined_with_none (x ∷ xs) = ap (λ (ys : List (List ℕ)). x ∷ ys) (joined_with_none xs)

-- a status is reported
tells : (p : Pair) (status : Status) → status_of p.board.executor ≡ status → PairHolds p
    → PairHolds (after_status p status)
tells p Changes e h = h
tells p Starts e h = h
tells p (status.Lost mark) e h =
    record {
      board = h.board;
      linked = h.linked;
      numbered = h.numbered;
      goes_on = h.goes_on;
      said = h.said;
      sent_low = h.sent_low;
      directed_low = h.directed_low;
      said_low = h.said_low;
      between = h.between;
      suits =
          all_weaker (Suits p.lost p.said p.board.begun p.board.executor.stage)
          (Suits (mark ∷ p.lost) p.said p.board.begun p.board.executor.stage)
          (suits_lost p.lost mark p.said p.board.begun p.board.executor.stage) p.directed h.suits;
    }
tells p (Says kept) e h =
    let now : IsTrueOf p.board.begun p.board.whole kept = (carried_out p.board h.board).said kept e in
    let before = h.said in
    let said : (it : Record) (n : ℕ) → IsAmong it (kept ∷ p.said) → IsKnown it n → IsAmong n p.board.whole =
    λ (it : Record) (n : ℕ) (among : IsAmong it (kept ∷ p.said)) (known : IsKnown it n).
    elim among as (λ _. IsAmong n p.board.whole) [
      | inl same ↦ now.known n (subst (λ (r : Record). IsKnown r n) same known)
      | inr earlier ↦ before it n earlier known
    ] in
    let all = between_said p.high p.said p.board.begun p.board.whole p.board.first p.board.second
    p.board.executor.kept
    p.board.executor.stage kept e h.board.stage h.between.kept in
    record {
      board = h.board;
      linked = h.linked;
      numbered = h.numbered;
      goes_on = h.goes_on;
      said = said;
      sent_low = h.sent_low;
      directed_low = h.directed_low;
      said_low =
          λ it among. elim among as (λ _. it.last ≤ p.high) [
            | inl same ↦ subst (λ (r : Record). r.last ≤ p.high) (sym same) all.2
            | inr earlier ↦ h.said_low it earlier
          ];
      between = record { copies = all.0; kept = all.1 };
      suits =
          all_weaker (Suits p.lost p.said p.board.begun p.board.executor.stage)
          (Suits p.lost (kept ∷ p.said) p.board.begun p.board.executor.stage)
          (λ order is. suits_told p.lost p.said p.board.begun p.board.executor.kept kept p.board.executor.stage order e
          is)
          p.directed h.suits;
    }

numbered_more : (commands more : List (List ℕ)) (packets : List (List ℕ)) → AllByRecursion (IsNumbered commands) packets
    → AllByRecursion (IsNumbered (commands ++ more)) packets
numbered_more commands more packets =
    all_weaker (IsNumbered commands) (IsNumbered (commands ++ more))
    (λ packet is. (is.0, get_append commands more (number_in packet - 1) (content_in packet) is.1)) packets

first_max : (a b : ℕ) → a ≤ max a b
first_max a b = omega arith

second_max : (a b : ℕ) → b ≤ max a b
second_max a b = omega arith

up_to_max : (a b n : ℕ) → n ≤ a → n ≤ max a b
up_to_max a b n low = omega arith

low_more : (high n : ℕ) (ns : List (List ℕ)) → AllByRecursion (λ packet. number_in packet ≤ high) ns
    → AllByRecursion (λ packet. number_in packet ≤ max high n) ns
low_more high n ns low =
    all_weaker (λ (packet : List ℕ). number_in packet ≤ high) (λ (packet : List ℕ). number_in packet ≤ max high n)
    (λ packet is. up_to_max high n (number_in packet) is) ns low

directed_more : (high n : ℕ) (directed : List Order) → AllByRecursion (λ order. last_of order ≤ high) directed
    → AllByRecursion (λ order. last_of order ≤ max high n) directed
directed_more high n directed low =
    all_weaker (λ (order : Order). last_of order ≤ high) (λ (order : Order). last_of order ≤ max high n)
    (λ order is. up_to_max high n (last_of order) is) directed low

pair_step_holds : (p : Pair) (deed : Deed) → IsOwed p deed → PairHolds p → PairHolds (pair_step p deed)
pair_step_holds p (Gives command) is h =
    record {
      board = h.board;
      linked = h.linked;
      numbered = h.numbered;
      goes_on = (
        h.goes_on.0 ++ command ∷ [],
        ap (λ (xs : List (List ℕ)). xs ++ command ∷ []) h.goes_on.1
            ∙ append_assoc p.stored h.goes_on.0 (command ∷ []),
      );
      said = h.said;
      sent_low = h.sent_low;
      directed_low = h.directed_low;
      said_low = h.said_low;
      between = h.between;
      suits = h.suits;
    }
pair_step_holds p Stores is h =
    record {
      board = h.board;
      linked = h.linked;
      numbered =
          subst (λ (commands : List (List ℕ)). AllByRecursion (IsNumbered commands) p.sent) (sym h.goes_on.1)
          (numbered_more p.stored h.goes_on.0 p.sent h.numbered);
      goes_on = ([], joined_with_none p.given);
      said = h.said;
      sent_low = h.sent_low;
      directed_low = h.directed_low;
      said_low = h.said_low;
      between = h.between;
      suits = h.suits;
    }
pair_step_holds p (Sends packet) is h =
    record {
      board = h.board;
      linked = linked_more p.sent packet p.board h.linked;
      numbered = (is, h.numbered);
      goes_on = h.goes_on;
      said = h.said;
      sent_low = (second_max p.high (number_in packet), low_more p.high (number_in packet) p.sent h.sent_low);
      directed_low = directed_more p.high (number_in packet) p.directed h.directed_low;
      said_low = λ kept among. up_to_max p.high (number_in packet) kept.last (h.said_low kept among);
      between = between_more p.high (max p.high (number_in packet)) p.said p.board (first_max p.high
          (number_in packet)) h.between;
      suits = h.suits;
    }
pair_step_holds p (Directs order) is h =
    record {
      board = h.board;
      linked = h.linked;
      numbered = h.numbered;
      goes_on = h.goes_on;
      said = h.said;
      sent_low = low_more p.high (last_of order) p.sent h.sent_low;
      directed_low = (
        second_max p.high (last_of order),
        directed_more p.high
            (last_of order) p.directed h.directed_low,
      );
      said_low = λ kept among. up_to_max p.high (last_of order) kept.last (h.said_low kept among);
      between = between_more p.high (max p.high (last_of order)) p.said p.board (first_max p.high
          (last_of order)) h.between;
      suits = (suits_new p order is h, h.suits);
    }
pair_step_holds p LosesGround is h =
    record {
      board = h.board;
      linked = h.linked;
      numbered = h.numbered;
      goes_on = ([], joined_with_none p.stored);
      said = h.said;
      sent_low = h.sent_low;
      directed_low = h.directed_low;
      said_low = h.said_low;
      between = h.between;
      suits = h.suits;
    }
pair_step_holds p (Happens event) is h =
    let linked : Linked p.sent (board_step p.board event) =
    linked_step p.sent p.board event (from_sent_of p event is) h.board h.linked in
    record {
      board = step_holds p.board event (sound_of p event h is) h.board;
      linked = linked;
      numbered = h.numbered;
      goes_on = h.goes_on;
      said = λ kept n among known. whole_stays p.board event n (h.said kept n among known);
      sent_low = h.sent_low;
      directed_low = h.directed_low;
      said_low = h.said_low;
      between = between_step p.high p.said p.board event (comes_from p event is h) h.board h.between;
      suits =
          all_weaker (Suits p.lost p.said p.board.begun p.board.executor.stage)
          (Suits p.lost p.said (board_step p.board event).begun (board_step p.board event).executor.stage)
          (suits_step p event is) p.directed h.suits;
    }
pair_step_holds p Tells is h = tells p (status_of p.board.executor) refl h

pair_run_holds : (p : Pair) (deeds : List Deed) → AreOwed p deeds → PairHolds p → PairHolds (pair_run p deeds)
pair_run_holds p [] is h = h
pair_run_holds p (deed ∷ deeds) is h = pair_run_holds (pair_step p deed) deeds is.1 (pair_step_holds p deed is.0 h)

new_between : IsBetween 0 [] (no_commands 0 0)
new_between = record { no_less = λ earlier among. absurd among; no_more = omega arith }

new_pair_holds : PairHolds new_pair
new_pair_holds =
    record {
      board = new_holds;
      linked = record { packets = record { numbers = tt; from_sent = tt }; holds = tt };
      numbered = tt;
      goes_on = ([], refl);
      said = λ kept n among known. absurd among;
      sent_low = tt;
      directed_low = tt;
      said_low = λ kept among. absurd among;
      between = record { copies = record { first = new_between; second = new_between }; kept = new_between };
      suits = tt;
    }

are_carried_out : (p : Pair) → PairHolds p → AreCarriedOut p
are_carried_out p h =
    record {
      once = (
        h.board.always.once.0,
        in_order h.board.always.once.0 p.board.packets p.board.begun h.linked.packets.numbers h.board.always.once.1,
      );
      stored =
          all_weaker (λ (packet : List ℕ). IsAmong packet p.sent) (IsNumbered p.stored)
          (λ packet among. all_at (IsNumbered p.stored) packet p.sent among h.numbered) p.board.packets
          h.linked.packets.from_sent;
      said = h.said;
      whole = λ n among. has_command n p.board.packets p.board.begun h.linked.packets.numbers
          (h.board.always.within n among);
      rises =
          λ kept earlier e among.
          no_less_said p.high p.said p.board.executor.kept p.board.executor.stage kept e h.between.kept earlier among;
    }

pub each_carries_out : (deeds : List Deed) → AreOwed new_pair deeds → AreCarriedOut (pair_run new_pair deeds)
each_carries_out deeds is = are_carried_out (pair_run new_pair deeds)
    (pair_run_holds new_pair deeds is new_pair_holds)
