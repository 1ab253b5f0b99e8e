-- The reports that were made stay true.
use Rattle.std.proofs.Common.{◌≡◌, ℕ, ◌+◌, ◌-◌, ◌<◌, ◌≤◌, min, max, inl, inr, List, [], ◌∷◌, ◌++◌, length}
use Rattle.std.proofs.Common.{refl, sym, ◌∙◌, ap, subst, arith, append_assoc, Some}
use Rattle.std.proofs.Common.{Bool, true, false}
use Rattle.std.specs.Prelude.{⊤, ◌^◌, slice_get}
use Rattle.std.specs.List.{AllByRecursion}
use Rattle.command_log.specs.declared.record.Record.{Record}
use Rattle.command_log.specs.declared.executor.Place.TheVariants.{First, Second}
use Rattle.command_log.specs.declared.executor.Stage.{Stage}
use Rattle.command_log.specs.declared.executor.Stage.TheVariants.{Lost, RepairsFirst, RepairsSecond, WritesFirst}
use Rattle.command_log.specs.declared.executor.Stage.TheVariants.{WritesSecond, Executes, Rests, Ordered}
use Rattle.command_log.specs.declared.executor.Action.{Action}
use Rattle.command_log.specs.declared.executor.Action.TheVariants.{Execute}
use Rattle.command_log.specs.declared.status.Status.TheVariants.{Says}
use Rattle.command_log.specs.Packets.{number_in}
use Rattle.command_log.specs.Executor.{status_of, action_at, status_at}
use Rattle.command_log.specs.Board.{Board, Event, Offers, Orders, Acts, Restarts, BreaksOff, Spoils, board_step}
use Rattle.command_log.specs.Board.{IsAmong, after_doing, after_break}
use Rattle.command_log.specs.CarriedOut.{AreInOrder, AreCarriedOut, Happens}
use Rattle.command_ledger.specs.declared.state.Tell.{Tell}
use Rattle.command_ledger.specs.declared.state.Tell.TheVariants.{Executed, Unknown, Restarted, RecordLost, Foreign}
use Rattle.command_ledger.specs.Waiting.{Waiting}
use Rattle.execution.specs.System.{System, Report}
use Rattle.execution.specs.Execution.{BeginsNoMore, IsNext, IsTrue, AreTrue}
use Rattle.execution.proofs.Lists.{get_append}
use Rattle.execution.proofs.Records.{IsFit, RecordsAt}
use Rattle.execution.proofs.Tells.{Past, HasTag, IsPassed, tag_more, AreTells, up_after, pushed_is}
use Rattle.execution.proofs.Link.{OnLink, pair_of, reached_step, reached_so}

-- the index of the command, the way in which it is reported, and the highest reported number after
-- this report
pub record IsAt (stored : List Waiting) (up : List Bool) (executed : Bool) (before after tag place : ℕ)
    : Type 0 where
  pub has : HasTag stored place tag
  pub fate : slice_get up place ≡ Some executed
  pub in_order : place ≤ before
  pub after_is : after ≡ max before (place + 1)

abbrev pub IsMade : List Waiting → List Record → List ℕ → List (List ℕ) → List Bool → (before after : ℕ)
    → List (List ℕ) → Tell → Type 0
IsMade stored said ws packets up before after begun (Executed tag) =
    (place : ℕ) × IsAt stored up true before after tag place × IsAmong (place + 1) ws
IsMade stored said ws packets up before after begun (Unknown tag) =
    (place : ℕ) × IsAt stored up false before after tag place × IsPassed said (place + 1)
    × BeginsNoMore (place + 1) begun packets
IsMade stored said ws packets up before after begun (Restarted boot) = after ≡ before
IsMade stored said ws packets up before after begun (RecordLost mark) = after ≡ before
IsMade stored said ws packets up before after begun (Foreign first last) = after ≡ before

abbrev pub AreMade : List Waiting → List Record → List ℕ → List (List ℕ) → List Bool → ℕ → List Report → Type 0
AreMade stored said ws packets up after [] = after ≡ 0
AreMade stored said ws packets up after (r ∷ rs) =
    (before : ℕ) × IsMade stored said ws packets up before after r.begun r.tell
    × AreMade stored said ws packets up before rs

-- ---- what begins later

-- executions that begin, if any, are of numbers above the last one of each record that was said
pub record Grows (said : List Record) (ws vs : List ℕ) (packets after : List (List ℕ)) : Type 0 where
  pub whole : (n : ℕ) → IsAmong n ws → IsAmong n vs
  pub more : List (List ℕ)
  pub is : after ≡ more ++ packets
  pub above : AllByRecursion (λ packet. (kept : Record) → IsAmong kept said → kept.last < number_in packet) more

pub same_board : (said : List Record) (ws : List ℕ) (packets : List (List ℕ)) → Grows said ws ws packets packets
same_board said ws packets = record { whole = λ n h. h; more = []; is = refl; above = tt }

all_both : {X : Type 0} (P : X → Type 0) (xs ys : List X) → AllByRecursion P xs → AllByRecursion P ys
    → AllByRecursion P (xs ++ ys)
all_both P [] ys one two = two
all_both P (x ∷ xs) ys one two = (one.0, all_both P xs ys one.1 two)

above_all : (n : ℕ) (kept : Record) (said : List Record) (packets : List (List ℕ)) → n ≤ kept.last → IsAmong kept said
    → AllByRecursion (λ packet. (kept : Record) → IsAmong kept said → kept.last < number_in packet) packets
    → AllByRecursion (λ packet. n < number_in packet) packets
above_all n kept said [] low among all = tt
above_all n kept said (packet ∷ packets) low among all =
    let up = all.0 kept among in (omega (arith, up, low), above_all n kept said packets low among all.1)

begins_no_more : (said : List Record) (ws vs : List ℕ) (packets after begun : List (List ℕ)) (n : ℕ)
    → Grows said ws vs packets after → IsPassed said n → BeginsNoMore n begun packets → BeginsNoMore n begun after
begins_no_more said ws vs packets after begun n grows passed is = (
  grows.more ++ is.0,
  grows.is ∙ ap (λ (ps : List (List ℕ)). grows.more ++ ps) is.1 ∙ sym (append_assoc grows.more is.0 begun),
  all_both (λ (packet : List ℕ). n < number_in packet) grows.more is.0
      (above_all n passed.kept said grows.more passed.passed passed.among grows.above) is.2,
)

-- earlier reports stay
abbrev pub Extends : (up later : List Bool) → Type 0
Extends up later = (i : ℕ) (b : Bool) → slice_get up i ≡ Some b → slice_get later i ≡ Some b

at_more : (stored more : List Waiting) (up later : List Bool) (executed : Bool) (before after tag place : ℕ)
    → Extends up later → IsAt stored up executed before after tag place
    → IsAt (stored ++ more) later executed before after tag place
at_more stored more up later executed before after tag place stays is =
    record {
      has = tag_more stored more place tag is.has;
      fate = stays place executed is.fate;
      in_order = is.in_order;
      after_is = is.after_is;
    }

made_more : (stored rest : List Waiting) (said news : List Record) (ws vs : List ℕ) (packets now : List (List ℕ))
    (up later : List Bool) (before after : ℕ) (begun : List (List ℕ)) (tell : Tell)
    → ((r : Record) → IsAmong r said → IsAmong r news) → Extends up later → Grows said ws vs packets now
    → IsMade stored said ws packets up before after begun tell
    → IsMade (stored ++ rest) news vs now later before after begun tell
made_more stored rest said news ws vs packets now up later before after begun (Executed tag) told stays grows is =
    (is.0, at_more stored rest up later true before after tag is.0 stays is.1, grows.whole (is.0 + 1) is.2)
made_more stored rest said news ws vs packets now up later before after begun (Unknown tag) told stays grows is =
    let passed = is.2 in (
      is.0,
      at_more stored rest up later false before after tag is.0 stays is.1,
      record { kept = passed.kept; among = told passed.kept passed.among; passed = passed.passed },
      begins_no_more said ws vs packets now begun (is.0 + 1) grows passed is.3,
    )
made_more stored rest said news ws vs packets now up later before after begun (Restarted boot) told stays grows is = is
made_more stored rest said news ws vs packets now up later before after begun (RecordLost mark) told stays grows is =
    is
made_more stored rest said news ws vs packets now up later before after begun (Foreign first last) told stays grows
    is = is

pub all_made_more : (stored rest : List Waiting) (said news : List Record) (ws vs : List ℕ)
    (packets now : List (List ℕ)) (up later : List Bool) (after : ℕ) (rs : List Report)
    → ((r : Record) → IsAmong r said → IsAmong r news) → Extends up later → Grows said ws vs packets now
    → AreMade stored said ws packets up after rs → AreMade (stored ++ rest) news vs now later after rs
all_made_more stored rest said news ws vs packets now up later after [] told stays grows are = are
all_made_more stored rest said news ws vs packets now up later after (r ∷ rs) told stays grows are = (
  are.0,
  made_more stored rest said news ws vs packets now up later are.0 after r.begun r.tell told stays grows are.1,
  all_made_more stored rest said news ws vs packets now up later are.0 rs told stays grows are.2,
)

-- ---- a report that is made now

pub made_now : (stored : List Waiting) (g : Past) (ws : List ℕ) (packets : List (List ℕ)) (up : List Bool) (n m : ℕ)
    (tell : Tell) (ts : List Tell) → n ≤ length up → AreTells stored g ws up n m (tell ∷ ts)
    → IsMade stored g.said ws packets (up_after up n (tell ∷ ts)) (length up) (length (up_after up n (tell ∷ ts)))
    packets tell
made_now stored g ws packets up n m (Executed tag) ts low are =
    let is = pushed_is up n true low in
    (n, record { has = are.0; fate = is.now are.2; in_order = low; after_is = is.long }, are.1)
made_now stored g ws packets up n m (Unknown tag) ts low are =
    let is = pushed_is up n false low in
    (n, record { has = are.0; fate = is.now are.2; in_order = low; after_is = is.long }, are.1, ([], refl, tt))
made_now stored g ws packets up n m (Restarted boot) ts low are = refl
made_now stored g ws packets up n m (RecordLost mark) ts low are = refl
made_now stored g ws packets up n m (Foreign first last) ts low are = refl

-- ---- an event on board

below_first : (bound : ℕ) (packet : List ℕ) (packets : List (List ℕ)) → AreInOrder bound packets
    → IsAmong packet packets → number_in packet < bound
below_first bound packet [] is among = absurd among
below_first bound packet (p ∷ packets) is (inl same) =
    let number : number_in packet ≡ number_in p = ap number_in same in
    let low = is.0 in
    omega (arith, number, low)
below_first bound packet (p ∷ packets) is (inr earlier) =
    let up = below_first (number_in p) packet packets is.1 earlier in
    let low = is.0 in
    omega (arith, up, low)

-- a packet with this number is among those in order, so the first of them has this number or a higher one
first_highest : (bound n : ℕ) (held packet : List ℕ) (packets : List (List ℕ)) → AreInOrder bound (held ∷ packets)
    → IsAmong packet (held ∷ packets) → number_in packet ≡ n → n ≤ number_in held
first_highest bound n held packet packets is (inl same) e =
    let number : number_in packet ≡ number_in held = ap number_in same in omega (arith, number, e)
first_highest bound n held packet packets is (inr earlier) e =
    let low = below_first (number_in held) packet packets is.1 earlier in omega (arith, low, e)

abbrev pub IsAbove : List Record → Board → Stage → Type 0
IsAbove said b Executes = (kept : Record) → IsAmong kept said → kept.last < number_in b.held
IsAbove said b (Lost mark) = ⊤
IsAbove said b RepairsFirst = ⊤
IsAbove said b RepairsSecond = ⊤
IsAbove said b WritesFirst = ⊤
IsAbove said b WritesSecond = ⊤
IsAbove said b Rests = ⊤
IsAbove said b Ordered = ⊤

acts_grow : (said : List Record) (b : Board) (kept : Record) (stage : Stage) → IsAbove said b stage
    → Grows said b.whole (after_doing b (action_at kept stage)).whole b.packets
    (after_doing b (action_at kept stage)).packets
acts_grow said b kept Executes above =
    record { whole = λ n h. inr h; more = b.held ∷ []; is = refl; above = (above, tt) }
acts_grow said b kept (Lost mark) above = same_board said b.whole b.packets
acts_grow said b kept RepairsFirst above = same_board said b.whole b.packets
acts_grow said b kept RepairsSecond above = same_board said b.whole b.packets
acts_grow said b kept WritesFirst above = same_board said b.whole b.packets
acts_grow said b kept WritesSecond above = same_board said b.whole b.packets
acts_grow said b kept Rests above = same_board said b.whole b.packets
acts_grow said b kept Ordered above = same_board said b.whole b.packets

breaks_grow : (said : List Record) (b : Board) (kept : Record) (stage : Stage) → IsAbove said b stage
    → Grows said b.whole (after_break b (action_at kept stage)).whole b.packets
    (after_break b (action_at kept stage)).packets
breaks_grow said b kept Executes above =
    record { whole = λ n h. h; more = b.held ∷ []; is = refl; above = (above, tt) }
breaks_grow said b kept (Lost mark) above = same_board said b.whole b.packets
breaks_grow said b kept RepairsFirst above = same_board said b.whole b.packets
breaks_grow said b kept RepairsSecond above = same_board said b.whole b.packets
breaks_grow said b kept WritesFirst above = same_board said b.whole b.packets
breaks_grow said b kept WritesSecond above = same_board said b.whole b.packets
breaks_grow said b kept Rests above = same_board said b.whole b.packets
breaks_grow said b kept Ordered above = same_board said b.whole b.packets

event_grows : (said : List Record) (b : Board) (event : Event) → IsAbove said b b.executor.stage
    → Grows said b.whole (board_step b event).whole b.packets (board_step b event).packets
event_grows said b (Offers octets) above = same_board said b.whole b.packets
event_grows said b (Orders octets) above = same_board said b.whole b.packets
event_grows said b Acts above = acts_grow said b b.executor.kept b.executor.stage above
event_grows said b (Restarts mark) above = same_board said b.whole b.packets
event_grows said b (BreaksOff mark) above = breaks_grow said b b.executor.kept b.executor.stage above
event_grows said b (Spoils First) above = same_board said b.whole b.packets
event_grows said b (Spoils Second) above = same_board said b.whole b.packets

-- what is executed next has a number above the last one of each record that was said
above_by : (stored : List Waiting) (g : Past) (packets orders sent : List (List ℕ)) (b : Board)
    (h : OnLink stored g packets orders sent b) (kept : Record) (stage : Stage) → b.executor.kept ≡ kept
    → b.executor.stage ≡ stage → AreCarriedOut (pair_of packets b stored g h.high)
    → AreCarriedOut (pair_of packets (board_step b Acts) stored g h.high)
    → RecordsAt (IsFit (length stored)) (λ mark. mark < 2 ^ 32) kept stage → IsAbove g.said b stage
above_by stored g packets orders sent b h kept (Lost mark) e f now next is = tt
above_by stored g packets orders sent b h kept RepairsFirst e f now next is = tt
above_by stored g packets orders sent b h kept RepairsSecond e f now next is = tt
above_by stored g packets orders sent b h kept WritesFirst e f now next is = tt
above_by stored g packets orders sent b h kept WritesSecond e f now next is = tt
above_by stored g packets orders sent b h kept Rests e f now next is = tt
above_by stored g packets orders sent b h kept Ordered e f now next is = tt
above_by stored g packets orders sent b h kept Executes e f now next is =
    let n : ℕ = min (kept.last + 1) 4294967295 in
    let low = is.0.room is.1 in
    let status : status_of b.executor ≡ Says kept =
    ap (λ (s : Stage). status_at b.executor.kept s) f ∙ ap (λ (r : Record). Says r) e in
    let action : action_at b.executor.kept b.executor.stage ≡ Execute n =
    ap (action_at b.executor.kept) f ∙ ap (λ (r : Record). Execute (min (r.last + 1) 4294967295)) e in
    let whole : IsAmong n (board_step b Acts).whole =
    subst (λ (a : Action). IsAmong n (after_doing b a).whole) (sym action) (inl refl) in
    let packets_are : (board_step b Acts).packets ≡ b.held ∷ b.packets =
    ap (λ (a : Action). (after_doing b a).packets) action in
    let began = next.whole n whole in
    let order : AreInOrder next.once.0 (b.held ∷ b.packets) =
    subst (AreInOrder next.once.0) packets_are next.once.1 in
    let there : IsAmong began.0 (b.held ∷ b.packets) = subst (IsAmong began.0) packets_are began.1 in
    let up = first_highest next.once.0 n b.held began.0 b.packets order there began.2 in
    let rises = now.rises in
    λ r among.
    let most = rises kept r status among in
    omega (arith, up, most, low)

pub happens_grows : (stored : List Waiting) (g : Past) (packets orders sent : List (List ℕ)) (b : Board)
    (event : Event) → OnLink stored g packets orders sent b
    → Grows g.said b.whole (board_step b event).whole b.packets (board_step b event).packets
happens_grows stored g packets orders sent b event h =
    let p = pair_of packets b stored g h.high in
    event_grows g.said b event
    (above_by stored g packets orders sent b h b.executor.kept b.executor.stage refl refl (reached_so p h.reached)
    (reached_so (pair_of packets (board_step b Acts) stored g h.high) (reached_step p (Happens Acts) tt h.reached))
    h.records.now)

-- ---- the guarantee

next_of_at : (s : System) (stored rest : List Waiting) (up : List Bool) (executed : Bool) (before after tag place : ℕ)
    → s.given ≡ stored ++ rest → IsAt stored up executed before after tag place
    → IsNext s up executed before after tag (place + 1)
next_of_at s stored rest up executed before after tag place e is =
    let there : slice_get s.given place ≡ Some is.has.command =
    subst (λ (cs : List Waiting). slice_get cs place ≡ Some is.has.command) (sym e)
    (get_append stored rest place is.has.command is.has.there) in
    let same : place ≡ place + 1 - 1 = omega arith in
    let low = is.in_order in
    record {
      command = is.has.command;
      there = (
        omega arith,
        subst (λ (n : ℕ). slice_get s.given n ≡ Some is.has.command) same there,
      );
      tagged = is.has.tagged;
      fate = subst (λ (n : ℕ). slice_get up n ≡ Some executed) same is.fate;
      in_order = omega (arith, low);
      then = is.after_is;
    }

true_one : (s : System) (stored rest : List Waiting) (said : List Record) (up : List Bool) (before after : ℕ)
    (begun : List (List ℕ)) (tell : Tell) → s.given ≡ stored ++ rest
    → IsMade stored said s.board.whole s.board.packets up before after begun tell
    → IsTrue s up before after begun tell
true_one s stored rest said up before after begun (Executed tag) e is =
    (is.0 + 1, next_of_at s stored rest up true before after tag is.0 e is.1, is.2)
true_one s stored rest said up before after begun (Unknown tag) e is =
    (is.0 + 1, next_of_at s stored rest up false before after tag is.0 e is.1, is.3)
true_one s stored rest said up before after begun (Restarted boot) e is = is
true_one s stored rest said up before after begun (RecordLost mark) e is = is
true_one s stored rest said up before after begun (Foreign first last) e is = is

pub all_true : (s : System) (stored rest : List Waiting) (said : List Record) (up : List Bool) (after : ℕ)
    (rs : List Report) → s.given ≡ stored ++ rest → AreMade stored said s.board.whole s.board.packets up after rs
    → AreTrue s up after rs
all_true s stored rest said up after [] e are = are
all_true s stored rest said up after (r ∷ rs) e are = (
  are.0,
  true_one s stored rest said up are.0 after r.begun r.tell e are.1,
  all_true s stored rest said up are.0 rs e are.2,
)
