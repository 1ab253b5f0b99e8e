-- The state of a ledger agrees with what was sent and said; each entry keeps this.
use Rattle.std.proofs.Common.{◌≡◌, ℕ, ◌+◌, ◌-◌, ◌<◌, ◌≤◌, min, max, List, [], ◌∷◌, ◌++◌, length}
use Rattle.std.proofs.Common.{refl, sym, ◌∙◌, ap, subst, arith, drop, take, length-append, length-drop, append_assoc}
use Rattle.std.proofs.Common.{append-nil}
use Rattle.std.proofs.Common.{Some, None, Option, Bool, true, false, IfSome}
use Rattle.std.proofs.lemmas.Bool.{le-ltb, cond_both}
use Rattle.std.proofs.lemmas.List.{drop-drop, drop-append-le, length-take-le}
use Rattle.std.specs.Prelude.{◌^◌, not, ◌&&◌, ◌==◌, nat_lt, nat_le, if◌then◌else◌, slice_get, option_to_list}
use Rattle.std.proofs.Common.{◌⊎◌, inl, inr}
use Rattle.std.specs.List.{AllByRecursion}
use Rattle.command_log.specs.declared.record.Record.{Record}
use Rattle.command_log.specs.declared.packets.Order.{Order}
use Rattle.command_log.specs.declared.packets.Order.TheVariants as orders
use Rattle.command_log.specs.Record.{no_commands}
use Rattle.command_log.specs.Board.{IsAmong, IsKnown}
use Rattle.command_ledger.specs.declared.known.Standing.{Standing}
use Rattle.command_ledger.specs.declared.known.Rebuild.{Rebuild}
use Rattle.command_ledger.specs.declared.state.Tell.{Tell}
use Rattle.command_ledger.specs.declared.state.Tell.TheVariants.{Executed, Unknown, Restarted, RecordLost, Foreign}
use Rattle.command_ledger.specs.Waiting.{Waiting}
use Rattle.command_ledger.specs.Known.{reach, is_marked, has_told, obeyed, obeyed_order}
use Rattle.command_ledger.specs.Kept.{IsMark, IsOrder, IsRebuild}
use Rattle.command_ledger.specs.State.{State, Rebuilds, Tells, highest, after_entry}
use Rattle.command_ledger.specs.State.{hears, heard, gives, loses, agrees, fates, passed, below_after, doubt_after}
use Rattle.command_ledger.specs.State.{restarted, foreign}
use Rattle.execution.specs.Own.{IsOwn}
use Rattle.execution.proofs.Lists.{get_front, get_drop, get_take, get_low, IsPacket, ArePackets}
use Rattle.execution.proofs.Lists.{packets_push}
use Rattle.execution.proofs.Records.{IsFit, last_reached, fit_more}
use Rattle.execution.proofs.Tells.{AreTells, IsPassed, Past, fates_are, first_count, next_tells, no_foreign}
use Rattle.execution.proofs.Tells.{no_restart, tells_both, tells_low, tells_pushed, tells_stored, up_after, up_long}
use Rattle.execution.proofs.Tells.{up_stays}

-- ---- a state

pub record Remembers (g : Past) (s : Standing) : Type 0 where
  pub doubt : s.doubt < 2 ^ 32
  pub mark : IsMark s.mark
  pub lost : IfSome s.mark (λ m. IsAmong m g.lost)
  pub order : IsOrder s.order
  pub directed : IfSome s.order (λ o. IsAmong (orders.Rebuild o.mark o.boot o.last) g.directed)

-- what holds if no order that brings a record was made: the board's commands are the ledger's
pub record IsOwnState (said : List Record) (s : State) : Type 0 where
  pub none : s.standing.order ≡ None
  pub known : (s.standing.board ≡ no_commands 0 0) ⊎ IsAmong s.standing.board said
  pub below : s.standing.below ≤ s.standing.board.last
  pub own : AllByRecursion IsOwn s.tells

own_both : (xs ys : List Tell) → AllByRecursion IsOwn xs → AllByRecursion IsOwn ys → AllByRecursion IsOwn (xs ++ ys)
own_both [] ys one two = two
own_both (x ∷ xs) ys one two = (one.0, own_both xs ys one.1 two)

own_restart : (flag : Bool) (boot : ℕ)
    → AllByRecursion IsOwn (option_to_list (if flag then None else Some (Restarted boot)))
own_restart true boot = tt
own_restart false boot = (tt, tt)

own_agreed : (flag : Bool) (first last : ℕ) → flag ≡ true
    → AllByRecursion IsOwn (option_to_list (if flag then None else Some (Foreign first last)))
own_agreed true first last e = tt
own_agreed false first last e = absurd cc

own_fate : (flag : Bool) (tag : ℕ) → IsOwn (if flag then Executed tag else Unknown tag)
own_fate true tag = tt
own_fate false tag = tt

own_fates : (kept : Record) (doubt n : ℕ) (cs : List Waiting) → AllByRecursion IsOwn (fates kept doubt n cs)
own_fates kept doubt n [] = tt
own_fates kept doubt n (c ∷ cs) =
    (own_fate (nat_lt doubt n && is_marked kept n) c.tag, own_fates kept doubt (n + 1) cs)

own_rest : (ts : List Tell) → AllByRecursion IsOwn ts → AllByRecursion IsOwn (drop 1 ts)
own_rest [] are = tt
own_rest (t ∷ ts) are = are.1

-- `all` are the commands that were given up to this state, and `up` is the highest reported number
pub record Good (stored : List Waiting) (g : Past) (ws : List ℕ) (up : List Bool) (all : List Waiting) (s : State)
    : Type 0 where
  pub rest : List Waiting
  pub goes_on : all ≡ stored ++ rest
  pub few : length all < 2 ^ 32
  pub packets : ArePackets 0 all
  pub low : s.standing.below ≤ length all
  pub commands : s.commands ≡ drop s.standing.below all
  pub board : IsFit (length stored) s.standing.board
  pub remembers : Remembers g s.standing
  pub start : ℕ
  pub reported : start ≤ length up
  pub covered : length up ≤ s.standing.below
  pub tells : AreTells stored g ws up start s.standing.below s.tells
  pub own : g.quiet ≡ true → IsOwnState g.said s

pub good_highest : (stored : List Waiting) (g : Past) (ws : List ℕ) (up : List Bool) (all : List Waiting) (s : State)
    → Good stored g ws up all s → highest s ≡ length all
good_highest stored g ws up all s h =
    let long : length s.commands ≡ length all - s.standing.below =
    ap length h.commands ∙ length-drop s.standing.below all in
    let low = h.low in
    omega (arith, long, low)

obeyed_remembers : (g : Past) (s : Standing) (kept : Record) (o : Option Rebuild) → s.order ≡ o → Remembers g s
    → Remembers g (obeyed_order s kept o)
obeyed_remembers g s kept None e h = h
obeyed_remembers g s kept (Some o) e h =
    let is : IsRebuild o = subst IsOrder e h.order in
    let low = h.doubt in
    let small = is.last in
    cond_both (nat_le o.boot kept.boot)
    (record s {
      board = no_commands o.boot o.last;
      doubt = max s.doubt o.last;
      is_lost = s.is_lost && not (has_told s.mark o.mark);
      order = None;
    })
    s (Remembers g)
    (λ t. record { doubt = omega (arith, low, small); mark = h.mark; lost = h.lost; order = tt; directed = tt })
    (λ f. h)

reach_small : (bound : ℕ) (kept : Record) (flag : Bool) → kept.begun ≡ flag → IsFit bound kept → reach kept < 2 ^ 32
reach_small bound kept true e is =
    let l = is.range.last in
    let same : reach kept ≡ min (kept.last + 1) 4294967295 = rw e refl in
    omega (arith, l, same)
reach_small bound kept false e is =
    let l = is.range.last in let same : reach kept ≡ kept.last = rw e refl in omega (arith, l, same)

heard_doubt : (bound : ℕ) (known : Standing) (kept : Record) (agree : Bool) → known.doubt < 2 ^ 32 → IsFit bound kept
    → doubt_after agree known kept < 2 ^ 32
heard_doubt bound known kept true low is = low
heard_doubt bound known kept false low is =
    let small = reach_small bound kept kept.begun refl is in omega (arith, low, small)

below_is : (flag : Bool) (r n : ℕ) → flag ≡ false → (if flag then r else n) ≡ n
below_is true r n e = absurd cc
below_is false r n e = refl

-- a mark that is kept was kept before
marks_kept : (g : Past) (lost : Bool) (mark : Option ℕ) → IsMark mark → IfSome mark (λ m. IsAmong m g.lost)
    → IsMark (if lost then None else mark) × IfSome (if lost then None else mark) (λ m. IsAmong m g.lost)
marks_kept g true mark is among = (tt, tt)
marks_kept g false mark is among = (is, among)

good_heard : (stored : List Waiting) (g : Past) (ws : List ℕ) (up : List Bool) (all : List Waiting) (s : State)
    (known : Standing) (kept : Record) (agree : Bool) → IsAmong kept g.said → IsFit (length stored) kept
    → ((i : ℕ) → IsKnown kept i → IsAmong i ws) → Remembers g known
    → (g.quiet ≡ true → (known.order ≡ None) × (agree ≡ true) × (s.standing.below ≤ kept.last))
    → Good stored g ws up all s → Good stored g ws up all (heard s known kept agree)
good_heard stored g ws up all s known kept agree among fits knows remembers own h =
    let below : ℕ = s.standing.below in
    let many : ℕ = length s.commands in
    let count : ℕ = passed below many kept in
    let long : many ≡ length all - below = ap length h.commands ∙ length-drop below all in
    let low = h.low in
    let covered = h.covered in
    let goes = ap length h.goes_on ∙ length-append stored h.rest in
    let up_to = fits.reach in
    let few : reach kept ≤ below + many = omega (arith, long, low, goes, up_to) in
    let then_below : below_after below many kept ≡ below + count =
    below_is (nat_lt (below + many) (reach kept)) (reach kept) (below + count)
    (le-ltb (below + many) (reach kept) few) in
    let within : count ≤ many = omega arith in
    let last = last_reached (length stored) kept kept.begun refl fits in
    let doubt = doubt_after agree known kept in
    let cs : List Waiting = take count s.commands in
    let some : length cs ≡ count = length-take-le count s.commands within in
    let at : (i : ℕ) (c : Waiting) → slice_get cs i ≡ Some c → slice_get stored (below + i) ≡ Some c =
    λ (i : ℕ) (c : Waiting) (e : slice_get cs i ≡ Some c).
    let here : slice_get s.commands i ≡ Some c = get_take count s.commands i c e in
    let there : slice_get all (below + i) ≡ Some c =
    get_drop below i all c (subst (λ (xs : List Waiting). slice_get xs i ≡ Some c) h.commands here) in
    let both_there : slice_get (stored ++ h.rest) (below + i) ≡ Some c =
    subst (λ (xs : List Waiting). slice_get xs (below + i) ≡ Some c) h.goes_on there in
    let i_low = get_low cs i c e in
    get_front stored h.rest (below + i) c both_there (omega (arith, i_low, some, last)) in
    let told : AreTells stored g ws up below (below + count) (fates kept doubt (below + 1) cs) =
    fates_are stored g ws up kept doubt cs below (below + count) among knows at (omega (arith, some))
    (λ b. omega (arith, b)) h.covered in
    let first = no_restart stored g ws up below (s.standing.board.boot == kept.boot) kept.boot in
    let second = no_foreign stored g ws up below agree (min (reach known.board + 1) 4294967295) (reach kept) in
    let new = tells_both stored g ws up below below (below + count)
    (option_to_list (restarted s.standing.board kept)) _ first
    (tells_both stored g ws up below below (below + count) (option_to_list
    (foreign agree known.board kept)) _ second told)
    in
    let tells = tells_both stored g ws up h.start below (below + count) s.tells _ h.tells new in
    let marks = marks_kept g known.is_lost known.mark remembers.mark remembers.lost in
    let commands : drop count s.commands ≡ drop (below + count) all =
    ap (drop count) h.commands ∙ drop-drop count below all in
    record {
      rest = h.rest;
      goes_on = h.goes_on;
      few = h.few;
      packets = h.packets;
      low = subst (λ (n : ℕ). n ≤ length all) (sym then_below) (omega (arith, long, low, within));
      commands = subst (λ (n : ℕ). drop count s.commands ≡ drop n all) (sym then_below) commands;
      board = fits;
      remembers =
          record {
            doubt = heard_doubt (length stored) known kept agree remembers.doubt fits;
            mark = marks.0;
            lost = marks.1;
            order = remembers.order;
            directed = remembers.directed;
          };
      start = h.start;
      reported = h.reported;
      covered = subst (λ (n : ℕ). length up ≤ n) (sym then_below) (omega (arith, covered));
      tells =
          subst (λ (n : ℕ). AreTells stored g ws up h.start n (heard s known kept agree).tells) (sym then_below) tells;
      own =
          λ q.
          let o = own q in
          let less = o.2 in
          let sum : below + count ≤ kept.last = omega (arith, less) in
          record {
            none = o.0;
            known = inr among;
            below = subst (λ (n : ℕ). n ≤ kept.last) (sym then_below) sum;
            own =
                own_both s.tells _ (h.own q).own
                (own_both (option_to_list (restarted s.standing.board kept)) _
                (own_restart (s.standing.board.boot == kept.boot) kept.boot)
                (own_both (option_to_list (foreign agree known.board kept)) _
                (own_agreed agree (min (reach known.board + 1) 4294967295) (reach kept) o.1)
                (own_fates kept doubt (below + 1) cs)));
          };
    }

-- ---- each entry

pub good_hears : (stored : List Waiting) (g : Past) (ws : List ℕ) (up : List Bool) (all : List Waiting) (s : State)
    (kept : Record) → IsAmong kept g.said → IsFit (length stored) kept → ((i : ℕ) → IsKnown kept i → IsAmong i ws)
    → (g.quiet ≡ true → (agrees s.standing.below s.commands s.standing.board kept ≡ true)
    × (s.standing.below ≤ kept.last))
    → Good stored g ws up all s → Good stored g ws up all (hears s kept)
good_hears stored g ws up all s kept among fits knows own h =
    let known : Standing = obeyed s.standing kept in
    good_heard stored g ws up all s known kept (agrees s.standing.below s.commands known.board kept) among fits knows
    (obeyed_remembers g s.standing kept s.standing.order refl h.remembers)
    (λ q.
    let none = (h.own q).none in
    let same : s.standing ≡ known = sym (ap (obeyed_order s.standing kept) none) in
    let is = own q in (
      subst (λ (k : Standing). k.order ≡ None) same none,
      subst (λ (k : Standing). agrees s.standing.below s.commands k.board kept ≡ true) same is.0,
      is.1,
    ))
    h

pub good_gives : (stored : List Waiting) (g : Past) (ws : List ℕ) (up : List Bool) (all : List Waiting) (s : State)
    (c : Waiting) → IsPacket (length all + 1) c → length all + 1 < 2 ^ 32 → Good stored g ws up all s
    → Good stored g ws up (all ++ c ∷ []) (gives s c)
good_gives stored g ws up all s c is few h =
    let below : ℕ = s.standing.below in
    let long = length-append all (c ∷ []) in
    let low = h.low in
    let more : drop below (all ++ c ∷ []) ≡ drop below all ++ c ∷ [] = drop-append-le below all (c ∷ []) low in
    record {
      rest = h.rest ++ c ∷ [];
      goes_on = ap (λ (xs : List Waiting). xs ++ c ∷ []) h.goes_on ∙ append_assoc stored h.rest (c ∷ []);
      few = omega (arith, long, few);
      packets = packets_push 0 (length all + 1) all c h.packets (omega arith) is;
      low = omega (arith, long, low);
      commands = ap (λ (xs : List Waiting). xs ++ c ∷ []) h.commands ∙ sym more;
      board = h.board;
      remembers = h.remembers;
      start = h.start;
      reported = h.reported;
      covered = h.covered;
      tells = h.tells;
      own = λ q. let o = h.own q in record { none = o.none; known = o.known; below = o.below; own = o.own };
    }

pub good_loses : (stored : List Waiting) (g : Past) (ws : List ℕ) (up : List Bool) (all : List Waiting) (s : State)
    (mark : ℕ) → mark < 2 ^ 32 → IsAmong mark g.lost → Good stored g ws up all s
    → Good stored g ws up all (loses s mark)
good_loses stored g ws up all s mark small among h =
    record {
      rest = h.rest;
      goes_on = h.goes_on;
      few = h.few;
      packets = h.packets;
      low = h.low;
      commands = h.commands;
      board = h.board;
      remembers =
          record {
            doubt = h.remembers.doubt;
            mark = small;
            lost = among;
            order = h.remembers.order;
            directed = h.remembers.directed;
          };
      start = h.start;
      reported = h.reported;
      covered = h.covered;
      tells =
          tells_both stored g ws up h.start s.standing.below s.standing.below s.tells
          (RecordLost mark ∷ []) h.tells refl;
      own =
          λ q.
          let o = h.own q in
          record {
            none = o.none;
            known = o.known;
            below = o.below;
            own = own_both s.tells (RecordLost mark ∷ []) o.own (tt, tt);
          };
    }

pub good_rebuilds : (stored : List Waiting) (g : Past) (ws : List ℕ) (up : List Bool) (all : List Waiting) (s : State)
    (o : Rebuild) → IsRebuild o → IsAmong (orders.Rebuild o.mark o.boot o.last) g.directed → (g.quiet ≡ true → ⊥)
    → Good stored g ws up all s → Good stored g ws up all (after_entry s (Rebuilds o))
good_rebuilds stored g ws up all s o is among loud h =
    record {
      rest = h.rest;
      goes_on = h.goes_on;
      few = h.few;
      packets = h.packets;
      low = h.low;
      commands = h.commands;
      board = h.board;
      remembers =
          record {
            doubt = h.remembers.doubt;
            mark = h.remembers.mark;
            lost = h.remembers.lost;
            order = is;
            directed = among;
          };
      start = h.start;
      reported = h.reported;
      covered = h.covered;
      tells = h.tells;
      own = λ q. absurd (loud q);
    }

pub good_told : (stored : List Waiting) (g : Past) (ws : List ℕ) (up : List Bool) (all : List Waiting) (s : State)
    (h : Good stored g ws up all s) → h.start + first_count s.tells ≤ length up
    → Good stored g ws up all (after_entry s Tells)
good_told stored g ws up all s h low =
    record {
      rest = h.rest;
      goes_on = h.goes_on;
      few = h.few;
      packets = h.packets;
      low = h.low;
      commands = h.commands;
      board = h.board;
      remembers = h.remembers;
      start = h.start + first_count s.tells;
      reported = low;
      covered = h.covered;
      tells = next_tells stored g ws up h.start s.standing.below s.tells h.tells;
      own =
          λ q.
          let o = h.own q in
          record { none = o.none; known = o.known; below = o.below; own = own_rest s.tells o.own };
    }

-- ---- a report is made

pub good_reported : (stored : List Waiting) (g : Past) (ws : List ℕ) (up : List Bool) (all : List Waiting) (s : State)
    (k : ℕ) (front tail : List Tell) → s.tells ≡ front ++ tail → k ≤ length up
    → AreTells stored g ws up k s.standing.below tail → Good stored g ws up all s
    → Good stored g ws (up_after up k tail) all s
good_reported stored g ws up all s k front tail e low are h =
    let stays = up_stays up k tail low in
    let more = stays.long in
    let long = up_long up k tail low in
    let reported = h.reported in
    let covered = h.covered in
    let most = tells_low stored g ws up k s.standing.below tail are in
    let now = subst (AreTells stored g ws up h.start s.standing.below) e h.tells in
    record {
      rest = h.rest;
      goes_on = h.goes_on;
      few = h.few;
      packets = h.packets;
      low = h.low;
      commands = h.commands;
      board = h.board;
      remembers = h.remembers;
      start = h.start;
      reported = omega (arith, reported, more);
      covered = omega (arith, covered, long, most);
      tells =
          subst (AreTells stored g ws (up_after up k tail) h.start s.standing.below) (sym e)
          (tells_pushed stored g ws up h.start k s.standing.below front tail low now are);
      own = h.own;
    }

-- ---- more is known

pub record IsMore (g h : Past) (ws vs : List ℕ) : Type 0 where
  pub directed : (order : Order) → IsAmong order g.directed → IsAmong order h.directed
  pub said : (kept : Record) → IsAmong kept g.said → IsAmong kept h.said
  pub lost : (mark : ℕ) → IsAmong mark g.lost → IsAmong mark h.lost
  pub whole : (n : ℕ) → IsAmong n ws → IsAmong n vs
  pub quiet : h.quiet ≡ true → g.quiet ≡ true

passed_more : (g h : Past) (ws vs : List ℕ) (n : ℕ) → IsMore g h ws vs → IsPassed g.said n → IsPassed h.said n
passed_more g h ws vs n more is =
    record { kept = is.kept; among = more.said is.kept is.among; passed = is.passed }

tells_more : (stored : List Waiting) (g h : Past) (ws vs : List ℕ) (up : List Bool) (n m : ℕ) (ts : List Tell)
    → IsMore g h ws vs
    → AreTells stored g ws up n m ts → AreTells stored h vs up n m ts
tells_more stored g h ws vs up n m [] more are = are
tells_more stored g h ws vs up n m (Executed tag ∷ ts) more are =
    (are.0, more.whole (n + 1) are.1, are.2, tells_more stored g h ws vs up (n + 1) m ts more are.3)
tells_more stored g h ws vs up n m (Unknown tag ∷ ts) more are =
    (are.0, passed_more g h ws vs (n + 1) more are.1, are.2, tells_more stored g h ws vs up (n + 1) m ts more are.3)
tells_more stored g h ws vs up n m (Restarted boot ∷ ts) more are = tells_more stored g h ws vs up n m ts more are
tells_more stored g h ws vs up n m (RecordLost mark ∷ ts) more are = tells_more stored g h ws vs up n m ts more are
tells_more stored g h ws vs up n m (Foreign first last ∷ ts) more are = tells_more stored g h ws vs up n m ts more are

lost_more : (g h : Past) (mark : Option ℕ) → ((m : ℕ) → IsAmong m g.lost → IsAmong m h.lost)
    → IfSome mark (λ m. IsAmong m g.lost) → IfSome mark (λ m. IsAmong m h.lost)
lost_more g h None more is = tt
lost_more g h (Some mark) more is = more mark is

order_more : (g h : Past) (order : Option Rebuild) → ((o : Order) → IsAmong o g.directed → IsAmong o h.directed)
    → IfSome order (λ o. IsAmong (orders.Rebuild o.mark o.boot o.last) g.directed)
    → IfSome order (λ o. IsAmong (orders.Rebuild o.mark o.boot o.last) h.directed)
order_more g h None more is = tt
order_more g h (Some o) more is = more (orders.Rebuild o.mark o.boot o.last) is

own_more : (said news : List Record) (s : State) → ((kept : Record) → IsAmong kept said → IsAmong kept news)
    → IsOwnState said s → IsOwnState news s
own_more said news s more is =
    record {
      none = is.none;
      known =
          elim is.known as (λ _. (s.standing.board ≡ no_commands 0 0) ⊎ IsAmong s.standing.board news) [
            | inl first ↦ inl first
            | inr among ↦ inr (more s.standing.board among)
          ];
      below = is.below;
      own = is.own;
    }

pub good_more : (stored : List Waiting) (g h : Past) (ws vs : List ℕ) (up : List Bool) (all : List Waiting) (s : State)
    → IsMore g h ws vs → Good stored g ws up all s → Good stored h vs up all s
good_more stored g h ws vs up all s more is =
    record {
      rest = is.rest;
      goes_on = is.goes_on;
      few = is.few;
      packets = is.packets;
      low = is.low;
      commands = is.commands;
      board = is.board;
      remembers =
          record {
            doubt = is.remembers.doubt;
            mark = is.remembers.mark;
            lost = lost_more g h s.standing.mark more.lost is.remembers.lost;
            order = is.remembers.order;
            directed = order_more g h s.standing.order more.directed is.remembers.directed;
          };
      start = is.start;
      reported = is.reported;
      covered = is.covered;
      tells = tells_more stored g h ws vs up is.start s.standing.below s.tells more is.tells;
      own = λ q. own_more g.said h.said s more.said (is.own (more.quiet q));
    }

-- ---- all commands are stored

pub good_stored : (stored : List Waiting) (g : Past) (ws : List ℕ) (up : List Bool) (all rest : List Waiting)
    (s : State)
    → all ≡ stored ++ rest → Good stored g ws up all s → Good all g ws up all s
good_stored stored g ws up all rest s e h =
    let long = ap length e ∙ length-append stored rest in
    record {
      rest = [];
      goes_on = sym (append-nil all);
      few = h.few;
      packets = h.packets;
      low = h.low;
      commands = h.commands;
      board = fit_more (length stored) (length all) (omega (arith, long)) s.standing.board h.board;
      remembers = h.remembers;
      start = h.start;
      reported = h.reported;
      covered = h.covered;
      tells =
          subst (λ (xs : List Waiting). AreTells xs g ws up h.start s.standing.below s.tells) (sym e)
          (tells_stored stored rest g ws up h.start s.standing.below s.tells h.tells);
      own = h.own;
    }
