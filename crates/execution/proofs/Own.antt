-- The board's history is that of the commands that were given, if no order brought a record.
use Rattle.std.proofs.Common.{◌≡◌, ℕ, zero, suc, ◌+◌, ◌-◌, ◌*◌, ◌<◌, ◌≤◌, min, inl, inr, List, [], ◌∷◌, ◌++◌, length}
use Rattle.std.proofs.Common.{refl, sym, ◌∙◌, ap, subst, arith, drop, take, length-append, length-drop, Some}
use Rattle.std.proofs.Common.{Option, Bool, true, false, IfSome, eq-eqb, eqb-true, ltb-true, le-leb}
use Rattle.std.proofs.lemmas.List.{drop-drop, take-take, take-append-drop, take-append-le, drop-take}
use Rattle.std.specs.Prelude.{⊤, ◌^◌, ◌&&◌, ◌||◌, ◌==◌, nat_lt, nat_le, slice_get}
use Rattle.command_log.specs.declared.record.Record.{Record}
use Rattle.command_log.specs.declared.executor.Stage.{Stage}
use Rattle.command_log.specs.declared.executor.Stage.TheVariants.{Lost, RepairsFirst, RepairsSecond, WritesFirst}
use Rattle.command_log.specs.declared.executor.Stage.TheVariants.{WritesSecond, Executes, Rests, Ordered}
use Rattle.command_log.specs.declared.status.Status.TheVariants.{Says}
use Rattle.command_log.specs.declared.packets.Order.{Order}
use Rattle.command_log.specs.declared.packets.Order.TheVariants.{Restart, Rebuild}
use Rattle.command_log.specs.Packets.{number_in}
use Rattle.command_log.specs.History.{history_after}
use Rattle.command_log.specs.Record.{no_commands, begun, passed, passed_if_begun, counted}
use Rattle.command_log.specs.Executor.{status_at}
use Rattle.command_log.specs.Board.{Board, IsAmong}
use Rattle.command_log.proofs.Exact.{are_both}
use Rattle.command_log.proofs.Steps.{no_other}
use Rattle.command_ledger.specs.Waiting.{Waiting}
use Rattle.command_ledger.specs.declared.known.Standing.{Standing}
use Rattle.command_ledger.specs.Known.{reach, progress, is_later, is_news}
use Rattle.command_ledger.specs.State.{State, history_over, agrees}
use Rattle.execution.specs.Execution.{IsGiven}
use Rattle.execution.proofs.Lists.{get_low}
use Rattle.execution.proofs.Records.{HasRecords, RecordsAt, SameAt, IsFit, fit_begun, fit_executed, fit_more}
use Rattle.execution.proofs.Records.{reach_begun, reach_not_begun, records_more, fit_counted, started_fit}
use Rattle.execution.proofs.Tells.{Past}
use Rattle.execution.proofs.Good.{Good}

-- ---- histories

over_both : (history : ℕ) (cs ds : List Waiting)
    → history_over (history_over history cs) ds ≡ history_over history (cs ++ ds)
over_both history [] ds = refl
over_both history (c ∷ cs) ds = over_both (history_after history c.packet) cs ds

take_one : (n : ℕ) (cs : List Waiting) (c : Waiting) → slice_get cs n ≡ Some c → take (suc n) cs ≡ take n cs ++ c ∷ []
take_one n [] c e = absurd cc
take_one zero (x ∷ cs) c e = let same : x ≡ c = cc in ap (λ (y : Waiting). y ∷ []) same
take_one (suc n) (x ∷ cs) c e = ap (λ (ys : List Waiting). x ∷ ys) (take_one n cs c e)

-- the record's history is that of the first commands, up to its reach
abbrev pub HasHistory : List Waiting → Record → Type 0
HasHistory stored kept = kept.history ≡ history_over 0 (take (reach kept) stored)

history_more : (stored more : List Waiting) (kept : Record) → reach kept ≤ length stored → HasHistory stored kept
    → HasHistory (stored ++ more) kept
history_more stored more kept low is =
    is ∙ ap (history_over 0) (sym (take-append-le (reach kept) stored more low))

progress_begun : (kept : Record) → kept.begun ≡ true → progress kept ≡ kept.last * 2 + 1
progress_begun kept e = rw e refl

progress_not_begun : (kept : Record) → kept.begun ≡ false → progress kept ≡ kept.last * 2 + 0
progress_not_begun kept e = rw e refl

-- ---- a record on board

pub record IsOwnRecord (stored : List Waiting) (said : List Record) (kept : Record) : Type 0 where
  pub fit : IsFit (length stored) kept
  pub history : HasHistory stored kept
  pub later : (earlier : Record) → IsAmong earlier said
      → (earlier.boot ≤ kept.boot) × (progress earlier ≤ progress kept)

pub own_begun : (stored : List Waiting) (said : List Record) (kept : Record) (octets : List ℕ) → kept.begun ≡ false
    → kept.last < 4294967295 → number_in octets ≡ kept.last + 1 → IsGiven stored octets
    → IsOwnRecord stored said kept → IsOwnRecord stored said (begun kept octets)
own_begun stored said kept octets e room number given is =
    let c : Waiting = given.0 in
    let place : number_in octets - 1 ≡ kept.last = omega (arith, number) in
    let there : slice_get stored kept.last ≡ Some c =
    subst (λ (n : ℕ). slice_get stored n ≡ Some c) place given.1.1 in
    let low = get_low stored kept.last c there in
    let up : min (kept.last + 1) 4294967295 ≡ suc kept.last = omega (arith, room) in
    let before : kept.history ≡ history_over 0 (take kept.last stored) =
    is.history ∙ ap (λ (n : ℕ). history_over 0 (take n stored)) (reach_not_begun kept e) in
    let one : history_over 0 (take (suc kept.last) stored)
    ≡ history_after (history_over 0 (take kept.last stored)) c.packet =
    ap (history_over 0) (take_one kept.last stored c there) ∙ sym (over_both 0 (take kept.last stored) (c ∷ [])) in
    let now : history_after kept.history octets
    ≡ history_over 0 (take (min (kept.last + 1) 4294967295) stored) =
    ap (λ (h : ℕ). history_after h octets) before
    ∙ ap (history_after (history_over 0 (take kept.last stored))) (sym given.2) ∙ sym one
    ∙ ap (λ (n : ℕ). history_over 0 (take n stored)) (sym up) in
    let was = progress_not_begun kept e in
    let later = is.later in
    record {
      fit = fit_begun (length stored) kept octets room (omega (arith, low)) is.fit;
      history = now;
      later =
          λ earlier among. let l = later earlier among in let more = l.1 in (l.0, omega (arith, more, was));
    }

pub own_executed : (stored : List Waiting) (said : List Record) (kept : Record) → kept.begun ≡ true
    → IsOwnRecord stored said kept → IsOwnRecord stored said (passed kept 1)
own_executed stored said kept e is =
    let same = reach_begun kept e in
    let was = progress_begun kept e in
    let room = is.fit.room e in
    let later = is.later in
    record {
      fit = fit_executed (length stored) kept e is.fit;
      history = is.history ∙ ap (λ (n : ℕ). history_over 0 (take n stored)) same;
      later =
          λ earlier among.
          let l = later earlier among in let more = l.1 in (l.0, omega (arith, more, was, room));
    }

pub started_own : (stored : List Waiting) (said : List Record) (kept : Record) (flag : Bool) → kept.begun ≡ flag
    → kept.boot < 4294967295 → IsOwnRecord stored said kept
    → IsOwnRecord stored said (counted (passed_if_begun kept flag))
started_own stored said kept false e small is =
    let later = is.later in
    record {
      fit = fit_counted (length stored) kept e is.fit;
      history = is.history;
      later =
          λ earlier among. let l = later earlier among in let up = l.0 in (omega (arith, up, small), l.1);
    }
started_own stored said kept true e small is =
    let same = reach_begun kept e in
    let was = progress_begun kept e in
    let room = is.fit.room e in
    let later = is.later in
    record {
      fit = started_fit (length stored) kept true e is.fit;
      history = is.history ∙ ap (λ (n : ℕ). history_over 0 (take n stored)) same;
      later =
          λ earlier among.
          let l = later earlier among in
          let up = l.0 in
          let more = l.1 in
          (omega (arith, up, small), omega (arith, more, was, room));
    }

-- ---- the board

abbrev pub IsNoRebuild : Order → Type 0
IsNoRebuild (Restart boot) = ⊤
IsNoRebuild (Rebuild mark boot last) = ⊥

pub record IsOwnBoard (stored : List Waiting) (said : List Record) (directed : List Order) (b : Board)
    : Type 0 where
  pub records : HasRecords (IsOwnRecord stored said) (λ mark. ⊤) b
  pub histories : (kept : Record) → IsAmong kept said → HasHistory stored kept
  pub pairs : (one two : Record) → IsAmong one said → IsAmong two said → one.boot < two.boot
      → progress one ≤ progress two
  pub none : (order : Order) → IsAmong order directed → IsNoRebuild order

-- a status with this record is sent
self : (stored : List Waiting) (said : List Record) (kept : Record) → IsOwnRecord stored said kept
    → IsOwnRecord stored (kept ∷ said) kept
self stored said kept is =
    let later = is.later in
    record {
      fit = is.fit;
      history = is.history;
      later =
          λ earlier among. elim among as (λ _. (earlier.boot ≤ kept.boot) × (progress earlier ≤ progress kept)) [
            | inl same ↦
                let boot : earlier.boot ≡ kept.boot = ap (λ (r : Record). r.boot) same in
                let more : progress earlier ≡ progress kept = ap progress same in
                (omega (arith, boot), omega (arith, more))
            | inr before ↦ later earlier before
          ];
    }

said_by : (stored : List Waiting) (said : List Record) (kept now : Record) (one two : Option Record) (stage : Stage)
    → status_at now stage ≡ Says kept → RecordsAt (IsOwnRecord stored said) (λ mark. ⊤) now stage
    → SameAt one two now stage
    → IsOwnRecord stored said kept
    × IfSome one (IsOwnRecord stored (kept ∷ said)) × IfSome two (IsOwnRecord stored (kept ∷ said))
    × RecordsAt (IsOwnRecord stored (kept ∷ said)) (λ mark. ⊤) now stage
said_by stored said kept now one two Rests e is same =
    let one_is : now ≡ kept = cc in
    let own : IsOwnRecord stored said kept = subst (IsOwnRecord stored said) one_is is.0 in
    let new : IsOwnRecord stored (kept ∷ said) now =
    subst (IsOwnRecord stored (kept ∷ said)) (sym one_is) (self stored said kept own) in (
      own,
      no_other (IsOwnRecord stored (kept ∷ said)) one now same.0 new,
      no_other (IsOwnRecord stored (kept ∷ said)) two now same.1 new,
      (new, is.1),
    )
said_by stored said kept now one two Executes e is same =
    let one_is : now ≡ kept = cc in
    let own : IsOwnRecord stored said kept = subst (IsOwnRecord stored said) one_is is.0 in
    let new : IsOwnRecord stored (kept ∷ said) now =
    subst (IsOwnRecord stored (kept ∷ said)) (sym one_is) (self stored said kept own) in (
      own,
      no_other (IsOwnRecord stored (kept ∷ said)) one now same.0 new,
      no_other (IsOwnRecord stored (kept ∷ said)) two now same.1 new,
      (new, is.1),
    )
said_by stored said kept now one two Ordered e is same =
    let one_is : now ≡ kept = cc in
    let own : IsOwnRecord stored said kept = subst (IsOwnRecord stored said) one_is is in
    let new : IsOwnRecord stored (kept ∷ said) now =
    subst (IsOwnRecord stored (kept ∷ said)) (sym one_is) (self stored said kept own) in (
      own,
      no_other (IsOwnRecord stored (kept ∷ said)) one now same.0 new,
      no_other (IsOwnRecord stored (kept ∷ said)) two now same.1 new,
      new,
    )
said_by stored said kept now one two (Lost mark) e is same = absurd cc
said_by stored said kept now one two RepairsFirst e is same = absurd cc
said_by stored said kept now one two RepairsSecond e is same = absurd cc
said_by stored said kept now one two WritesFirst e is same = absurd cc
said_by stored said kept now one two WritesSecond e is same = absurd cc

pub own_said : (stored : List Waiting) (said : List Record) (directed : List Order) (b : Board) (kept : Record)
    → status_at b.executor.kept b.executor.stage ≡ Says kept → IsOwnBoard stored said directed b
    → IsOwnBoard stored (kept ∷ said) directed b
own_said stored said directed b kept e h =
    let is = said_by stored said kept b.executor.kept b.first b.second b.executor.stage e h.records.now
    h.records.same in
    let own = is.0 in
    let later = own.later in
    let before = h.histories in
    let pairs = h.pairs in
    record {
      records = record { first = is.1; second = is.2; now = is.3; same = h.records.same };
      histories =
          λ it among. elim among as (λ _. HasHistory stored it) [
            | inl same ↦ subst (HasHistory stored) (sym same) own.history
            | inr earlier ↦ before it earlier
          ];
      pairs =
          λ one two a b low. elim a as (λ _. progress one ≤ progress two) [
            | inl first ↦
                let boot : one.boot ≡ kept.boot = ap (λ (r : Record). r.boot) first in
                elim b as (λ _. progress one ≤ progress two) [
                  | inl second ↦
                      let too : two.boot ≡ kept.boot = ap (λ (r : Record). r.boot) second in
                      absurd (omega (arith, boot, too, low))
                  | inr earlier ↦
                      let l = (later two earlier).0 in absurd (omega (arith, boot, l, low))
                ]
            | inr earlier ↦
                elim b as (λ _. progress one ≤ progress two) [
                  | inl second ↦
                      let more : progress two ≡ progress kept = ap progress second in
                      let l = (later one earlier).1 in omega (arith, more, l)
                  | inr too ↦ pairs one two earlier too low
                ]
          ];
      none = h.none;
    }

pub own_stored : (stored more : List Waiting) (said : List Record) (directed : List Order) (b : Board)
    → ((kept : Record) → IsAmong kept said → IsFit (length stored) kept) → IsOwnBoard stored said directed b
    → IsOwnBoard (stored ++ more) said directed b
own_stored stored more said directed b fits h =
    let long = length-append stored more in
    let up : length stored ≤ length (stored ++ more) = omega (arith, long) in
    let before = h.histories in
    record {
      records =
          records_more (IsOwnRecord stored said) (IsOwnRecord (stored ++ more) said) (λ mark. ⊤) b
          (λ r is. record {
            fit = fit_more (length stored) (length (stored ++ more)) up r is.fit;
            history = history_more stored more r is.fit.reach is.history;
            later = is.later;
          })
          h.records;
      histories = λ kept among. history_more stored more kept (fits kept among).reach (before kept among);
      pairs = h.pairs;
      none = h.none;
    }

-- ---- what the ledger hears agrees

later_by : (a b c : Bool) (m n : ℕ) → (a || (b && c)) ≡ true → (a ≡ true → m ≤ n) → (c ≡ true → m < n) → m ≤ n
later_by true b c m n e one two = one refl
later_by false true true m n e one two = let low = two refl in omega (arith, low)
later_by false true false m n e one two = absurd cc
later_by false false c m n e one two = absurd cc

later_record : (e k : Record) → is_later e k ≡ true → (e.boot < k.boot → progress e ≤ progress k)
    → progress e ≤ progress k
later_record e k later pairs =
    later_by (nat_lt e.boot k.boot) (e.boot == k.boot) (nat_lt (progress e) (progress k)) (progress e) (progress k)
    later (λ t. pairs (ltb-true e.boot k.boot t)) (λ t. ltb-true (progress e) (progress k) t)

news_by : (a b c d : Bool) (m n : ℕ) → (a || (b && (c && d))) ≡ true → (a ≡ true → m ≤ n) → (d ≡ true → m ≡ n) → m ≤ n
news_by true b c d m n e one two = one refl
news_by false true true true m n e one two = let same = two refl in omega (arith, same)
news_by false true true false m n e one two = absurd cc
news_by false true false d m n e one two = absurd cc
news_by false false c d m n e one two = absurd cc

news_later : (s : Standing) (k : Record) → is_news s k ≡ true
    → (s.board.boot < k.boot → progress s.board ≤ progress k) → progress s.board ≤ progress k
news_later s k news pairs =
    let e : Record = s.board in
    news_by (is_later e k) s.is_lost (e.boot == k.boot) (progress e == progress k) (progress e) (progress k) news
    (λ t. later_record e k t pairs) (λ t. eqb-true (progress e) (progress k) t)

up_to : (e k : Record) (a b : Bool) → e.begun ≡ a → k.begun ≡ b → k.last < 2 ^ 32 → progress e ≤ progress k
    → (e.last ≤ k.last) × (reach e ≤ reach k)
up_to e k true true f g small low =
    let one = progress_begun e f in
    let two = progress_begun k g in
    let three = reach_begun e f in
    let four = reach_begun k g in
    (omega (arith, one, two, low), omega (arith, one, two, three, four, low))
up_to e k true false f g small low =
    let one = progress_begun e f in
    let two = progress_not_begun k g in
    let three = reach_begun e f in
    let four = reach_not_begun k g in
    (omega (arith, one, two, low), omega (arith, one, two, three, four, low))
up_to e k false true f g small low =
    let one = progress_not_begun e f in
    let two = progress_begun k g in
    let three = reach_not_begun e f in
    let four = reach_begun k g in
    (omega (arith, one, two, low), omega (arith, one, two, three, four, low, small))
up_to e k false false f g small low =
    let one = progress_not_begun e f in
    let two = progress_not_begun k g in
    let three = reach_not_begun e f in
    let four = reach_not_begun k g in
    (omega (arith, one, two, low), omega (arith, one, two, three, four, low))

last_reach : (e : Record) (a : Bool) → e.begun ≡ a → e.last < 2 ^ 32 → e.last ≤ reach e
last_reach e true f small = let three = reach_begun e f in omega (arith, three, small)
last_reach e false f small = let three = reach_not_begun e f in omega (arith, three)

agreeing : (stored rest all cs : List Waiting) (below : ℕ) (e k : Record) → all ≡ stored ++ rest → cs ≡ drop below all
    → below ≤ length all → below ≤ reach e → reach e ≤ reach k → reach k ≤ length stored → HasHistory stored e
    → HasHistory stored k → agrees below cs e k ≡ true
agreeing stored rest all cs below e k goes is low first up most one two =
    let a : ℕ = reach e in
    let n : ℕ = reach k in
    let long = ap length is ∙ length-drop below all in
    let sum = ap length goes ∙ length-append stored rest in
    let within : n ≤ below + length cs = omega (arith, long, low, sum, most) in
    let parts : take (n - below) (drop below all) ≡ drop below (take (below + (n - below)) all) =
    sym (drop-take below (n - below) all) in
    let whole : below + (n - below) ≡ n = omega (arith, first, up) in
    let front : take n all ≡ take n stored = ap (take n) goes ∙ take-append-le n stored rest most in
    let middle : take (n - below) cs ≡ drop below (take n stored) =
    ap (take (n - below)) is ∙ parts ∙ ap (λ (m : ℕ). drop below (take m all)) whole ∙ ap (drop below) front in
    let sum_too : below + (a - below) ≡ a = omega (arith, first) in
    let last : drop (a - below) (take (n - below) cs) ≡ drop a (take n stored) =
    ap (drop (a - below)) middle ∙ drop-drop (a - below) below (take n stored)
    ∙ ap (λ (m : ℕ). drop m (take n stored)) sum_too in
    let whole_too : history_over 0 (take a stored) ≡ history_over 0 (take a (take n stored)) =
    ap (history_over 0) (sym (take-take a n stored up)) in
    let history : history_over e.history (drop (a - below) (take (n - below) cs)) ≡ k.history =
    ap (λ (h : ℕ). history_over h (drop (a - below) (take (n - below) cs))) (one ∙ whole_too)
    ∙ ap (history_over (history_over 0 (take a (take n stored)))) last
    ∙ over_both 0 (take a (take n stored)) (drop a (take n stored))
    ∙ ap (history_over 0) (take-append-drop a (take n stored)) ∙ sym two in
    are_both (nat_le n (below + length cs))
    (history_over e.history (drop (a - below) (take (n - below) cs)) == k.history)
    (le-leb n (below + length cs) within)
    (eq-eqb (history_over e.history (drop (a - below) (take (n - below) cs))) k.history history)

pub own_agrees : (stored : List Waiting) (g : Past) (ws : List ℕ) (up : List Bool) (all : List Waiting) (s : State)
    (b : Board) (kept : Record) → g.quiet ≡ true → Good stored g ws up all s → IsOwnBoard stored g.said g.directed b
    → IsAmong kept g.said → IsFit (length stored) kept → is_news s.standing kept ≡ true
    → (agrees s.standing.below s.commands s.standing.board kept ≡ true) × (s.standing.below ≤ kept.last)
own_agrees stored g ws up all s b kept q k h among fits news =
    let e : Record = s.standing.board in
    let own = k.own q in
    let said = h.histories in
    let pairs = h.pairs in
    let facts : HasHistory stored e × (progress e ≤ progress kept) =
    elim own.known as (λ _. HasHistory stored e × (progress e ≤ progress kept)) [
      | inl first ↦
          let history : HasHistory stored (no_commands 0 0) = refl in
          let none : progress e ≡ 0 = ap progress first in
          (subst (HasHistory stored) (sym first) history, omega (arith, none))
      | inr there ↦ (said e there, news_later s.standing kept news (λ low. pairs e kept there among low))
    ] in
    let bounds = up_to e kept e.begun kept.begun refl refl fits.range.last facts.1 in
    let lasts = bounds.0 in
    let below = own.below in
    let reached = last_reach e e.begun refl k.board.range.last in (
      agreeing stored k.rest all s.commands s.standing.below e kept k.goes_on k.commands k.low
          (omega (arith, below, reached)) bounds.1 fits.reach facts.0 (said kept among),
      omega (arith, below, lasts),
    )
