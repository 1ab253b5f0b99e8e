-- The entries of a store, and those that must still be appended.
use Rattle.std.proofs.Common.{◌≡◌, ℕ, zero, suc, ◌+◌, ◌-◌, ◌<◌, ◌≤◌, inl, inr, List, [], ◌∷◌, ◌++◌, length}
use Rattle.std.proofs.Common.{refl, sym, ◌∙◌, ap, subst, arith, take, length-append, append_assoc, append-nil}
use Rattle.std.proofs.Common.{true, lt-ltb, le-leb, eq-eqb, Bool, drop}
use Rattle.std.specs.List.{AllByRecursion}
use Rattle.command_ledger.specs.declared.state.Tell.{Tell}
use Rattle.std.proofs.lemmas.Bool.{cases_lt}
use Rattle.std.proofs.lemmas.List.{take-append-le}
use Rattle.std.proofs.Math.Seq.{take-append-add}
use Rattle.std.specs.Prelude.{◌^◌, ◌&&◌, ◌==◌, nat_lt, nat_le}
use Rattle.command_log.specs.Packets.{is_command, number_in}
use Rattle.command_log.proofs.Exact.{are_both}
use Rattle.command_ledger.specs.Waiting.{Waiting, waiting}
use Rattle.command_ledger.specs.State.{State, Entry, Gives, Hears, Loses, Rebuilds, Tells, Stands, highest}
use Rattle.command_ledger.specs.State.{after_entry, follows}
use Rattle.command_ledger.specs.Entries.{spelling}
use Rattle.command_ledger.specs.Ledger.{commands_octets}
use Rattle.command_ledger.specs.Kept.{AreEntries, IsCutOff, after_entries, store_octets}
use Rattle.execution.proofs.Lists.{IsPacket, ArePackets}
use Rattle.execution.proofs.Tells.{Past, AreTells, up_after}
use Rattle.execution.proofs.Good.{Good, IsMore, good_more, good_reported}

-- the commands that entries give
abbrev pub commands_in : Entry → List Waiting
commands_in (Gives tag on_map packet) = waiting tag on_map packet ∷ []
commands_in (Hears kept) = []
commands_in (Loses mark) = []
commands_in (Rebuilds order) = []
commands_in Tells = []
commands_in (Stands standing) = []

abbrev pub all_in : List Entry → List Waiting
all_in [] = []
all_in (e ∷ es) = commands_in e ++ all_in es

pub all_in_both : (es fs : List Entry) → all_in (es ++ fs) ≡ all_in es ++ all_in fs
all_in_both [] fs = refl
all_in_both (e ∷ es) fs =
    ap (λ (cs : List Waiting). commands_in e ++ cs) (all_in_both es fs)
    ∙ sym (append_assoc (commands_in e) (all_in es) (all_in fs))

-- ---- lists of entries

pub after_both : (s : State) (es fs : List Entry) → after_entries s (es ++ fs) ≡ after_entries (after_entries s es) fs
after_both s [] fs = refl
after_both s (e ∷ es) fs = after_both (after_entry s e) es fs

pub octets_both : (es fs : List Entry) → store_octets (es ++ fs) ≡ store_octets es ++ store_octets fs
octets_both [] fs = refl
octets_both (e ∷ es) fs =
    ap (λ (xs : List ℕ). spelling e ++ xs) (octets_both es fs)
    ∙ sym (append_assoc (spelling e) (store_octets es) (store_octets fs))

pub entries_both : (s : State) (es fs : List Entry) → AreEntries s es → AreEntries (after_entries s es) fs
    → AreEntries s (es ++ fs)
entries_both s [] fs are more = more
entries_both s (e ∷ es) fs are more = (are.0, are.1, entries_both (after_entry s e) es fs are.2 more)

pub entries_front : (s : State) (es fs : List Entry) → AreEntries s (es ++ fs) → AreEntries s es
entries_front s [] fs are = tt
entries_front s (e ∷ es) fs are = (are.0, are.1, entries_front (after_entry s e) es fs are.2)

-- ---- the first octets of entries

pub record Cut (n : ℕ) (es : List Entry) : Type 0 where
  pub before : List Entry
  pub after : List Entry
  pub rest : List ℕ
  pub same : es ≡ before ++ after
  pub cut : IsCutOff rest
  pub octets : take n (store_octets es) ≡ store_octets before ++ rest

none_cut : IsCutOff []
none_cut = record { entry = Tells; fits = tt; n = 0; few = omega arith; same = refl }

take_none : (n : ℕ) → ◌≡◌ {A = List ℕ} (take n []) []
take_none zero = refl
take_none (suc n) = refl

pub cut_at : (n : ℕ) (s : State) (es : List Entry) → AreEntries s es → Cut n es
cut_at n s [] are =
    record { before = []; after = []; rest = []; same = refl; cut = none_cut; octets = take_none n }
cut_at n s (e ∷ es) are =
    let w : List ℕ = spelling e in
    elim (cases_lt n (length w)) as (λ _. Cut n (e ∷ es)) [
      | inl few ↦
          record {
            before = [];
            after = e ∷ es;
            rest = take n w;
            same = refl;
            cut = record { entry = e; fits = are.1; n = n; few = few; same = refl };
            octets = take-append-le n w (store_octets es) (omega (arith, few));
          }
      | inr many ↦
          let more = cut_at (n - length w) (after_entry s e) es are.2 in
          let sum : n ≡ length w + (n - length w) = omega (arith, many) in
          record {
            before = e ∷ more.before;
            after = more.after;
            rest = more.rest;
            same = ap (λ (fs : List Entry). e ∷ fs) more.same;
            cut = more.cut;
            octets =
                ap (λ (k : ℕ). take k (w ++ store_octets es)) sum
                ∙ take-append-add w (store_octets es) (n - length w)
                ∙ ap (λ (xs : List ℕ). w ++ xs) more.octets
                ∙ sym (append_assoc w (store_octets more.before) more.rest);
          }
    ]

-- ---- the state after each of them is good

abbrev pub AreGood : List Waiting → Past → List ℕ → List Bool → List Waiting → State → List Entry → Type 0
AreGood stored g ws up all s [] = Good stored g ws up all s
AreGood stored g ws up all s (e ∷ es) =
    Good stored g ws up all s × AreGood stored g ws up (all ++ commands_in e) (after_entry s e) es

pub good_front : (stored : List Waiting) (g : Past) (ws : List ℕ) (up : List Bool) (all : List Waiting) (s : State)
    (es fs : List Entry) → AreGood stored g ws up all s (es ++ fs)
    → Good stored g ws up (all ++ all_in es) (after_entries s es)
good_front stored g ws up all s [] [] are =
    subst (λ (cs : List Waiting). Good stored g ws up cs s) (sym (append-nil all)) are
good_front stored g ws up all s [] (f ∷ fs) are =
    subst (λ (cs : List Waiting). Good stored g ws up cs s) (sym (append-nil all)) are.0
good_front stored g ws up all s (e ∷ es) fs are =
    subst (λ (cs : List Waiting). Good stored g ws up cs (after_entries (after_entry s e) es))
    (append_assoc all (commands_in e) (all_in es))
    (good_front stored g ws up (all ++ commands_in e) (after_entry s e) es fs are.1)

pub good_last : (stored : List Waiting) (g : Past) (ws : List ℕ) (up : List Bool) (all : List Waiting) (s : State)
    (es : List Entry) → AreGood stored g ws up all s es
    → Good stored g ws up (all ++ all_in es) (after_entries s es)
good_last stored g ws up all s es are =
    good_front stored g ws up all s es []
    (subst (AreGood stored g ws up all s) (sym (append-nil es)) are)

pub good_push : (stored : List Waiting) (g : Past) (ws : List ℕ) (up : List Bool) (all : List Waiting) (s : State)
    (es : List Entry) (e : Entry) → AreGood stored g ws up all s es
    → Good stored g ws up ((all ++ all_in es) ++ commands_in e) (after_entry (after_entries s es) e)
    → AreGood stored g ws up all s (es ++ e ∷ [])
good_push stored g ws up all s [] e are last = (
  are,
  subst (λ (cs : List Waiting). Good stored g ws up (cs ++ commands_in e) (after_entry s e)) (append-nil all) last,
)
good_push stored g ws up all s (x ∷ es) e are last = (
  are.0,
  good_push stored g ws up (all ++ commands_in x) (after_entry s x) es e are.1
      (subst (λ (cs : List Waiting). Good stored g ws up (cs ++ commands_in e)
      (after_entry (after_entries (after_entry s x) es) e)) (sym (append_assoc all (commands_in x) (all_in es))) last),
)

pub chain_more : (stored : List Waiting) (g h : Past) (ws vs : List ℕ) (up : List Bool) (all : List Waiting)
    (s : State) (es : List Entry) → IsMore g h ws vs → AreGood stored g ws up all s es
    → AreGood stored h vs up all s es
chain_more stored g h ws vs up all s [] more are = good_more stored g h ws vs up all s more are
chain_more stored g h ws vs up all s (e ∷ es) more are = (
  good_more stored g h ws vs up all s more are.0,
  chain_more stored g h ws vs up (all ++ commands_in e) (after_entry s e) es more are.1,
)

-- ---- a report is made, while only notes of reports are to be stored

abbrev pub IsNote : Entry → Type 0
IsNote e = e ≡ Tells

pub record Reported (stored : List Waiting) (g : Past) (ws : List ℕ) (up : List Bool) (all : List Waiting) (s : State)
    (es : List Entry) (tail : List Tell) : Type 0 where
  pub front : List Tell
  pub split : s.tells ≡ front ++ tail
  pub good : AreGood stored g ws up all s es

add_front : (ts front tail : List Tell) → drop 1 ts ≡ front ++ tail → (more : List Tell) × (ts ≡ more ++ tail)
add_front [] [] tail e = ([], e)
add_front [] (x ∷ front) tail e = absurd cc
add_front (t ∷ ts) front tail e = (t ∷ front, ap (λ (xs : List Tell). t ∷ xs) e)

-- the state before a note
note_first : (stored : List Waiting) (g : Past) (ws : List ℕ) (up : List Bool) (all : List Waiting) (s : State)
    (es : List Entry) (k : ℕ) (tail : List Tell) → k ≤ length up
    → AreTells stored g ws up k s.standing.below tail → Good stored g ws up all s
    → Reported stored g ws (up_after up k tail) (all ++ []) (after_entry s Tells) es tail
    → Reported stored g ws (up_after up k tail) all s (Tells ∷ es) tail
note_first stored g ws up all s es k tail low are good more =
    let whole = add_front s.tells more.front tail more.split in
    record {
      front = whole.0;
      split = whole.1;
      good = (good_reported stored g ws up all s k whole.0 tail whole.1 low are good, more.good);
    }

same_below : (s : State) (es : List Entry) → AllByRecursion IsNote es
    → (after_entries s es).standing.below ≡ s.standing.below
same_below s [] notes = refl
same_below s (e ∷ es) notes =
    same_below (after_entry s e) es notes.1
    ∙ ap (λ (x : Entry). (after_entry s x).standing.below) notes.0

pub chain_reported : (stored : List Waiting) (g : Past) (ws : List ℕ) (up : List Bool) (all : List Waiting)
    (s : State) (es : List Entry) (k : ℕ) (tail : List Tell) → AllByRecursion IsNote es → k ≤ length up
    → (after_entries s es).tells ≡ tail → AreTells stored g ws up k (after_entries s es).standing.below tail
    → AreGood stored g ws up all s es → Reported stored g ws (up_after up k tail) all s es tail
chain_reported stored g ws up all s [] k tail notes low e are good =
    record {
      front = [];
      split = e;
      good = good_reported stored g ws up all s k [] tail e low are good;
    }
chain_reported stored g ws up all s (x ∷ es) k tail notes low e are good =
    let is : x ≡ Tells = notes.0 in
    let same : (after_entries (after_entry s Tells) es).standing.below ≡ s.standing.below =
    same_below (after_entry s Tells) es notes.1 in
    let now : after_entries (after_entry s x) es ≡ after_entries (after_entry s Tells) es =
    ap (λ (y : Entry). after_entries (after_entry s y) es) is in
    let tells : (after_entries (after_entry s Tells) es).tells ≡ tail = ap (λ (t : State). t.tells) (sym now) ∙ e in
    let here : AreTells stored g ws up k (after_entries (after_entry s Tells) es).standing.below tail =
    subst (λ (t : State). AreTells stored g ws up k t.standing.below tail) now are in
    let first : AreTells stored g ws up k s.standing.below tail =
    subst (λ (m : ℕ). AreTells stored g ws up k m tail) same here in
    let all_good : AreGood stored g ws up all s (Tells ∷ es) =
    subst (λ (y : Entry). AreGood stored g ws up all s (y ∷ es)) is good in
    let more = chain_reported stored g ws up (all ++ []) (after_entry s Tells) es k tail notes.1 low tells here
    all_good.1 in
    subst (λ (y : Entry). Reported stored g ws (up_after up k tail) all s (y ∷ es) tail) (sym is)
    (note_first stored g ws up all s es k tail low first all_good.0 more)

-- ---- the same state, but for the count of octets

pub record IsSame (s t : State) : Type 0 where
  pub live : ℕ
  pub is : s ≡ record t { live = live }

pub same_now : (s : State) → IsSame s s
same_now s = record { live = s.live; is = refl }

same_at : (t : State) (live : ℕ) (e : Entry) → IsSame (after_entry (record t { live = live }) e) (after_entry t e)
same_at t live (Gives tag on_map packet) =
    record { live = (after_entry (record t { live = live }) (Gives tag on_map packet)).live; is = refl }
same_at t live (Hears kept) = record { live = (after_entry (record t { live = live }) (Hears kept)).live; is = refl }
same_at t live (Loses mark) = record { live = live; is = refl }
same_at t live (Rebuilds order) = record { live = live; is = refl }
same_at t live Tells = record { live = live; is = refl }
same_at t live (Stands standing) = record { live = 0; is = refl }

pub same_after : (s t : State) (e : Entry) → IsSame s t → IsSame (after_entry s e) (after_entry t e)
same_after s t e h =
    subst (λ (x : State). IsSame (after_entry x e) (after_entry t e)) (sym h.is) (same_at t h.live e)

good_live : (stored : List Waiting) (g : Past) (ws : List ℕ) (up : List Bool) (all : List Waiting) (s : State)
    (live : ℕ)
    → Good stored g ws up all (record s { live = live }) → Good stored g ws up all s
good_live stored g ws up all s live h =
    record {
      rest = h.rest;
      goes_on = h.goes_on;
      few = h.few;
      packets = h.packets;
      low = h.low;
      commands = h.commands;
      board = h.board;
      remembers =
          record {
            doubt = h.remembers.doubt;
            mark = h.remembers.mark;
            lost = h.remembers.lost;
            order = h.remembers.order;
            directed = h.remembers.directed;
          };
      start = h.start;
      reported = h.reported;
      covered = h.covered;
      tells = h.tells;
      own = λ q. let o = h.own q in record { none = o.none; known = o.known; below = o.below; own = o.own };
    }

pub good_same : (stored : List Waiting) (g : Past) (ws : List ℕ) (up : List Bool) (all : List Waiting) (s t : State)
    → IsSame s t → Good stored g ws up all s → Good stored g ws up all t
good_same stored g ws up all s t h is =
    good_live stored g ws up all t h.live (subst (Good stored g ws up all) h.is is)

-- ---- a fresh store

abbrev pub given_entries : List Waiting → List Entry
given_entries [] = []
given_entries (c ∷ cs) = Gives c.tag c.on_map c.packet ∷ given_entries cs

pub given_octets : (cs : List Waiting) → commands_octets cs ≡ store_octets (given_entries cs)
given_octets [] = refl
given_octets (c ∷ cs) = ap (λ (xs : List ℕ). spelling (Gives c.tag c.on_map c.packet) ++ xs) (given_octets cs)

pub follows_packet : (s : State) (n : ℕ) (c : Waiting) → highest s ≡ n → IsPacket (n + 1) c → n + 1 < 2 ^ 32
    → follows s (Gives c.tag c.on_map c.packet) ≡ true
follows_packet s n c e is few =
    let number = is.number in
    let last : number_in c.packet ≡ highest s + 1 = omega (arith, e, number) in
    are_both (nat_lt (highest s) 4294967295)
    (nat_le (length c.packet) 65542 && (is_command c.packet && (number_in c.packet == highest s + 1)))
    (lt-ltb (highest s) 4294967295 (omega (arith, e, few)))
    (are_both (nat_le (length c.packet) 65542) (is_command c.packet && (number_in c.packet == highest s + 1))
    (le-leb (length c.packet) 65542 is.short)
    (are_both (is_command c.packet) (number_in c.packet == highest s + 1) is.command
    (eq-eqb (number_in c.packet) (highest s + 1) last)))

pub given_again : (s : State) (n : ℕ) (cs : List Waiting) → highest s ≡ n → ArePackets n cs → n + length cs < 2 ^ 32
    → AreEntries s (given_entries cs)
given_again s n [] e are few = tt
given_again s n (c ∷ cs) e are few =
    let packet = are.0 in
    let long = length-append s.commands (waiting c.tag c.on_map c.packet ∷ []) in (
      follows_packet s n c e packet (omega (arith, few)),
      (packet.tag, packet.short),
      given_again (after_entry s (Gives c.tag c.on_map c.packet)) (n + 1) cs (omega (arith, e, long)) are.1
          (omega (arith, few)),
    )

pub given_after : (s : State) (cs : List Waiting)
    → IsSame (after_entries s (given_entries cs)) (record s { commands = s.commands ++ cs })
given_after s [] =
    record { live = s.live; is = ap (λ (xs : List Waiting). record s { commands = xs }) (sym (append-nil s.commands)) }
given_after s (c ∷ cs) =
    let more = given_after (after_entry s (Gives c.tag c.on_map c.packet)) cs in
    record {
      live = more.live;
      is =
          more.is
          ∙ ap (λ (xs : List Waiting). record s { commands = xs; live = more.live })
          (append_assoc s.commands (c ∷ []) cs);
    }
