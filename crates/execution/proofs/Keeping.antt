-- The ledger and its store agree with what was sent and said; each call keeps this.
use Rattle.std.proofs.Common.{◌≡◌, ℕ, zero, suc, List, [], ◌∷◌, ◌++◌, length}
use Rattle.std.proofs.Common.{refl, sym, ◌∙◌, ap, subst, take, append_assoc, append-nil}
use Rattle.std.proofs.Common.{Some, None, Option, Bool, true, false}
use Rattle.std.proofs.lemmas.List.{take_at}
use Rattle.std.specs.Prelude.{⊤, ◌||◌, slice_get, if◌then◌else◌}
use Rattle.std.specs.List.{AllByRecursion}
use Rattle.command_ledger.specs.Ledger.{is_due}
use Rattle.command_ledger.specs.declared.state.Tell.{Tell}
use Rattle.command_ledger.specs.Waiting.{Waiting}
use Rattle.command_ledger.specs.State.{State, Entry, Gives, Hears, Loses, Rebuilds, Tells, Stands, new_state, highest}
use Rattle.command_ledger.specs.State.{after_entry, follows}
use Rattle.command_ledger.specs.Entries.{spelling}
use Rattle.command_ledger.specs.Store.{Reading, reading, read_on}
use Rattle.command_ledger.specs.Ledger.{LedgerState, NextView, Nothing, Stores, Says, opened, next_of, appended}
use Rattle.command_ledger.specs.Ledger.{all_stored, told_or_stored}
use Rattle.command_ledger.specs.Kept.{IsFitting, AreEntries, after_entries, store_octets}
use Rattle.command_ledger.proofs.Kept.{each_store}
use Rattle.execution.specs.System.{due_octets}
use Rattle.execution.proofs.Tells.{Past}
use Rattle.execution.proofs.Good.{Good, good_highest, good_stored}
use Rattle.execution.proofs.Chain.{commands_in, all_in, all_in_both, after_both, octets_both, entries_both}
use Rattle.execution.proofs.Chain.{entries_front, IsNote}
use Rattle.execution.proofs.Chain.{Cut, cut_at, AreGood, good_front, good_last, good_push, IsSame, same_now}
use Rattle.execution.proofs.Chain.{same_after, good_same}

-- `old` are the entries in the store, and `new` those that must still be appended
pub record OnGround (stored : List Waiting) (g : Past) (ws : List ℕ) (up : List Bool) (l : LedgerState) (store : List ℕ)
    (given : List Waiting) : Type 0 where
  pub old : List Entry
  pub new : List Entry
  pub read : AreEntries new_state old
  pub store_is : store ≡ store_octets old
  pub follow : AreEntries (after_entries new_state old) new
  pub unstored : l.unstored ≡ store_octets new
  pub good : AreGood stored g ws up stored (after_entries new_state old) new
  pub same : IsSame l.state (after_entries (after_entries new_state old) new)
  pub safe : l.safe ≡ length stored
  pub given_is : given ≡ stored ++ all_in new
  -- if nothing must be stored before a report, only notes of reports are to be stored
  pub notes : l.due ≡ false → AllByRecursion IsNote new

-- the state after all entries
pub state_good : (stored : List Waiting) (g : Past) (ws : List ℕ) (up : List Bool) (l : LedgerState) (store : List ℕ)
    (given : List Waiting) (h : OnGround stored g ws up l store given)
    → Good stored g ws up given (after_entries (after_entries new_state h.old) h.new)
state_good stored g ws up l store given h =
    subst (λ (cs : List Waiting). Good stored g ws up cs (after_entries (after_entries new_state h.old) h.new))
    (sym h.given_is) (good_last stored g ws up stored (after_entries new_state h.old) h.new h.good)

pub back : (s t : State) → IsSame s t → IsSame t s
back s t h = record { live = t.live; is = sym (ap (λ (x : State). record x { live = t.live }) h.is) }

-- the ledger's own state
pub ledger_good : (stored : List Waiting) (g : Past) (ws : List ℕ) (up : List Bool) (l : LedgerState) (store : List ℕ)
    (given : List Waiting) → OnGround stored g ws up l store given → Good stored g ws up given l.state
ledger_good stored g ws up l store given h =
    let t : State = after_entries (after_entries new_state h.old) h.new in
    good_same stored g ws up given t l.state (back l.state t h.same) (state_good stored g ws up l store given h)

-- ---- an entry is appended to what must be stored

one_octets : (e : Entry) (es : List Entry) → store_octets es ++ spelling e ≡ store_octets (es ++ e ∷ [])
one_octets e es =
    ap (λ (xs : List ℕ). store_octets es ++ xs) (sym (append-nil (spelling e))) ∙ sym (octets_both es (e ∷ []))

one_given : (e : Entry) (es : List Entry) → all_in es ++ commands_in e ≡ all_in (es ++ e ∷ [])
one_given e es =
    ap (λ (cs : List Waiting). all_in es ++ cs) (sym (append-nil (commands_in e))) ∙ sym (all_in_both es (e ∷ []))

follows_same : (s t : State) (e : Entry) → IsSame s t → follows s e ≡ follows t e
follows_same s t (Gives tag on_map packet) h = ap (λ (x : State). follows x (Gives tag on_map packet)) h.is
follows_same s t (Hears kept) h = refl
follows_same s t (Loses mark) h = refl
follows_same s t (Rebuilds order) h = refl
follows_same s t Tells h = refl
follows_same s t (Stands standing) h = refl

neither : (a b : Bool) → (a || b) ≡ false → (a ≡ false) × (b ≡ false)
neither true b e = absurd cc
neither false b e = (refl, e)

note_of : (e : Entry) → is_due e ≡ false → IsNote e
note_of (Gives tag on_map packet) f = absurd cc
note_of (Hears kept) f = absurd cc
note_of (Loses mark) f = absurd cc
note_of (Rebuilds order) f = absurd cc
note_of Tells f = refl
note_of (Stands standing) f = absurd cc

all_push : (es : List Entry) (e : Entry) → AllByRecursion IsNote es → IsNote e → AllByRecursion IsNote (es ++ e ∷ [])
all_push [] e are is = (is, tt)
all_push (x ∷ es) e are is = (are.0, all_push es e are.1 is)

-- `after` holds the ledger's state after the entry
pub on_append : (stored : List Waiting) (g : Past) (ws : List ℕ) (up : List Bool) (l : LedgerState) (store : List ℕ)
    (given all : List Waiting) (e : Entry) → follows l.state e ≡ true → IsFitting e → all ≡ given ++ commands_in e
    → Good stored g ws up all (after_entry l.state e) → OnGround stored g ws up l store given
    → OnGround stored g ws up (appended l e) store all
on_append stored g ws up l store given all e may fits is last h =
    let s : State = after_entries new_state h.old in
    let t : State = after_entries s h.new in
    let goes : after_entries s (h.new ++ e ∷ []) ≡ after_entry t e = after_both s h.new (e ∷ []) in
    let same : IsSame (after_entry l.state e) (after_entry t e) = same_after l.state t e h.same in
    let more : all ≡ (stored ++ all_in h.new) ++ commands_in e =
    is ∙ ap (λ (cs : List Waiting). cs ++ commands_in e) h.given_is in
    record {
      old = h.old;
      new = h.new ++ e ∷ [];
      read = h.read;
      store_is = h.store_is;
      follow = entries_both s h.new (e ∷ []) h.follow (sym (follows_same l.state t e h.same) ∙ may, fits, tt);
      unstored = ap (λ (xs : List ℕ). xs ++ spelling e) h.unstored ∙ one_octets e h.new;
      good =
          good_push stored g ws up stored s h.new e h.good
          (subst (λ (cs : List Waiting). Good stored g ws up cs (after_entry t e)) more
          (good_same stored g ws up all (after_entry l.state e) (after_entry t e) same last));
      same = subst (IsSame (after_entry l.state e)) (sym goes) same;
      safe = h.safe;
      given_is =
          more ∙ append_assoc stored (all_in h.new) (commands_in e)
          ∙ ap (λ (cs : List Waiting). stored ++ cs) (one_given e h.new);
      notes =
          λ f.
          let parts = neither l.due (is_due e) f in
          all_push h.new e (h.notes parts.0) (note_of e parts.1);
    }

-- ---- what must be stored is stored

abbrev pub StoresAll : List ℕ → NextView → Type 0
StoresAll unstored Nothing = ⊤
StoresAll unstored (Says tell) = ⊤
StoresAll unstored (Stores octets) = octets ≡ unstored

stores_by : (due : Bool) (unstored : List ℕ) (tell : Option Tell)
    → StoresAll unstored (if due then Stores unstored else told_or_stored unstored tell)
stores_by true unstored tell = refl
stores_by false [] None = tt
stores_by false (x ∷ xs) None = refl
stores_by false unstored (Some tell) = tt

pub stores_all : (l : LedgerState) → StoresAll l.unstored (next_of l)
stores_all l = stores_by l.due l.unstored (slice_get l.state.tells 0)

-- the first entries of those that must be appended are in the store, and the others are lost
pub on_open : (stored : List Waiting) (g : Past) (ws : List ℕ) (up : List Bool) (l m : LedgerState) (store now : List ℕ)
    (given all : List Waiting) (before after : List Entry) (h : OnGround stored g ws up l store given)
    → h.new ≡ before ++ after → all ≡ stored ++ all_in before → now ≡ store ++ store_octets before
    → IsSame m.state (after_entries new_state (h.old ++ before)) → m.unstored ≡ [] → m.safe ≡ highest m.state
    → OnGround all g ws up m now all
on_open stored g ws up l m store now given all before after h split is octets same none safe =
    let s : State = after_entries new_state h.old in
    let t : State = after_entries s before in
    let goes : after_entries new_state (h.old ++ before) ≡ t = after_both new_state h.old before in
    let front : Good stored g ws up (stored ++ all_in before) t =
    good_front stored g ws up stored s before after (subst (AreGood stored g ws up stored s) split h.good) in
    let now_all : Good stored g ws up all t =
    subst (λ (cs : List Waiting). Good stored g ws up cs t) (sym is) front in
    let good : Good all g ws up all t = good_stored stored g ws up all (all_in before) t is now_all in
    let same_too : IsSame m.state t = subst (IsSame m.state) goes same in
    let high : highest m.state ≡ highest t = ap highest same_too.is in
    record {
      old = h.old ++ before;
      new = [];
      read = entries_both new_state h.old before h.read
          (entries_front s before after (subst (AreEntries s) split h.follow));
      store_is =
          octets ∙ ap (λ (xs : List ℕ). xs ++ store_octets before) h.store_is ∙ sym (octets_both h.old before);
      follow = tt;
      unstored = none;
      good = subst (Good all g ws up all) (sym goes) good;
      same = same;
      safe = safe ∙ high ∙ good_highest all g ws up all t good;
      given_is = sym (append-nil all);
      notes = λ f. tt;
    }

pub on_stored : (stored : List Waiting) (g : Past) (ws : List ℕ) (up : List Bool) (l : LedgerState) (store : List ℕ)
    (given : List Waiting) → OnGround stored g ws up l store given
    → OnGround given g ws up (all_stored l) (store ++ l.unstored) given
on_stored stored g ws up l store given h =
    let goes = after_both new_state h.old h.new in
    on_open stored g ws up l (all_stored l) store (store ++ l.unstored) given given h.new [] h (sym (append-nil h.new))
    h.given_is (ap (λ (xs : List ℕ). store ++ xs) h.unstored) (subst (IsSame l.state) (sym goes) h.same) refl refl

-- ---- the store is opened again

pub record Opened (g : Past) (ws : List ℕ) (up : List Bool) (stored : List Waiting) (max_packet : ℕ) (octets : List ℕ)
    (all : Reading) (given : List Waiting) : Type 0 where
  pub more : List Waiting
  pub holds : OnGround (stored ++ more) g ws up (opened max_packet all) (take all.good octets)
      (take (highest all.state) given)

pub on_crash : (stored : List Waiting) (g : Past) (ws : List ℕ) (up : List Bool) (l : LedgerState) (store : List ℕ)
    (given : List Waiting) (max_packet n : ℕ) → OnGround stored g ws up l store given
    → let octets = store ++ take n l.unstored in
    Opened g ws up stored max_packet octets (read_on (length octets) (reading new_state 0) octets) given
on_crash stored g ws up l store given max_packet n h =
    let s : State = after_entries new_state h.old in
    let cut : Cut n h.new = cut_at n s h.new h.follow in
    let old : List Entry = h.old ++ cut.before in
    let t : State = after_entries new_state old in
    let octets : List ℕ = store ++ take n l.unstored in
    let all : List Waiting = stored ++ all_in cut.before in
    let is : octets ≡ store_octets old ++ cut.rest =
    ap (λ (xs : List ℕ). xs ++ take n l.unstored) h.store_is
    ∙ ap (λ (xs : List ℕ). store_octets h.old ++ take n xs) h.unstored
    ∙ ap (λ (xs : List ℕ). store_octets h.old ++ xs) cut.octets
    ∙ sym (append_assoc (store_octets h.old) (store_octets cut.before) cut.rest)
    ∙ ap (λ (xs : List ℕ). xs ++ cut.rest) (sym (octets_both h.old cut.before)) in
    let are : AreEntries new_state old = entries_both new_state h.old cut.before h.read
    (entries_front s cut.before cut.after (subst (AreEntries s) cut.same h.follow)) in
    let found : read_on (length octets) (reading new_state 0) octets ≡ reading t (length (store_octets old)) =
    ap (λ (xs : List ℕ). read_on (length xs) (reading new_state 0) xs) is ∙ each_store old cut.rest are cut.cut in
    let kept : take (length (store_octets old)) octets ≡ store_octets old =
    ap (take (length (store_octets old))) is ∙ take_at (store_octets old) cut.rest (length (store_octets old)) refl in
    let whole : store_octets old ≡ store ++ store_octets cut.before =
    octets_both h.old cut.before ∙ ap (λ (xs : List ℕ). xs ++ store_octets cut.before) (sym h.store_is) in
    let ledger : LedgerState = opened max_packet (reading t (length (store_octets old))) in
    let holds : OnGround all g ws up ledger (take (length (store_octets old)) octets) all =
    on_open stored g ws up l ledger store (take (length (store_octets old)) octets) given all cut.before cut.after h
    cut.same refl (kept ∙ whole) (same_now t) refl refl in
    let high : highest t ≡ length all = sym (sym holds.safe) in
    let rest : given ≡ all ++ all_in cut.after =
    h.given_is ∙ ap (λ (es : List Entry). stored ++ all_in es) cut.same
    ∙ ap (λ (cs : List Waiting). stored ++ cs) (all_in_both cut.before cut.after)
    ∙ sym (append_assoc stored (all_in cut.before) (all_in cut.after)) in
    let survive : take (highest t) given ≡ all =
    ap (take (highest t)) rest ∙ take_at all (all_in cut.after) (highest t) (sym high) in
    subst (λ (r : Reading). Opened g ws up stored max_packet octets r given) (sym found)
    (record {
      more = all_in cut.before;
      holds =
          subst (OnGround all g ws up ledger (take (length (store_octets old)) octets)) (sym survive) holds;
    })

-- octets that a crash leaves of those that had to be appended
none_of : (n : ℕ) → ◌≡◌ {A = List ℕ} (take n []) []
none_of zero = refl
none_of (suc n) = refl

pub torn_of : (l : LedgerState) (torn : ℕ) (view : NextView) → StoresAll l.unstored view
    → (n : ℕ) × (take torn (due_octets view) ≡ take n l.unstored)
torn_of l torn Nothing is = (0, none_of torn)
torn_of l torn (Says tell) is = (0, none_of torn)
torn_of l torn (Stores octets) is = (torn, ap (take torn) is)
