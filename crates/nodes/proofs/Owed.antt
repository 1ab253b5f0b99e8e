-- Each submission that is not acknowledged whole has a segment that the sender holds, whatever a CLCW does.
use Rattle.std.proofs.Common.{◌≡◌, true, false, not, Option, None, refl, ◌≤◌, ◌<◌, ℕ, zero, suc, ◌+◌, ◌-◌, List, []}
use Rattle.std.proofs.Common.{◌∷◌, ◌++◌, length, ap, ◌∙◌, arith, ◌≢◌, drop, Some, sym, length-append, length-drop}
use Rattle.std.specs.Prelude.{◌==◌, ◌&&◌, map, option_to_list, Result, Bool}
use Rattle.std.proofs.lemmas.Bool.{cond_both, eqb-true, not-true, not-false, and_parts}
use Rattle.std.proofs.Common.{get_or}
use Rattle.std.proofs.lemmas.List.{drop_more, length-map}
use Rattle.tc_frame.specs.Layout.{SegmentView}
use Rattle.clcw.specs.declared.word.Clcw.{Clcw}
use Rattle.cop1.specs.declared.vocabulary.Alert.{Alert}
use Rattle.cop1.specs.declared.vocabulary.Alert.TheVariants.{Lockout, NnR, Clcw as ClcwAlert, Synch}
use Rattle.cop1.specs.declared.vocabulary.Control.TheVariants.{Idle}
use Rattle.cop1.specs.declared.vocabulary.FopMode.{FopMode}
use Rattle.cop1.specs.declared.vocabulary.FopMode.TheVariants.{S1, S4, S5, S6}
use Rattle.cop1.specs.FopReport.{locks, waits, asks, confirms, report_in, report_while_active, clcw_step, retransmits}
use Rattle.cop1.specs.FopVariables.{IsActive}
use Rattle.cop1.specs.FopWords.{alerts, goes_on}
use Rattle.cop1.specs.Units.{FopState, FopOutcome, SentUnit, marked_unit, unmarked_unit, without_oldest_mark}
use Rattle.cop1.specs.Modulo.{ahead_by}
use Rattle.cop1.specs.declared.fault.CopFault.{CopFault}
use Rattle.cop1.specs.declared.vocabulary.Directive.{Directive}
use Rattle.cop1.specs.FopDirective.{directive_step}
use Rattle.cop1.specs.FopPull.{pull_step}
use Rattle.cop1.specs.FopTick.{tick_step}
use Rattle.cop1.proofs.Cases.{obeyed, pulled_out, heard_active, ticked}
use Rattle.nodes.specs.Fates.{without_one, left_after, whole_within, Fates, kept_after, counted_from, after_obeying}
use Rattle.nodes.specs.Ground.{moved_by}

-- What a CLCW may do at the ground's sender, in any state.

-- a CLCW that confirms
abbrev pub IsConfirming : FopState SegmentView → Clcw → Type 0
IsConfirming s c = (locks c ≡ false) × (waits c ≡ false) × (asks c ≡ false) × (c.value ≡ s.vs)

-- the cause of each alert in S4
abbrev pub IsCause : FopState SegmentView → Clcw → Alert → Type 0
IsCause s c Lockout = locks c ≡ true
IsCause s c NnR = c.value == s.vs ≡ false
IsCause s c Synch = asks c ≡ true
IsCause s c ClcwAlert = (asks c ≡ false) × (waits c ≡ true)
IsCause s c _ = ⊥

pub record AtEachState (s : FopState SegmentView) (c : Clcw) (P : FopOutcome SegmentView (Option Alert) → Type 0) :
    Type 0 where
  pub active : IsActive s.state → P (report_while_active s c)
  pub alerted : s.state ≡ S4 → (x : Alert) → IsCause s c x → P (alerts s x)
  pub checked : s.state ≡ S4 → IsConfirming s c → P (goes_on (record s { state = S1; ticks = None }))
  pub commanded : s.state ≡ S5 → IsConfirming s c
      → P (goes_on (record s { state = S1; ticks = None; control = Idle }))
  pub same : P (goes_on s)

module _ (s : FopState SegmentView) (c : Clcw) (P : FopOutcome SegmentView (Option Alert) → Type 0)
    (each : AtEachState s c P) where
  reported_in : (m : FopMode) → s.state ≡ m → P (report_in s c m)
  reported_in S4 is =
      cond_both (locks c) (alerts s Lockout) _ P (λ t. each.alerted is Lockout t)
      (λ l. cond_both (not (c.value == s.vs)) (alerts s NnR) _ P
      (λ t. each.alerted is NnR (not-true (c.value == s.vs) t))
      (λ v. cond_both (asks c) (alerts s Synch) _ P (λ t. each.alerted is Synch t)
      (λ a. cond_both (waits c) (alerts s ClcwAlert) _ P (λ t. each.alerted is ClcwAlert (a, t))
      (λ t. each.checked is (l, t, a, eqb-true c.value s.vs (not-false (c.value == s.vs) v))))))
  reported_in S5 is =
      cond_both (confirms s c) (goes_on (record s { state = S1; ticks = None; control = Idle })) (goes_on s) P
      (λ t.
      let p = and_parts (not (locks c) && not (waits c) && not (asks c)) (c.value == s.vs) t in
      let q = and_parts (not (locks c) && not (waits c)) (not (asks c)) p.0 in
      let u = and_parts (not (locks c)) (not (waits c)) q.0 in
      each.commanded is
      (not-true (locks c) u.0, not-true (waits c) u.1, not-true (asks c) q.1, eqb-true c.value s.vs p.1))
      (λ t. each.same)
  reported_in S6 is = each.same
  reported_in _ is = each.active (rw is tt)

  pub reported : P (clcw_step s c)
  reported = reported_in s.state refl

-- Submissions, as the numbers of segments that they lack.

-- ---- segments are done

pub left_none : (k : ℕ) → left_after k [] ≡ []
left_none zero = refl
left_none (suc k) = left_none k

pub left_more : (j k m : ℕ) (left : List ℕ) → m ≡ j + k → left_after m left ≡ left_after k (left_after j left)
left_more zero k m left is =
    let same : m ≡ k = omega (arith, is) in
    ap (λ (n : ℕ). left_after n left) same
left_more (suc j) k zero left is = absurd (omega (arith, is))
left_more (suc j) k (suc m) left is = left_more j k m (without_one left) (omega (arith, is))

-- if j segments complete all submissions, so do any k segments with j ≤ k
pub still_none : (j k : ℕ) (left : List ℕ) → j ≤ k → left_after j left ≡ [] → left_after k left ≡ []
still_none j k left le none =
    left_more j (k - j) k left (omega (arith, le)) ∙ ap (left_after (k - j)) none ∙ left_none (k - j)

one_fewer : (left : List ℕ) → (length (without_one left) ≤ length left) × (length left ≤ 1 + length (without_one left))
one_fewer [] = (omega arith, omega arith)
one_fewer (suc (suc n) ∷ ns) = (omega arith, omega arith)
one_fewer (_ ∷ ns) = (omega arith, omega arith)

-- with each segment, at most one submission leaves the list
pub fewer_left : (k : ℕ) (left : List ℕ)
    → (length (left_after k left) ≤ length left) × (length left ≤ k + length (left_after k left))
fewer_left zero left = (omega arith, omega arith)
fewer_left (suc k) left =
    let more = fewer_left k (without_one left) in
    let one = one_fewer left in
    (omega (arith, more.0, one.0), omega (arith, more.1, one.1))

-- if k segments complete all submissions, there are at most k submissions
pub most_left : (k : ℕ) (left : List ℕ) → left_after k left ≡ [] → length left ≤ k
most_left k left none = omega (arith, (fewer_left k left).1, ap length none)

pub one_less : (n : ℕ) (ns : List ℕ) → 1 < n → without_one (n ∷ ns) ≡ (n - 1) ∷ ns
one_less (suc (suc n)) ns lt = ap (λ (m : ℕ). m ∷ ns) (omega arith)
one_less _ ns lt = absurd (omega (arith, lt))

pub last_one : (n : ℕ) (ns : List ℕ) → n ≤ 1 → without_one (n ∷ ns) ≡ ns
last_one (suc (suc n)) ns le = absurd (omega (arith, le))
last_one _ ns le = refl

-- ---- one more submission

pub with_one : (x : ℕ) (left more : List ℕ) → without_one ((x ∷ left) ++ more) ≡ without_one (x ∷ left) ++ more
with_one (suc (suc n)) ns more = refl
with_one _ ns more = refl

alone : (n : ℕ) → 1 ≤ n → left_after n (n ∷ []) ≡ []
alone (suc (suc n)) one = alone (suc n) (omega arith)
alone (suc zero) one = refl
alone zero one = absurd (omega (arith, one))

-- its segments in addition complete all submissions
pub none_with : (k n m : ℕ) (left : List ℕ) → m ≡ k + n → left_after k left ≡ [] → 1 ≤ n
    → left_after m (left ++ n ∷ []) ≡ []
none_with k n m [] sum none one = still_none n m (n ∷ []) (omega (arith, sum)) (alone n one)
none_with zero n m (x ∷ xs) sum none one = absurd (cc none)
none_with (suc k) n zero (x ∷ xs) sum none one = absurd (omega (arith, sum))
none_with (suc k) n (suc m) (x ∷ xs) sum none one =
    ap (left_after m) (with_one x xs (n ∷ [])) ∙ none_with k n m (without_one (x ∷ xs)) (omega (arith, sum)) none one

-- ---- submissions are counted

-- the submissions from this index on are the current one and those after it
pub from_here : (ns : List ℕ) (k n : ℕ) → k < length ns → n ≡ get_or ns k n → drop k ns ≡ n ∷ drop (k + 1) ns
from_here ns k n lt at = drop_more ns k n lt ∙ ap (λ (m : ℕ). m ∷ drop (k + 1) ns) (sym at)

-- this many segments complete the first submission
abbrev pub Needs : ℕ → ℕ → Type 0
Needs n needed = (1 ≤ needed) × (n ≤ needed) × (1 ≤ n → needed ≤ n) × (n ≤ 1 → needed ≤ 1)

short_left : (k n needed : ℕ) (ns : List ℕ) → Needs n needed → k < needed
    → length (left_after k (n ∷ ns)) ≡ suc (length ns)
short_left zero n needed ns is lt = refl
short_left (suc k) (suc (suc n)) needed ns is lt =
    short_left k (suc n) (suc n) ns (omega arith, omega arith, λ h. omega arith, λ h. h)
    (omega (arith, lt, is.2 (omega arith)))
short_left _ _ needed ns is lt = absurd (omega (arith, lt, is.3 (omega arith)))

-- fewer segments do not complete it
pub none_whole : (k n needed : ℕ) (ns : List ℕ) → Needs n needed → k < needed → whole_within k (n ∷ ns) ≡ 0
none_whole k n needed ns is lt = omega (arith, short_left k n needed ns is lt)

left_behind : (k n needed : ℕ) (ns : List ℕ) → Needs n needed → needed ≤ k
    → left_after k (n ∷ ns) ≡ left_after (k - needed) ns
left_behind zero n needed ns is le = absurd (omega (arith, le, is.0))
left_behind (suc k) (suc (suc n)) needed ns is le =
    let same : k - suc n ≡ suc k - needed = omega (arith, is.1, is.2 (omega arith)) in
    left_behind k (suc n) (suc n) ns (omega arith, omega arith, λ h. omega arith, λ h. h) (omega (arith, le, is.1))
    ∙ ap (λ (j : ℕ). left_after j ns) same
left_behind (suc k) _ needed ns is le =
    let same : k ≡ suc k - needed = omega (arith, is.0, is.3 (omega arith)) in
    ap (λ (j : ℕ). left_after j ns) same

-- that many complete it, and the count continues with the submissions after it
pub one_whole : (k n needed : ℕ) (ns : List ℕ) → Needs n needed → needed ≤ k
    → whole_within k (n ∷ ns) ≡ 1 + whole_within (k - needed) ns
one_whole k n needed ns is le =
    omega (arith, ap length (left_behind k n needed ns is le), (fewer_left (k - needed) ns).0)

-- Whatever the sender does, each submission that is not acknowledged whole has a segment that it holds.

-- the number of segments in the sender's sent queue and wait queue
abbrev pub held : FopState SegmentView → ℕ
held f = length f.sent + length (option_to_list f.waiting)

-- once these segments and the pending ones are acknowledged, every submission is whole
abbrev pub AreOwed : FopState SegmentView → List SegmentView → List ℕ → Type 0
AreOwed f pending left =
    f.state ≢ S6
    → left_after (length (map (λ u. u.unit) f.sent ++ (option_to_list f.waiting ++ pending))) left ≡ []

-- if the sender is not in S6 after a step, it was not in S6 before, and it has lost at most k segments
abbrev Holds : FopState SegmentView → ℕ → FopState SegmentView → Type 0
Holds f k g = g.state ≢ S6 → (f.state ≢ S6) × (held f ≤ k + held g)

all_held : (f : FopState SegmentView) (pending : List SegmentView)
    → length (map (λ u. u.unit) f.sent ++ (option_to_list f.waiting ++ pending)) ≡ held f + length pending
all_held f pending =
    omega (arith, length-append {A = SegmentView}, length-map f.sent (λ u. u.unit))

pub still_owed : (f g : FopState SegmentView) (pending : List SegmentView) (left : List ℕ) (k : ℕ) → Holds f k g
    → AreOwed f pending left → AreOwed g pending (left_after k left)
still_owed f g pending left k holds owed on =
    let was = holds on in
    let n : ℕ = length (map (λ u. u.unit) g.sent ++ (option_to_list g.waiting ++ pending)) in
    let m : ℕ = length (map (λ u. u.unit) f.sent ++ (option_to_list f.waiting ++ pending)) in
    let le : m ≤ k + n = omega (arith, all_held f pending, all_held g pending, was.1) in
    sym (left_more k n (k + n) left refl) ∙ still_none m (k + n) left le (owed was.0)

-- NN(R) moves by its distance from the old value
pub moved_is : (new old : ℕ) → old < 256 → ahead_by new old ≡ moved_by new old
moved_is new old octet =
    cond_both (new == old) 0 (ahead_by new old) (λ (n : ℕ). ahead_by new old ≡ n)
    (λ t. omega (arith, eqb-true new old t, octet)) (λ t. refl)

pub without_mark : (us : List (SentUnit SegmentView)) → length (without_oldest_mark us) ≡ length us
without_mark [] = refl
without_mark (u ∷ us) =
    cond_both u.marked _ _ (λ (xs : List (SentUnit SegmentView)). length xs ≡ suc (length us)) (λ t. refl)
    (λ t. ap suc (without_mark us))

module _ (f : FopState SegmentView) where
  -- ---- a pull, and a tick

  abbrev HoldsAll : {A : Type 0} → FopOutcome SegmentView A → Type 0
  HoldsAll o = Holds f 0 o.after

  pub pulled_holds : HoldsAll (pull_step f)
  pulled_holds = pulled_out f HoldsAll (record {
    none = λ on. (on, omega arith);
    command = λ command is on. (on, omega arith);
    bypass = λ u us is on. (on, omega arith);
    again = λ active x is on. (on, omega (arith, without_mark f.sent));
    first = λ active u is room on.
        (on, omega (arith, length-append f.sent (unmarked_unit u ∷ []), ap (λ w. length (option_to_list w)) is));
  })

  pub ticked_holds : HoldsAll (tick_step f)
  ticked_holds = ticked f HoldsAll (record {
    off = λ on. (on, omega arith);
    runs = λ left on. (on, omega arith);
    stops = λ on. (on, omega arith);
    repeats = λ active on. (on, omega (arith, length-map f.sent marked_unit));
    counts = λ on. (on, omega arith);
    commands = λ is on. (on, omega arith);
    gives_up = λ on. absurd (on refl);
  })

  -- ---- a CLCW: at most as many segments leave as NN(R) moves

  abbrev HoldsRest : FopOutcome SegmentView (Option Alert) → Type 0
  HoldsRest o = Holds f (moved_by o.after.nn f.nn) o.after

  module _ (octet : f.nn < 256) (r : Clcw) where
    again_holds : f.state ≢ S6 → (again : Bool) → HoldsRest (goes_on (retransmits f again))
    again_holds was true on = (was, omega (arith, length-map f.sent marked_unit))
    again_holds was false on = (was, omega arith)

    active_holds : f.state ≢ S6 → HoldsRest (report_while_active f r)
    active_holds was =
        let gone : ℕ = ahead_by r.value f.nn in
        let moved = moved_is r.value f.nn octet in
        heard_active f r HoldsRest (record {
          locked = λ t on. absurd (on refl);
          outside = λ t on. absurd (on refl);
          wait_flag = λ none waiting on. absurd (on refl);
          asks_none = λ asking at on. absurd (on refl);
          same = λ on. (was, omega arith);
          ceases = λ none at were on. absurd (on refl);
          moves = λ inside on. (was, omega (arith, moved, length-drop gone f.sent));
          others_over = λ inside asking one on. absurd (on refl);
          others_wait = λ inside asking on. (was, omega (arith, moved, length-drop gone f.sent));
          others_again = λ inside asking on.
              (was, omega (arith, moved, length-drop gone f.sent, length-map (drop gone f.sent) marked_unit));
          all_over = λ asking one on. absurd (on refl);
          all_wait = λ asking on. (was, omega arith);
          all_again = λ asking. again_holds was;
        })

    pub reported_holds : HoldsRest (clcw_step f r)
    reported_holds = reported f r HoldsRest (record {
      active = λ runs. active_holds (λ off. let no : IsActive S6 = rw off at runs in absurd no);
      alerted = λ is x cause on. absurd (on refl);
      checked = λ is confirms on. ((λ off. absurd (cc (is, off))), omega arith);
      commanded = λ is confirms on. ((λ off. absurd (cc (is, off))), omega arith);
      same = λ on. (on, omega arith);
    })

-- ---- a directive that leaves V(S) and NN(R) to the session

module _ (f : FopState SegmentView) where
  abbrev HoldsThen : Directive → FopOutcome SegmentView (Result (Option Alert) CopFault) → Type 0
  HoldsThen d o = kept_after d ≡ None → Holds f 0 o.after

  pub directed_holds : (d : Directive) → HoldsThen d (directive_step f d)
  directed_holds = obeyed f HoldsThen (record {
    refused = λ d fault off none on. (on, omega arith);
    begins = λ d begins is none. absurd (let anew : kept_after d ≡ Some true = rw begins refl in cc (anew, none));
    terminated = λ none on. absurd (on refl);
    numbers = λ x is none. absurd cc;
    sets = λ d k n ticks plain most none on. (on, omega arith);
  })

  -- for a directive that restarts the counts, too
  pub still_owed_then : (d : Directive) (pending : List SegmentView) (fates : Fates) → AreOwed f pending fates.left
      → AreOwed (directive_step f d).after pending (after_obeying fates d).left
  still_owed_then d pending fates owed = counted (kept_after d) refl where
    counted : (counts : Option Bool) → kept_after d ≡ counts
        → AreOwed (directive_step f d).after pending (counted_from counts fates).left
    counted None is = still_owed f (directive_step f d).after pending fates.left 0 (directed_holds d is) owed
    counted (Some kept) is = λ on. left_none (length (map (λ u. u.unit) (directive_step f d).after.sent
        ++ (option_to_list (directive_step f d).after.waiting ++ pending)))

-- ---- a submission

pub owed_with : (f : FopState SegmentView) (pending more : List SegmentView) (left : List ℕ) (n : ℕ) → n ≡ length more
    → 1 ≤ n → AreOwed f pending left → AreOwed f (pending ++ more) (left ++ n ∷ [])
owed_with f pending more left n count one owed on =
    let was : ℕ = length (map (λ u. u.unit) f.sent ++ (option_to_list f.waiting ++ pending)) in
    let is : ℕ = length (map (λ u. u.unit) f.sent ++ (option_to_list f.waiting ++ (pending ++ more))) in
    none_with was n is left
    (omega (arith, all_held f pending, all_held f (pending ++ more), length-append pending more, count)) (owed on) one
