-- What the sender does in an exchange, and what holds of it at every moment of a run, in any session.
use Rattle.tc_link.proofs.Common.{◌≡◌, ℕ, List, Option, Some, None, Result, Ok, Err, refl, SegmentView, Clcw, CopFault}
use Rattle.tc_link.proofs.Common.{Alert, Directive, FopState, clcw_step, directive_step, pull_step, tick_step}
use Rattle.tc_link.proofs.Common.{GroundState, with_fop, after_bypass, directive_outcome, Event, World, world_step}
use Rattle.tc_link.proofs.Common.{obeying, submitting, acknowledging, SetVs, InitUnlock, ◌≢◌, ◌≤◌, ◌⊎◌, inl, inr, zero}
use Rattle.tc_link.proofs.Common.{suc, ◌+◌, ◌-◌, Bool, true, false, not, [], ◌∷◌, ◌++◌, length, map, drop, ap, sym, ◌∙◌}
use Rattle.tc_link.proofs.Common.{arith, ◌==◌, nat_lt, cond_both, eqb-true, eq-eqb, and_parts, not-false, subst, ne_eqb}
use Rattle.tc_link.proofs.Common.{ahead_by, NnR, Synch, FopMode, S1, S2, S3, SentUnit, FopOutcome, IsActive}
use Rattle.tc_link.proofs.Common.{oldest_marked, without_oldest_mark, unmarked_unit, marked_unit, locks, waits, asks}
use Rattle.tc_link.proofs.Common.{report_while_active, after_move_on, after_new_value, retransmits, after_acknowledge}
use Rattle.tc_link.proofs.Common.{after_repeat, after_stop, alerts, goes_on, pulled_out, report_in, length-append}
use Rattle.tc_link.proofs.Common.{length-drop, length-map, option_to_list, after_restart, heard_active, Sent, Control}
use Rattle.tc_link.proofs.Common.{Due, eqb-false, ltb-false, BodyView, Ad, Bd, Bc, S4, S5, S6, Idle, after_alert}
use Rattle.tc_link.proofs.Common.{after_count, due_again, begun, InitWithoutCheck, InitWithCheck, InitSetVr, FarmMode}
use Rattle.tc_link.proofs.Common.{Open, Wait, FarmState, FlagsAgree, state_of, after_unlock, after_set_vr}
use Rattle.tc_link.proofs.Common.{after_release, Verdict, Accepted, NoBuffer, verdict_of}
use Rattle.tc_link.proofs.Common.{SpacecraftState, body_outcome, sequence_outcome, bypass_outcome, is_free, is_kept}
use Rattle.cop1.proofs.Cases.{obeyed_set}
use Rattle.tc_link.proofs.Common.{Unlock, SetVr}
use Rattle.std.proofs.lemmas.Bool.{not-true}
use Rattle.std.specs.Prelude.{IsSome, ◌&&◌, nat_le, ◌/◌}
use Rattle.std.proofs.Math.Seq.{drop-nil}
use Rattle.cop1.specs.declared.vocabulary.Alert.TheVariants as alarms
use Rattle.cop1.specs.declared.vocabulary.Alert.TheVariants.{Clcw as ClcwAlert, Limit, Timer}
use Rattle.cop1.specs.FopReport.{nothing_new, move_on, ask_for_others, ask_for_all, goes_back_again, ticks_for}
use Rattle.cop1.specs.FopTick.{tick_with, timer_ended, while_below}
use Rattle.cop1.specs.FopWords.{is_outside, after_gone}
use Rattle.cop1.specs.Farm.{ad_verdict, place_at}
use Rattle.cop1.specs.Units.{is_none_sent}
use Rattle.nodes.specs.declared.event.Event.TheVariants as events
use Rattle.nodes.specs.Packets.{put_on_map}
use Rattle.nodes.specs.Spacecraft.{assemble_step}
use Rattle.simulated_link.specs.World.{directed as directed_by, resumed}
use Rattle.simulated_link.proofs.Counted.{reported}
use Rattle.simulated_link.proofs.Unchanged.{BringsReport, ground_after}
use Rattle.tc_link.specs.Progress.{are_marked}
use Rattle.tc_link.proofs.Refilled.{refilled_keeps}
use Rattle.tc_link.proofs.Lists.{units-without}

-- What holds of the sender only, whatever it queues, and is kept by each event.

module _ (P : FopState SegmentView → Type 0)
    (queues : (f : FopState SegmentView) (waiting : Option SegmentView) (bypass : List SegmentView) → P f
    → P (record f { waiting = waiting; bypass = bypass })) where
  pub with_kept : (s : GroundState) (f : FopState SegmentView) → P f → P (with_fop s f).fop
  with_kept s f k =
      refilled_keeps (λ (t : GroundState). P t.fop) (record s { fop = f })
      (λ waiting pending on off. queues f waiting f.bypass k)

  pub directed_kept : (s : GroundState) → P s.fop → (d : Directive) (r : Result (Option Alert) CopFault)
      (f : FopState SegmentView) → P f
      → P (directive_outcome s d (record { after = f; answer = r; gone = 0 })).after.fop
  directed_kept s k d (Ok alert) f is = with_kept (obeying s d) f is
  directed_kept s k d (Err fault) f is = k

  module _ (w : World) (k : P w.ground_node.fop) where
    abbrev s : FopState SegmentView
    s = w.ground_node.fop

    -- with V(S) set, and a session begun by Unlock
    pub resume_kept : (value : ℕ) → P (directive_step s (SetVs value)).after
        → ((f : FopState SegmentView) → P f → P (directive_step f InitUnlock).after)
        → P (resumed w value).ground_node.fop
    resume_kept value set begins =
        let set_so = directed_kept w.ground_node k (SetVs value) (directive_step s (SetVs value)).answer _ set in
        let t : GroundState = (directed_by w (SetVs value)).ground_node in
        directed_kept t set_so InitUnlock (directive_step t.fop InitUnlock).answer _ (begins t.fop set_so)

    -- each CLCW, tick, pull and directive keeps it
    pub step_kept : (e : Event) → (e ≡ events.Tick → P (tick_step s).after) → (e ≡ events.Send → P (pull_step s).after)
        → (BringsReport e → (r : Clcw) → P (clcw_step s r).after)
        → ((d : Directive) → e ≡ events.Directive d → P (directive_step s d).after)
        → ((value : ℕ) → e ≡ events.Resume value → P (resumed w value).ground_node.fop)
        → P (world_step w e).after.ground_node.fop
    step_kept e tick pull hears direct resumed = ground_after w (λ t session. P t.fop) e (record {
      same = k;
      submits = λ m octets none. with_kept (submitting w.ground_node m octets) s k;
      bypasses = λ m octets is none. queues s s.waiting (after_bypass w.ground_node m octets.now).fop.bypass k;
      directs = λ d is. directed_kept w.ground_node k d (directive_step s d).answer _ (direct d is);
      restarts = λ value is can. resumed value is;
      ticks = λ is. with_kept w.ground_node (tick_step s).after (tick is);
      sends = λ is sent. with_kept w.ground_node (pull_step s).after (pull is);
      hears_none = λ told x packets. k;
      hears = λ told x packets r. let f : FopState SegmentView = (clcw_step s r).after in
          with_kept (acknowledging (record w.ground_node { extractor = x; telemetry = packets }) (clcw_step s r)) f
          (hears told r);
    })

-- What the sender does in an exchange.

-- ---- a CLCW that the receiver makes once all has arrived, and that has no wait flag

-- the sender obeys the CLCW: NN(R) becomes its value
pub record Obeys (s : FopState SegmentView) (c : Clcw) (t : FopState SegmentView) : Type 0 where
  pub state : (t.state ≡ S1) ⊎ (t.state ≡ S2)
  pub asked : t.state ≡ S2 → c.value ≢ t.vs
  pub asking : asks c ≡ true → c.value ≢ t.vs
  pub nn : t.nn ≡ c.value
  pub unlocked : locks c ≡ false

module _ (s : FopState SegmentView) (c : Clcw) where
  -- an alert is raised, or the sender obeys
  abbrev pub AlertsOrObeys : FopOutcome SegmentView (Option Alert) → Type 0
  AlertsOrObeys o = IsSome o.answer ⊎ Obeys s c o.after

  module _ (unlocked : locks c ≡ false) where
    obeys_S1 : (t : FopState SegmentView) → t.state ≡ S1 → t.nn ≡ c.value → asks c ≡ false → Obeys s c t
    obeys_S1 t is nn none = record {
      state = inl is;
      asked = λ e. absurd (cc (e, is));
      asking = λ e. absurd (cc (e, none));
      nn = nn;
      unlocked = unlocked;
    }

    obeys_S2 : (t : FopState SegmentView) → t.state ≡ S2 → t.vs ≡ s.vs → t.nn ≡ c.value → c.value ≢ s.vs → Obeys s c t
    obeys_S2 t is vs nn below = record {
      state = inr is;
      asked = λ e at. below (at ∙ vs);
      asking = λ e at. below (at ∙ vs);
      nn = nn;
      unlocked = unlocked;
    }

    -- nothing is new
    nothing : (m : FopMode) → IsActive m → s.state ≡ m → c.value ≡ s.nn → asks c ≡ false
        → AlertsOrObeys (nothing_new s m)
    nothing S1 active is at none = inr (obeys_S1 s is (sym at) none)
    nothing S2 active is at none = inl refl
    nothing S3 active is at none = inl refl
    nothing _ active is at none = elim active [ ]

    others : waits c ≡ false → c.value ≢ s.vs → AlertsOrObeys (ask_for_others s c.value (waits c))
    others free below =
        let n = ahead_by c.value s.nn in
        let t = after_new_value s c.value in
        cond_both (s.limit == 1) (alerts t Limit) _ (λ (o : FopOutcome SegmentView (Option Alert)). AlertsOrObeys
        (after_gone n o)) (λ e. inl refl)
        (λ e. cond_both (waits c) (goes_on (record t { state = S3 })) (goes_on (retransmits t true))
        (λ (o : FopOutcome SegmentView (Option Alert)). AlertsOrObeys (after_gone n o)) (λ w. absurd (cc (w, free)))
        (λ w. inr (obeys_S2 (retransmits t true) refl refl refl below)))

    repeats : (again : Bool) → c.value ≡ s.nn → c.value ≢ s.vs → Obeys s c (retransmits s again)
    repeats true at below = obeys_S2 (retransmits s true) refl refl (sym at) below
    repeats false at below = obeys_S2 (retransmits s false) refl refl (sym at) below

    back : (m : FopMode) → IsActive m → s.state ≡ m → c.value ≡ s.nn → c.value ≢ s.vs → Obeys s c (goes_back_again s m)
    back S1 active is at below = repeats (nat_lt s.count s.limit) at below
    back S3 active is at below = repeats (nat_lt s.count s.limit) at below
    back S2 active is at below = obeys_S2 s is refl (sym at) below
    back _ active is at below = elim active [ ]

    all : IsActive s.state → waits c ≡ false → c.value ≡ s.nn → c.value ≢ s.vs
        → AlertsOrObeys (ask_for_all s (waits c))
    all active free at below =
        cond_both (s.limit == 1) (alerts s Limit) _ AlertsOrObeys (λ e. inl refl)
        (λ e. cond_both (waits c) (goes_on (record s { state = S3 })) (goes_on (goes_back_again s s.state))
        AlertsOrObeys
        (λ w. absurd (cc (w, free))) (λ w. inr (back s.state active refl at below)))

  pub heard_fresh : IsActive s.state → waits c ≡ false → AlertsOrObeys (report_while_active s c)
  heard_fresh active free =
      cond_both (locks c) (alerts s alarms.Lockout) _ AlertsOrObeys (λ t. inl refl)
      (λ unlocked. cond_both (is_outside s c.value) (alerts s NnR) _ AlertsOrObeys (λ t. inl refl)
      (λ inside. cond_both (not (asks c) && waits c) (alerts s ClcwAlert) _ AlertsOrObeys (λ t. inl refl)
      (λ runs. cond_both (asks c && (c.value == s.vs)) (alerts s Synch) _ AlertsOrObeys (λ t. inl refl)
      (λ some. cond_both (not (asks c) && (c.value == s.nn)) (nothing_new s s.state) _ AlertsOrObeys
      (λ t. let both = and_parts (not (asks c)) (c.value == s.nn) t in
      nothing unlocked s.state active refl (eqb-true c.value s.nn both.1) (not-true (asks c) both.0))
      (λ new. cond_both (not (asks c)) (move_on s c.value) _ AlertsOrObeys
      (λ t. inr (obeys_S1 unlocked (after_move_on (after_acknowledge s c.value)) refl refl (not-true (asks c) t)))
      (λ t. let asking : asks c ≡ true = not-false (asks c) t in
      let below : c.value ≢ s.vs = λ at.
      let is : (c.value == s.vs) ≡ true = eq-eqb c.value s.vs at in
      let both : (asks c && (c.value == s.vs)) ≡ true = rw (asking, is) refl in absurd (cc (both, some)) in
      cond_both (not (c.value == s.nn)) (ask_for_others s c.value (waits c)) (ask_for_all s (waits c)) AlertsOrObeys
      (λ n. others unlocked free below)
      (λ n. all unlocked active free (eqb-true c.value s.nn (not-false (c.value == s.nn) n)) below)))))))

-- ---- which of the units sent are marked: the first so many are not, and the others are

abbrev pub MarkedFrom : ℕ → List (SentUnit SegmentView) → Type 0
MarkedFrom zero [] = Unit {0}
MarkedFrom zero (u ∷ us) = (u.marked ≡ true) × MarkedFrom zero us
MarkedFrom (suc j) [] = ⊥
MarkedFrom (suc j) (u ∷ us) = (u.marked ≡ false) × MarkedFrom j us

pub all_marked : (us : List (SentUnit SegmentView)) → are_marked us ≡ true → MarkedFrom zero us
all_marked [] is = tt
all_marked (u ∷ us) is = let both = and_parts u.marked (are_marked us) is in (both.0, all_marked us both.1)

pub marked_all : (us : List (SentUnit SegmentView)) → are_marked (map marked_unit us) ≡ true
marked_all [] = refl
marked_all (u ∷ us) = marked_all us

pub marked_within : (j : ℕ) (us : List (SentUnit SegmentView)) → MarkedFrom j us → j ≤ length us
marked_within zero us is = omega arith
marked_within (suc j) [] is = elim is [ ]
marked_within (suc j) (u ∷ us) is = omega (arith, marked_within j us is.1)

pub marked_push : (j : ℕ) (us : List (SentUnit SegmentView)) (u : SegmentView) → MarkedFrom j us → j ≡ length us
    → MarkedFrom (suc j) (us ++ unmarked_unit u ∷ [])
marked_push zero [] u is e = (refl, tt)
marked_push zero (x ∷ us) u is e = absurd (omega (arith, e))
marked_push (suc j) [] u is e = elim is [ ]
marked_push (suc j) (x ∷ us) u is e = (is.0, marked_push j us u is.1 (omega (arith, e)))

-- the oldest marked unit is the one after those that are not marked
abbrev pub NextMarked : ℕ → ℕ → List (SentUnit SegmentView) → Type 0
NextMarked place j us =
    ((oldest_marked place us ≡ None) × (j ≡ length us))
    ⊎ ((u : SegmentView) × (oldest_marked place us ≡ Some (place + j, u)) × MarkedFrom (suc j) (without_oldest_mark us))

pub next_marked : (place j : ℕ) (us : List (SentUnit SegmentView)) → MarkedFrom j us → NextMarked place j us
next_marked place zero [] is = inl (refl, refl)
next_marked place zero (u ∷ us) is =
    let same : place + 0 ≡ place = omega arith in
    inr (u.unit, rw (is.0, same) refl, rw is.0 (refl, is.1))
next_marked place (suc j) [] is = elim is [ ]
next_marked place (suc j) (u ∷ us) is = elim (next_marked (place + 1) j us is.1) [
  | inl none ↦ inl (rw is.0 none.0, ap suc none.1)
  | inr some ↦
      let same : place + 1 + j ≡ place + suc j = omega arith in
      inr (some.0, rw is.0 (some.1 ∙ ap (λ n. Some (n, some.0)) same), rw is.0 (refl, some.2))
]

-- ---- the sender stays Active, and holds no more units

pub record HoldsNoMore (s : FopState SegmentView) (pending : List SegmentView) (t : FopState SegmentView) : Type 0 where
  pub active : IsActive t.state
  pub size : length t.sent + length (option_to_list t.waiting ++ pending)
      ≤ length s.sent + length (option_to_list s.waiting ++ pending)
  pub window : t.window ≡ s.window

pub without_length : (us : List (SentUnit SegmentView)) → length (without_oldest_mark us) ≡ length us
without_length us =
    sym (length-map (without_oldest_mark us) (λ u. u.unit)) ∙ ap length (units-without us)
    ∙ length-map us (λ u. u.unit)

pub marked_length : (us : List (SentUnit SegmentView)) → length (map marked_unit us) ≡ length us
marked_length us = length-map us marked_unit

module _ (s : FopState SegmentView) (pending : List SegmentView) (active : IsActive s.state) where
  abbrev NoMore : FopState SegmentView → Type 0
  NoMore t = HoldsNoMore s pending t

  no_more : (t : FopState SegmentView) → IsActive t.state → length t.sent ≤ length s.sent → t.waiting ≡ s.waiting
      → t.window ≡ s.window → NoMore t
  no_more t on sent waiting window = record { active = on; size = rw waiting (omega (arith, sent)); window = window }

  pub pull_no_more : NoMore (pull_step s).after
  pull_no_more = pulled_out s (λ o. NoMore o.after) (record {
    none = no_more s active (omega arith) refl refl;
    command = λ c is. no_more (record (after_restart s) { control = Sent c }) active (omega arith) refl refl;
    bypass = λ u us is. no_more (record s { bypass = us }) active (omega arith) refl refl;
    again = λ on x is. no_more (record (after_restart s) { sent = without_oldest_mark s.sent }) active
        (omega (arith, without_length s.sent)) refl refl;
    first = λ on u is room. record {
      active = active;
      size = rw is (omega (arith, length-append s.sent (unmarked_unit u ∷ [])));
      window = refl;
    };
  })

  -- ---- any CLCW

  abbrev AlertsOrHolds : FopOutcome SegmentView (Option Alert) → Type 0
  AlertsOrHolds o = IsSome o.answer ⊎ NoMore o.after

  repeats_hold : (again : Bool) → AlertsOrHolds (goes_on (retransmits s again))
  repeats_hold true = inr (no_more (retransmits s true) tt (omega (arith, marked_length s.sent)) refl refl)
  repeats_hold false = inr (no_more (retransmits s false) tt (omega arith) refl refl)

  pub report_holds : (r : Clcw) → AlertsOrHolds (report_while_active s r)
  report_holds r =
      let left = drop (ahead_by r.value s.nn) s.sent in
      let fewer = length-drop (ahead_by r.value s.nn) s.sent in
      heard_active s r AlertsOrHolds (record {
        locked = λ t. inl refl;
        outside = λ t. inl refl;
        wait_flag = λ none waiting. inl refl;
        asks_none = λ asking at. inl refl;
        same = inr (no_more s active (omega arith) refl refl);
        ceases = λ none at were. inl refl;
        moves = λ inside. inr (no_more (after_move_on (after_acknowledge s r.value)) tt (omega (arith, fewer)) refl
            refl);
        others_over = λ inside asking one. inl refl;
        others_wait = λ inside asking. inr (no_more (record (after_new_value s r.value) { state = S3 }) tt
            (omega (arith, fewer)) refl refl);
        others_again = λ inside asking. inr (no_more (retransmits (after_new_value s r.value) true) tt
            (omega (arith, fewer, marked_length left)) refl refl);
        all_over = λ asking one. inl refl;
        all_wait = λ asking. inr (no_more (record s { state = S3 }) tt (omega arith) refl refl);
        all_again = λ asking. repeats_hold;
      })

pub active_report : (s : FopState SegmentView) (r : Clcw) → IsActive s.state → clcw_step s r ≡ report_while_active s r
active_report s r active = in_mode s.state active
  where
    in_mode : (m : FopMode) → IsActive m → report_in s r m ≡ report_while_active s r
    in_mode S1 on = refl
    in_mode S2 on = refl
    in_mode S3 on = refl
    in_mode _ on = elim on [ ]

pub holds_more : (s : FopState SegmentView) (pending : List SegmentView) (r : Clcw) → IsActive s.state
    → IsSome (clcw_step s r).answer ⊎ HoldsNoMore s pending (clcw_step s r).after
holds_more s pending r active = rw (active_report s r active) (report_holds s pending active r)

-- ---- the timer

pub tick_on : (s : FopState SegmentView) (n : ℕ) → s.ticks ≡ Some (suc (suc n))
    → tick_step s ≡ goes_on (record s { ticks = Some (suc n) })
tick_on s n is =
    let more : (suc (suc n) == 1) ≡ false = ne_eqb (suc (suc n)) 1 (λ e. omega (arith, e)) in
    let left : suc (suc n) - 1 ≡ suc n = omega arith in
    ap (tick_with s) is ∙ rw (more, left) refl

-- the sender once its timer has ended: all that it sent must be retransmitted
pub tick_end : (s : FopState SegmentView) → s.ticks ≡ Some 1 → (s.state ≡ S1) ⊎ (s.state ≡ S2)
    → IsSome (tick_step s).answer ⊎ (tick_step s ≡ goes_on (after_repeat (after_stop s)))
tick_end s is state =
    let P : FopOutcome SegmentView (Option Alert) → Type 0 =
    λ o. IsSome o.answer ⊎ (o ≡ goes_on (after_repeat (after_stop s))) in
    let below : P (while_below (after_stop s) (after_repeat (after_stop s))) =
    cond_both (nat_lt s.count s.limit) (goes_on (after_repeat (after_stop s))) (alerts (after_stop s) Timer) P
    (λ t. inr refl) (λ t. inl refl) in
    subst P (sym (ap (tick_with s) is)) (elim state [
      | inl one ↦ subst (λ m. P (timer_ended (after_stop s) m)) (sym one) below
      | inr two ↦ subst (λ m. P (timer_ended (after_stop s) m)) (sym two) below
    ])

-- What progress rests on, at every moment of a run, in any session. The timer runs while a unit is sent and not
-- acknowledged, and a receiver waits only if no buffer is free.

-- ---- the sender's timer

abbrev pub Running : Option ℕ → Type 0
Running None = ⊥
Running (Some left) = 1 ≤ left

abbrev pub IsDueNow : Control → Type 0
IsDueNow (Due command) = Unit {0}
IsDueNow _ = ⊥

pub record Timed (f : FopState SegmentView) : Type 0 where
  pub active : IsActive f.state ⊎ (f.sent ≡ [])
  pub running : (f.sent ≡ []) ⊎ Running f.ticks
  -- in S4 the timer runs, and in S5 it runs once the command is pulled
  pub check : f.state ≡ S4 → Running f.ticks
  pub command : f.state ≡ S5 → IsDueNow f.control ⊎ Running f.ticks
  pub timer : 1 ≤ f.timer
  pub count : 1 ≤ f.count
  pub window : 1 ≤ f.window

pub timed_empty : (f : FopState SegmentView) → f.sent ≡ [] → (f.state ≡ S4 → Running f.ticks)
    → (f.state ≡ S5 → IsDueNow f.control) → 1 ≤ f.timer → 1 ≤ f.count → 1 ≤ f.window → Timed f
timed_empty f none check due timer count window = record {
  active = inr none;
  running = inl none;
  check = check;
  command = λ is. inl (due is);
  timer = timer;
  count = count;
  window = window;
}

module _ (s : FopState SegmentView) (k : Timed s) where
  abbrev Times : {A : Type 0} → FopOutcome SegmentView A → Type 0
  Times o = Timed o.after

  -- the sender is Active, and none is sent that was not sent before
  fewer : (f : FopState SegmentView) → IsActive f.state → (s.sent ≡ [] → f.sent ≡ []) → f.ticks ≡ s.ticks
      → f.timer ≡ s.timer → 1 ≤ f.count → f.window ≡ s.window → Timed f
  fewer f active sent ticks timer count window = record {
    active = inl active;
    running = elim k.running [ inl none ↦ inl (sent none) | inr runs ↦ inr (rw ticks runs) ];
    check = λ is. absurd (let no : IsActive S4 = rw is at active in no);
    command = λ is. absurd (let no : IsActive S5 = rw is at active in no);
    timer = rw timer k.timer;
    count = count;
    window = rw window k.window;
  }

  -- with these settings, the sender is as it was
  same_as : (f : FopState SegmentView) → f.state ≡ s.state → f.sent ≡ s.sent → f.ticks ≡ s.ticks
      → f.control ≡ s.control → f.count ≡ s.count → 1 ≤ f.timer → 1 ≤ f.window → Timed f
  same_as f state sent ticks control count timer window = record {
    active = rw (state, sent) k.active;
    running = rw (sent, ticks) k.running;
    check = rw (state, ticks) k.check;
    command = rw (state, ticks, control) k.command;
    timer = timer;
    count = rw count k.count;
    window = window;
  }

  restarted : (f : FopState SegmentView) → IsActive f.state ⊎ (f.sent ≡ []) → f.ticks ≡ Some s.timer
      → f.timer ≡ s.timer → 1 ≤ f.count → f.window ≡ s.window → Timed f
  restarted f active ticks timer count window =
      record {
        active = active;
        running = inr (rw ticks k.timer);
        check = λ is. rw ticks k.timer;
        command = λ is. inr (rw ticks k.timer);
        timer = rw timer k.timer;
        count = count;
        window = rw window k.window;
      }

  gives_up : (f : FopState SegmentView) → f.timer ≡ s.timer → 1 ≤ f.count → f.window ≡ s.window
      → Timed (after_alert f)
  gives_up f timer count window =
      timed_empty (after_alert f) refl (λ e. absurd cc) (λ e. absurd cc) (rw timer k.timer) count (rw window k.window)

  -- in S4 to S6 no unit is sent
  none_in : (m : FopMode) → s.state ≡ m → (IsActive m → ⊥) → s.sent ≡ []
  none_in m is not_active = elim k.active [
    | inl active ↦ absurd (not_active (rw is at active))
    | inr none ↦ none
  ]

  -- ---- a CLCW

  moved_ticks : (sent : List (SentUnit SegmentView)) → (sent ≡ []) ⊎ Running (ticks_for (record s { sent = sent }))
  moved_ticks [] = inl refl
  moved_ticks (u ∷ us) = inr k.timer

  module _ (r : Clcw) (active : IsActive s.state) where
    drops : s.sent ≡ [] → drop (ahead_by r.value s.nn) s.sent ≡ []
    drops none = rw none (drop-nil (ahead_by r.value s.nn))

    again_timed : (repeats : Bool) → Timed (retransmits s repeats)
    again_timed true = restarted (retransmits s true) (inl tt) refl refl (omega arith) refl
    again_timed false = fewer (retransmits s false) tt (λ none. none) refl refl k.count refl

    active_timed : Times (report_while_active s r)
    active_timed = heard_active s r (λ o. Times o) (record {
      locked = λ t. gives_up s refl k.count refl;
      outside = λ t. gives_up s refl k.count refl;
      wait_flag = λ none waiting. gives_up s refl k.count refl;
      asks_none = λ asking at. gives_up s refl k.count refl;
      same = k;
      ceases = λ none at were. gives_up s refl k.count refl;
      moves = λ inside. record {
        active = inl tt;
        running = moved_ticks (drop (ahead_by r.value s.nn) s.sent);
        check = λ e. absurd cc;
        command = λ e. absurd cc;
        timer = k.timer;
        count = omega arith;
        window = k.window;
      };
      others_over = λ inside asking one. gives_up (after_new_value s r.value) refl (omega arith) refl;
      others_wait = λ inside asking. fewer (record (after_new_value s r.value) { state = S3 }) tt drops refl refl
          (omega arith) refl;
      others_again = λ inside asking. restarted (retransmits (after_new_value s r.value) true) (inl tt) refl refl
          (omega arith) refl;
      all_over = λ asking one. gives_up s refl k.count refl;
      all_wait = λ asking. fewer (record s { state = S3 }) tt (λ none. none) refl refl k.count refl;
      all_again = λ asking. again_timed;
    })

  pub report_timed : (r : Clcw) → Times (clcw_step s r)
  report_timed r = reported s r (λ o. Times o) (record {
    active = λ active. active_timed r active;
    alerted = λ is x cause. gives_up s refl k.count refl;
    checked = λ is confirms. timed_empty (record s { state = S1; ticks = None }) (none_in S4 is (λ a. a))
        (λ e. absurd cc) (λ e. absurd cc) k.timer k.count k.window;
    commanded = λ is confirms. timed_empty (record s { state = S1; ticks = None; control = Idle })
        (none_in S5 is (λ a. a)) (λ e. absurd cc) (λ e. absurd cc) k.timer k.count k.window;
    same = k;
  })

  -- ---- a tick

  below : (next : FopState SegmentView) → Timed next → Times (while_below (after_stop s) next)
  below next is = cond_both (nat_lt s.count s.limit) (goes_on next) (alerts (after_stop s) Timer) (λ o. Times o)
      (λ t. is) (λ t. gives_up (after_stop s) refl k.count refl)

  repeated : IsActive s.state → Timed (after_repeat (after_stop s))
  repeated active = restarted (after_repeat (after_stop s)) (inl active) refl refl (omega arith) refl

  ended_timed : (m : FopMode) → s.state ≡ m → Times (timer_ended (after_stop s) m)
  ended_timed S1 is = below (after_repeat (after_stop s)) (repeated (rw is tt))
  ended_timed S2 is = below (after_repeat (after_stop s)) (repeated (rw is tt))
  ended_timed S3 is =
      below (after_count (after_stop s))
      (restarted (after_count (after_stop s)) k.active refl refl (omega arith) refl)
  ended_timed S4 is = gives_up (after_stop s) refl k.count refl
  ended_timed S5 is =
      let f = record (after_count (after_stop s)) { control = due_again s.control } in
      below f (restarted f k.active refl refl (omega arith) refl)
  ended_timed S6 is =
      timed_empty (after_stop s) (none_in S6 is (λ a. a)) (λ e. absurd (cc (e, is))) (λ e. absurd (cc (e, is))) k.timer
      k.count k.window

  runs_on : (left : ℕ) → s.ticks ≡ Some left → (left == 1) ≡ false → Running s.ticks → Running (Some (left - 1))
  runs_on left is t runs =
      let more : Running (Some left) = rw is at runs in
      let one : left ≢ 1 = eqb-false left 1 t in
      omega (arith, more, one)

  ticked_timed : (ticks : Option ℕ) → s.ticks ≡ ticks → Times (tick_with s ticks)
  ticked_timed None is = k
  ticked_timed (Some left) is =
      cond_both (left == 1) (timer_ended (after_stop s) s.state) (goes_on (record s { ticks = Some (left - 1) }))
      (λ o. Times o) (λ t. ended_timed s.state refl)
      (λ t. record {
        active = k.active;
        running = elim k.running [ inl none ↦ inl none | inr runs ↦ inr (runs_on left is t runs) ];
        check = λ e. runs_on left is t (k.check e);
        command = λ e. elim (k.command e) [ inl due ↦ inl due | inr runs ↦ inr (runs_on left is t runs) ];
        timer = k.timer;
        count = k.count;
        window = k.window;
      })

  -- ---- a pull

  pull_timed : Times (pull_step s)
  pull_timed = pulled_out s (λ o. Times o) (record {
    none = k;
    command = λ command is. restarted (record (after_restart s) { control = Sent command }) k.active refl refl k.count
        refl;
    bypass = λ u us is. same_as (record s { bypass = us }) refl refl refl refl refl k.timer k.window;
    again = λ active x is. restarted (record (after_restart s) { sent = without_oldest_mark s.sent }) (inl active) refl
        refl k.count refl;
    first = λ active u is room. record {
      active = inl active;
      running = inr k.timer;
      check = λ e. k.timer;
      command = λ e. inr k.timer;
      timer = k.timer;
      count = cond_both (is_none_sent s.sent) 1 s.count (λ n. 1 ≤ n) (λ t. omega arith) (λ t. k.count);
      window = k.window;
    };
  })

  -- ---- a directive

  begun_timed : (d : Directive) → Timed (begun s d)
  begun_timed InitWithoutCheck =
      timed_empty (begun s InitWithoutCheck) refl (λ e. absurd cc) (λ e. absurd cc) k.timer (omega arith) k.window
  begun_timed InitWithCheck =
      timed_empty (begun s InitWithCheck) refl (λ e. k.timer) (λ e. absurd cc) k.timer (omega arith) k.window
  begun_timed InitUnlock =
      timed_empty (begun s InitUnlock) refl (λ e. absurd cc) (λ e. tt) k.timer (omega arith) k.window
  begun_timed (InitSetVr x) =
      timed_empty (begun s (InitSetVr x)) refl (λ e. absurd cc) (λ e. tt) k.timer (omega arith) k.window
  begun_timed _ = k

  directive_timed : (d : Directive) → Times (directive_step s d)
  directive_timed = obeyed_set s (λ d o. Times o) (record {
    refused = λ d fault on. k;
    begins = λ d is off. begun_timed d;
    terminated = gives_up s refl k.count refl;
    numbers = λ x off. same_as (record s { vs = x; nn = x }) refl refl refl refl refl k.timer k.window;
    sets = λ d size n ticks plain set. same_as (record s { window = size; limit = n; timer = ticks }) refl refl refl
        refl refl (omega (arith, set.timer, k.timer)) (omega (arith, set.window, k.window));
  })

-- whatever is waiting
pub queued_timed : (f : FopState SegmentView) (waiting : Option SegmentView) (bypass : List SegmentView) → Timed f
    → Timed (record f { waiting = waiting; bypass = bypass })
queued_timed f waiting bypass k = assumption k

pub timed_step : (w : World) → Timed w.ground_node.fop → (e : Event) → Timed (world_step w e).after.ground_node.fop
timed_step w k e =
    let s = w.ground_node.fop in
    step_kept Timed queued_timed w k e (λ is. ticked_timed s k s.ticks refl) (λ is. pull_timed s k)
    (λ down. report_timed s k) (λ d is. directive_timed s k d)
    (λ value is. resume_kept Timed queued_timed w k value (directive_timed s k (SetVs value))
    (λ f kept. directive_timed f kept InitUnlock))

-- ---- on board: a receiver that waits has no buffer

abbrev NoneFree : Bool → Verdict → Type 0
NoneFree free v = v ≡ NoBuffer → free ≡ false

-- the verdict NoBuffer is given only if no buffer is free: one cell for each place
in_cells : (free : Bool) (m : FarmMode) → NoneFree free (ad_verdict (place_at 127 0) free m)
    × NoneFree free (ad_verdict (place_at 127 1) free m) × NoneFree free (ad_verdict (place_at 127 255) free m)
    × NoneFree free (ad_verdict (place_at 127 128) free m)
in_cells false m = (λ e. refl, λ e. refl, λ e. refl, λ e. refl)
in_cells true Open = (λ e. absurd cc, λ e. absurd cc, λ e. absurd cc, λ e. absurd cc)
in_cells true _ = (λ e. absurd cc, λ e. absurd cc, λ e. absurd cc, λ e. absurd cc)

no_buffer : (s : FarmState) (n : ℕ) (free : Bool) → NoneFree free (verdict_of s n free)
no_buffer s n free =
    let cells = in_cells free s.state in
    let d = ahead_by n s.vr in
    let half = s.width / 2 in
    cond_both (d == 0) _ _ (λ p. NoneFree free (ad_verdict p free s.state)) (λ t. cells.0)
    (λ t. cond_both (nat_lt d half) _ _ (λ p. NoneFree free (ad_verdict p free s.state)) (λ t. cells.1)
    (λ t. cond_both (nat_le (256 - half) d) _ _ (λ p. NoneFree free (ad_verdict p free s.state)) (λ t. cells.2)
    (λ t. cells.3)))

abbrev pub WaitsFull : SpacecraftState → Type 0
WaitsFull s = s.farm.wait ≡ true → s.config.ready_slots ≤ length s.ready

pub open_flags : (lockout wait : Bool) → Open ≡ state_of lockout wait → (lockout ≡ false) × (wait ≡ false)
open_flags true wait e = absurd cc
open_flags false true e = absurd cc
open_flags false false e = (refl, refl)

module _ (s : SpacecraftState) (flags : FlagsAgree s.farm) (k : WaitsFull s) where
  full_where : is_free s ≡ false → s.config.ready_slots ≤ length s.ready
  full_where busy = ltb-false (length s.ready) s.config.ready_slots busy

  sequence_full : (n : ℕ) (u : SegmentView) (v : Verdict) → verdict_of s.farm n (is_free s) ≡ v
      → WaitsFull (sequence_outcome s n u v).after
  sequence_full n u Accepted is waits =
      let old : s.farm.wait ≡ true = rw is at waits in
      omega (arith, k old, length-append s.ready (put_on_map u.header.map (assemble_step s u).packets))
  sequence_full n u NoBuffer is waits = full_where (no_buffer s.farm n (is_free s) is)
  sequence_full n u _ is waits = k (rw is at waits)

  bypass_full : (u : SegmentView) (kept : Bool) → WaitsFull (bypass_outcome s u kept).after
  bypass_full u true waits = k waits
  bypass_full u false waits = k waits

  unlock_full : (m : FarmMode) → (after_unlock s.farm m).wait ≡ true → s.config.ready_slots ≤ length s.ready
  unlock_full Open waits = k waits
  unlock_full _ waits = absurd cc

  set_full : (x : ℕ) (m : FarmMode) → (after_set_vr s.farm x m).wait ≡ true → s.config.ready_slots ≤ length s.ready
  set_full x Wait waits = absurd cc
  set_full x _ waits = k waits

  pub body_full : (f : BodyView) → WaitsFull (body_outcome s f).after
  body_full (Ad n u) = sequence_full n u (verdict_of s.farm n (is_free s)) refl
  body_full (Bd u) = bypass_full u (is_kept s.config u)
  body_full (Bc Unlock) = unlock_full s.farm.state
  body_full (Bc (SetVr x)) = set_full x s.farm.state

  -- a receiver that is released does not wait
  pub released : (m : FarmMode) → s.farm.state ≡ m → (after_release s.farm m).wait ≡ false
  released Open is = (open_flags s.farm.lockout s.farm.wait (sym is ∙ flags.state)).1
  released _ is = refl
