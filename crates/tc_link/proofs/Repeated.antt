-- A CLCW that is repeated, with no other since, changes nothing.
use Rattle.tc_link.proofs.Common.{◌≡◌, ◌≢◌, ◌≤◌, ◌<◌, ℕ, Bool, true, false, List, [], ◌∷◌, Option, Some, None, refl}
use Rattle.tc_link.proofs.Common.{Result, Ok, Err, Idle, not, ◌+◌, ◌%◌, ◌∙◌, sym, ap, subst, arith, cond_both, eqb-true}
use Rattle.tc_link.proofs.Common.{eq-eqb, ne_eqb, not-false, ltb-true, nat_lt, ◌==◌, Clcw, ClcwFault, SegmentView}
use Rattle.tc_link.proofs.Common.{Directive, InitWithoutCheck, InitWithCheck, InitUnlock, InitSetVr, S1, S2, S3, S4, S5}
use Rattle.tc_link.proofs.Common.{S6, FopMode, FopState, FopOutcome, Alert, CopFault, IsActive, NnR, Synch, Limit}
use Rattle.tc_link.proofs.Common.{locks, waits, asks, confirms, clcw_step, report_in, report_while_active}
use Rattle.tc_link.proofs.Common.{after_new_value, retransmits, goes_on, alerts, after_alert, ahead_by, ticked}
use Rattle.cop1.proofs.Cases.{obeyed_set}
use Rattle.tc_link.proofs.Common.{pulled_out, heard_active, obeyed, begun, is_initiation, tick_step, pull_step}
use Rattle.tc_link.proofs.Common.{directive_step, Config, IsConfig, GroundState, GroundOutcome, is_closed}
use Rattle.tc_link.proofs.Common.{telemetry_outcome, obeying, acknowledging, and_parts, extract_step}
use Rattle.tc_link.proofs.Common.{refill_step, inl, inr}
use Rattle.tc_link.proofs.Common.{after_extraction, TmFault, Fates, after_report, with_submission}
use Rattle.std.specs.Prelude.{◌&&◌, ◌/◌, IfOk, slice_index}
use Rattle.std.proofs.lemmas.Bool.{not-true}
use Rattle.octets.specs.Number.{IsOctets}
use Rattle.clcw.specs.Decoding.{clcw_at}
use Rattle.cop1.specs.FopReport.{nothing_new, move_on, ask_for_others, ask_for_all, goes_back_again}
use Rattle.cop1.specs.FopWords.{is_outside, after_gone}
use Rattle.cop1.specs.declared.vocabulary.Alert.TheVariants.{Lockout, Clcw as ClcwAlert}
use Rattle.cop1.specs.declared.vocabulary.Directive.TheVariants.{SetVs, SetLimit}
use Rattle.tm_link.specs.Decoding.{frame_at}
use Rattle.simulated_link.proofs.Counted.{reported}
use Rattle.tm_link.specs.Layout.{FrameView}
use Rattle.nodes.specs.declared.heard.Heard.{Heard}
use Rattle.nodes.specs.declared.heard.HeardClcw.{HeardClcw}
use Rattle.nodes.specs.declared.heard.HeardReport.TheVariants.{Used, OtherChannel}
use Rattle.nodes.specs.Ground.{GroundEvent}
use Rattle.nodes.specs.Ground.{new_ground, ground_step, after_moving_up}
use Rattle.nodes.specs.Ground.{report_outcome, is_own_telemetry}
use Rattle.nodes.specs.Ground.{ground_directive}
use Rattle.tc_link.specs.Repeated.{ground_run, BringsNoReport, BringNoReport, repeated_outcome, RepeatsNothing}
use Rattle.tc_link.specs.Repeated.{RepeatsNothingOfFrames, word_of}
use Rattle.tc_link.proofs.Refilled.{refilled_keeps, Counts, counted_same, refilled_counts, step_counts, called}
use Rattle.tc_link.proofs.Refilled.{directed_so, called_quietly}

-- ---- the numbers of a sender, as far as they matter here

abbrev IsStarting : FopMode → Type 0
IsStarting S4 = Unit {0}
IsStarting S5 = Unit {0}
IsStarting _ = ⊥

-- the window is far below 256, and nothing is outstanding while a session begins
record Usual (f : FopState SegmentView) : Type 0 where
  room : f.room ≤ 127
  window : f.window ≤ f.room
  even : IsStarting f.state → f.vs ≡ f.nn

module _ (s : FopState SegmentView) (k : Usual s) where
  abbrev Usually : {A : Type 0} → FopOutcome SegmentView A → Type 0
  Usually o = Usual o.after

  on_so : (f : FopState SegmentView) → f.room ≡ s.room → f.window ≡ s.window → (IsStarting f.state → ⊥) → Usual f
  on_so f room window not_so = record {
    room = rw room k.room;
    window = rw (room, window) k.window;
    even = λ starting. absurd (not_so starting);
  }

  again_usual : (again : Bool) → Usual (retransmits s again)
  again_usual true = on_so (retransmits s true) refl refl (λ t. t)
  again_usual false = on_so (retransmits s false) refl refl (λ t. t)

  active_usual : (r : Clcw) → Usually (report_while_active s r)
  active_usual r =
      let off : ⊥ → s.vs ≡ s.nn = λ starting. absurd starting in
      let moved : ⊥ → s.vs ≡ r.value = λ starting. absurd starting in
      heard_active s r (λ o. Usually o) (assumption (again_usual, off, moved, k))

  report_usual : (r : Clcw) → Usual (clcw_step s r).after
  report_usual r =
      let off : ⊥ → s.vs ≡ s.nn = λ starting. absurd starting in
      reported s r (λ o. Usually o) (assumption (active_usual r, off, k))

  tick_usual : Usually (tick_step s)
  tick_usual =
      let off : ⊥ → s.vs ≡ s.nn = λ starting. absurd starting in ticked s (λ o. Usually o) (assumption (off, k))

  active_started : (m : FopMode) → IsActive m → IsStarting m → ⊥
  active_started S4 active starting = elim active [ ]
  active_started S5 active starting = elim active [ ]
  active_started _ active starting = starting

  pull_usual : Usually (pull_step s)
  pull_usual = pulled_out s (λ o. Usually o) (record {
    none = k;
    command = λ command is. assumption k;
    bypass = λ u us is. assumption k;
    again = λ active x is. assumption k;
    first = λ active u is room. on_so _ refl refl (active_started s.state active);
  })

  off_started : s.state ≡ S6 → IsStarting s.state → ⊥
  off_started off starting = rw off at starting

  begun_usual : (d : Directive) → is_initiation d ≡ true → Usual (begun s d)
  begun_usual InitWithoutCheck is = on_so _ refl refl (λ t. t)
  begun_usual InitWithCheck is = record { room = k.room; window = k.window; even = λ t. refl }
  begun_usual InitUnlock is = record { room = k.room; window = k.window; even = λ t. refl }
  begun_usual (InitSetVr x) is = record { room = k.room; window = k.window; even = λ t. refl }
  begun_usual _ is = absurd cc

  direct_usual : (d : Directive) → Usually (directive_step s d)
  direct_usual d = obeyed s (λ d o. Usually o) (record {
    refused = λ d fault goes. k;
    begins = λ d is off. begun_usual d is;
    terminated = on_so (after_alert s) refl refl (λ t. t);
    numbers = λ x off. on_so _ refl refl (off_started off);
    sets = λ d n limit ticks plain most. record
        { room = k.room; window = most s.room k.window (omega arith); even = k.even };
  }) d

refilled_usual : (g : GroundState) → Usual g.fop → Usual (refill_step g).fop
refilled_usual g k = refilled_keeps (λ t. Usual t.fop) g (λ waiting pending on off. assumption k)

directed_usual : (s : GroundState) → Usual s.fop → (d : Directive) → Usual (ground_directive s d).after.fop
directed_usual s k d = directed_so s (λ g. Usual g.fop) d k (refilled_usual _ (direct_usual s.fop k d))

step_usual : (s : GroundState) → Usual s.fop → (e : GroundEvent) → Usual (ground_step s e).after.fop
step_usual s k e = called s (λ g. Usual g.fop) e (record {
  same = k;
  submits = λ m octets is none. refilled_usual _ k;
  bypasses = λ m octets is none. assumption k;
  directs = λ d is. refilled_usual _ (direct_usual s.fop k d);
  resumes = λ value is can. directed_usual (ground_directive s (SetVs value)).after (directed_usual s k (SetVs value))
      InitUnlock;
  pulls = refilled_usual _ (pull_usual s.fop k);
  ticks = refilled_usual _ (tick_usual s.fop k);
  takes = λ x packets. k;
  hears = λ heard x packets r. refilled_usual _ (report_usual s.fop k r);
})

run_usual : (es : List GroundEvent) (s : GroundState) → Usual s.fop → Usual (ground_run s es).fop
run_usual [] s k = k
run_usual (e ∷ es) s k = run_usual es (ground_step s e).after (step_usual s k e)

new_usual : (c : Config) → IsConfig c → Usual (new_ground c).fop
new_usual c ranges = record {
  room = omega (arith, ranges.width.1);
  window = ranges.window.1;
  even = λ starting. refl;
}

-- ---- a CLCW that shows nothing new

record Told (nn : ℕ) (r : Clcw) : Type 0 where
  unlocked : locks r ≡ false
  asking : asks r ≡ false
  waiting : waits r ≡ false
  at : r.value ≡ nn

-- retransmission was requested, with the wait flag or without
record Asked (wait : Bool) (vs nn limit : ℕ) (r : Clcw) : Type 0 where
  unlocked : locks r ≡ false
  asking : asks r ≡ true
  waiting : waits r ≡ wait
  at : r.value ≡ nn
  apart : (r.value == vs) ≡ false
  several : (limit == 1) ≡ false

abbrev Known : FopMode → (vs nn limit : ℕ) → Clcw → Type 0
Known S1 vs nn limit r = Told nn r
Known S2 vs nn limit r = Asked false vs nn limit r
Known S3 vs nn limit r = Asked true vs nn limit r
Known S4 vs nn limit r = ⊥
Known S5 vs nn limit r = (not (locks r) && not (waits r) && not (asks r) && (r.value == vs)) ≡ false
Known S6 vs nn limit r = Unit {0}

abbrev KnownTo : FopState SegmentView → Clcw → Type 0
KnownTo f r = Known f.state f.vs f.nn f.limit r

and_right : (a b : Bool) → a ≡ true → (a && b) ≡ false → b ≡ false
and_right true b is none = none
and_right false b is none = absurd cc

not_and_right : (a b : Bool) → a ≡ false → (not a && b) ≡ false → b ≡ false
not_and_right false b is none = none
not_and_right true b is none = absurd cc

-- the CLCW changes nothing
module _ (s : FopState SegmentView) (r : Clcw) (octet : r.value < 256) where
  abbrev Nothing : FopOutcome SegmentView (Option Alert) → Type 0
  Nothing o = o ≡ goes_on s

  inside : r.value ≡ s.nn → is_outside s r.value ≡ true → ⊥
  inside at t = absurd (omega (arith, ltb-true (ahead_by s.vs s.nn) (ahead_by r.value s.nn) t, at, octet))

  told_ignored : s.state ≡ S1 → Told s.nn r → Nothing (report_while_active s r)
  told_ignored is k =
      cond_both (locks r) (alerts s Lockout) _ Nothing (λ t. absurd (cc (t, k.unlocked)))
      (λ l. cond_both (is_outside s r.value) (alerts s NnR) _ Nothing (λ t. absurd (inside k.at t))
      (λ i. cond_both (not (asks r) && waits r) (alerts s ClcwAlert) _ Nothing
      (λ t. absurd (cc ((and_parts (not (asks r)) (waits r) t).1, k.waiting)))
      (λ w. cond_both (asks r && (r.value == s.vs)) (alerts s Synch) _ Nothing
      (λ t. absurd (cc ((and_parts (asks r) (r.value == s.vs) t).0, k.asking)))
      (λ a. cond_both (not (asks r) && (r.value == s.nn)) (nothing_new s s.state) _ Nothing
      (λ t. ap (nothing_new s) is)
      (λ n. absurd (cc (not_and_right (asks r) (r.value == s.nn) k.asking n, eq-eqb r.value s.nn k.at)))))))

  again_ignored : (wait : Bool) → (wait ≡ false → s.state ≡ S2) → (wait ≡ true → s.state ≡ S3)
      → Asked wait s.vs s.nn s.limit r → Nothing (ask_for_all s (waits r))
  again_ignored wait plain waiting k =
      cond_both (s.limit == 1) (alerts s Limit) _ Nothing (λ t. absurd (cc (t, k.several)))
      (λ t. cond_both (waits r) (goes_on (record s { state = S3 })) (goes_on (goes_back_again s s.state)) Nothing
      (λ t. ap (λ m. goes_on (record s { state = m })) (sym (waiting (sym k.waiting ∙ t))))
      (λ t. ap (λ m. goes_on (goes_back_again s m)) (plain (sym k.waiting ∙ t))))

  asked_ignored : (wait : Bool) → (wait ≡ false → s.state ≡ S2) → (wait ≡ true → s.state ≡ S3)
      → Asked wait s.vs s.nn s.limit r → Nothing (report_while_active s r)
  asked_ignored wait plain waiting k =
      cond_both (locks r) (alerts s Lockout) _ Nothing (λ t. absurd (cc (t, k.unlocked)))
      (λ l. cond_both (is_outside s r.value) (alerts s NnR) _ Nothing (λ t. absurd (inside k.at t))
      (λ i. cond_both (not (asks r) && waits r) (alerts s ClcwAlert) _ Nothing
      (λ t. absurd (cc (not-true (asks r) (and_parts (not (asks r)) (waits r) t).0, k.asking)))
      (λ w. cond_both (asks r && (r.value == s.vs)) (alerts s Synch) _ Nothing
      (λ t. absurd (cc ((and_parts (asks r) (r.value == s.vs) t).1, k.apart)))
      (λ a. cond_both (not (asks r) && (r.value == s.nn)) (nothing_new s s.state) _ Nothing
      (λ t. absurd (cc (not-true (asks r) (and_parts (not (asks r)) (r.value == s.nn) t).0, k.asking)))
      (λ n. cond_both (not (asks r)) (move_on s r.value) _ Nothing
      (λ t. absurd (cc (not-true (asks r) t, k.asking)))
      (λ q. cond_both (not (r.value == s.nn)) (ask_for_others s r.value (waits r)) _ Nothing
      (λ t. absurd (cc (not-true (r.value == s.nn) t, eq-eqb r.value s.nn k.at)))
      (λ v. again_ignored wait plain waiting k)))))))

  ignored_in : (m : FopMode) → s.state ≡ m → Known m s.vs s.nn s.limit r → Nothing (report_in s r m)
  ignored_in S1 is k = told_ignored is k
  ignored_in S2 is k = asked_ignored false (λ t. is) (λ t. absurd cc) k
  ignored_in S3 is k = asked_ignored true (λ t. absurd cc) (λ t. is) k
  ignored_in S4 is k = elim k [ ]
  ignored_in S5 is k = cond_both (confirms s r) _ (goes_on s) Nothing (λ t. absurd (cc (t, k))) (λ t. refl)
  ignored_in S6 is k = refl

  ignored : KnownTo s r → Nothing (clcw_step s r)
  ignored k = ignored_in s.state refl k

-- ---- a CLCW is known once it was heard

module _ (s : FopState SegmentView) (k : Usual s) (r : Clcw) where
  abbrev KnownAfter : FopOutcome SegmentView (Option Alert) → Type 0
  KnownAfter o = KnownTo o.after r

  -- the sender retransmits what was requested
  abbrev AskedFor : Bool → FopState SegmentView → Type 0
  AskedFor wait f = Asked wait f.vs f.nn f.limit r

  repeats_known : (f : FopState SegmentView) → AskedFor false f → (again : Bool) → KnownTo (retransmits f again) r
  repeats_known f asked true = assumption asked
  repeats_known f asked false = assumption asked

  nothing_known : (m : FopMode) → s.state ≡ m → IsActive m → Told s.nn r → KnownAfter (nothing_new s m)
  nothing_known S1 is active told = rw is told
  nothing_known S2 is active told = tt
  nothing_known S3 is active told = tt
  nothing_known _ is active told = elim active [ ]

  module _ (l : locks r ≡ false) (a : asks r ≡ true) (apart : (r.value == s.vs) ≡ false) where
    asked_by : (f : FopState SegmentView) (wait : Bool) → waits r ≡ wait → f.vs ≡ s.vs → r.value ≡ f.nn
        → (f.limit == 1) ≡ false → AskedFor wait f
    asked_by f wait w vs at several = record {
      unlocked = l;
      asking = a;
      waiting = w;
      at = at;
      apart = rw vs apart;
      several = several;
    }

    others_known : KnownAfter (ask_for_others s r.value (waits r))
    others_known =
        let f : FopState SegmentView = after_new_value s r.value in
        cond_both (f.limit == 1) (alerts f Limit) _ (λ o. KnownAfter (after_gone (ahead_by r.value s.nn) o)) (λ t. tt)
        (λ several. cond_both (waits r) (goes_on (record f { state = S3 })) (goes_on (retransmits f true))
        (λ o. KnownAfter (after_gone (ahead_by r.value s.nn) o))
        (λ w. asked_by (record f { state = S3 }) true w refl refl several)
        (λ w. repeats_known f (asked_by f false w refl refl several) true))

    back_known : (m : FopMode) → s.state ≡ m → IsActive m → AskedFor false s → KnownTo (goes_back_again s m) r
    back_known S1 is active asked = repeats_known s asked (nat_lt s.count s.limit)
    back_known S2 is active asked = rw is asked
    back_known S3 is active asked = repeats_known s asked (nat_lt s.count s.limit)
    back_known _ is active asked = elim active [ ]

    all_known : IsActive s.state → r.value ≡ s.nn → KnownAfter (ask_for_all s (waits r))
    all_known active at =
        cond_both (s.limit == 1) (alerts s Limit) _ KnownAfter (λ t. tt)
        (λ several. cond_both (waits r) (goes_on (record s { state = S3 })) (goes_on (goes_back_again s s.state))
        KnownAfter (λ w. asked_by (record s { state = S3 }) true w refl at several)
        (λ w. back_known s.state refl active (asked_by s false w refl at several)))

  active_known : IsActive s.state → KnownAfter (report_while_active s r)
  active_known active =
      cond_both (locks r) (alerts s Lockout) _ KnownAfter (λ t. tt)
      (λ l. cond_both (is_outside s r.value) (alerts s NnR) _ KnownAfter (λ t. tt)
      (λ i. cond_both (not (asks r) && waits r) (alerts s ClcwAlert) _ KnownAfter (λ t. tt)
      (λ w. cond_both (asks r && (r.value == s.vs)) (alerts s Synch) _ KnownAfter (λ t. tt)
      (λ v. cond_both (not (asks r) && (r.value == s.nn)) (nothing_new s s.state) _ KnownAfter
      (λ t.
      let both = and_parts (not (asks r)) (r.value == s.nn) t in
      let none : asks r ≡ false = not-true (asks r) both.0 in
      nothing_known s.state refl active (record {
        unlocked = l;
        asking = none;
        waiting = not_and_right (asks r) (waits r) none w;
        at = eqb-true r.value s.nn both.1;
      }))
      (λ n. cond_both (not (asks r)) (move_on s r.value) _ KnownAfter
      (λ t.
      let none : asks r ≡ false = not-true (asks r) t in record {
        unlocked = l;
        asking = none;
        waiting = not_and_right (asks r) (waits r) none w;
        at = refl;
      })
      (λ t.
      let a : asks r ≡ true = not-false (asks r) t in
      let apart = and_right (asks r) (r.value == s.vs) a v in
      cond_both (not (r.value == s.nn)) (ask_for_others s r.value (waits r)) _ KnownAfter
      (λ t. others_known l a apart)
      (λ at. all_known l a apart active (eqb-true r.value s.nn (not-false (r.value == s.nn) at)))))))))

  -- the session begins with the number that is reported
  begun_known : IsStarting s.state → locks r ≡ false → waits r ≡ false → asks r ≡ false → r.value ≡ s.vs
      → Told s.nn r
  begun_known starting l w a at = record { unlocked = l; asking = a; waiting = w; at = at ∙ k.even starting }

  known_in : (m : FopMode) → s.state ≡ m → KnownAfter (report_in s r m)
  known_in S4 is =
      cond_both (locks r) (alerts s Lockout) _ KnownAfter (λ t. tt)
      (λ l. cond_both (not (r.value == s.vs)) (alerts s NnR) _ KnownAfter (λ t. tt)
      (λ v. cond_both (asks r) (alerts s Synch) _ KnownAfter (λ t. tt)
      (λ a. cond_both (waits r) (alerts s ClcwAlert) _ KnownAfter (λ t. tt)
      (λ w. begun_known (rw is tt) l w a (eqb-true r.value s.vs (not-false (r.value == s.vs) v))))))
  known_in S5 is =
      cond_both (confirms s r) (goes_on (record s { state = S1; ticks = None; control = Idle })) (goes_on s) KnownAfter
      (λ t.
      let p = and_parts (not (locks r) && not (waits r) && not (asks r)) (r.value == s.vs) t in
      let q = and_parts (not (locks r) && not (waits r)) (not (asks r)) p.0 in
      let u = and_parts (not (locks r)) (not (waits r)) q.0 in
      begun_known (rw is tt) (not-true (locks r) u.0) (not-true (waits r) u.1) (not-true (asks r) q.1)
      (eqb-true r.value s.vs p.1))
      (λ t. rw is t)
  known_in S6 is = rw is tt
  known_in _ is = active_known (rw is tt)

  report_known : KnownTo (clcw_step s r).after r
  report_known = known_in s.state refl

-- ---- it stays known

module _ (r : Clcw) (octet : r.value < 256) (s : FopState SegmentView) (usual : Usual s) (k : KnownTo s r) where
  first_known : (m : FopMode) (vs : ℕ) → IsActive m → (r.value ≡ s.nn → (r.value == vs) ≡ false)
      → Known m s.vs s.nn s.limit r → Known m vs s.nn s.limit r
  first_known S2 vs active other k = let apart = other k.at in assumption (apart, k)
  first_known S3 vs active other k = let apart = other k.at in assumption (apart, k)
  first_known S5 vs active other k = elim active [ ]
  first_known _ vs active other k = k

  next_apart : nat_lt (ahead_by s.vs s.nn) s.window ≡ true → r.value ≡ s.nn → (r.value == ((s.vs + 1) % 256)) ≡ false
  next_apart room at =
      ne_eqb r.value ((s.vs + 1) % 256)
      (λ e. absurd (omega (arith, e, at, octet, ltb-true (ahead_by s.vs s.nn) s.window room, usual.window, usual.room)))

  pull_known : KnownTo (pull_step s).after r
  pull_known =
      let first : IsActive s.state → (u : SegmentView) → s.waiting ≡ Some u
      → nat_lt (ahead_by s.vs s.nn) s.window ≡ true → Known s.state ((s.vs + 1) % 256) s.nn s.limit r =
      λ active u is room. first_known s.state ((s.vs + 1) % 256) active (next_apart room) k in
      pulled_out s (λ o. KnownTo o.after r) (assumption (first, k))

  tick_known : KnownTo (tick_step s).after r
  tick_known = ticked s (λ o. KnownTo o.after r) (assumption k)

  limited : (n : ℕ) (m : FopMode) → (n == 1) ≡ false → Known m s.vs s.nn s.limit r → Known m s.vs s.nn n r
  limited n S2 several k = assumption (several, k)
  limited n S3 several k = assumption (several, k)
  limited n _ several k = k

  -- a directive that begins no session, and does not set the limit to 1
  abbrev Calmly : Directive → FopOutcome SegmentView (Result (Option Alert) CopFault) → Type 0
  Calmly d o = (is_initiation d ≡ true → is_closed s.state ≡ false) → d ≢ SetLimit 1 → KnownTo o.after r

  direct_known : (d : Directive) → Calmly d (directive_step s d)
  direct_known = obeyed_set s Calmly (record {
    refused = λ d fault goes on other. k;
    begins = λ d is off on other. absurd (cc (on is, off));
    terminated = λ on other. tt;
    numbers = λ x off on other. rw off tt;
    sets = λ d size n ticks plain set on other. elim set.limit [
      | inl same ↦ rw same k
      | inr is ↦ limited n s.state (ne_eqb n 1 (λ e. other (is ∙ ap SetLimit e))) k
    ];
  })

-- ---- the ground

-- nothing of it would move up
record Filled (s : GroundState) : Type 0 where
  off : is_closed s.fop.state ≡ true → s.pending ≡ []
  on : is_closed s.fop.state ≡ false → s.fop.waiting ≡ None → s.pending ≡ []

module _ (s : GroundState) where
  moved_filled : is_closed s.fop.state ≡ false → (o : Option SegmentView) (us : List SegmentView) → s.fop.waiting ≡ o
      → s.pending ≡ us → Filled (after_moving_up s o us)
  moved_filled on (Some u) us has is = record { off = λ t. absurd (cc (t, on)); on = λ t none. absurd (cc (none, has)) }
  moved_filled on None [] has is = record { off = λ t. is; on = λ t none. is }
  moved_filled on None (u ∷ us) has is = record { off = λ t. absurd (cc (t, on)); on = λ t none. absurd cc }

  refill_filled : Filled (refill_step s)
  refill_filled =
      cond_both (is_closed s.fop.state) (record s { pending = [] }) (after_moving_up s s.fop.waiting s.pending) Filled
      (λ off. record { off = λ t. refl; on = λ t none. refl })
      (λ on. moved_filled on s.fop.waiting s.pending refl refl)

  stays_put : is_closed s.fop.state ≡ false → Filled s → (o : Option SegmentView) (us : List SegmentView)
      → s.fop.waiting ≡ o → s.pending ≡ us → after_moving_up s o us ≡ s
  stays_put on k (Some u) us has is = refl
  stays_put on k None [] has is = refl
  stays_put on k None (u ∷ us) has is = let none = k.on on has in absurd (cc (none, is))

  filled_is : Filled s → refill_step s ≡ s
  filled_is k =
      cond_both (is_closed s.fop.state) (record s { pending = [] }) (after_moving_up s s.fop.waiting s.pending)
      (λ g. g ≡ s) (λ off. ap (λ us. record s { pending = us }) (sym (k.off off)))
      (λ on. stays_put on k s.fop.waiting s.pending refl refl)

module _ (c : Config) where
  refilled_config : (g : GroundState) → g.config ≡ c → (refill_step g).config ≡ c
  refilled_config g is = refilled_keeps (λ t. t.config ≡ c) g (λ waiting pending on off. is)

  directed_config : (s : GroundState) → s.config ≡ c → (d : Directive) → (ground_directive s d).after.config ≡ c
  directed_config s is d = directed_so s (λ g. g.config ≡ c) d is (refilled_config _ is)

  step_config : (s : GroundState) → s.config ≡ c → (e : GroundEvent) → (ground_step s e).after.config ≡ c
  step_config s is e = called s (λ g. g.config ≡ c) e (record {
    same = is;
    submits = λ m octets call none. refilled_config _ is;
    bypasses = λ m octets call none. is;
    directs = λ d same. refilled_config _ is;
    resumes = λ value same can. directed_config (ground_directive s (SetVs value)).after
        (directed_config s is (SetVs value)) InitUnlock;
    pulls = refilled_config _ is;
    ticks = refilled_config _ is;
    takes = λ x packets. is;
    hears = λ heard x packets r. refilled_config _ is;
  })

  run_config : (es : List GroundEvent) (s : GroundState) → s.config ≡ c → (ground_run s es).config ≡ c
  run_config [] s is = is
  run_config (e ∷ es) s is = run_config es (ground_step s e).after (step_config s is e)

-- the CLCW would change nothing
record IsKnown (r : Clcw) (s : GroundState) : Type 0 where
  usual : Usual s.fop
  known : KnownTo s.fop r
  filled : Filled s
  counts : Counts s.fates

module _ (r : Clcw) (octet : r.value < 256) where
  refilled_known : (g : GroundState) → KnownTo g.fop r → KnownTo (refill_step g).fop r
  refilled_known g k = refilled_keeps (λ t. KnownTo t.fop r) g (λ waiting pending on off. k)

  module _ (s : GroundState) (h : IsKnown r s) where
    step_known : (e : GroundEvent) → BringsNoReport s e → KnownTo (ground_step s e).after.fop r
    step_known e goes = called_quietly s (λ g. KnownTo g.fop r) e goes (record {
      same = h.known;
      submits = λ pending n. refilled_known _ h.known;
      bypasses = λ us. h.known;
      directs = λ d is. let calm = subst (BringsNoReport s) is goes in
          refilled_known _ (direct_known r octet s.fop h.usual h.known d calm.0 calm.1);
      pulls = refilled_known _ (pull_known r octet s.fop h.usual h.known);
      ticks = refilled_known _ (tick_known r octet s.fop h.usual h.known);
      takes = λ x packets. h.known;
    })

    step_filled : (e : GroundEvent) → BringsNoReport s e → Filled (ground_step s e).after
    step_filled e goes = called_quietly s Filled e goes (record {
      same = h.filled;
      submits = λ pending n. refill_filled (record s { pending = pending; fates = with_submission n s.fates });
      bypasses = λ us. assumption h.filled;
      directs = λ d is. refill_filled (record (obeying s d) { fop = (directive_step s.fop d).after });
      pulls = refill_filled (record s { fop = (pull_step s.fop).after });
      ticks = refill_filled (record s { fop = (tick_step s.fop).after });
      takes = λ x packets. assumption h.filled;
    })

    step_heard : (e : GroundEvent) → BringsNoReport s e → IsKnown r (ground_step s e).after
    step_heard e goes = record {
      usual = step_usual s h.usual e;
      known = step_known e goes;
      filled = step_filled e goes;
      counts = step_counts s h.counts e goes;
    }

  run_heard : (es : List GroundEvent) (s : GroundState) → BringNoReport s es → IsKnown r s → IsKnown r (ground_run s es)
  run_heard [] s all h = h
  run_heard (e ∷ es) s all h = run_heard es (ground_step s e).after all.1 (step_heard s h e all.0)

  -- the CLCW was heard
  uses_heard : (s : GroundState) → Usual s.fop → IsKnown r (after_report s (clcw_step s.fop r))
  uses_heard s usual =
      let o : FopOutcome SegmentView (Option Alert) = clcw_step s.fop r in
      let t : GroundState = record (acknowledging s o) { fop = o.after } in
      record {
        usual = refilled_usual t (report_usual s.fop usual r);
        known = refilled_known t (report_known s.fop usual r);
        filled = refill_filled t;
        counts = refilled_counts t (omega arith);
      }

  -- the CLCW arrives again
  abbrev using : GroundState → GroundOutcome HeardClcw
  using s = record {
    answer = record { report = Used; alert = (clcw_step s.fop r).answer };
    after = after_report s (clcw_step s.fop r);
  }

  again : (s : GroundState) (once : HeardClcw) → once.report ≡ Used → IsKnown r s → using s ≡ repeated_outcome s once
  again s once is h =
      let o : FopOutcome SegmentView (Option Alert) = clcw_step s.fop r in
      ap (λ (o : FopOutcome SegmentView (Option Alert)).
      record { answer = record { report = Used; alert = o.answer }; after = after_report s o })
      (ignored s.fop r octet h.known)
      ∙ ap (λ (k : Fates). record {
        answer = record { report = Used; alert = None };
        after = refill_step (record s { fates = k });
      }) (counted_same s.fop.nn s.fates h.counts)
      ∙ ap (λ (g : GroundState). record { answer = record { report = Used; alert = None }; after = g })
      (filled_is s h.filled)
      ∙ ap (λ report. record { answer = record { report = report; alert = None }; after = s }) (sym is)

  module _ (s : GroundState) (usual : Usual s.fop) (since : List GroundEvent) where
    abbrev Repeats : GroundOutcome HeardClcw → Type 0
    Repeats o = BringNoReport o.after since
        → report_outcome (ground_run o.after since) (Ok r) ≡ repeated_outcome (ground_run o.after since) o.answer

    used_again : (r.vcid == s.config.vcid) ≡ true → Repeats (using s)
    used_again own all =
        let now : GroundState = ground_run (using s).after since in
        let o : FopOutcome SegmentView (Option Alert) = clcw_step s.fop r in
        let used = refilled_config s.config (record (acknowledging s o) { fop = o.after }) refl in
        let config = run_config s.config since (using s).after used in
        cond_both (r.vcid == now.config.vcid) _ _
        (λ (o : GroundOutcome HeardClcw). o ≡ repeated_outcome now (using s).answer)
        (λ t. again now (using s).answer refl (run_heard since (using s).after all (uses_heard s usual)))
        (λ t. absurd (cc (t, own, config)))

    abbrev others : GroundState → GroundOutcome HeardClcw
    others g = record { answer = record { report = OtherChannel; alert = None }; after = g }

    other_again : (r.vcid == s.config.vcid) ≡ false → Repeats (others s)
    other_again other all =
        let now : GroundState = ground_run s since in
        let config = run_config s.config since s refl in
        cond_both (r.vcid == now.config.vcid) _ _
        (λ (o : GroundOutcome HeardClcw). o ≡ repeated_outcome now (others s).answer)
        (λ t. absurd (cc (t, other, config))) (λ t. refl)

    report_again : Repeats (report_outcome s (Ok r))
    report_again = cond_both (r.vcid == s.config.vcid) (using s) (others s) Repeats used_again other_again

abbrev pub Fits : Result Clcw ClcwFault → Type 0
Fits word = IfOk word (λ r. r.value < 256)

pub word_octet : (octets : List ℕ) → IsOctets octets → Fits (clcw_at octets)
unfolding clcw_at
word_octet octets are =
    cond_both (not (slice_index octets 0 / 128 == 0)) _ _ Fits (λ t. tt)
    (λ t. cond_both (not (slice_index octets 0 / 32 % 4 == 0)) _ _ Fits (λ t. tt)
    (λ t. cond_both (not (slice_index octets 0 % 4 == 1)) _ _ Fits (λ t. tt)
    (λ t. cond_both (not (slice_index octets 1 % 4 == 0)) _ _ Fits (λ t. tt)
    (λ t. cond_both (not (slice_index octets 2 % 2 == 0)) _ _ Fits (λ t. tt) (λ t. are 3)))))

module _ (x : GroundState) (usual : Usual x.fop) (since : List GroundEvent) where
  repeated : (word : Result Clcw ClcwFault) → Fits word → BringNoReport (report_outcome x word).after since
      → report_outcome (ground_run (report_outcome x word).after since) word
      ≡ repeated_outcome (ground_run (report_outcome x word).after since) (report_outcome x word).answer
  repeated (Err fault) octet all = refl
  repeated (Ok r) octet all = report_again r octet x usual since all

pub repeats_nothing : RepeatsNothing
repeats_nothing c before since octets ranges are =
    repeated (ground_run (new_ground c) before) (run_usual before (new_ground c) (new_usual c ranges)) since
    (clcw_at octets) (word_octet octets are)

-- a telemetry frame of the ground's channel
module _ (s : GroundState) (frame : FrameView) (since : List GroundEvent) where
  abbrev Carried : GroundOutcome Heard → Type 0
  Carried o = BringNoReport o.after since
      → report_outcome (ground_run o.after since) (clcw_at frame.ocf)
      ≡ repeated_outcome (ground_run o.after since) (word_of o.answer)

  frame_again : Usual s.fop → IsOctets frame.ocf → (r : Result FrameView TmFault) → r ≡ Ok frame
      → is_own_telemetry s.config frame ≡ true → Carried (telemetry_outcome s r)
  frame_again usual are r is own =
      subst (λ (r : Result FrameView TmFault). Carried (telemetry_outcome s r)) (sym is)
      (cond_both (is_own_telemetry s.config frame) _ _ Carried
      (λ t. repeated (after_extraction s (extract_step s.extractor frame)) usual since (clcw_at frame.ocf)
      (word_octet frame.ocf are))
      (λ t. absurd (cc (t, own))))

pub repeats_nothing_of_frames : RepeatsNothingOfFrames
repeats_nothing_of_frames c before since octets frame ranges is own are =
    let x : GroundState = ground_run (new_ground c) before in
    let config : x.config ≡ c = run_config c before (new_ground c) refl in
    frame_again x frame since (run_usual before (new_ground c) (new_usual c ranges)) are
    (frame_at x.config.frame_length octets) (ap (λ (c : Config). frame_at c.frame_length octets) config ∙ is)
    (ap (λ (c : Config). is_own_telemetry c frame) config ∙ own)
