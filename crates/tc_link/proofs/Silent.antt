-- Loss is never silent.
use Rattle.tc_link.proofs.Common.{◌≡◌, ℕ, Bool, true, false, List, ◌++◌, take, drop, refl, ap, sym, ◌∙◌, arith, Option}
use Rattle.tc_link.proofs.Common.{Some, None, Result, Ok, Err, subst, take-append-drop, drop-append-le, length-take-le}
use Rattle.tc_link.proofs.Common.{cond_both, Clcw, ClcwFault, TmFault, SegmentView, Directive, Alert, CopFault}
use Rattle.tc_link.proofs.Common.{FopState}
use Rattle.tc_link.proofs.Common.{FopOutcome, directive_step, clcw_step, report_while_active, tick_step, pull_step}
use Rattle.tc_link.proofs.Common.{retransmits, obeyed, ticked, pulled_out, heard_active, Config, GroundState}
use Rattle.tc_link.proofs.Common.{GroundOutcome, is_closed, refill_step, unless_refused}
use Rattle.tc_link.proofs.Common.{telemetry_outcome, after_extraction, acknowledging, obeying}
use Rattle.tc_link.proofs.Common.{unsent_segments, closed_not, submitting, submit_fault, bypass_fault, after_submission}
use Rattle.tc_link.proofs.Common.{after_bypass, [], ◌∷◌}
use Rattle.tc_link.proofs.Common.{Event, World, WorldOutcome, world_step}
use Rattle.std.proofs.Common.{IsSome}
use Rattle.std.specs.Prelude.{◌==◌}
use Rattle.clcw.specs.Decoding.{clcw_at}
use Rattle.tm_link.specs.Layout as telemetry
use Rattle.tm_link.specs.Decoding as telemetry_reading
use Rattle.tm_link.specs.Extractor.{extract_step}
use Rattle.nodes.specs.Ground.{outstanding, GroundEvent, ground_step, report_outcome, is_own_telemetry}
use Rattle.nodes.proofs.Resuming.{resumed_or}
use Rattle.nodes.specs.Ground.{Submit, Bypass, Direct, Resume, Pull, Tick, Telemetry, ControlWord}
use Rattle.nodes.specs.Ground.{TakeTelemetry, ForgetTelemetry, ground_take_telemetry, ground_directive, ground_tick}
use Rattle.nodes.specs.Ground.{after_directive}
use Rattle.nodes.specs.declared.fault.LinkFault.{LinkFault}
use Rattle.nodes.specs.declared.event.Event.TheVariants as events
use Rattle.nodes.specs.declared.heard.Heard.{Heard}
use Rattle.nodes.specs.declared.heard.HeardClcw.{HeardClcw}
use Rattle.simulated_link.specs.Replies.{heard_alert, reply_to_alert, reply_to_directive, replied_alert}
use Rattle.simulated_link.proofs.Counted.{reported}
use Rattle.simulated_link.proofs.Unchanged.{ground_after, down_arrives, word_arrives, BringsReport, MayAlert}
use Rattle.simulated_link.proofs.Unchanged.{AtEachLoss}
use Rattle.tc_link.specs.FalseAlarms.{alert_in}
use Rattle.tc_link.specs.History.{units_submitted}
use Rattle.tc_link.specs.Silent.{HoldsWhatIsNotAcknowledged, GivesUpAloud, alert_of}
use Rattle.tc_link.proofs.IdleStart.{in_session}
use Rattle.tc_link.proofs.InOrder.{is_history}
use Rattle.tc_link.proofs.Invariant.{can_off}
use Rattle.tc_link.proofs.Linked.{In, holds_on}
use Rattle.tc_link.proofs.AnyPast.{past_holds}
use Rattle.tc_link.proofs.Refilled.{refilled_keeps}
use Rattle.tc_link.proofs.Sound.{Sound}

-- ---- what is outstanding

module _ (early : Bool) (c : Config) (d : Directive) (base : ℕ) (w : World) (k : Sound c w) (g : In early c d base w)
  where
    held_so : is_closed w.ground_node.fop.state ≡ false
        → outstanding w.ground_node ≡ drop w.session.acknowledged (units_submitted w)
    held_so on =
        let p = g.plain in
        let l = g.linked in
        let held = holds_on l on in
        let history = is_history early c d base w g k in
        ap (λ xs. xs ++ unsent_segments w.ground_node) held.sent_is
        ∙ ap (λ xs. drop p.a (take p.n p.units) ++ xs) held.rest_is
        ∙ sym (drop-append-le p.a (take p.n p.units) (drop p.n p.units)
        (omega (arith, length-take-le p.n p.units l.n_most, l.a_r, l.r_n)))
        ∙ ap (drop p.a) (take-append-drop p.n p.units)
        ∙ ap (λ k. drop k p.units) (sym l.acked_is)
        ∙ ap (drop w.session.acknowledged) history.units

pub holds_what_is_not_acknowledged : HoldsWhatIsNotAcknowledged
holds_what_is_not_acknowledged w past idle =
    let h = past_holds w past in
    let s = h.session idle in
    in_session s (λ early g. held_so early past.config s.directive s.base w h.sound g)

-- ---- the sender gives up only with an alert

abbrev Aloud : FopState SegmentView → Option Alert → FopState SegmentView → Type 0
Aloud f alert after = is_closed f.state ≡ false → is_closed after.state ≡ true → IsSome alert

module _ (f : FopState SegmentView) where
  abbrev Says : FopOutcome SegmentView (Option Alert) → Type 0
  Says o = Aloud f o.answer o.after

  same_aloud : (alert : Option Alert) → Aloud f alert f
  same_aloud alert on off = absurd (cc (on, off))

  again_aloud : (again : Bool) (alert : Option Alert) → Aloud f alert (retransmits f again)
  again_aloud true alert on off = absurd (cc off)
  again_aloud false alert on off = absurd (cc off)

  heard_aloud : (r : Clcw) → Says (report_while_active f r)
  heard_aloud r = heard_active f r Says (record {
    locked = λ t on off. refl;
    outside = λ t on off. refl;
    wait_flag = λ none waiting on off. refl;
    asks_none = λ asking at on off. refl;
    same = same_aloud None;
    ceases = λ none at were on off. refl;
    moves = λ inside on off. absurd (cc off);
    others_over = λ inside asking one on off. refl;
    others_wait = λ inside asking on off. absurd (cc off);
    others_again = λ inside asking on off. absurd (cc off);
    all_over = λ asking one on off. refl;
    all_wait = λ asking on off. absurd (cc off);
    all_again = λ asking again. again_aloud again None;
  })

  report_aloud : (r : Clcw) → Says (clcw_step f r)
  report_aloud r = reported f r Says (record {
    active = λ active. heard_aloud r;
    alerted = λ is x cause on off. refl;
    checked = λ is confirms on off. absurd (cc off);
    commanded = λ is confirms on off. absurd (cc off);
    same = same_aloud None;
  })

  tick_aloud : Says (tick_step f)
  tick_aloud = ticked f Says (record {
    off = same_aloud None;
    runs = λ left on off. absurd (cc (on, off));
    stops = λ on off. absurd (cc (on, off));
    repeats = λ active on off. absurd (cc (on, off));
    counts = λ on off. absurd (cc (on, off));
    commands = λ is on off. absurd (cc (on, off));
    gives_up = λ on off. refl;
  })

  abbrev alert_on : Result (Option Alert) CopFault → Option Alert
  alert_on (Ok alert) = alert
  alert_on (Err fault) = None

  directive_aloud : (d : Directive) → let o = directive_step f d in Aloud f (alert_on o.answer) o.after
  directive_aloud = obeyed f (λ d o. Aloud f (alert_on o.answer) o.after) (record {
    refused = λ d fault goes. same_aloud None;
    begins = λ d is off on later. closed_not f.state off on;
    terminated = λ on off. refl;
    numbers = λ x off on later. closed_not f.state off on;
    sets = λ d k n ticks plain most on off. absurd (cc (on, off));
  })

  pull_aloud : Aloud f None (pull_step f).after
  pull_aloud = pulled_out f (λ o. Aloud f None o.after) (record {
    none = same_aloud None;
    command = λ command is on off. absurd (cc (on, off));
    bypass = λ u us is on off. absurd (cc (on, off));
    again = λ active x is on off. absurd (cc (on, off));
    first = λ active u is room on off. absurd (cc (on, off));
  })

-- ---- the ground

refilled_state : (s : GroundState) → (refill_step s).fop.state ≡ s.fop.state
refilled_state s = refilled_keeps (λ t. t.fop.state ≡ s.fop.state) s (λ waiting pending on closed. refl)

-- moving up changes no state
moved_aloud : (s t : GroundState) (alert : Option Alert) → Aloud s.fop alert t.fop
    → Aloud s.fop alert (refill_step t).fop
moved_aloud s t alert is on off = is on (ap is_closed (sym (refilled_state t)) ∙ off)

word_aloud : (s : GroundState) (r : Result Clcw ClcwFault)
    → let o = report_outcome s r in Aloud s.fop o.answer.alert o.after.fop
word_aloud s (Err fault) = same_aloud s.fop None
word_aloud s (Ok report) =
    cond_both (report.vcid == s.config.vcid) _ _
    (λ (o : GroundOutcome HeardClcw). Aloud s.fop o.answer.alert o.after.fop)
    (λ t. let o = clcw_step s.fop report in
    moved_aloud s (record (acknowledging s o) { fop = o.after }) o.answer (report_aloud s.fop report))
    (λ t. same_aloud s.fop None)

module _ (s : GroundState) where
  frame_aloud : (r : Result telemetry.FrameView TmFault)
      → let o = telemetry_outcome s r in Aloud s.fop (heard_alert o.answer) o.after.fop
  frame_aloud (Err fault) = same_aloud s.fop None
  frame_aloud (Ok frame) =
      cond_both (is_own_telemetry s.config frame) _ _
      (λ (o : GroundOutcome Heard). Aloud s.fop (heard_alert o.answer) o.after.fop)
      (λ t. word_aloud (after_extraction s (extract_step s.extractor frame)) (clcw_at frame.ocf))
      (λ t. same_aloud s.fop None)

  refused_or : (fault : Option LinkFault) (next : GroundState) → Aloud s.fop None next.fop
      → Aloud s.fop None (unless_refused fault s next).after.fop
  refused_or None next taken = taken
  refused_or (Some fault) next taken = same_aloud s.fop None

  directed_or : (d : Directive) (r : Result (Option Alert) CopFault) (f : FopState SegmentView)
      → Aloud s.fop (alert_on s.fop r) f → Aloud s.fop (alert_of (Direct d) r) (after_directive s d r f).fop
  directed_or d (Ok alert) f led = moved_aloud s (record (obeying s d) { fop = f }) alert led
  directed_or d (Err fault) f led = same_aloud s.fop None

  taken_or : (packets : List (List ℕ)) → Aloud s.fop None (ground_take_telemetry s packets).after.fop
  taken_or [] = same_aloud s.fop None
  taken_or (packet ∷ left) = same_aloud s.fop None

  call_aloud : (e : GroundEvent) → Aloud s.fop (alert_of e (ground_step s e).answer) (ground_step s e).after.fop
  call_aloud (Submit m octets) =
      refused_or (submit_fault s m octets) (after_submission s m octets)
      (moved_aloud s (submitting s m octets) None (same_aloud s.fop None))
  call_aloud (Bypass m octets) =
      refused_or (bypass_fault s m octets) (after_bypass s m octets) (λ on off. absurd (cc (on, off)))
  call_aloud (Direct d) =
      let o = directive_step s.fop d in directed_or d o.answer o.after (directive_aloud s.fop d)
  call_aloud (Resume value) =
      resumed_or s value (λ (o : GroundOutcome (Result ℕ LinkFault)). Aloud s.fop None o.after.fop)
      (λ whole known can on off. closed_not s.fop.state (can_off s value can) on) (λ t. same_aloud s.fop None)
  call_aloud Pull =
      let o = pull_step s.fop in moved_aloud s (record s { fop = o.after }) None (pull_aloud s.fop)
  call_aloud Tick =
      let o = tick_step s.fop in moved_aloud s (record s { fop = o.after }) o.answer (tick_aloud s.fop)
  call_aloud (Telemetry octets) = frame_aloud (telemetry_reading.frame_at s.config.frame_length octets)
  call_aloud (ControlWord octets) = word_aloud s (clcw_at octets)
  call_aloud TakeTelemetry = taken_or s.telemetry
  call_aloud ForgetTelemetry = same_aloud s.fop None

-- ---- the link

alert_replied : (alert : Option Alert) → replied_alert (reply_to_alert alert) ≡ alert
alert_replied None = refl
alert_replied (Some alert) = refl

directive_replied : (d : Directive) (r : Result (Option Alert) CopFault)
    → replied_alert (reply_to_directive r) ≡ alert_of (Direct d) r
directive_replied d (Ok alert) = alert_replied alert
directive_replied d (Err fault) = refl

module _ (w : World) where
  abbrev s : GroundState
  s = w.ground_node

  abbrev LinkAloud : WorldOutcome → Type 0
  LinkAloud o = Aloud s.fop (alert_in o.answer) o.after.ground_node.fop

  lost_aloud : AtEachLoss w LinkAloud
  lost_aloud = record {
    refused = λ fault. same_aloud s.fop None;
    up = λ b bs is reply none. same_aloud s.fop (replied_alert reply);
    down = λ b bs is reply none. same_aloud s.fop (replied_alert reply);
  }

  -- no alert is returned, and the sender continues
  quiet_aloud : (e : Event) → (MayAlert e → ⊥) → (BringsReport e → ⊥)
      → Aloud s.fop None (world_step w e).after.ground_node.fop
  quiet_aloud e other none = ground_after w (λ t session. Aloud s.fop None t.fop) e (record {
    same = same_aloud s.fop None;
    submits = λ m octets taken. moved_aloud s (submitting s m octets) None (same_aloud s.fop None);
    bypasses = λ m octets is taken on off. absurd (cc (on, off));
    directs = λ d is. absurd (other (subst MayAlert (sym is) tt));
    restarts = λ value is can on off. closed_not s.fop.state (can_off s value can) on;
    ticks = λ is. absurd (other (subst MayAlert (sym is) tt));
    sends = λ is sent. call_aloud s Pull;
    hears_none = λ told. absurd (none told);
    hears = λ told. absurd (none told);
  })

  event_aloud : (e : Event) → LinkAloud (world_step w e)
  event_aloud (events.Directive d) =
      let o = ground_directive s d in
      subst (λ alert. Aloud s.fop alert o.after.fop) (sym (directive_replied d o.answer)) (call_aloud s (Direct d))
  event_aloud events.Tick =
      let o = ground_tick s in
      subst (λ alert. Aloud s.fop alert o.after.fop) (sym (alert_replied o.answer)) (call_aloud s Tick)
  event_aloud events.DownDeliver =
      down_arrives w LinkAloud (same_aloud s.fop None) (λ b bs is.
      frame_aloud s (telemetry_reading.frame_at s.config.frame_length b))
  event_aloud events.DownClcw = word_arrives w LinkAloud lost_aloud (λ b bs is r. word_aloud s r)
  event_aloud e = λ on off. absurd (cc (quiet_aloud e (λ may. may) (λ told. told) on off))

pub gives_up_aloud : GivesUpAloud
gives_up_aloud = record { ground = λ s e. call_aloud s e; link = λ w e. event_aloud w e }
