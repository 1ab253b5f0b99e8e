-- At every moment of a run the world is sound, and so is a session that had an idle start.
use Rattle.tc_link.proofs.Common.{◌≡◌, ℕ, ◌⊎◌, inl, inr, Bool, true, false, List, [], ◌∷◌, Option, Some, Result, refl}
use Rattle.tc_link.proofs.Common.{ap, sym, subst, ◌∙◌, option_map, AllByRecursion, SegmentView, CopFault, Alert, ◌≢◌}
use Rattle.tc_link.proofs.Common.{Directive, directive_step, Config, Event, Opening, IsConfig, is_closed, after_queue}
use Rattle.tc_link.proofs.Common.{directive_outcome, is_initiation, World, new_world, world_step, world_run, IsClean}
use Rattle.tc_link.proofs.Common.{IsIdle, BeginsNoSession, down_deliver_step, begins_clean, begins_idle}
use Rattle.tc_link.proofs.Common.{session_begun_by, session_after_directive, IsDirective, IsEvent, IsReached, obeyed}
use Rattle.tc_link.proofs.Common.{FopOutcome, closed_not, closed_is, SetVs, InitUnlock, GroundState, S6}
use Rattle.std.proofs.lemmas.Bool.{cases_Bool}
use Rattle.nodes.specs.declared.event.Event.TheVariants as events
use Rattle.nodes.specs.Ground.{can_resume}
use Rattle.simulated_link.specs.World.{Session, directed, resumed}
use Rattle.simulated_link.proofs.Unchanged.{resumes, resumed_after, BringsReport, not_restarted, stepped}
use Rattle.nodes.proofs.Resuming.{resumed_known, known_off}
use Rattle.tc_link.specs.Taken.{BeginsSession}
use Rattle.tc_link.proofs.Upward.{up_delivers, up_lost, same_keeps, releases_keep, ticks, directs, pulls_keep}
use Rattle.tc_link.proofs.IdleStart.{InSession, begins, clean_idle, HasReports, step_reports}
use Rattle.tc_link.proofs.Readable.{Carried, step_carried}
use Rattle.tc_link.proofs.Downward.{early_down_deliver, reports_keep, down_lost, late_down_deliver, late_down_clcw}
use Rattle.tc_link.proofs.Downward.{early_down_clcw}
use Rattle.tc_link.proofs.Linked.{In, Begun, Late, Next, run_to, stays, beside}
use Rattle.tc_link.proofs.Sound.{step_sound, new_sound, given_keeps, Sound}

-- ---- an event that begins no session leaves its opening as it is; an initiation sets another

-- what a session keeps from its beginning to its end
abbrev pub opened : Session → Option Opening × ℕ
opened s = (s.opening, s.before)

module _ (w : World) where
  abbrev Opened : Directive → FopOutcome SegmentView (Result (Option Alert) CopFault) → Type 0
  Opened d o = (is_initiation d ≡ true → is_closed w.ground_node.fop.state ≡ false)
      → opened (session_after_directive w d (directive_outcome w.ground_node d o).answer) ≡ opened w.session

  opened_directive : (d : Directive) → Opened d (directive_step w.ground_node.fop d)
  opened_directive = obeyed w.ground_node.fop Opened (record {
    refused = λ d fault on goes. refl;
    begins = λ d is off goes. closed_not w.ground_node.fop.state off (goes is);
    terminated = λ goes. refl;
    numbers = λ x is goes. refl;
    sets = λ d k n ticks plain most goes. rw plain refl;
  })

  -- the session is still the one that began so
  pub session_stays : (e : Event) → BeginsNoSession w e → opened (world_step w e).after.session ≡ opened w.session
  session_stays e goes =
      let directs : (d : Directive) → e ≡ events.Directive d → opened (directed w d).session ≡ opened w.session =
      λ d is. opened_directive d (subst (BeginsNoSession w) is goes) in
      let restarts : (value : ℕ) → e ≡ events.Resume value → can_resume w.ground_node value ≡ true
      → opened (resumed w value).session ≡ opened w.session = λ value is can.
      not_restarted w e goes value is can in
      stepped w (λ new. opened new.session ≡ opened w.session) e (assumption (directs, restarts))

  pub opening_stays : (e : Event) → BeginsNoSession w e → (world_step w e).after.session.opening ≡ w.session.opening
  opening_stays e goes = ap (λ (o : Option Opening × ℕ). o.0) (session_stays e goes)

  -- so it had an idle start
  pub idle_goes : (e : Event) → IsIdle w → BeginsNoSession w e → IsIdle (world_step w e).after
  idle_goes e idle goes =
      ap (λ (o : Option Opening × ℕ). option_map (λ (x : Opening). x.idle) o.0) (session_stays e goes) ∙ idle

  abbrev Begins : Directive → FopOutcome SegmentView (Result (Option Alert) CopFault) → Type 0
  Begins d o = is_initiation d ≡ true → is_closed w.ground_node.fop.state ≡ true
      → session_after_directive w d (directive_outcome w.ground_node d o).answer ≡ session_begun_by w d

  pub begun_is : (d : Directive) → Begins d (directive_step w.ground_node.fop d)
  begun_is = obeyed w.ground_node.fop Begins (record {
    refused = λ d fault on is off. absurd (on is (closed_is w.ground_node.fop.state off));
    begins = λ d is off so closed. rw is refl;
    terminated = λ is off. absurd cc;
    numbers = λ x same is off. absurd cc;
    sets = λ d k n ticks plain most is off. absurd cc;
  })

-- ---- such a session stays so

module _ (early : Bool) (c : Config) (d : Directive) (base : ℕ) (w : World) (k : Sound c w) (g : In early c d base w)
  where
    -- no CLCW arrives, and no frame is sent on the uplink or arrives there
    others : (e : Event) → IsEvent e → BeginsNoSession w e → (BringsReport e → ⊥) → e ≢ events.Send
        → e ≢ events.UpDeliver → Next early c d base g.plain (world_step w e).after
    others e fits goes not_told not_sent not_come = stepped w (Next early c d base g.plain) e (record {
      same = stays g;
      up_gone = up_lost early c d base w k g;
      down_gone = λ b bs is gone. down_lost early c d base w k g b bs is;
      receives = λ is. absurd (not_come is);
      reports = λ is. reports_keep early c d base w k g;
      takes = λ is left kept. same_keeps early c d base w k g (record w.spacecraft { ready = left }) refl refl;
      releases = λ is left free. releases_keep early c d base w k g left;
      passes = λ is left. same_keeps early c d base w k g (record w.spacecraft { bypass = left }) refl refl;
      queues = λ octets is. same_keeps early c d base w k g
          (record w.spacecraft { builder = after_queue w.spacecraft.builder octets.now }) refl refl;
      submits = given_keeps early c d base w k g;
      bypasses = λ m octets is none. beside g _ (inl refl) (assumption g.linked) g.stage;
      directs = λ x is. directs early c d base w g x (subst IsEvent is fits) (subst (BeginsNoSession w) is goes);
      restarts = λ value is can. not_restarted w e goes value is can;
      ticks = λ is. ticks early c d base w g;
      sends = λ is. absurd (not_sent is);
      hears_none = λ b bs is told. absurd (not_told told);
      hears = λ b bs is told. absurd (not_told told);
    })

    -- if it is known what telemetry that arrives leads to
    module _ (P : World → Type 0) (goes_so : (new : World) → Next early c d base g.plain new → P new)
        (heard : P (down_deliver_step w w.down).after) (word : P (world_step w events.DownClcw).after) where
      step_so : (e : Event) → IsEvent e → BeginsNoSession w e → P (world_step w e).after
      step_so events.DownDeliver fits goes = heard
      step_so events.DownClcw fits goes = word
      step_so events.Send fits goes = goes_so _ (pulls_keep early c d base w k g)
      step_so events.UpDeliver fits goes = goes_so _ (up_delivers early c d base w k g)
      step_so e fits goes = goes_so _ (others e fits goes (λ told. absurd told) (λ is. cc is) (λ is. cc is))

module _ (c : Config) (d : Directive) (base : ℕ) (w : World) (k : Sound c w) where
  pub late_step : (g : Late c d base w) (e : Event) → IsEvent e → BeginsNoSession w e
      → Next false c d base g.plain (world_step w e).after
  late_step g = step_so false c d base w k g (Next false c d base g.plain) (λ new next. next)
      (late_down_deliver c d base w k g) (late_down_clcw c d base w k g)

  pub early_step : (g : Begun c d base w) (e : Event) → IsEvent e → BeginsNoSession w e
      → Begun c d base (world_step w e).after ⊎ Late c d base (world_step w e).after
  early_step g = step_so true c d base w k g (λ new. Begun c d base new ⊎ Late c d base new)
      (λ new next. inl (run_to g next))
      (elim (early_down_deliver c d base w k g) [ inl t ↦ inl (run_to g t) | inr t ↦ inr (run_to g t.late) ])
      (elim (early_down_clcw c d base w k g) [ inl t ↦ inl (run_to g t) | inr t ↦ inr (run_to g t.late) ])

-- ---- the invariant

pub record Holding (c : Config) (w : World) : Type 0 where
  pub sound : Sound c w
  pub reports : HasReports c w.down
  pub carried : Carried c w
  pub clean : IsClean w → IsIdle w
  pub session : IsIdle w → InSession c w

abbrev cleans : Option Opening → Option Bool
cleans o = option_map (λ (o : Opening). o.clean) o

abbrev idles : Option Opening → Option Bool
idles o = option_map (λ (o : Opening). o.idle) o

module _ (c : Config) (w : World) (h : Holding c w) where
  -- no session begins
  session_goes : (e : Event) → BeginsNoSession w e → IsEvent e → IsIdle (world_step w e).after
      → InSession c (world_step w e).after
  session_goes e goes fits is =
      let was : IsIdle w = sym (ap idles (opening_stays w e goes)) ∙ is in
      let s = h.session was in
      record {
        directive = s.directive;
        base = s.base;
        session = elim s.session [
          | inl g ↦ early_step c s.directive s.base w h.sound g e fits goes
          | inr g ↦ inr (run_to g (late_step c s.directive s.base w h.sound g e fits goes))
        ];
      }

  some_true : (b : Bool) → Some b ≡ Some true → b ≡ true
  some_true b e = cc

  -- a session begins
  session_begins : (d : Directive) → is_initiation d ≡ true → is_closed w.ground_node.fop.state ≡ true
      → IsDirective d → IsIdle (world_step w (events.Directive d)).after
      → InSession c (world_step w (events.Directive d)).after
  session_begins d is off fits start =
      let same : idles (session_begun_by w d).opening ≡ Some true =
      sym (ap (λ s. idles s.opening) (begun_is w d is off)) ∙ start in
      begins c w h.sound h.reports d is fits off (some_true (begins_idle w d) same)

  clean_begins : (d : Directive) → is_initiation d ≡ true → is_closed w.ground_node.fop.state ≡ true
      → IsClean (world_step w (events.Directive d)).after → IsIdle (world_step w (events.Directive d)).after
  clean_begins d is off clean =
      let same : cleans (session_begun_by w d).opening ≡ Some true =
      sym (ap (λ s. cleans s.opening) (begun_is w d is off)) ∙ clean in
      ap (λ s. idles s.opening) (begun_is w d is off)
      ∙ ap Some (clean_idle w d (some_true (begins_clean w d) same))

  -- no session begins
  goes_holds : (e : Event) → IsEvent e → BeginsNoSession w e → Holding c (world_step w e).after
  goes_holds e fits goes = record {
    sound = step_sound c w h.sound e fits;
    reports = step_reports c w h.sound h.reports e;
    carried = step_carried c w h.sound h.carried e fits;
    clean = λ is. let stays = opening_stays w e goes in ap idles stays ∙ h.clean (sym (ap cleans stays) ∙ is);
    session = session_goes e goes fits;
  }

  -- a directive begins a session, or none begins
  directive_holds : (d : Directive) → IsDirective d → Holding c (directed w d)
  directive_holds d fits = elim (cases_Bool (is_initiation d)) [
    | inl is ↦ (elim (cases_Bool (is_closed w.ground_node.fop.state)) [
      | inl off ↦ record {
        sound = step_sound c w h.sound (events.Directive d) fits;
        reports = step_reports c w h.sound h.reports (events.Directive d);
        carried = step_carried c w h.sound h.carried (events.Directive d) fits;
        clean = clean_begins d is off;
        session = session_begins d is off fits;
      }
      | inr on ↦ goes_holds (events.Directive d) fits (λ same. on)
    ])
    | inr other ↦ goes_holds (events.Directive d) fits (λ same. absurd (cc (same, other)))
  ]

pub step_holds : (c : Config) (w : World) → Holding c w → (e : Event) → IsEvent e → Holding c (world_step w e).after
step_holds c w h (events.Directive d) fits = directive_holds c w h d fits
step_holds c w h (events.Resume value) fits =
    resumes w value (λ o. Holding c o.after) h (λ whole known can.
    directive_holds c (directed w (SetVs value)) (directive_holds c w h (SetVs value) fits) InitUnlock tt)
step_holds c w h e fits = goes_holds c w h e fits tt

pub new_holds : (c : Config) → IsConfig c → Holding c (new_world c)
new_holds c ranges = record {
  sound = new_sound c ranges;
  reports = record { reports = []; reporting = tt };
  carried = record { frames = []; carries = tt; fits = record { sent = λ running. tt; unsent = λ running. tt } };
  clean = λ is. absurd cc;
  session = λ is. absurd cc;
}

pub run_holds : (c : Config) (events : List Event) (w : World) → AllByRecursion IsEvent events → Holding c w
    → Holding c (world_run w events)
run_holds c [] w fits h = h
run_holds c (e ∷ es) w fits h = run_holds c es (world_step w e).after fits.1 (step_holds c w h e fits.0)

pub reached_holds : (w : World) → (r : IsReached w) → Holding r.config w
reached_holds w r =
    subst (Holding r.config) r.led (run_holds r.config r.events (new_world r.config) r.octets
    (new_holds r.config r.ranges))

-- ---- an event begins a session

pub can_off : (s : GroundState) (value : ℕ) → can_resume s value ≡ true → s.fop.state ≡ S6
can_off s value can =
    let k = resumed_known s value can in closed_is s.fop.state (known_off s value k.0 k.1)

-- the event is an initiation, or its last step is one
pub record BeganAt (w : World) (e : Event) : Type 0 where
  pub start : World
  pub directive : Directive
  pub initiates : is_initiation directive ≡ true
  pub closed : is_closed start.ground_node.fop.state ≡ true
  pub is : (world_step w e).after ≡ directed start directive

pub began_at : (w : World) (e : Event) → BeginsSession w e → BeganAt w e
began_at w (events.Directive d) b = record { start = w; directive = d; initiates = b.0; closed = b.1; is = refl }
began_at w (events.Resume value) can = record {
  start = directed w (SetVs value);
  directive = InitUnlock;
  initiates = refl;
  closed = let off = can_off w.ground_node value can in rw off refl;
  is = resumed_after w value can;
}
began_at w _ b = elim b [ ]

pub begun_session : (w : World) (e : Event) (b : BeganAt w e)
    → (world_step w e).after.session ≡ session_begun_by b.start b.directive
begun_session w e b = ap (λ (x : World). x.session) b.is ∙ begun_is b.start b.directive b.initiates b.closed
