-- If no session begins, the ground forgets what it counted, or keeps it. A ground in S6 stays there.
use Rattle.tc_link.proofs.Common.{◌≡◌, ℕ, true, false, List, Option, Result, refl, ap, sym, subst, ◌∙◌, inl, inr}
use Rattle.tc_link.proofs.Common.{SegmentView, CopFault, Alert, Directive, InitWithoutCheck, InitWithCheck, InitUnlock}
use Rattle.tc_link.proofs.Common.{InitSetVr, SetVs, is_initiation, is_closed, closed_not, closed_is, obeyed, ticked}
use Rattle.tc_link.proofs.Common.{pulled_out, directive_step, tick_step, pull_step, clcw_step, FopState, FopOutcome}
use Rattle.tc_link.proofs.Common.{IsActive, S6, Clcw, GroundState, with_fop, directive_outcome, Event, World}
use Rattle.tc_link.proofs.Common.{world_step, BeginsNoSession, Fates, after_obeying, submitting}
use Rattle.tc_link.proofs.Common.{obeying}
use Rattle.tc_link.proofs.Common.{after_alert, acknowledging, ExtractorState}
use Rattle.std.specs.Prelude.{not}
use Rattle.std.proofs.lemmas.Bool.{cases_Bool, and_parts}
use Rattle.nodes.specs.Fates.{shows_one}
use Rattle.cop1.specs.declared.vocabulary.Directive.TheVariants.{Terminate}
use Rattle.nodes.specs.declared.event.Event.TheVariants as events
use Rattle.simulated_link.specs.World.{directed}
use Rattle.simulated_link.proofs.Unchanged.{ground_after, not_restarted}
use Rattle.simulated_link.proofs.Counted.{reported}
use Rattle.tc_link.specs.Known.{SetsNoNumber}
use Rattle.tc_link.proofs.Refilled.{refilled_keeps}
use Rattle.tc_link.proofs.Fates.{refilled_fates, with_fates}

-- ---- what it counted

obeying_kept : (f : Fates) (d : Directive) → is_initiation d ≡ false → (after_obeying f d).kept ≡ true
    → f.kept ≡ true
obeying_kept f InitWithoutCheck plain kept = absurd cc
obeying_kept f InitWithCheck plain kept = absurd cc
obeying_kept f InitUnlock plain kept = absurd cc
obeying_kept f (InitSetVr x) plain kept = absurd cc
obeying_kept f (SetVs x) plain kept = absurd cc
obeying_kept f _ plain kept = kept

kept_as : (f g : Fates) → g ≡ f → g.kept ≡ true → f.kept ≡ true
kept_as f g is kept = sym (ap (λ (x : Fates). x.kept) is) ∙ kept

module _ (w : World) where
  abbrev s : GroundState
  s = w.ground_node

  by_fates : (d : Directive) → is_initiation d ≡ false → (f : FopState SegmentView)
      → (with_fop (obeying s d) f).fates.kept ≡ true → s.fates.kept ≡ true
  by_fates d plain f kept =
      obeying_kept s.fates d plain (kept_as (obeying s d).fates _ (with_fates (obeying s d) f) kept)

  -- a CLCW is heard
  abbrev heard : ExtractorState → List (List ℕ) → Clcw → GroundState
  heard x packets r = record s {
    extractor = x;
    telemetry = packets;
    fates = (acknowledging s (clcw_step s.fop r)).fates;
  }

  abbrev KeptBy : Directive → FopOutcome SegmentView (Result (Option Alert) CopFault) → Type 0
  KeptBy d o = BeginsNoSession w (events.Directive d) → (directive_outcome s d o).after.fates.kept ≡ true
      → s.fates.kept ≡ true

  directive_kept : (d : Directive) → KeptBy d (directive_step s.fop d)
  directive_kept = obeyed s.fop KeptBy (record {
    refused = λ d fault on goes kept. kept;
    begins = λ d is off goes kept. closed_not s.fop.state off (goes is);
    terminated = λ goes kept. by_fates Terminate refl (after_alert s.fop) kept;
    numbers = λ x is goes kept. by_fates (SetVs x) refl (record s.fop { vs = x; nn = x }) kept;
    sets = λ d k n ticks plain most goes kept.
        by_fates d plain (record s.fop { window = k; limit = n; timer = ticks }) kept;
  })

  pub kept_stays : (e : Event) → BeginsNoSession w e → (world_step w e).after.ground_node.fates.kept ≡ true
      → s.fates.kept ≡ true
  kept_stays e goes = ground_after w (λ t session. t.fates.kept ≡ true → s.fates.kept ≡ true) e (record {
    same = λ kept. kept;
    submits = λ m octets none kept.
        kept_as (submitting s m octets).fates _ (refilled_fates (submitting s m octets)) kept;
    bypasses = λ m octets is none kept. kept;
    directs = λ d is kept. directive_kept d (subst (BeginsNoSession w) is goes) kept;
    restarts = λ value is can. not_restarted w e goes value is can;
    ticks = λ is kept. kept_as s.fates _ (with_fates s (tick_step s.fop).after) kept;
    sends = λ is sent kept. kept_as s.fates _ (with_fates s (pull_step s.fop).after) kept;
    hears_none = λ told x packets kept. kept;
    hears = λ told x packets r kept.
        (and_parts (not (shows_one (clcw_step s.fop r).answer)) s.fates.kept
        (kept_as (heard x packets r).fates _ (with_fates (heard x packets r) (clcw_step s.fop r).after) kept)).1;
  })

  forgets : (x : ℕ) → s.fop.state ≡ S6 → (directed w (SetVs x)).ground_node.fates.kept ≡ false
  forgets x off = rw off refl

  pub sets_none : (e : Event) → (world_step w e).after.ground_node.fates.kept ≡ true → SetsNoNumber w e
  sets_none e kept x is = elim (cases_Bool (is_closed s.fop.state)) [
    | inl off ↦ (
        let still : (directed w (SetVs x)).ground_node.fates.kept ≡ true =
        subst (λ (e : Event). (world_step w e).after.ground_node.fates.kept ≡ true) is kept in
        absurd (let no = forgets x (closed_is s.fop.state off) in cc (no, still)))
    | inr on ↦ on
  ]

  -- ---- a ground in S6

  with_off : (t : GroundState) (f : FopState SegmentView) → is_closed f.state ≡ true
      → is_closed (with_fop t f).fop.state ≡ true
  with_off t f off =
      refilled_keeps (λ u. is_closed u.fop.state ≡ true) (record t { fop = f }) (λ waiting pending on none. off)

  module _ (off : is_closed s.fop.state ≡ true) where
    abbrev Off : {A : Type 0} → FopOutcome SegmentView A → Type 0
    Off o = is_closed o.after.state ≡ true

    abbrev OffBy : Directive → FopOutcome SegmentView (Result (Option Alert) CopFault) → Type 0
    OffBy d o = BeginsNoSession w (events.Directive d) → is_closed (directive_outcome s d o).after.fop.state ≡ true

    directive_off : (d : Directive) → OffBy d (directive_step s.fop d)
    directive_off = obeyed s.fop OffBy (record {
      refused = λ d fault on goes. off;
      begins = λ d is closed goes. closed_not s.fop.state closed (goes is);
      terminated = λ goes. with_off (obeying s Terminate) (after_alert s.fop) refl;
      numbers = λ x is goes. with_off (obeying s (SetVs x)) (record s.fop { vs = x; nn = x }) off;
      sets = λ d k n ticks plain most goes.
          with_off (obeying s d) (record s.fop { window = k; limit = n; timer = ticks }) off;
    })

    tick_off : Off (tick_step s.fop)
    tick_off =
        let over : is_closed (after_alert s.fop).state ≡ true = refl in
        ticked s.fop (λ o. Off o) (record {
          off = off;
          runs = λ left. off;
          stops = off;
          repeats = λ active. off;
          counts = off;
          commands = λ is. off;
          gives_up = refl;
        })

    pull_off : Off (pull_step s.fop)
    pull_off = pulled_out s.fop (λ o. Off o) (record {
      none = off;
      command = λ c is. off;
      bypass = λ u us is. off;
      again = λ active x is. off;
      first = λ active u is room. off;
    })

    report_off : (r : Clcw) → Off (clcw_step s.fop r)
    report_off r = reported s.fop r (λ o. Off o) (record {
      active = λ active. absurd (let no : IsActive S6 = rw (closed_is s.fop.state off) at active in no);
      alerted = λ is x cause. refl;
      checked = λ is confirms. absurd (cc (is, off));
      commanded = λ is confirms. absurd (cc (is, off));
      same = off;
    })

    pub off_stays : (e : Event) → BeginsNoSession w e
        → is_closed (world_step w e).after.ground_node.fop.state ≡ true
    off_stays e goes = ground_after w (λ t session. is_closed t.fop.state ≡ true) e (record {
      same = off;
      submits = λ m octets none. with_off (submitting s m octets) s.fop off;
      bypasses = λ m octets is none. off;
      directs = λ d is. directive_off d (subst (BeginsNoSession w) is goes);
      restarts = λ value is can. not_restarted w e goes value is can;
      ticks = λ is. with_off s (tick_step s.fop).after tick_off;
      sends = λ is sent. with_off s (pull_step s.fop).after pull_off;
      hears_none = λ told x packets. off;
      hears = λ told x packets r. with_off (heard x packets r) (clcw_step s.fop r).after (report_off r);
    })
