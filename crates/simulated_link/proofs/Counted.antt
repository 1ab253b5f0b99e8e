-- What arriving telemetry may do at the ground. The sent queue contains only units that were sent and are not
-- acknowledged.
use Rattle.simulated_link.proofs.Common.{◌≡◌, true, false, Option, None, Result, Ok, Err, refl, ◌==◌, cond_both, Clcw}
use Rattle.simulated_link.proofs.Common.{ClcwFault, SegmentView, Alert, Idle, S1, S6, clcw_step, report_while_active}
use Rattle.simulated_link.proofs.Common.{IsActive, goes_on, FopState, FopOutcome, TmFault, Extracted, extract_step}
use Rattle.simulated_link.proofs.Common.{Heard, GroundState, GroundOutcome, with_fop, after_extraction}
use Rattle.simulated_link.proofs.Common.{own_frame_outcome, telemetry_outcome, ◌≢◌, ◌≤◌, ◌<◌, ℕ, ◌+◌, List, [], ◌∷◌}
use Rattle.simulated_link.proofs.Common.{◌++◌, length, map, drop, Some, option_map, ap, arith, length-append}
use Rattle.simulated_link.proofs.Common.{length-drop, ltb-false, eq-eqb, length-map, On, ahead_by, CopFault, Directive}
use Rattle.simulated_link.proofs.Common.{S2, S3, directive_step, PulledUnit, pull_step, SentUnit, unmarked_unit}
use Rattle.simulated_link.proofs.Common.{marked_unit, after_move_on, after_new_value, retransmits, tick_step}
use Rattle.simulated_link.proofs.Common.{after_acknowledge, after_repeat, after_alert, after_stop, Config, LinkFault}
use Rattle.simulated_link.proofs.Common.{refill_step, unless_refused, after_submission, frame_to_send, is_initiation}
use Rattle.simulated_link.proofs.Common.{first_in, is_closed, obeyed, begun, ticked, pulled_out, heard_active, Bool}
use Rattle.tc_frame.specs.Layout as command_layout
use Rattle.tc_frame.specs.Encoding.{spelling}
use Rattle.clcw.specs.Decoding.{clcw_at}
use Rattle.tm_link.specs.Layout.{FrameView}
use Rattle.tm_link.specs.Layout as telemetry
use Rattle.cop1.specs.Units.{IsFop}
use Rattle.cop1.specs.FopWords.{is_outside}
use Rattle.nodes.specs.Ground.{after_report, acknowledging, report_outcome, is_own_telemetry}
use Rattle.nodes.specs.declared.heard.HeardClcw.{HeardClcw}
use Rattle.nodes.specs.Fates.{with_submission, after_obeying}
use Rattle.nodes.specs.Ground as ground
pub use Rattle.nodes.proofs.Owed.{IsConfirming, IsCause, AtEachState, reported}
use Rattle.nodes.proofs.Owed.{without_mark}

-- What arriving telemetry may do at the ground.

-- ---- the telemetry

pub record AtEachFrame (s : GroundState) (P : GroundState → Type 0) : Type 0 where
  pub same : P s
  pub extracts : (x : Extracted) → P (after_extraction s x)
  pub uses : (x : Extracted) (report : Clcw) → P (after_report (after_extraction s x) (clcw_step s.fop report))

-- for a CLCW, from a frame or by itself
pub report_seen : (s : GroundState) (P : GroundState → Type 0) → P s
    → ((report : Clcw) → P (after_report s (clcw_step s.fop report))) → (r : Result Clcw ClcwFault)
    → P (report_outcome s r).after
report_seen s P same uses (Err fault) = same
report_seen s P same uses (Ok report) =
    cond_both (report.vcid == s.config.vcid) _ _ (λ (o : GroundOutcome HeardClcw). P o.after) (λ t. uses report)
    (λ t. same)

module _ (s : GroundState) (P : GroundState → Type 0) (each : AtEachFrame s P) where
  word_seen : (x : Extracted) (r : Result Clcw ClcwFault) → P (own_frame_outcome s x r).after
  word_seen x r = report_seen (after_extraction s x) P (each.extracts x) (each.uses x) r

  pub frame_seen : (r : Result FrameView TmFault) → P (telemetry_outcome s r).after
  frame_seen (Err fault) = each.same
  frame_seen (Ok frame) =
      cond_both (is_own_telemetry s.config frame) _ _ (λ (o : GroundOutcome Heard). P o.after)
      (λ t. word_seen (extract_step s.extractor frame) (clcw_at frame.ocf)) (λ t. each.same)

-- Acknowledged units have left the sent queue, and the units in the sent queue were sent.

-- ---- the sender's queue

abbrev Units : Type 0
Units = List (SentUnit SegmentView)

-- the queue is no longer than it was
abbrev IsShorter : {A : Type 0} → FopState SegmentView → FopOutcome SegmentView A → Type 0
IsShorter f o = length o.after.sent ≤ length f.sent

module _ (f : FopState SegmentView) where
  no_longer : (g : FopState SegmentView) → g.sent ≡ map marked_unit f.sent → length g.sent ≤ length f.sent
  no_longer g is = omega (arith, ap length is, length-map f.sent marked_unit)

  ticked_shorter : IsShorter f (tick_step f)
  ticked_shorter =
      let same : length f.sent ≤ length f.sent = omega arith in
      let none : 0 ≤ length f.sent = omega arith in
      ticked f (λ o. IsShorter f o) (assumption (same, none, no_longer (after_repeat (after_stop f)) refl))

  -- an initiation leaves the queue empty
  begun_sent : (d : Directive) → is_initiation d ≡ true → (begun f d).sent ≡ []
  begun_sent d is = grind arith

  directed_shorter : (d : Directive) → IsShorter f (directive_step f d)
  directed_shorter = obeyed f (λ d o. IsShorter f o) (record {
    refused = λ d fault on. omega arith;
    begins = λ d is off. omega (arith, ap length (begun_sent d is));
    terminated = omega arith;
    numbers = λ x off. omega arith;
    sets = λ d k n ticks plain most. omega arith;
  })

-- ---- a pull: the queue gains at most the unit that is sent for the first time

module _ (c : Config) (f : FopState SegmentView) where
  abbrev IsPutFirst : FopOutcome SegmentView (PulledUnit SegmentView) → Type 0
  IsPutFirst o = length o.after.sent ≤ length f.sent + length (first_in f.vs (frame_to_send c o.answer))

  put_first : IsPutFirst (pull_step f)
  put_first = pulled_out f IsPutFirst (record {
    none = omega arith;
    command = λ command is. omega arith;
    bypass = λ u us is. omega arith;
    again = λ active x is. omega (arith, without_mark f.sent);
    first = λ active u is room.
        rw (eq-eqb f.vs f.vs refl) (omega (arith, length-append f.sent (unmarked_unit u ∷ [])));
  })

-- ---- a CLCW: at least as many units leave the queue as NN(R) moves

module _ (f : FopState SegmentView) (fop : IsFop f) (octet : f.nn < 256) (r : Clcw) where
  abbrev IsGone : FopOutcome SegmentView (Option Alert) → Type 0
  IsGone o = ahead_by o.after.nn f.nn + length o.after.sent ≤ length f.sent

  none_ahead : ahead_by f.nn f.nn ≡ 0
  none_ahead = omega arith

  stays : (g : FopState SegmentView) → g.nn ≡ f.nn → length g.sent ≤ length f.sent
      → ahead_by g.nn f.nn + length g.sent ≤ length f.sent
  stays g nn le = rw nn (omega (arith, none_ahead))

  goes : (g : FopState SegmentView) → f.state ≢ S6 → is_outside f r.value ≡ false → g.nn ≡ r.value
      → length g.sent ≤ length (drop (ahead_by r.value f.nn) f.sent)
      → ahead_by g.nn f.nn + length g.sent ≤ length f.sent
  goes g active inside nn le =
      let below = ltb-false (ahead_by f.vs f.nn) (ahead_by r.value f.nn) inside in
      rw nn (omega (arith, fop.numbered active, length-drop (ahead_by r.value f.nn) f.sent))

  again_gone : (repeats : Bool) → IsGone (goes_on (retransmits f repeats))
  again_gone true = stays (record (after_repeat f) { state = S2 }) refl (no_longer f (after_repeat f) refl)
  again_gone false = stays (record f { state = S2 }) refl (omega arith)

  active_gone : f.state ≢ S6 → IsGone (report_while_active f r)
  active_gone active =
      let left : Units = drop (ahead_by r.value f.nn) f.sent in
      heard_active f r IsGone (record {
        locked = λ t. stays (after_alert f) refl (omega arith);
        outside = λ t. stays (after_alert f) refl (omega arith);
        wait_flag = λ none waiting. stays (after_alert f) refl (omega arith);
        asks_none = λ asking at. stays (after_alert f) refl (omega arith);
        same = stays f refl (omega arith);
        ceases = λ none at were. stays (after_alert f) refl (omega arith);
        moves = λ inside. goes (after_move_on (after_acknowledge f r.value)) active inside refl (omega arith);
        others_over = λ inside asking one. goes (after_alert (after_new_value f r.value)) active inside refl
            (omega arith);
        others_wait = λ inside asking. goes (record (after_new_value f r.value) { state = S3 }) active inside refl
            (omega arith);
        others_again = λ inside asking. goes (record (after_repeat (after_new_value f r.value)) { state = S2 }) active
            inside refl (omega (arith, length-map left marked_unit));
        all_over = λ asking one. stays (after_alert f) refl (omega arith);
        all_wait = λ asking. stays (record f { state = S3 }) refl (omega arith);
        all_again = λ asking. again_gone;
      })

  pub report_gone : IsGone (clcw_step f r)
  report_gone = reported f r IsGone (record {
    active = λ runs. active_gone (λ off. let no : IsActive S6 = rw off at runs in absurd no);
    alerted = λ is x cause. stays (after_alert f) refl (omega arith);
    checked = λ is confirms. stays (record f { state = S1; ticks = None }) refl (omega arith);
    commanded = λ is confirms. stays (record f { state = S1; ticks = None; control = Idle }) refl (omega arith);
    same = stays f refl (omega arith);
  })

-- ---- the ground

module _ (s : GroundState) where
  -- the queue and NN(R) are as they were
  abbrev IsAsSent : GroundState → Type 0
  IsAsSent t = (t.fop.sent ≡ s.fop.sent) × (t.fop.nn ≡ s.fop.nn)

  moved_sent : (o : Option SegmentView) (ps : List SegmentView) → IsAsSent (ground.after_moving_up s o ps)
  moved_sent (Some u) ps = (refl, refl)
  moved_sent None [] = (refl, refl)
  moved_sent None (u ∷ ps) = (refl, refl)

  refilled_sent : IsAsSent (refill_step s)
  refilled_sent =
      cond_both (is_closed s.fop.state) (record s { pending = [] }) (ground.after_moving_up s s.fop.waiting s.pending)
      IsAsSent (λ off. (refl, refl)) (λ on. moved_sent s.fop.waiting s.pending)

with_sent : (s : GroundState) (f : FopState SegmentView) → (with_fop s f).fop.sent ≡ f.sent
with_sent s f = (refilled_sent (record s { fop = f })).0

pub submit_same : (s : GroundState) (m : ℕ) (octets : List ℕ) (o : Option LinkFault)
    → (unless_refused o s (after_submission s m octets)).after.fop.sent ≡ s.fop.sent
submit_same s m octets None =
    (refilled_sent (record s {
      pending = s.pending ++ ground.segments_on s m octets;
      fates = with_submission (length (ground.segments_on s m octets)) s.fates;
    })).0
submit_same s m octets (Some fault) = refl

pub tick_shorter : (s : GroundState) → length (ground.ground_tick s).after.fop.sent ≤ length s.fop.sent
tick_shorter s = omega (arith, ap length (with_sent s (tick_step s.fop).after), ticked_shorter s.fop)

pub pull_first : (s : GroundState)
    → length (ground.ground_pull s).after.fop.sent ≤ length s.fop.sent
    + length (first_in s.fop.vs (ground.ground_pull s).answer)
pull_first s =
    omega (arith, ap length (with_sent s (pull_step s.fop).after), put_first s.config s.fop)

directed_short : (s : GroundState) (d : Directive) (f : FopState SegmentView) (r : Result (Option Alert) CopFault)
    → length f.sent ≤ length s.fop.sent → length (ground.after_directive s d r f).fop.sent ≤ length s.fop.sent
directed_short s d f (Ok a) le =
    omega (arith, ap length (with_sent (record s { fates = after_obeying s.fates d }) f), le)
directed_short s d f (Err fault) le = omega arith

pub directive_shorter : (s : GroundState) (d : Directive)
    → length (ground.ground_directive s d).after.fop.sent ≤ length s.fop.sent
directive_shorter s d =
    directed_short s d (directive_step s.fop d).after (directive_step s.fop d).answer (directed_shorter s.fop d)

module _ (s : GroundState) (fop : IsFop s.fop) (octet : s.fop.nn < 256) where
  abbrev IsLess : GroundState → Type 0
  IsLess t = ahead_by t.fop.nn s.fop.nn + length t.fop.sent ≤ length s.fop.sent

  same_less : (t : GroundState) → t.fop ≡ s.fop → IsLess t
  same_less t is = rw is (omega (arith, none_ahead s.fop fop octet))

  refilled_less : (t : GroundState) → IsLess t → IsLess (refill_step t)
  refilled_less t le = let is = refilled_sent t in rw (is.0, is.1) le

  -- when octets arrive
  pub heard_less : (r : Result telemetry.FrameView TmFault) → IsLess (telemetry_outcome s r).after
  heard_less = frame_seen s IsLess (record {
    same = same_less s refl;
    extracts = λ x. same_less (after_extraction s x) refl;
    uses = λ x report.
        let o = clcw_step s.fop report in
        refilled_less (record (acknowledging (after_extraction s x) o) { fop = o.after })
        (report_gone s.fop fop octet report);
  })

  -- when a CLCW arrives by itself
  pub word_less : (r : Result Clcw ClcwFault) → IsLess (ground.report_outcome s r).after
  word_less = report_seen s IsLess (same_less s refl) (λ report.
      let o = clcw_step s.fop report in
      refilled_less (record (acknowledging s o) { fop = o.after }) (report_gone s.fop fop octet report))

-- ---- no unit is sent for the first time if no frame is sent

pub nothing_first : (vs : ℕ) (o : Option command_layout.FrameView) → None ≡ option_map (spelling On) o
    → first_in vs o ≡ []
nothing_first vs None is = refl
nothing_first vs (Some f) is = absurd cc
