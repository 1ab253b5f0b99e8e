-- Which resumptions are refused.
use Rattle.tc_link.proofs.Common.{◌≡◌, ℕ, Bool, true, false, List, [], ◌∷◌, Option, Some, None, Result, Ok, Err, refl}
use Rattle.tc_link.proofs.Common.{ap, sym, subst, ◌∙◌, inl, inr, cond_both, Directive, Alert}
use Rattle.tc_link.proofs.Common.{FopState, SegmentView, CopFault, Clcw, ClcwFault, TmFault, GroundState}
use Rattle.tc_link.proofs.Common.{GroundOutcome, is_closed, ticked}
use Rattle.tc_link.proofs.Common.{obeying, submitting, acknowledging, unless_refused, after_submission, after_bypass}
use Rattle.tc_link.proofs.Common.{submit_fault, bypass_fault, directive_step, tick_step, pull_step, clcw_step}
use Rattle.tc_link.proofs.Common.{telemetry_outcome, after_extraction, Fates, after_obeying, InitWithoutCheck}
use Rattle.tc_link.proofs.Common.{InitWithCheck, InitUnlock, InitSetVr, SetVs}
use Rattle.std.specs.Prelude.{◌==◌, ◌↔◌, ◌&&◌, not, nat_lt, IsSome, IsOk, IfErr, option_map}
use Rattle.std.proofs.lemmas.Bool.{eqb-true, eq-eqb, ltb-false, le-ltb}
use Rattle.clcw.specs.Decoding.{clcw_at}
use Rattle.tm_link.specs.Layout as telemetry
use Rattle.tm_link.specs.Decoding as telemetry_reading
use Rattle.tm_link.specs.Extractor.{extract_step}
use Rattle.cop1.specs.Accepted.{accepted_beyond}
use Rattle.cop1.specs.Modulo.{ahead_by}
use Rattle.nodes.specs.declared.fault.LinkFault.{LinkFault}
use Rattle.nodes.specs.declared.fault.LinkFault.TheVariants.{NotKnown}
use Rattle.nodes.specs.declared.heard.Heard.{Heard}
use Rattle.nodes.specs.declared.heard.HeardClcw.{HeardClcw}
use Rattle.nodes.specs.Fates.{shows_one, whole_with}
use Rattle.nodes.specs.Ground.{GroundEvent, Submit, Bypass, Direct, Resume, Pull, Tick, Telemetry, ControlWord}
use Rattle.nodes.specs.Ground.{TakeTelemetry, ForgetTelemetry, ground_step, ground_take_telemetry, after_directive}
use Rattle.nodes.specs.Ground.{report_outcome, is_own_telemetry, new_ground, known_on_board, known_at_end, can_resume}
use Rattle.nodes.specs.Ground.{after_resuming, resumed_from}
use Rattle.nodes.proofs.Resuming.{resumed_or, known_off}
use Rattle.tc_link.proofs.Resumed.{known_now}
use Rattle.simulated_link.specs.Replies.{heard_alert}
use Rattle.tc_link.specs.Repeated.{ground_run}
use Rattle.nodes.specs.KeptGround.{opened_at}
use Rattle.tc_link.specs.Resumable.{known_past, known_after, known_by, MayBeReported, EachKnowsExactly}
use Rattle.tc_link.specs.Resumable.{KnowsAfterCalls}
use Rattle.tc_link.proofs.Fates.{refilled_fates, with_fates}
use Rattle.tc_link.proofs.Invariant.{can_off}

-- ---- a call

module _ (s : GroundState) where
  abbrev kept : Bool
  kept = s.fates.kept

  -- the ground's bookkeeping is kept while a session is known
  abbrev Keeps : {A : Type 0} → Bool → GroundOutcome A → Type 0
  Keeps known o = o.after.fates.kept ≡ known

  refused_or : (fault : Option LinkFault) (next : GroundState) → next.fates.kept ≡ kept
      → Keeps kept (unless_refused fault s next)
  refused_or None next same = same
  refused_or (Some fault) next same = refl

  obeyed_known : (f : Fates) (d : Directive) → (after_obeying f d).kept ≡ known_past f.kept d
  obeyed_known f InitWithoutCheck = refl
  obeyed_known f InitWithCheck = refl
  obeyed_known f InitUnlock = refl
  obeyed_known f (InitSetVr x) = refl
  obeyed_known f (SetVs x) = refl
  obeyed_known f _ = refl

  directed_known : (d : Directive) (r : Result (Option Alert) CopFault) (f : FopState SegmentView)
      → (after_directive s d r f).fates.kept ≡ known_after kept (Direct d) r
  directed_known d (Ok alert) f =
      ap (λ (f : Fates). f.kept) (with_fates (obeying s d) f) ∙ obeyed_known s.fates d
  directed_known d (Err fault) f = refl

  -- the alert of a tick is the timer's
  tick_alert : shows_one (tick_step s.fop).answer ≡ false
  tick_alert = ticked s.fop (λ o. shows_one o.answer ≡ false) (record {
    off = refl;
    runs = λ left. refl;
    stops = refl;
    repeats = λ active. refl;
    counts = refl;
    commands = λ is. refl;
    gives_up = refl;
  })

  taken_known : (packets : List (List ℕ)) → Keeps kept (ground_take_telemetry s packets)
  taken_known [] = refl
  taken_known (packet ∷ left) = refl

  abbrev Resumes : ℕ → GroundOutcome (Result ℕ LinkFault) → Type 0
  Resumes value o = o.after.fates.kept ≡ known_after kept (Resume value) o.answer

  begins : (value : ℕ) → can_resume s value ≡ true → (after_resuming s value).fates.kept ≡ true
  begins value can = let off = can_off s value can in rw off refl

word_known : (s : GroundState) (r : Result Clcw ClcwFault)
    → let o = report_outcome s r in o.after.fates.kept ≡ not (shows_one o.answer.alert) && s.fates.kept
word_known s (Err fault) = refl
word_known s (Ok report) =
    cond_both (report.vcid == s.config.vcid) _ _
    (λ (o : GroundOutcome HeardClcw). o.after.fates.kept ≡ not (shows_one o.answer.alert) && s.fates.kept)
    (λ t. let o = clcw_step s.fop report in ap (λ (f : Fates). f.kept) (with_fates (acknowledging s o) o.after))
    (λ t. refl)

frame_known : (s : GroundState) (r : Result telemetry.FrameView TmFault)
    → let o = telemetry_outcome s r in o.after.fates.kept ≡ not (shows_one (heard_alert o.answer)) && s.fates.kept
frame_known s (Err fault) = refl
frame_known s (Ok frame) =
    cond_both (is_own_telemetry s.config frame) _ _
    (λ (o : GroundOutcome Heard). o.after.fates.kept ≡ not (shows_one (heard_alert o.answer)) && s.fates.kept)
    (λ t. word_known (after_extraction s (extract_step s.extractor frame)) (clcw_at frame.ocf)) (λ t. refl)

call_known : (s : GroundState) (e : GroundEvent)
    → (ground_step s e).after.fates.kept ≡ known_after s.fates.kept e (ground_step s e).answer
call_known s (Submit m octets) =
    refused_or s (submit_fault s m octets) (after_submission s m octets)
    (ap (λ (f : Fates). f.kept) (refilled_fates (submitting s m octets)))
call_known s (Bypass m octets) = refused_or s (bypass_fault s m octets) (after_bypass s m octets) refl
call_known s (Direct d) = let o = directive_step s.fop d in directed_known s d o.answer o.after
call_known s (Resume value) = resumed_or s value (Resumes s value) (λ whole known can. begins s value can) (λ t. refl)
call_known s Pull = ap (λ (f : Fates). f.kept) (with_fates s (pull_step s.fop).after)
call_known s Tick =
    ap (λ (f : Fates). f.kept) (with_fates s (tick_step s.fop).after) ∙ rw (tick_alert s) refl
call_known s (Telemetry octets) = frame_known s (telemetry_reading.frame_at s.config.frame_length octets)
call_known s (ControlWord octets) = word_known s (clcw_at octets)
call_known s TakeTelemetry = taken_known s s.telemetry
call_known s ForgetTelemetry = refl

-- ---- all calls

run_known : (es : List GroundEvent) (s : GroundState) → (ground_run s es).fates.kept ≡ known_by s.fates.kept s es
run_known [] s = refl
run_known (e ∷ es) s =
    run_known es (ground_step s e).after
    ∙ ap (λ (known : Bool). known_by known (ground_step s e).after es) (call_known s e)

-- ---- what it returns then

module _ (s : GroundState) (value : ℕ) where
  -- what a CLCW of this value shows
  said_so : IsSome (accepted_beyond s.fop.nn s.fop.vs value) ↔ MayBeReported s value
  said_so = (
    cond_both (s.fop.vs == s.fop.nn) _ _ (λ (o : Option ℕ). IsSome o → MayBeReported s value)
        (λ equal some. inl (eqb-true s.fop.vs s.fop.nn equal))
        (λ two. cond_both (nat_lt (ahead_by s.fop.vs s.fop.nn) (ahead_by value s.fop.nn)) _ _
        (λ (o : Option ℕ). IsSome o → MayBeReported s value) (λ over none. absurd (cc none))
        (λ within some. inr (ltb-false (ahead_by s.fop.vs s.fop.nn) (ahead_by value s.fop.nn) within))),
    λ may. elim may [
      | inl one ↦ rw (eq-eqb s.fop.vs s.fop.nn one) refl
      | inr within ↦ (
          let low = le-ltb (ahead_by s.fop.vs s.fop.nn) (ahead_by value s.fop.nn) within in
          cond_both (s.fop.vs == s.fop.nn) _ _ (λ (o : Option ℕ). IsSome o) (λ equal. refl) (λ two. rw low refl))
    ],
  )

  mapped : (f : ℕ → ℕ) (o : Option ℕ) → IsSome (option_map f o) ↔ IsSome o
  mapped f (Some n) = (λ some. some, λ some. some)
  mapped f None = (λ none. none, λ none. none)

  says_so : (known : Bool) → s.fates.kept ≡ known
      → IsSome (known_on_board s value) ↔ (known ≡ true) × MayBeReported s value
  says_so true is =
      let counted = mapped (λ k. whole_with k s.fates) (accepted_beyond s.fop.nn s.fop.vs value) in
      rw is (λ some. (refl, said_so.0 (counted.0 some)), λ may. counted.1 (said_so.1 may.1))
  says_so false is = rw is (λ none. absurd (cc none), λ may. absurd (cc (may.0)))

  resumes_so : (o : Option ℕ) → known_at_end s value ≡ o
      → (IsOk (resumed_from s value o).answer ↔ (is_closed s.fop.state ≡ true) × IsSome (known_on_board s value))
      × IfErr (resumed_from s value o).answer
      (λ fault. (fault ≡ NotKnown) × ((resumed_from s value o).after ≡ s))
  resumes_so (Some whole) is =
      let some = subst (λ (o : Option ℕ). IsSome o) (sym (known_now s value whole is)) refl in
      ((λ ok. (known_off s value whole is, some), λ both. refl), tt)
  resumes_so None is = (
    (
      λ never. absurd (cc never),
      λ both. absurd
          (let none : IsSome {T = ℕ} None = subst (λ (o : Option ℕ). IsSome o) (at_end both.0 is) both.1 in cc none),
    ),
    (refl, refl),
  ) where
    at_end : is_closed s.fop.state ≡ true → known_at_end s value ≡ None → known_on_board s value ≡ None
    at_end off none = cond_both (is_closed s.fop.state) (known_on_board s value) None
        (λ (o : Option ℕ). o ≡ None → known_on_board s value ≡ None) (λ t is. is) (λ on is. absurd (cc (on, off))) none

knows_after_calls : (first : GroundState) → KnowsAfterCalls first first.fates.kept
knows_after_calls first calls value =
    let s : GroundState = ground_run first calls in
    let resuming = resumes_so s value (known_at_end s value) refl in
    record {
      says = says_so s value (known_by first.fates.kept first calls) (run_known calls first);
      resumes = resuming.0;
      refuses = resuming.1;
    }

pub each_knows_exactly : EachKnowsExactly
each_knows_exactly = record {
  fresh = λ c. knows_after_calls (new_ground c);
  opened = λ c kept. knows_after_calls (opened_at c kept);
}
