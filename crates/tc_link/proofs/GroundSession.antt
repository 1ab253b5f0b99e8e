-- In each session of a ground it holds outstanding what was submitted and is not acknowledged, whatever reaches it.
use Rattle.tc_link.proofs.Common.{◌≡◌, ◌<◌, ◌≤◌, ℕ, ◌+◌, Bool, true, false, List, [], ◌∷◌, ◌++◌, length, drop, Option}
use Rattle.tc_link.proofs.Common.{Some, None, Result, Ok, Err, refl, ap, sym, subst, ◌∙◌, arith, cond_both}
use Rattle.tc_link.proofs.Common.{option_to_list, append-nil, append_assoc, length-append, length-map, length-drop}
use Rattle.tc_link.proofs.Common.{drop-append-le, ltb-false}
use Rattle.tc_link.proofs.Common.{AllByRecursion, ◌==◌, Clcw, ClcwFault, TmFault, SegmentView, Idle, Directive}
use Rattle.tc_link.proofs.Common.{Alert, CopFault, ahead_by, FopState, FopOutcome, S1, S3, S6, units_of}
use Rattle.tc_link.proofs.Common.{clcw_step, report_while_active, tick_step, pull_step, directive_step}
use Rattle.tc_link.proofs.Common.{retransmits, after_alert, after_stop, after_repeat, after_move_on, after_acknowledge}
use Rattle.tc_link.proofs.Common.{after_new_value, obeyed, begun, ticked, pulled_out, heard_active}
use Rattle.tc_link.proofs.Common.{is_initiation, InitUnlock, SetVs, active_on}
use Rattle.tc_link.proofs.Common.{Config, IsConfig, PacketOn, packet_on, LinkFault, IsDirective, GroundState}
use Rattle.tc_link.proofs.Common.{GroundOutcome, is_closed, closed_is, closed_not, refill_step, unless_refused}
use Rattle.tc_link.proofs.Common.{submit_fault, bypass_fault, after_submission, after_bypass, submitting, obeying}
use Rattle.tc_link.proofs.Common.{segments_of, segments_on, acknowledging, after_report, telemetry_outcome}
use Rattle.tc_link.proofs.Common.{extract_step, ExtractorState, directive_outcome}
use Rattle.std.specs.Prelude.{IfOk}
use Rattle.octets.specs.Number.{IsOctets}
use Rattle.clcw.specs.Decoding.{clcw_at}
use Rattle.tm_link.specs.Layout as telemetry
use Rattle.tm_link.specs.Decoding as telemetry_reading
use Rattle.cop1.specs.FopPull.{after_send_first}
use Rattle.cop1.specs.FopWords.{is_outside}
use Rattle.nodes.specs.Ground.{GroundEvent, Submit, Bypass, Direct, Resume, Pull, Tick, Telemetry, ControlWord}
use Rattle.nodes.specs.Ground.{TakeTelemetry, ForgetTelemetry, ground_step, ground_directive, ground_take_telemetry}
use Rattle.nodes.specs.Ground.{after_directive, new_ground, report_outcome}
use Rattle.nodes.specs.Ground.{is_own_telemetry}
use Rattle.nodes.specs.declared.heard.Heard.{Heard}
use Rattle.nodes.specs.declared.heard.HeardClcw.{HeardClcw}
use Rattle.nodes.specs.declared.ground_node.kept.KeptGround.{KeptGround}
use Rattle.nodes.specs.KeptGround.{opened_at}
use Rattle.nodes.proofs.Resuming.{resumed_or, resumed_known, known_off}
use Rattle.simulated_link.proofs.Counted.{reported}
use Rattle.tc_link.specs.Repeated.{ground_run}
use Rattle.tc_link.specs.GroundSession.{GroundSession, begun_at, after_call, session_step, session_run, IsCall}
use Rattle.tc_link.specs.GroundSession.{BeginsHere, BeginsNoOther, GoesOn, IsFirst, fresh, opened}
use Rattle.tc_link.specs.GroundSession.{EachHoldsWhatIsNotAcknowledged}
use Rattle.tc_link.proofs.Linked.{units_of_all}
use Rattle.tc_link.proofs.Lists.{drop_on, units-marked, units-drop, units-push as units-sent, units-without}
use Rattle.tc_link.proofs.OctetsRead.{FineTelemetry, telemetry_fine}
use Rattle.tc_link.proofs.ProgressNumbers.{Numbered, queued_numbers, report_numbers, tick_numbers, pull_numbers}
use Rattle.tc_link.proofs.ProgressNumbers.{directive_numbers}
use Rattle.tc_link.proofs.ProgressSender.{with_kept, directed_kept}
use Rattle.tc_link.proofs.Refilled.{refilled_keeps, called}
use Rattle.tc_link.proofs.Repeated.{word_octet}
use Rattle.tc_link.proofs.Sound.{GroundNodeSteady, Commanded, new_sound, refilled_so, report_so, with_so, directive_so}
use Rattle.tc_link.proofs.Sound.{bypassed_so, tick_so, pull_so, units-push}

-- ---- what holds of a ground after any calls

pub record Firm (c : Config) (s : GroundState) : Type 0 where
  pub steady : GroundNodeSteady c s
  pub numbers : Numbered s.fop

-- a CLCW whose value is an octet, or none, arrives
module _ (s : GroundState) (P : GroundState → Type 0)
    (takes : (x : ExtractorState) (packets : List (List ℕ)) → P (record s { extractor = x; telemetry = packets }))
    (hears : (x : ExtractorState) (packets : List (List ℕ)) (r : Clcw) → r.value < 256
    → P (after_report (record s { extractor = x; telemetry = packets }) (clcw_step s.fop r))) where
  word_comes : (x : ExtractorState) (packets : List (List ℕ)) (r : Result Clcw ClcwFault)
      → IfOk r (λ r. r.value < 256)
      → P (report_outcome (record s { extractor = x; telemetry = packets }) r).after
  word_comes x packets (Err fault) octet = takes x packets
  word_comes x packets (Ok r) octet =
      cond_both (r.vcid == s.config.vcid) _ _ (λ (o : GroundOutcome HeardClcw). P o.after)
      (λ t. hears x packets r octet) (λ t. takes x packets)

  frame_comes : (r : Result telemetry.FrameView TmFault) → FineTelemetry r → P (telemetry_outcome s r).after
  frame_comes (Err fault) fine = takes s.extractor s.telemetry
  frame_comes (Ok frame) fine =
      cond_both (is_own_telemetry s.config frame) _ _ (λ (o : GroundOutcome Heard). P o.after)
      (λ t. let x = extract_step s.extractor frame in
      word_comes x.after (s.telemetry ++ x.packets) (clcw_at frame.ocf) (word_octet frame.ocf fine))
      (λ t. takes s.extractor s.telemetry)

  -- octets that are octets
  pub telemetry_comes : (octets : List ℕ) → IsOctets octets → P (ground_step s (Telemetry octets)).after
  telemetry_comes octets are =
      frame_comes (telemetry_reading.frame_at s.config.frame_length octets)
      (telemetry_fine s.config.frame_length octets are)

  pub control_word_comes : (octets : List ℕ) → IsOctets octets → P (ground_step s (ControlWord octets)).after
  control_word_comes octets are = word_comes s.extractor s.telemetry (clcw_at octets) (word_octet octets are)

module _ (c : Config) (ranges : IsConfig c) where
  module _ (s : GroundState) (k : Firm c s) where
    off_idle : s.fop.state ≡ S6 → s.fop.control ≡ Idle
    off_idle off = let idle : Commanded S6 s.fop.control = rw off at k.steady.fop.commanded in idle

    pub directed_firm : (d : Directive) → IsDirective d → Firm c (ground_directive s d).after
    directed_firm d fits = record {
      steady = directive_so c s k.steady d fits;
      numbers = directed_kept Numbered queued_numbers s k.numbers d (directive_step s.fop d).answer _
          (directive_numbers s.fop k.numbers off_idle d fits);
    }

    heard_firm : (x : ExtractorState) (packets : List (List ℕ)) (r : Clcw) → r.value < 256
        → Firm c (after_report (record s { extractor = x; telemetry = packets }) (clcw_step s.fop r))
    heard_firm x packets r octet =
        let f : FopState SegmentView = (clcw_step s.fop r).after in
        let t : GroundState = acknowledging (record s { extractor = x; telemetry = packets }) (clcw_step s.fop r) in
        record {
          steady = refilled_so c (record t { fop = f }) k.steady.config (report_so c s.fop k.steady.fop r);
          numbers = with_kept Numbered queued_numbers t f (report_numbers s.fop k.numbers r octet);
        }

    taken_firm : (x : ExtractorState) (packets : List (List ℕ))
        → Firm c (record s { extractor = x; telemetry = packets })
    taken_firm x packets = record { steady = assumption k.steady; numbers = k.numbers }

  pub call_firm : (s : GroundState) → Firm c s → (e : GroundEvent) → IsCall e → Firm c (ground_step s e).after
  call_firm s k (Direct d) fits = directed_firm s k d fits
  call_firm s k (Resume value) fits =
      resumed_or s value (λ (o : GroundOutcome (Result ℕ LinkFault)). Firm c o.after)
      (λ whole known can. directed_firm (ground_directive s (SetVs value)).after (directed_firm s k (SetVs value) fits)
      InitUnlock tt) (λ t. k)
  call_firm s k (Telemetry octets) are = telemetry_comes s (Firm c) (taken_firm s k) (heard_firm s k) octets are
  call_firm s k (ControlWord octets) are = control_word_comes s (Firm c) (taken_firm s k) (heard_firm s k) octets are
  call_firm s k e fits =
      let most : s.fop.window ≤ 127 = omega (arith, k.steady.fop.window, ranges.width) in
      called s (Firm c) e (record {
        same = k;
        submits = λ m octets is none. record {
          steady = refilled_so c (submitting s m octets) k.steady.config k.steady.fop;
          numbers = with_kept Numbered queued_numbers (submitting s m octets) s.fop k.numbers;
        };
        bypasses = λ m octets is none. record {
          steady = bypassed_so c s k.steady ranges m octets none;
          numbers = assumption k.numbers;
        };
        directs = λ d is. absurd (cc is);
        resumes = λ value is. absurd (cc is);
        pulls = record {
          steady = with_so c s k.steady (pull_step s.fop).after (pull_so c s.fop k.steady.fop);
          numbers = with_kept Numbered queued_numbers s (pull_step s.fop).after
              (pull_numbers s.fop k.numbers most);
        };
        ticks = record {
          steady = with_so c s k.steady (tick_step s.fop).after (tick_so c s.fop k.steady.fop);
          numbers = with_kept Numbered queued_numbers s (tick_step s.fop).after (tick_numbers s.fop k.numbers);
        };
        takes = taken_firm s k;
        hears = λ heard. elim heard [ ];
      })

  pub run_firm : (es : List GroundEvent) (s : GroundState) → Firm c s → AllByRecursion IsCall es
      → Firm c (ground_run s es)
  run_firm [] s k fits = k
  run_firm (e ∷ es) s k fits = run_firm es (ground_step s e).after (call_firm s k e fits.0) fits.1

  new_firm : Firm c (new_ground c)
  new_firm = record {
    steady = (new_sound c ranges).ground_node;
    numbers = record {
      vs = omega arith;
      nn = omega arith;
      command = tt;
      numbered = λ on. absurd cc;
      most = omega arith;
    };
  }

  opened_firm : (kept : KeptGround) → kept.vs < 256 → kept.nn < 256 → Firm c (opened_at c kept)
  opened_firm kept vs nn = record {
    steady = assumption (vs, new_firm.steady);
    numbers = record { vs = vs; nn = nn; command = tt; numbered = λ on. absurd cc; most = omega arith };
  }

  pub first_firm : (s : GroundState) → IsFirst c s → Firm c s
  first_firm s fresh = new_firm
  first_firm s (opened kept vs nn) = opened_firm kept vs nn

-- ---- what the ground holds

-- of the segments of these submissions so many are acknowledged, and while the sender is on it holds the others
pub record Owes (c : Config) (f : FopState SegmentView) (pending : List SegmentView) (ps : List PacketOn) (a : ℕ) :
    Type 0 where
  pub most : a ≤ length (units_of_all c ps)
  pub held : is_closed f.state ≡ false
      → units_of f.sent ++ (option_to_list f.waiting ++ pending) ≡ drop a (units_of_all c ps)

abbrev pub OwesAt : Config → GroundSession → Type 0
OwesAt c l = Owes c l.ground_node.fop l.ground_node.pending l.submissions l.acknowledged

pub refilled_owes : (c : Config) (s : GroundState) (ps : List PacketOn) (a : ℕ) → Owes c s.fop s.pending ps a
    → Owes c (refill_step s).fop (refill_step s).pending ps a
refilled_owes c s ps a t =
    refilled_keeps (λ v. Owes c v.fop v.pending ps a) s (λ waiting pending on off. record {
      most = t.most;
      held = λ runs. ap (λ (xs : List SegmentView). units_of s.fop.sent ++ xs) (on runs) ∙ t.held runs;
    })

-- the sender gave up
off_owes : (c : Config) (f : FopState SegmentView) (pending : List SegmentView) (ps : List PacketOn) (a : ℕ)
    → is_closed f.state ≡ true → a ≤ length (units_of_all c ps) → Owes c f pending ps a
off_owes c f pending ps a off most = record { most = most; held = λ on. absurd (cc (off, on)) }

module _ (c : Config) (s : FopState SegmentView) (k : Numbered s) (pending : List SegmentView) (ps : List PacketOn)
    (a : ℕ) (t : Owes c s pending ps a) where
  abbrev U : List SegmentView
  U = units_of_all c ps

  abbrev Still : {A : Type 0} → FopOutcome SegmentView A → Type 0
  Still o = Owes c o.after pending ps a

  -- the same units are outstanding
  same_owes : (f : FopState SegmentView) → (is_closed f.state ≡ false → is_closed s.state ≡ false)
      → units_of f.sent ++ option_to_list f.waiting ≡ units_of s.sent ++ option_to_list s.waiting
      → Owes c f pending ps a
  same_owes f on same = record {
    most = t.most;
    held = λ runs.
        sym (append_assoc (units_of f.sent) (option_to_list f.waiting) pending)
        ∙ ap (λ (xs : List SegmentView). xs ++ pending) same
        ∙ append_assoc (units_of s.sent) (option_to_list s.waiting) pending ∙ t.held (on runs);
  }

  kept_owes : (f : FopState SegmentView) → (is_closed f.state ≡ false → is_closed s.state ≡ false)
      → units_of f.sent ≡ units_of s.sent → f.waiting ≡ s.waiting → Owes c f pending ps a
  kept_owes f on sent waiting =
      same_owes f on (ap (λ (xs : List SegmentView). xs ++ option_to_list f.waiting) sent
      ∙ ap (λ (o : Option SegmentView). units_of s.sent ++ option_to_list o) waiting)

  over_owes : (f : FopState SegmentView) → Owes c (after_alert f) pending ps a
  over_owes f = off_owes c (after_alert f) pending ps a refl t.most

  tick_owes : Still (tick_step s)
  tick_owes = ticked s Still (record {
    off = t;
    runs = λ left. kept_owes (record s { ticks = Some left }) (λ on. on) refl refl;
    stops = kept_owes (after_stop s) (λ on. on) refl refl;
    repeats = λ active. kept_owes (after_repeat (after_stop s)) (λ on. on) (units-marked s.sent) refl;
    counts = kept_owes _ (λ on. on) refl refl;
    commands = λ is. kept_owes _ (λ on. on) refl refl;
    gives_up = over_owes (after_stop s);
  })

  pull_owes : Still (pull_step s)
  pull_owes = pulled_out s Still (record {
    none = t;
    command = λ command is. kept_owes _ (λ on. on) refl refl;
    bypass = λ u us is. kept_owes _ (λ on. on) refl refl;
    again = λ active x is. kept_owes _ (λ on. on) (units-without s.sent) refl;
    first = λ active u is room. same_owes (after_send_first s u) (λ on. on)
        (append-nil (units_of (after_send_first s u).sent) ∙ units-sent s.sent u
        ∙ ap (λ (o : Option SegmentView). units_of s.sent ++ option_to_list o) (sym is));
  })

  -- a directive that begins no session
  directed_owes : (d : Directive) → (is_initiation d ≡ true → is_closed s.state ≡ false) → Still (directive_step s d)
  directed_owes = obeyed s (λ d o. (is_initiation d ≡ true → is_closed s.state ≡ false) → Still o) (record {
    refused = λ d fault on goes. t;
    begins = λ d is off goes. closed_not s.state off (goes is);
    terminated = λ goes. over_owes s;
    numbers = λ x is goes. kept_owes _ (λ on. on) refl refl;
    sets = λ d n limit ticks plain most goes. kept_owes _ (λ on. on) refl refl;
  })

  -- ---- a CLCW

  module _ (r : Clcw) where
    abbrev Acknowledges : FopOutcome SegmentView (Option Alert) → Type 0
    Acknowledges o = Owes c o.after pending ps (a + ahead_by o.after.nn s.nn)

    -- it acknowledges nothing
    none_gone : (f : FopState SegmentView) → f.nn ≡ s.nn → Owes c f pending ps a
        → Owes c f pending ps (a + ahead_by f.nn s.nn)
    none_gone f nn so =
        let none : a ≡ a + ahead_by f.nn s.nn = omega (arith, nn, k.nn) in subst (Owes c f pending ps) none so

    over_none : Acknowledges (record { after = after_alert s; answer = None; gone = 0 })
    over_none = none_gone (after_alert s) refl (over_owes s)

    module _ (on : is_closed s.state ≡ false) (inside : is_outside s r.value ≡ false) where
      abbrev gone : ℕ
      gone = ahead_by r.value s.nn

      few : gone ≤ length s.sent
      few = omega (arith, ltb-false (ahead_by s.vs s.nn) gone inside, k.numbered on)

      rest : units_of s.sent ++ (option_to_list s.waiting ++ pending) ≡ drop a U
      rest = t.held on

      few_units : gone ≤ length (units_of s.sent)
      few_units = omega (arith, few, length-map s.sent (λ u. u.unit))

      gone_most : a + gone ≤ length U
      gone_most =
          omega (
            arith,
            few_units,
            t.most,
            ap length rest,
            length-append (units_of s.sent) (option_to_list s.waiting ++ pending),
            length-drop a U,
          )

      gone_owes : (f : FopState SegmentView) → units_of f.sent ≡ units_of (drop gone s.sent)
          → f.waiting ≡ s.waiting → Owes c f pending ps (a + gone)
      gone_owes f sent waiting = record {
        most = gone_most;
        held = λ runs.
            ap (λ (xs : List SegmentView). xs ++ (option_to_list f.waiting ++ pending))
            (sent ∙ units-drop gone s.sent)
            ∙ ap (λ (o : Option SegmentView). drop gone (units_of s.sent) ++ (option_to_list o ++ pending)) waiting
            ∙ sym (drop-append-le gone (units_of s.sent) (option_to_list s.waiting ++ pending) few_units)
            ∙ ap (drop gone) rest ∙ drop_on a gone U;
      }

    again_owes : is_closed s.state ≡ false → (again : Bool) → Owes c (retransmits s again) pending ps a
    again_owes on true = kept_owes (retransmits s true) (λ t. on) (units-marked s.sent) refl
    again_owes on false = kept_owes (retransmits s false) (λ t. on) refl refl

    again_none : is_closed s.state ≡ false → (again : Bool)
        → Owes c (retransmits s again) pending ps (a + ahead_by (retransmits s again).nn s.nn)
    again_none on true = none_gone (retransmits s true) refl (again_owes on true)
    again_none on false = none_gone (retransmits s false) refl (again_owes on false)

    active_owes : is_closed s.state ≡ false → Acknowledges (report_while_active s r)
    active_owes on = heard_active s r Acknowledges (record {
      locked = λ t. over_none;
      outside = λ t. over_none;
      wait_flag = λ none waiting. over_none;
      asks_none = λ asking at. over_none;
      same = none_gone s refl t;
      ceases = λ none at were. over_none;
      moves = λ inside. gone_owes on inside (after_move_on (after_acknowledge s r.value)) refl refl;
      others_over = λ inside asking one. off_owes c (after_alert (after_new_value s r.value)) pending ps _ refl
          (gone_most on inside);
      others_wait = λ inside asking. gone_owes on inside (record (after_new_value s r.value) { state = S3 }) refl refl;
      others_again = λ inside asking. gone_owes on inside (retransmits (after_new_value s r.value) true)
          (units-marked (drop (ahead_by r.value s.nn) s.sent)) refl;
      all_over = λ asking one. over_none;
      all_wait = λ asking. none_gone (record s { state = S3 }) refl
          (kept_owes (record s { state = S3 }) (λ t. on) refl refl);
      all_again = λ asking. again_none on;
    })

    pub report_owes : Acknowledges (clcw_step s r)
    report_owes = reported s r Acknowledges (record {
      active = λ active. active_owes (active_on s.state active);
      alerted = λ is x cause. over_none;
      checked = λ is confirms. none_gone (record s { state = S1; ticks = None }) refl
          (kept_owes (record s { state = S1; ticks = None }) (λ t. rw is refl) refl refl);
      commanded = λ is confirms. none_gone (record s { state = S1; ticks = None; control = Idle }) refl
          (kept_owes (record s { state = S1; ticks = None; control = Idle }) (λ t. rw is refl) refl refl);
      same = none_gone s refl t;
    })

-- ---- a call

-- a call that submits nothing and acknowledges nothing
plain_owes : (c : Config) (f : FopState SegmentView) (pending : List SegmentView) (ps : List PacketOn) (a : ℕ)
    → Owes c f pending ps a → Owes c f pending (ps ++ []) (a + 0)
plain_owes c f pending ps a t =
    let same : a ≡ a + 0 = omega arith in
    subst (λ (qs : List PacketOn). Owes c f pending qs (a + 0)) (sym (append-nil ps))
    (subst (Owes c f pending ps) same t)

module _ (c : Config) (l : GroundSession) (k : Firm c l.ground_node) (t : OwesAt c l) where
  abbrev s : GroundState
  s = l.ground_node

  abbrev After : (e : GroundEvent) → Type 0
  After e = OwesAt c (session_step l e)

  plain_after : (u : GroundState) → Owes c u.fop u.pending l.submissions l.acknowledged
      → Owes c u.fop u.pending (l.submissions ++ []) (l.acknowledged + 0)
  plain_after u = plain_owes c u.fop u.pending l.submissions l.acknowledged

  submitted_owes : (m : ℕ) (octets : List ℕ) → Owes c s.fop (s.pending ++ segments_on s m octets)
      (l.submissions ++ packet_on m octets ∷ []) l.acknowledged
  submitted_owes m octets =
      let new : List SegmentView = segments_of c.part m octets in
      let cut : segments_on s m octets ≡ new = ap (λ (x : Config). segments_of x.part m octets) k.steady.config in
      let U : List SegmentView = units_of_all c l.submissions in
      let V : List SegmentView = units_of_all c (l.submissions ++ packet_on m octets ∷ []) in
      let units : V ≡ U ++ new = units-push c l.submissions (packet_on m octets) in
      let sent : List SegmentView = units_of s.fop.sent in
      let waiting : List SegmentView = option_to_list s.fop.waiting in
      record {
        most = omega (arith, t.most, ap length units, length-append U new);
        held = λ on.
            ap (λ (xs : List SegmentView). sent ++ xs)
            (ap (λ (xs : List SegmentView). waiting ++ (s.pending ++ xs)) cut
            ∙ sym (append_assoc waiting s.pending new))
            ∙ sym (append_assoc sent (waiting ++ s.pending) new)
            ∙ ap (λ (xs : List SegmentView). xs ++ new) (t.held on)
            ∙ sym (drop-append-le l.acknowledged U new t.most) ∙ ap (drop l.acknowledged) (sym units);
      }

  submit_or : (m : ℕ) (octets : List ℕ) (fault : Option LinkFault)
      → OwesAt c (after_call l (Submit m octets) (unless_refused fault s (after_submission s m octets)))
  submit_or m octets (Some fault) = plain_after s t
  submit_or m octets None =
      let more : l.acknowledged ≡ l.acknowledged + 0 = omega arith in
      let ps : List PacketOn = l.submissions ++ packet_on m octets ∷ [] in
      subst (Owes c (after_submission s m octets).fop (after_submission s m octets).pending ps) more
      (refilled_owes c (submitting s m octets) ps l.acknowledged (submitted_owes m octets))

  bypass_or : (m : ℕ) (octets : List ℕ) (fault : Option LinkFault)
      → OwesAt c (after_call l (Bypass m octets) (unless_refused fault s (after_bypass s m octets)))
  bypass_or m octets (Some fault) = plain_after s t
  bypass_or m octets None =
      plain_after (after_bypass s m octets)
      (kept_owes c s.fop k.numbers s.pending l.submissions l.acknowledged t _ (λ on. on) refl refl)

  directed_or : (d : Directive) (r : Result (Option Alert) CopFault) (f : FopState SegmentView)
      → Owes c f s.pending l.submissions l.acknowledged
      → Owes c (after_directive s d r f).fop (after_directive s d r f).pending l.submissions l.acknowledged
  directed_or d (Ok alert) f so =
      refilled_owes c (record (obeying s d) { fop = f }) l.submissions l.acknowledged so
  directed_or d (Err fault) f so = t

  taken_or : (packets : List (List ℕ)) → let u = (ground_take_telemetry s packets).after in
      Owes c u.fop u.pending l.submissions l.acknowledged
  taken_or [] = t
  taken_or (packet ∷ left) = t

  -- a CLCW, or none
  abbrev Hears : GroundState → Type 0
  Hears u = Owes c u.fop u.pending (l.submissions ++ []) (l.acknowledged + ahead_by u.fop.nn s.fop.nn)

  hears_none : (x : ExtractorState) (packets : List (List ℕ)) → Hears (record s { extractor = x; telemetry = packets })
  hears_none x packets =
      subst (λ (ps : List PacketOn). Owes c s.fop s.pending ps (l.acknowledged + ahead_by s.fop.nn s.fop.nn))
      (sym (append-nil l.submissions))
      (let none : l.acknowledged ≡ l.acknowledged + ahead_by s.fop.nn s.fop.nn = omega (arith, k.numbers.nn) in
      subst (Owes c s.fop s.pending l.submissions) none t)

  hears : (x : ExtractorState) (packets : List (List ℕ)) (r : Clcw) → r.value < 256
      → Hears (after_report (record s { extractor = x; telemetry = packets }) (clcw_step s.fop r))
  hears x packets r octet =
      let f : FopState SegmentView = (clcw_step s.fop r).after in
      let u : GroundState = record (acknowledging (record s { extractor = x; telemetry = packets }) (clcw_step s.fop r))
      { fop = f } in
      let a : ℕ = l.acknowledged + ahead_by f.nn s.fop.nn in
      let nn : (refill_step u).fop.nn ≡ f.nn =
      refilled_keeps (λ v. v.fop.nn ≡ f.nn) u (λ waiting pending on off. refl) in
      subst (λ (ps : List PacketOn). Owes c (refill_step u).fop (refill_step u).pending ps
      (l.acknowledged + ahead_by (refill_step u).fop.nn s.fop.nn)) (sym (append-nil l.submissions))
      (rw nn (refilled_owes c u l.submissions a
      (report_owes c s.fop k.numbers s.pending l.submissions l.acknowledged t r)))

  pub call_owes : (e : GroundEvent) → IsCall e → BeginsNoOther s e → After e
  call_owes (Submit m octets) fits goes = submit_or m octets (submit_fault s m octets)
  call_owes (Bypass m octets) fits goes = bypass_or m octets (bypass_fault s m octets)
  call_owes (Direct d) fits goes =
      let o = directive_step s.fop d in
      plain_after (ground_directive s d).after (directed_or d o.answer o.after
      (directed_owes c s.fop k.numbers s.pending l.submissions l.acknowledged t d goes))
  call_owes (Resume value) fits goes =
      plain_after (ground_step s (Resume value)).after
      (resumed_or s value (λ (o : GroundOutcome (Result ℕ LinkFault)).
      Owes c o.after.fop o.after.pending l.submissions l.acknowledged)
      (λ whole known can. absurd (cc (can, goes))) (λ refused. t))
  call_owes Pull fits goes =
      plain_after (ground_step s Pull).after
      (refilled_owes c (record s { fop = (pull_step s.fop).after }) l.submissions l.acknowledged
      (pull_owes c s.fop k.numbers s.pending l.submissions l.acknowledged t))
  call_owes Tick fits goes =
      plain_after (ground_step s Tick).after
      (refilled_owes c (record s { fop = (tick_step s.fop).after }) l.submissions l.acknowledged
      (tick_owes c s.fop k.numbers s.pending l.submissions l.acknowledged t))
  call_owes (Telemetry octets) are goes = telemetry_comes s Hears hears_none hears octets are
  call_owes (ControlWord octets) are goes = control_word_comes s Hears hears_none hears octets are
  call_owes TakeTelemetry fits goes = plain_after (ground_step s TakeTelemetry).after (taken_or s.telemetry)
  call_owes ForgetTelemetry fits goes = plain_after (ground_step s ForgetTelemetry).after t

-- ---- the beginning

module _ (c : Config) (s : GroundState) (k : Firm c s) where
  abbrev Starts : Directive → FopOutcome SegmentView (Result (Option Alert) CopFault) → Type 0
  Starts d o = is_initiation d ≡ true → is_closed s.fop.state ≡ true
      → OwesAt c (begun_at (directive_outcome s d o).after)

  begun_none : (d : Directive) → is_initiation d ≡ true
      → ((begun s.fop d).sent ≡ []) × ((begun s.fop d).waiting ≡ None)
  begun_none d is = grind arith

  starts_owes : (d : Directive) → Starts d (directive_step s.fop d)
  starts_owes = obeyed s.fop Starts (record {
    refused = λ d fault on is off. absurd (on is (closed_is s.fop.state off));
    begins = λ d is off so closed.
        let none = begun_none d is in
        let pending : s.pending ≡ [] = k.steady.pending_none closed in
        refilled_owes c (record (obeying s d) { fop = begun s.fop d }) [] 0
        (record { most = omega arith; held = λ on. rw (none.0, none.1, pending) refl });
    terminated = λ is off. absurd cc;
    numbers = λ x same is off. absurd cc;
    sets = λ d n limit ticks plain most is off. absurd (cc (plain, is));
  })

-- V(S) is set in S6, which the sender does not leave
pub set_off : (s : GroundState) (value : ℕ) → is_closed s.fop.state ≡ true
    → is_closed (ground_directive s (SetVs value)).after.fop.state ≡ true
set_off s value off = let is = closed_is s.fop.state off in rw is refl

pub begins_owes : (c : Config) (ranges : IsConfig c) (s : GroundState) → Firm c s → (e : GroundEvent) → IsCall e
    → BeginsHere s e → OwesAt c (begun_at (ground_step s e).after)
begins_owes c ranges s k (Direct d) fits begins = starts_owes c s k d begins.0 begins.1
begins_owes c ranges s k (Resume value) fits can =
    let t : GroundState = (ground_directive s (SetVs value)).after in
    let known = resumed_known s value can in
    let off : is_closed s.fop.state ≡ true = known_off s value known.0 known.1 in
    subst (λ (o : GroundOutcome (Result ℕ LinkFault)). OwesAt c (begun_at o.after)) (sym known.2)
    (starts_owes c t (directed_firm c ranges s k (SetVs value) fits) InitUnlock refl (set_off s value off))
begins_owes c ranges s k _ fits begins = elim begins [ ]

-- ---- a session

pub run_owes : (c : Config) (ranges : IsConfig c) (es : List GroundEvent) (l : GroundSession) → Firm c l.ground_node
    → OwesAt c l → AllByRecursion IsCall es → GoesOn l.ground_node es → OwesAt c (session_run l es)
run_owes c ranges [] l k t fits goes = t
run_owes c ranges (e ∷ es) l k t fits goes =
    run_owes c ranges es (session_step l e) (call_firm c ranges l.ground_node k e fits.0)
    (call_owes c l k t e fits.0 goes.0) fits.1 goes.1

run_session : (c : Config) (ranges : IsConfig c) (es : List GroundEvent) (l : GroundSession) → Firm c l.ground_node
    → AllByRecursion IsCall es → Firm c (session_run l es).ground_node
run_session c ranges [] l k fits = k
run_session c ranges (e ∷ es) l k fits =
    run_session c ranges es (session_step l e) (call_firm c ranges l.ground_node k e fits.0) fits.1

pub each_holds_what_is_not_acknowledged : EachHoldsWhatIsNotAcknowledged
each_holds_what_is_not_acknowledged l r on =
    let c : Config = r.config in
    let s : GroundState = ground_run r.first r.before in
    let k = run_firm c r.ranges r.before r.first (first_firm c r.ranges r.first r.is_first) r.calls.0 in
    let start : GroundState = (ground_step s r.initiation).after in
    let firm = call_firm c r.ranges s k r.initiation r.calls.1 in
    let owes = begins_owes c r.ranges s k r.initiation r.calls.1 r.begins in
    let now = subst (OwesAt c) r.led
    (run_owes c r.ranges r.since (begun_at start) firm owes r.calls.2 r.goes_on) in
    let config = (subst (λ (l : GroundSession). Firm c l.ground_node) r.led
    (run_session c r.ranges r.since (begun_at start) firm r.calls.2)).steady.config in
    now.held on ∙ rw config refl
