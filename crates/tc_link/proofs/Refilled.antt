-- What is pending moves up, and what is known of the ground is still so.
use Rattle.tc_link.proofs.Common.{◌≡◌, ℕ, ◌+◌, ◌*◌, ◌<◌, Bool, true, false, List, [], ◌∷◌, ◌++◌, drop, Option, Some}
use Rattle.tc_link.proofs.Common.{None, option_to_list, refl, ◌∙◌, arith, inl, cond_both, SegmentView, Control, Clcw}
use Rattle.tc_link.proofs.Common.{Directive, FopMode, S6, FopState, SentUnit, units_of, Config, GroundState, is_closed}
use Rattle.tc_link.proofs.Common.{unsent_segments, refill_step, with_fop, IsChecked, PlainLink, World, Fates, Result}
use Rattle.tc_link.proofs.Common.{Ok, Err, ap, eq-eqb, Alert, CopFault, tick_step, pull_step, directive_step, LinkFault}
use Rattle.tc_link.proofs.Common.{GroundOutcome, unless_refused, submit_fault, bypass_fault, after_submission, subst}
use Rattle.tc_link.proofs.Common.{after_bypass, after_acknowledging, obeying, moved_by, ExtractorState, clcw_step}
use Rattle.tc_link.proofs.Common.{with_submission, ClcwFault, TmFault, telemetry_outcome, extract_step, ◌==◌}
use Rattle.tm_link.specs.Layout as telemetry
use Rattle.nodes.specs.Ground.{report_outcome, is_own_telemetry}
use Rattle.nodes.specs.declared.heard.Heard.{Heard}
use Rattle.nodes.specs.declared.heard.HeardClcw.{HeardClcw}
use Rattle.std.specs.Prelude.{◌^◌}
use Rattle.nodes.specs.Ground.{after_moving_up, GroundEvent, Submit, Bypass, Direct, Resume, Pull, Tick, Telemetry}
use Rattle.nodes.specs.Ground.{ControlWord, TakeTelemetry, ForgetTelemetry, ground_step, ground_take_telemetry}
use Rattle.nodes.specs.Ground.{can_resume, after_directive, after_report, after_resuming, ground_directive}
use Rattle.nodes.proofs.Resuming.{resumed_or}
use Rattle.nodes.specs.Fates.{whole_with, kept_after, counted_from}
use Rattle.tc_link.specs.Beside.{IsUnused, BringsNone}
use Rattle.tc_link.specs.Repeated.{BringsNoReport}
use Rattle.tc_link.proofs.Linked.{IsEarly, ControlFits, In, Held, Kept, Next, SessionBy, WithSender, Calm, beside}
use Rattle.tc_link.proofs.Linked.{IsLate, asked, Ranks, bit, ranks_lower}
use Rattle.tm_link.specs.Extractor.{new_extractor}
use Rattle.simulated_link.proofs.Counted.{frame_seen, report_seen}
use Rattle.clcw.specs.Decoding.{clcw_at}
use Rattle.tm_link.specs.Decoding.{frame_at}

abbrev pub queued_as : GroundState → Option SegmentView → List SegmentView → GroundState
queued_as s waiting pending = record s { fop = record s.fop { waiting = waiting }; pending = pending }

-- nothing is pending if the sender is off, or nothing is waiting
abbrev pub NonePends : Bool → Option SegmentView → List SegmentView → Type 0
NonePends off waiting pending = (off ≡ true → pending ≡ []) × (waiting ≡ None → pending ≡ [])

module _ (P : GroundState → Type 0) (s : GroundState)
    (each : (waiting : Option SegmentView) (pending : List SegmentView)
    → (is_closed s.fop.state ≡ false → option_to_list waiting ++ pending ≡ unsent_segments s)
    → NonePends (is_closed s.fop.state) waiting pending
    → P (queued_as s waiting pending)) where
  moved : (o : Option SegmentView) (ps : List SegmentView) → s.fop.waiting ≡ o → s.pending ≡ ps
      → is_closed s.fop.state ≡ false → P (after_moving_up s o ps)
  moved (Some u) ps has is on = each s.fop.waiting s.pending (λ e. refl)
      (λ off. absurd (cc (off, on)), λ none. absurd (cc (none, has)))
  moved None [] has is on = each s.fop.waiting s.pending (λ e. refl) (λ off. is, λ none. is)
  moved None (u ∷ ps) has is on = each (Some u) ps (λ e. rw (has, is) refl)
      (λ off. absurd (cc (off, on)), λ none. absurd cc)

  pub refilled_keeps : P (refill_step s)
  refilled_keeps =
      cond_both (is_closed s.fop.state) (record s { pending = [] }) (after_moving_up s s.fop.waiting s.pending) P
      (λ off. each s.fop.waiting [] (λ on. absurd (cc (off, on))) (λ off. refl, λ none. refl))
      (λ on. moved s.fop.waiting s.pending refl refl on)

pub held_again : (off : Bool) (base vs nn : ℕ) (sent : List (SentUnit SegmentView)) (rest new : List SegmentView)
    (a n : ℕ) (units : List SegmentView) → (off ≡ false → new ≡ rest) → Held off base vs nn sent rest a n units
    → Held off base vs nn sent new a n units
held_again true base vs nn sent rest new a n units same held = held
held_again false base vs nn sent rest new a n units same held =
    let rest_is : new ≡ drop n units = same refl ∙ held.rest_is in assumption (rest_is, held)

-- the sender holds the same
pub held_same_where : (off : Bool) (base : ℕ) (s : GroundState) (f : FopState SegmentView) (a n : ℕ)
    (units : List SegmentView)
    → f.vs ≡ s.fop.vs → f.nn ≡ s.fop.nn → units_of f.sent ≡ units_of s.fop.sent → f.waiting ≡ s.fop.waiting
    → Held off base s.fop.vs s.fop.nn s.fop.sent (unsent_segments s) a n units
    → Held off base f.vs f.nn f.sent (option_to_list f.waiting ++ s.pending) a n units
held_same_where true base s f a n units vs nn sent waiting held = rw (vs, nn) held
held_same_where false base s f a n units vs nn sent waiting held = record {
  vs_is = vs ∙ held.vs_is;
  nn_is = nn ∙ held.nn_is;
  sent_is = sent ∙ held.sent_is;
  rest_is = rw waiting held.rest_is;
}

pub held_same : (base : ℕ) (s : GroundState) (f : FopState SegmentView) (a n : ℕ) (units : List SegmentView)
    → f.vs ≡ s.fop.vs → f.nn ≡ s.fop.nn → f.state ≡ s.fop.state → units_of f.sent ≡ units_of s.fop.sent
    → f.waiting ≡ s.fop.waiting
    → Held (is_closed s.fop.state) base s.fop.vs s.fop.nn s.fop.sent (unsent_segments s) a n units
    → Held (is_closed f.state) base f.vs f.nn f.sent (option_to_list f.waiting ++ s.pending) a n units
held_same base s f a n units vs nn state sent waiting held =
    rw state (held_same_where (is_closed s.fop.state) base s f a n units vs nn sent waiting held)

-- the sender is in the same state
sender_same : (early : Bool) (c : Config) (d : Directive) (base : ℕ) (w : World) (g : In early c d base w) (m : FopMode)
    (control : Control) → m ≡ w.ground_node.fop.state
    → (ControlFits d base w.ground_node.fop.control → ControlFits d base control) → WithSender g m control
sender_same true c d base w g m control is fits =
    let early : IsEarly d m = rw is g.stage.early in
    let command_is : ControlFits d base control = fits g.stage.command_is in
    assumption (early, command_is, g.stage)
sender_same false c d base w g m control is fits = rw is g.stage

-- the sender is off
sender_off : (early : Bool) (c : Config) (d : Directive) (base : ℕ) (w : World) (g : In early c d base w) (m : FopMode)
    (control : Control) → m ≡ S6 → (ControlFits d base w.ground_node.fop.control → ControlFits d base control)
    → WithSender g m control
sender_off true c d base w g m control is fits =
    let early : IsEarly d m = rw is tt in
    let command_is : ControlFits d base control = fits g.stage.command_is in
    assumption (early, command_is, g.stage)
sender_off false c d base w g m control is fits =
    let s = g.stage in
    let p = g.plain in
    let late : IsLate m = rw is tt in
    let calm : IsChecked d → Calm m w.spacecraft.farm g.front g.reports p.a p.r p.n p.down = λ checked.
    let k = s.calm checked in
    let ranks : Ranks (2 * p.a + asked m) g.reports p.down (2 * p.r + bit w.spacecraft.farm.retransmit) =
    rw is (ranks_lower (2 * p.a + asked w.ground_node.fop.state) (2 * p.a + 0)
    (2 * p.r + bit w.spacecraft.farm.retransmit) g.reports p.down (omega arith) k.ranks) in
    assumption (ranks, k) in
    assumption (late, calm, s)

module _ (early : Bool) (c : Config) (d : Directive) (base : ℕ) where
  -- the wait queue may be refilled
  pub session_refilled : {Reached : PlainLink → Type 0} (w : World) → SessionBy early Reached c d base w
      → SessionBy early Reached c d base (record w { ground_node = refill_step w.ground_node })
  session_refilled {Reached} w g =
      refilled_keeps (λ s. SessionBy early Reached c d base (record w { ground_node = s })) w.ground_node
      (λ waiting pending on off.
      let l = g.linked in
      let held : Held (is_closed w.ground_node.fop.state) base w.ground_node.fop.vs w.ground_node.fop.nn
      w.ground_node.fop.sent (option_to_list waiting ++ pending) g.plain.a g.plain.n g.plain.units =
      held_again (is_closed w.ground_node.fop.state) base w.ground_node.fop.vs w.ground_node.fop.nn
      w.ground_node.fop.sent (unsent_segments w.ground_node) (option_to_list waiting ++ pending) g.plain.a g.plain.n
      g.plain.units on l.held in
      beside g (record w { ground_node = queued_as w.ground_node waiting pending }) g.ran (assumption (held, l))
      g.stage)

  module _ (w : World) (g : In early c d base w) where
    -- the sender is as it was, except for what it holds, and other submissions may be known
    goes_keeps : (fates : Fates) (f : FopState SegmentView)
        → Held (is_closed f.state) base f.vs f.nn f.sent (option_to_list f.waiting ++ w.ground_node.pending) g.plain.a
        g.plain.n g.plain.units
        → f.nn < 256 → WithSender g f.state f.control
        → Next early c d base g.plain (record w { ground_node = with_fop (record w.ground_node { fates = fates }) f })
    goes_keeps fates f held nn_octet stage =
        let l = g.linked in
        let new : World = record w { ground_node = record w.ground_node { fop = f; fates = fates } } in
        session_refilled new (beside g new (inl refl) (assumption (held, nn_octet, l)) stage)

    -- the sender holds the same
    pub same_keeps : (fates : Fates) (f : FopState SegmentView) → f.vs ≡ w.ground_node.fop.vs
        → f.nn ≡ w.ground_node.fop.nn → f.state ≡ w.ground_node.fop.state
        → units_of f.sent ≡ units_of w.ground_node.fop.sent → f.waiting ≡ w.ground_node.fop.waiting
        → (ControlFits d base w.ground_node.fop.control → ControlFits d base f.control)
        → Next early c d base g.plain (record w { ground_node = with_fop (record w.ground_node { fates = fates }) f })
    same_keeps fates f vs nn state sent waiting fits =
        let l = g.linked in
        goes_keeps fates f
        (held_same base w.ground_node f g.plain.a g.plain.n g.plain.units vs nn state sent waiting l.held)
        (rw nn l.nn_octet) (sender_same early c d base w g f.state f.control state fits)

    -- the sender is off
    pub off_keeps : (fates : Fates) (f : FopState SegmentView) → f.state ≡ S6 → f.nn < 256
        → (ControlFits d base w.ground_node.fop.control → ControlFits d base f.control)
        → Kept base f.vs f.nn g.plain.a g.plain.n
        → Next early c d base g.plain (record w { ground_node = with_fop (record w.ground_node { fates = fates }) f })
    off_keeps fates f state nn_octet fits kept =
        goes_keeps fates f (rw state kept) nn_octet (sender_off early c d base w g f.state f.control state fits)

-- What is known of the submissions is the same if a CLCW is repeated.

-- the number of acknowledged submissions is the same modulo 2^64
abbrev pub Counts : Fates → Type 0
Counts k = k.acknowledged < 2 ^ 64

-- no further segment is acknowledged
pub counted_same : (n : ℕ) (k : Fates) → Counts k → after_acknowledging (moved_by n n) k ≡ k
counted_same n k small =
    let none : moved_by n n ≡ 0 = rw (eq-eqb n n refl) refl in
    let whole : whole_with 0 k ≡ k.acknowledged = omega (arith, small) in
    ap (λ (j : ℕ). after_acknowledging j k) none ∙ ap (λ (j : ℕ). record k { acknowledged = j }) whole

pub refilled_counts : (s : GroundState) → Counts s.fates → Counts (refill_step s).fates
refilled_counts s k = refilled_keeps (λ (g : GroundState). Counts g.fates) s (λ waiting pending on off. k)

-- What a call of the ground may do, by its kind.

-- the call may bring a CLCW
abbrev pub IsHeard : GroundEvent → Type 0
IsHeard (Telemetry octets) = Unit {0}
IsHeard (ControlWord octets) = Unit {0}
IsHeard _ = ⊥

pub record AtEachCall (s : GroundState) (e : GroundEvent) (P : GroundState → Type 0) : Type 0 where
  -- it is refused, or there is nothing to take
  pub same : P s
  pub submits : (m : ℕ) (octets : List ℕ) → e ≡ Submit m octets → submit_fault s m octets ≡ None
      → P (after_submission s m octets)
  pub bypasses : (m : ℕ) (octets : List ℕ) → e ≡ Bypass m octets → bypass_fault s m octets ≡ None
      → P (after_bypass s m octets)
  pub directs : (d : Directive) → e ≡ Direct d
      → P (refill_step (record (obeying s d) { fop = (directive_step s.fop d).after }))
  pub resumes : (value : ℕ) → e ≡ Resume value → can_resume s value ≡ true → P (after_resuming s value)
  pub pulls : P (refill_step (record s { fop = (pull_step s.fop).after }))
  pub ticks : P (refill_step (record s { fop = (tick_step s.fop).after }))
  -- telemetry is another, and a report may be heard beside it
  pub takes : (x : ExtractorState) (packets : List (List ℕ)) → P (record s { extractor = x; telemetry = packets })
  pub hears : IsHeard e → (x : ExtractorState) (packets : List (List ℕ)) (r : Clcw)
      → P (after_report (record s { extractor = x; telemetry = packets }) (clcw_step s.fop r))

module _ (s : GroundState) (P : GroundState → Type 0) where
  accepted_or : (fault : Option LinkFault) (next : GroundState) → P s → (fault ≡ None → P next)
      → P (unless_refused fault s next).after
  accepted_or None next same taken = taken refl
  accepted_or (Some fault) next same taken = same

  obeyed_or : (d : Directive) (r : Result (Option Alert) CopFault) (f : FopState SegmentView) → P s
      → P (refill_step (record (obeying s d) { fop = f })) → P (after_directive s d r f)
  obeyed_or d (Ok alert) f same led = led
  obeyed_or d (Err fault) f same led = same

  taken_or : (packets : List (List ℕ)) → P s
      → ((left : List (List ℕ)) → P (record s { extractor = s.extractor; telemetry = left }))
      → P (ground_take_telemetry s packets).after
  taken_or [] same taken = same
  taken_or (packet ∷ left) same taken = taken left

  pub directed_so : (d : Directive) → P s
      → P (refill_step (record (obeying s d) { fop = (directive_step s.fop d).after })) → P (ground_directive s d).after
  directed_so d = obeyed_or d (directive_step s.fop d).answer (directive_step s.fop d).after

  pub called : (e : GroundEvent) → AtEachCall s e P → P (ground_step s e).after
  called (Submit m octets) each =
      accepted_or (submit_fault s m octets) (after_submission s m octets) each.same (each.submits m octets refl)
  called (Bypass m octets) each =
      accepted_or (bypass_fault s m octets) (after_bypass s m octets) each.same (each.bypasses m octets refl)
  called (Direct d) each = directed_so d each.same (each.directs d refl)
  called (Resume value) each =
      resumed_or s value (λ (o : GroundOutcome (Result ℕ LinkFault)). P o.after)
      (λ whole known. each.resumes value refl) (λ t. each.same)
  called Pull each = each.pulls
  called Tick each = each.ticks
  called (Telemetry octets) each = frame_seen s P (record {
    same = each.same;
    extracts = λ x. each.takes x.after (s.telemetry ++ x.packets);
    uses = λ x r. each.hears tt x.after (s.telemetry ++ x.packets) r;
  }) (frame_at s.config.frame_length octets)
  called (ControlWord octets) each =
      report_seen s P each.same (each.hears tt s.extractor s.telemetry) (clcw_at octets)
  called TakeTelemetry each = taken_or s.telemetry each.same (each.takes s.extractor)
  called ForgetTelemetry each = each.takes new_extractor s.telemetry

-- a call that brings no CLCW, and begins no session
none_resumed : {A : Type 0} (s : GroundState) (e : GroundEvent) → BringsNoReport s e → (value : ℕ)
    → e ≡ Resume value → can_resume s value ≡ true → A
none_resumed s e goes value is can =
    absurd (let refused : can_resume s value ≡ false = subst (BringsNoReport s) is goes in cc (can, refused))

-- what such a call may do: telemetry may change, and nothing else comes of octets that arrive
pub record AtEachQuietCall (s : GroundState) (e : GroundEvent) (P : GroundState → Type 0) : Type 0 where
  pub same : P s
  pub submits : (pending : List SegmentView) (n : ℕ)
      → P (refill_step (record s { pending = pending; fates = with_submission n s.fates }))
  pub bypasses : (us : List SegmentView) → P (record s { fop = record s.fop { bypass = us } })
  pub directs : (d : Directive) → e ≡ Direct d
      → P (refill_step (record (obeying s d) { fop = (directive_step s.fop d).after }))
  pub pulls : P (refill_step (record s { fop = (pull_step s.fop).after }))
  pub ticks : P (refill_step (record s { fop = (tick_step s.fop).after }))
  pub takes : (x : ExtractorState) (packets : List (List ℕ)) → P (record s { extractor = x; telemetry = packets })

module _ (s : GroundState) (P : GroundState → Type 0)
    (takes : (x : ExtractorState) (packets : List (List ℕ)) → P (record s { extractor = x; telemetry = packets })) where
  word_unused : (x : ExtractorState) (packets : List (List ℕ)) (r : Result Clcw ClcwFault)
      → let o = report_outcome (record s { extractor = x; telemetry = packets }) r in
      IsUnused o.answer.report → P o.after
  word_unused x packets (Err fault) = λ unused. takes x packets
  word_unused x packets (Ok report) =
      cond_both (report.vcid == s.config.vcid) _ _
      (λ (o : GroundOutcome HeardClcw). IsUnused o.answer.report → P o.after) (λ t unused. elim unused [ ])
      (λ t unused. takes x packets)

  frame_unused : (r : Result telemetry.FrameView TmFault)
      → let o = telemetry_outcome s r in BringsNone o.answer → P o.after
  frame_unused (Err fault) = λ none. takes s.extractor s.telemetry
  frame_unused (Ok frame) =
      cond_both (is_own_telemetry s.config frame) _ _ (λ (o : GroundOutcome Heard). BringsNone o.answer → P o.after)
      (λ t. let x = extract_step s.extractor frame in
      word_unused x.after (s.telemetry ++ x.packets) (clcw_at frame.ocf)) (λ t none. takes s.extractor s.telemetry)

pub called_quietly : (s : GroundState) (P : GroundState → Type 0) (e : GroundEvent) → BringsNoReport s e
    → AtEachQuietCall s e P → P (ground_step s e).after
called_quietly s P (Telemetry octets) goes each =
    frame_unused s P each.takes (frame_at s.config.frame_length octets) goes
called_quietly s P (ControlWord octets) goes each =
    word_unused s P each.takes s.extractor s.telemetry (clcw_at octets) goes
called_quietly s P e goes each = called s P e (record {
  same = each.same;
  submits = λ m octets is none. each.submits _ _;
  bypasses = λ m octets is none. each.bypasses _;
  directs = each.directs;
  resumes = λ value is can. none_resumed s e goes value is can;
  pulls = each.pulls;
  ticks = each.ticks;
  takes = each.takes;
  hears = λ heard. elim heard [ ];
})

module _ (s : GroundState) (k : Counts s.fates) where
  counted_anew : (o : Option Bool) → Counts (counted_from o s.fates)
  counted_anew None = k
  counted_anew (Some kept) = omega arith

  pub step_counts : (e : GroundEvent) → BringsNoReport s e → Counts (ground_step s e).after.fates
  step_counts e goes = called_quietly s (λ g. Counts g.fates) e goes (record {
    same = k;
    submits = λ pending n. refilled_counts _ k;
    bypasses = λ us. k;
    directs = λ d is. refilled_counts (record (obeying s d) { fop = (directive_step s.fop d).after })
        (counted_anew (kept_after d));
    pulls = refilled_counts (record s { fop = (pull_step s.fop).after }) k;
    ticks = refilled_counts (record s { fop = (tick_step s.fop).after }) k;
    takes = λ x packets. k;
  })
