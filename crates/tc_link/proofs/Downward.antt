-- Telemetry that is sent, arrives or does not arrive keeps what holds in a session, before the confirmation and
-- once it is settled.
use Rattle.tc_link.proofs.Common.{◌≡◌, ℕ, ◌+◌, ◌*◌, ◌/◌, ◌<◌, ◌≤◌, ◌⊎◌, inl, inr, Bool, true, false, List, [], ◌∷◌}
use Rattle.tc_link.proofs.Common.{◌++◌, length, option_to_list, Ok, refl, ap, sym, subst, ◌∙◌, arith, length-append}
use Rattle.tc_link.proofs.Common.{◌||◌, eq-eqb, Clcw, SegmentView, ahead_by, Directive, InitWithCheck, asks, clcw_step}
use Rattle.tc_link.proofs.Common.{FopState, report_of, Extracted, extract_step, Config, Heard, spacecraft_step, Report}
use Rattle.tc_link.proofs.Common.{GroundState, GroundOutcome, is_closed, after_report, after_extraction}
use Rattle.tc_link.proofs.Common.{telemetry_outcome, own_frame_outcome, IsChecked, World, is_confirmation}
use Rattle.tc_link.proofs.Common.{AtMostOneStep, Rises, acknowledging, ground_telemetry, Option, None, if◌then◌else◌}
use Rattle.tc_link.proofs.Common.{PlainLink, WorldOutcome, world_step, down_deliver_step, with_fop, Alert, Idle}
use Rattle.tc_link.proofs.Common.{FopMode, S1, S4, S5, S6, FopOutcome, units_of, after_alert, alerts, goes_on}
use Rattle.tc_link.proofs.Common.{is_initialising}
use Rattle.tc_link.proofs.Common.{◌%◌, report_in, report_while_active}
use Rattle.std.proofs.lemmas.List.{drop-drop}
use Rattle.tm_link.specs.Decoding.{frame_at}
use Rattle.tm_link.specs.Decoding as telemetry_reading
use Rattle.tm_link.specs.Extractor.{ExtractorState}
use Rattle.nodes.specs.declared.heard.Heard.TheVariants.{Frame}
use Rattle.nodes.specs.declared.heard.HeardReport.TheVariants.{Used}
use Rattle.nodes.specs.Ground.{after_moving_up}
use Rattle.nodes.specs.declared.heard.HeardClcw.{HeardClcw}
use Rattle.nodes.specs.declared.event.Event.TheVariants as events
use Rattle.simulated_link.specs.World.{world_after_report, world_after_word, down_clcw_step}
use Rattle.simulated_link.specs.Replies.{Down, replied_alert}
use Rattle.simulated_link.proofs.Counted.{IsConfirming, reported}
use Rattle.tc_link.specs.PlainLink.{reports as tells, loses_down, hears, ignores}
use Rattle.tc_link.specs.AnyPast.{with_telemetry_of, SaysAs}
use Rattle.tc_link.specs.FalseAlarms.{alert_in}
use Rattle.tc_link.proofs.Linked.{WouldConfirm, Lasts, lasts_push, AllSame, same_push, In, Stage, Calm, Tells}
use Rattle.tc_link.proofs.Linked.{Reporting, Held, Next, asked, DownIs, Ranks, bit, down_push, rises_push, rises_lower}
use Rattle.tc_link.proofs.Linked.{rises_to, ranks_push, ranks_lower, beside, Good, IsEarly, ControlFits, early_off}
use Rattle.tc_link.proofs.Linked.{last_good, good_down, good_ranks, Begun, Settled, kept_of, holds_on, stays, Late}
use Rattle.tc_link.proofs.Linked.{IsLate, HeldBy, Led, ReportComes, active_led, ranks_to}
use Rattle.tc_link.proofs.IdleStart.{reporting_now, flags_are, HasReports}
use Rattle.tc_link.proofs.Refilled.{refilled_keeps, held_again, held_same_where}
use Rattle.tc_link.proofs.Sound.{Sound}
use Rattle.simulated_link.proofs.Unchanged.{with_heard}

-- Telemetry in a session: it is sent, arrives, or does not arrive.

-- ---- octets that carry a CLCW lead to its use

abbrev pub used : GroundState → Extracted → Clcw → GroundOutcome Heard
used s x report = record {
  answer = Frame x.gap (length x.packets) Used (clcw_step s.fop report).answer;
  after = after_report (after_extraction s x) (clcw_step s.fop report);
}

pub used_is : (c : Config) (s : GroundState) (octets : List ℕ) (report : Clcw) → s.config ≡ c
    → (t : Tells c octets report) → ground_telemetry s octets ≡ used s (extract_step s.extractor t.frame) report
used_is c s octets report is t =
    let reads : telemetry_reading.frame_at s.config.frame_length octets ≡ Ok t.frame = rw is t.reads in
    let x : Extracted = extract_step s.extractor t.frame in
    ap (telemetry_outcome s) reads
    ∙ rw (eq-eqb t.frame.scid s.config.scid (rw is t.scid), eq-eqb t.frame.vcid s.config.tm_vcid (rw is t.vcid)) (
    ap (own_frame_outcome s x) t.word ∙ rw (eq-eqb report.vcid s.config.vcid (rw is t.own)) refl
    )

-- the ground after a CLCW by itself is used
abbrev pub used_word : GroundState → Clcw → GroundOutcome HeardClcw
used_word s report = record {
  answer = record { report = Used; alert = (clcw_step s.fop report).answer };
  after = after_report s (clcw_step s.fop report);
}

-- ---- a CLCW leads to another sender

-- the CLCW acknowledges `gone` more units, or none
pub record Moves (base : ℕ) (s : FopState SegmentView) (a v gone : ℕ) (f : FopState SegmentView) : Type 0 where
  pub gone_is : (gone ≡ 0) ⊎ (a + gone ≡ v)
  pub nn_is : ahead_by f.nn s.nn ≡ gone
  pub nn_octet : f.nn < 256
  pub held : (pending : List SegmentView) (n : ℕ) (units : List SegmentView)
      → Held (is_closed s.state) base s.vs s.nn s.sent (option_to_list s.waiting ++ pending) a n units
      → Held (is_closed f.state) base f.vs f.nn f.sent (option_to_list f.waiting ++ pending) (a + gone) n units

-- the first CLCW is no longer in transit, and the session may be at another stage
pub heard_keeps : (early to : Bool) (c : Config) (d : Directive) (base : ℕ) (w : World) (g : In early c d base w)
    (x : Extracted) (bs : List (List ℕ)) (rs : List Clcw) (v : ℕ) (vs : List ℕ)
    (o : FopOutcome SegmentView (Option Alert)) (gone : ℕ) → g.plain.down ≡ v ∷ vs → Reporting c bs rs
    → length rs ≡ length vs → Rises g.plain.a (v ∷ vs) g.plain.r
    → Moves base w.ground_node.fop g.plain.a v gone o.after
    → Stage to d base o.after.state o.after.control w.spacecraft.farm
    (w.session.confirmed || is_confirmation w.ground_node.fop.state o.after.state) g.front rs (g.plain.a + gone)
    g.plain.r g.plain.n vs
    → Next to c d base g.plain (with_heard w (after_report (after_extraction w.ground_node x) o) bs)
heard_keeps early to c d base w g x bs rs v vs o gone also rest count up moves stage =
    refilled_keeps (λ t. Next to c d base g.plain (with_heard w t bs))
    (record (acknowledging (after_extraction w.ground_node x) o) { fop = o.after }) (λ waiting pending on off.
    let f : FopState SegmentView = o.after in
    let p = g.plain in
    let l = g.linked in
    let a : ℕ = p.a + gone in
    let high : v ≤ p.r = rises_to v p.r vs up.1 in
    let most : a ≤ v = elim moves.gone_is [ inl e ↦ omega (arith, e, up.0) | inr e ↦ omega (arith, e) ] in
    let held : Held (is_closed f.state) base f.vs f.nn f.sent (option_to_list waiting ++ pending) a p.n p.units =
    held_again (is_closed f.state) base f.vs f.nn f.sent (option_to_list f.waiting ++ w.ground_node.pending)
    (option_to_list waiting ++ pending) a p.n p.units on (moves.held w.ground_node.pending p.n p.units l.held) in
    let acked_is : w.session.acknowledged + ahead_by f.nn w.ground_node.fop.nn ≡ a =
    omega (arith, moves.nn_is, l.acked_is) in
    let a_r : a ≤ p.r = omega (arith, most, high) in
    let n_a : p.n ≤ a + c.width / 2 = omega (arith, l.n_a) in
    let rises : Rises a vs p.r = rises_lower v a p.r vs most up.1 in
    let ran : AtMostOneStep p (record p { a = a; down = vs }) = elim moves.gone_is [
      | inl e ↦ (let same : p.a ≡ a =
          omega (arith, e) in subst (λ i. AtMostOneStep p (record p { a = i; down = vs })) same (inr (ignores also)))
      | inr e ↦ (subst (λ i. AtMostOneStep p (record p { a = i; down = vs })) (sym e) (inr (hears also)))
    ] in
    record {
      plain = record p { a = a; down = vs };
      ran = ran;
      front = g.front;
      frames = g.frames;
      reports = rs;
      linked = assumption (rest, held, moves.nn_octet, acked_is, a_r, n_a, count, rises, l);
      stage = stage;
    })

-- ---- a CLCW by itself does what its telemetry frame does, except for telemetry

-- the ground with another extractor, and other packets of telemetry
abbrev pub apart : GroundState → ExtractorState → List (List ℕ) → GroundState
apart s extractor packets = record s { extractor = extractor; telemetry = packets }

moved_apart : (s : GroundState) (x : ExtractorState) (packets : List (List ℕ)) (waiting : Option SegmentView)
    (pending : List SegmentView)
    → after_moving_up (apart s x packets) waiting pending ≡ apart (after_moving_up s waiting pending) x packets
moved_apart s x packets waiting pending = grind arith

refilled_apart : (s : GroundState) (f : FopState SegmentView) (x : ExtractorState) (packets : List (List ℕ))
    → with_fop (apart s x packets) f ≡ apart (with_fop s f) x packets
refilled_apart s f x packets = refilled (is_closed f.state) where
  refilled : (off : Bool) → (if off then record (apart s x packets) { fop = f; pending = [] }
      else after_moving_up (record (apart s x packets) { fop = f }) f.waiting s.pending)
      ≡ apart (if off then record s { fop = f; pending = [] }
      else after_moving_up (record s { fop = f }) f.waiting s.pending) x packets
  refilled true = refl
  refilled false = moved_apart (record s { fop = f }) x packets f.waiting s.pending

module _ (c : Config) (w : World) (k : Sound c w) where
  module _ (b : List ℕ) (bs : List (List ℕ)) (r : Clcw) (t : Tells c b r) where
    abbrev extracted : Extracted
    extracted = extract_step w.ground_node.extractor t.frame

    whole_is : ground_telemetry w.ground_node b ≡ used w.ground_node extracted r
    whole_is = used_is c w.ground_node b r k.ground_node.config t

    word_is : down_clcw_step w (b ∷ bs) ≡ world_after_word w bs (used_word w.ground_node r)
    word_is =
        let s : GroundState = w.ground_node in
        let is : s.config ≡ c = k.ground_node.config in
        let reads : frame_at s.config.frame_length b ≡ Ok t.frame = rw is t.reads in
        rw (reads, t.word, eq-eqb r.vcid s.config.vcid (rw is t.own)) refl

    word_apart : (down_clcw_step w (b ∷ bs)).after ≡ with_telemetry_of w (down_deliver_step w (b ∷ bs)).after
    word_apart =
        let s : GroundState = w.ground_node in
        let o : FopOutcome SegmentView (Option Alert) = clcw_step s.fop r in
        ap (λ (o : WorldOutcome). o.after) word_is
        ∙ ap (λ (g : GroundState). with_heard w g bs)
        (refilled_apart (acknowledging s o) o.after s.extractor s.telemetry)
        ∙ sym (ap (λ (g : GroundState). with_telemetry_of w (with_heard w g bs))
        (refilled_apart (acknowledging s o) o.after extracted.after (s.telemetry ++ extracted.packets)))
        ∙ sym (ap (λ (o : GroundOutcome Heard). with_telemetry_of w (with_heard w o.after bs)) whole_is)

    word_says : SaysAs (down_deliver_step w (b ∷ bs)).answer (down_clcw_step w (b ∷ bs)).answer
    word_says =
        subst (λ (o : GroundOutcome Heard). SaysAs (Ok (Down o.answer)) (down_clcw_step w (b ∷ bs)).answer)
        (sym whole_is)
        (subst (λ (o : WorldOutcome). SaysAs (Ok (Down (used w.ground_node extracted r).answer)) o.answer) (sym word_is)
        (refl, refl))

    word_alerts : alert_in (down_clcw_step w (b ∷ bs)).answer ≡ alert_in (down_deliver_step w (b ∷ bs)).answer
    word_alerts =
        ap (λ (o : WorldOutcome). alert_in o.answer) word_is
        ∙ sym (ap (λ (o : GroundOutcome Heard). replied_alert (Down o.answer)) whole_is)

  words_on : (bs : List (List ℕ)) (rs : List Clcw) → Reporting c bs rs
      → ((down_clcw_step w bs).after ≡ with_telemetry_of w (down_deliver_step w bs).after)
      × SaysAs (down_deliver_step w bs).answer (down_clcw_step w bs).answer
      × (alert_in (down_clcw_step w bs).answer ≡ alert_in (down_deliver_step w bs).answer)
  words_on [] rs reporting = (refl, refl, refl)
  words_on (b ∷ bs) [] reporting = elim reporting [ ]
  words_on (b ∷ bs) (r ∷ rs) reporting =
      let t = reporting.0 in (word_apart b bs r t, word_says b bs r t, word_alerts b bs r t)

  module _ (t : HasReports c w.down) where
    pub words_apart : (world_step w events.DownClcw).after
        ≡ with_telemetry_of w (world_step w events.DownDeliver).after
    words_apart = (words_on w.down t.reports t.reporting).0

    pub words_say : SaysAs (world_step w events.DownDeliver).answer (world_step w events.DownClcw).answer
    words_say = (words_on w.down t.reports t.reporting).1

    pub words_alert : alert_in (world_step w events.DownClcw).answer
        ≡ alert_in (world_step w events.DownDeliver).answer
    words_alert = (words_on w.down t.reports t.reporting).2

-- telemetry does not affect a session
pub next_apart : {early : Bool} {c : Config} {d : Directive} {base : ℕ} {p : PlainLink} (w : World) {new : World}
    → Next early c d base p new → Next early c d base p (with_telemetry_of w new)
next_apart w {new} n = beside n (with_telemetry_of w new) n.ran (assumption n.linked) n.stage

-- ---- a CLCW is lost, or is sent

abbrev Told : {early : Bool} {c : Config} {d : Directive} {base : ℕ} {w : World} → In early c d base w → List Clcw
    → List ℕ → Type 0
Told {early} {c} {d} {base} {w} g reports down =
    Stage early d base w.ground_node.fop.state w.ground_node.fop.control w.spacecraft.farm w.session.confirmed g.front
    reports g.plain.a g.plain.r g.plain.n down

one_less : (early : Bool) (c : Config) (d : Directive) (base : ℕ) (w : World) (g : In early c d base w) (r : Clcw)
    (rs : List Clcw) (v : ℕ) (vs : List ℕ) → g.reports ≡ r ∷ rs → g.plain.down ≡ v ∷ vs → g.plain.a ≤ v → Told g rs vs
one_less true c d base w g r rs v vs is also low =
    let s = g.stage in
    let lasts : Lasts base (r ∷ rs) (WouldConfirm base w.spacecraft.farm) = rw is at s.lasts in
    let same : d ≡ InitWithCheck → AllSame (r ∷ rs) w.spacecraft.farm.lockout w.spacecraft.farm.retransmit
    w.spacecraft.farm.vr = rw is at s.same in
    let lasts_left = lasts.1 in
    let same_left : d ≡ InitWithCheck
    → AllSame rs w.spacecraft.farm.lockout w.spacecraft.farm.retransmit w.spacecraft.farm.vr = λ e. (same e).4 in
    assumption (lasts_left, same_left, s)
one_less false c d base w g r rs v vs is also low =
    let s = g.stage in
    let p = g.plain in
    let high : ℕ = 2 * p.r + bit w.spacecraft.farm.retransmit in
    let down_is : DownIs base (r ∷ rs) (v ∷ vs) = rw (is, also) at s.down_is in
    let down_left = down_is.1 in
    let calm : IsChecked d → Calm w.ground_node.fop.state w.spacecraft.farm g.front rs p.a p.r p.n vs = λ checked.
    let m = s.calm checked in
    let all : Ranks (2 * p.a + asked w.ground_node.fop.state) (r ∷ rs) (v ∷ vs) high = rw (is, also) at m.ranks in
    let ranks : Ranks (2 * p.a + asked w.ground_node.fop.state) rs vs high =
    ranks_lower (2 * v + bit (asks r)) (2 * p.a + asked w.ground_node.fop.state) high rs vs all.2 all.3 in
    assumption (ranks, m) in
    assumption (down_left, calm, s)

one_more : (early : Bool) (c : Config) (d : Directive) (base : ℕ) (w : World) (k : Sound c w) (g : In early c d base w)
    → Told g (g.reports ++ report_of w.spacecraft.farm w.spacecraft.config.vcid ∷ []) (g.plain.down ++ g.plain.r ∷ [])
one_more true c d base w k g =
    let s = g.stage in
    let farm = w.spacecraft.farm in
    let r : Clcw = report_of farm w.spacecraft.config.vcid in
    let says = flags_are farm w.spacecraft.config.vcid in
    let lasts : Lasts base (g.reports ++ r ∷ []) (WouldConfirm base farm) =
    lasts_push base r g.reports (WouldConfirm base farm)
    (λ good. (says.0 ∙ good.0, says.1 ∙ good.1, says.2 ∙ good.2, good.3))
    (λ good. (sym says.0 ∙ good.0, sym says.1 ∙ good.1, sym says.2 ∙ good.2, good.3)) s.lasts in
    let same : d ≡ InitWithCheck → AllSame (g.reports ++ r ∷ []) farm.lockout farm.retransmit farm.vr =
    λ e. same_push r g.reports farm.lockout farm.retransmit farm.vr says.0 says.2 refl
    (λ t. says.2 ∙ k.spacecraft.farm.flags.asks (sym says.1 ∙ t)) (s.same e) in
    assumption (lasts, same, s)
one_more false c d base w k g =
    let s = g.stage in
    let p = g.plain in
    let farm = w.spacecraft.farm in
    let r : Clcw = report_of farm w.spacecraft.config.vcid in
    let says = flags_are farm w.spacecraft.config.vcid in
    let down_is : DownIs base (g.reports ++ r ∷ []) (p.down ++ p.r ∷ []) =
    down_push base p.r r g.reports p.down s.vr_is s.down_is in
    let calm : IsChecked d → Calm w.ground_node.fop.state farm g.front (g.reports ++ r ∷ []) p.a p.r p.n
    (p.down ++ p.r ∷ []) = λ checked.
    let m = s.calm checked in
    let ranks : Ranks (2 * p.a + asked w.ground_node.fop.state) (g.reports ++ r ∷ []) (p.down ++ p.r ∷ [])
    (2 * p.r + bit farm.retransmit) =
    ranks_push (2 * p.a + asked w.ground_node.fop.state) (2 * p.r + bit farm.retransmit) p.r r g.reports p.down
    (says.0 ∙ m.unlocked) (λ t. says.2 ∙ k.spacecraft.farm.flags.asks (sym says.1 ∙ t)) (rw says.2 refl) m.ranks in
    assumption (ranks, m) in
    assumption (down_is, calm, s)

module _ (early : Bool) (c : Config) (d : Directive) (base : ℕ) (w : World) (k : Sound c w) (g : In early c d base w)
  where
    lost_first : (b : List ℕ) (bs : List (List ℕ)) (rs : List Clcw) (vs : List ℕ) → g.reports ≡ rs → g.plain.down ≡ vs
        → Reporting c (b ∷ bs) rs → length rs ≡ length vs → Rises g.plain.a vs g.plain.r
        → Next early c d base g.plain (record w { down = bs })
    lost_first b bs [] vs is also rest count up = elim rest [ ]
    lost_first b bs (r ∷ rs) [] is also rest count up = absurd cc
    lost_first b bs (r ∷ rs) (v ∷ vs) is also rest count up =
        let p = g.plain in
        let left = rest.1 in
        let counted : length rs ≡ length vs = omega (arith, count) in
        let rises : Rises p.a vs p.r = rises_lower v p.a p.r vs up.0 up.1 in
        record {
          plain = record p { down = vs };
          ran = inr (loses_down also);
          front = g.front;
          frames = g.frames;
          reports = rs;
          linked = assumption (left, counted, rises, g.linked);
          stage = one_less early c d base w g r rs v vs is also up.0;
        }

    pub down_lost : (b : List ℕ) (bs : List (List ℕ)) → w.down ≡ b ∷ bs
        → Next early c d base g.plain (record w { down = bs })
    down_lost b bs is =
        lost_first b bs g.reports g.plain.down refl refl (rw is at g.linked.reporting) g.linked.counted g.linked.rises

    pub reports_keep : Next early c d base g.plain (world_after_report w (spacecraft_step w.spacecraft Report)).after
    reports_keep =
        let p = g.plain in
        let l = g.linked in
        let r : Clcw = report_of w.spacecraft.farm w.spacecraft.config.vcid in
        let reporting = reporting_now c w k g.reports l.reporting in
        let counted : length (g.reports ++ r ∷ []) ≡ length (p.down ++ p.r ∷ []) =
        omega (arith, length-append g.reports (r ∷ []), length-append p.down (p.r ∷ []), l.counted) in
        let rises : Rises p.a (p.down ++ p.r ∷ []) p.r = rises_push p.a p.r p.down l.rises in
        record {
          plain = record p { down = p.down ++ p.r ∷ [] };
          ran = inr tells;
          front = g.front;
          frames = g.frames;
          reports = g.reports ++ r ∷ [];
          linked = assumption (reporting, counted, rises, l);
          stage = one_more early c d base w k g;
        }

-- Before the confirmation: telemetry that arrives keeps what holds, or confirms the session.

confirms_not : (d : Directive) (old new : FopMode) → IsEarly d new → is_confirmation old new ≡ false
confirms_not d old S4 early = refl
confirms_not d old S5 early = refl
confirms_not d old S6 early = refl
confirms_not d old _ early = elim early [ ]

confirms_now : (was : Bool) (old new : FopMode) → new ≡ S1 → is_initialising old ≡ true
    → was || is_confirmation old new ≡ true
confirms_now true old new is waits_for = refl
confirms_now false old new is waits_for = rw is waits_for

-- the session has just been confirmed
pub record Confirmed (c : Config) (d : Directive) (base : ℕ) (p : PlainLink) (w : World) : Type 0 where
  pub late : Next false c d base p w
  pub exact : (w.spacecraft.farm.vr ≡ w.ground_node.fop.vs) × (w.ground_node.fop.nn ≡ w.ground_node.fop.vs)

module _ (c : Config) (d : Directive) (base : ℕ) (w : World) (k : Sound c w) (g : Begun c d base w) where
  r_none : g.plain.r ≡ 0
  r_none = omega (arith, g.linked.r_n, g.stage.none_sent)

  a_none : g.plain.a ≡ 0
  a_none = omega (arith, g.linked.a_r, r_none)

  module _ (x : Extracted) (r : Clcw) (bs : List (List ℕ)) (rs : List Clcw) (v : ℕ) (vs : List ℕ)
      (is : g.reports ≡ r ∷ rs) (also : g.plain.down ≡ v ∷ vs) (rest : Reporting c bs rs)
      (count : length rs ≡ length vs) (up : Rises g.plain.a (v ∷ vs) g.plain.r) where
    abbrev Hears : FopOutcome SegmentView (Option Alert) → Type 0
    Hears o = Next true c d base g.plain (with_heard w (after_report (after_extraction w.ground_node x) o) bs)
        ⊎ Confirmed c d base g.plain (with_heard w (after_report (after_extraction w.ground_node x) o) bs)

    lasts : Lasts base (r ∷ rs) (WouldConfirm base w.spacecraft.farm)
    lasts = rw is at g.stage.lasts

    same : d ≡ InitWithCheck
        → AllSame (r ∷ rs) w.spacecraft.farm.lockout w.spacecraft.farm.retransmit w.spacecraft.farm.vr
    same = rw is at g.stage.same

    -- nothing is acknowledged
    moves : (f : FopState SegmentView) → f.nn ≡ w.ground_node.fop.nn
        → ((pending : List SegmentView) (n : ℕ) (units : List SegmentView)
        → Held (is_closed w.ground_node.fop.state) base w.ground_node.fop.vs w.ground_node.fop.nn
        w.ground_node.fop.sent (option_to_list w.ground_node.fop.waiting ++ pending) g.plain.a n units
        → Held (is_closed f.state) base f.vs f.nn f.sent (option_to_list f.waiting ++ pending) g.plain.a n units)
        → Moves base w.ground_node.fop g.plain.a v 0 f
    moves f nn held = record {
      gone_is = inl refl;
      nn_is = omega (arith, nn, g.linked.nn_octet);
      nn_octet = rw nn g.linked.nn_octet;
      held = λ pending n units was. let none : g.plain.a + 0 ≡ g.plain.a = omega arith in
          rw none (held pending n units was);
    }

    -- the session is not confirmed
    stays_early : (o : FopOutcome SegmentView (Option Alert)) → IsEarly d o.after.state
        → ControlFits d base o.after.control → Moves base w.ground_node.fop g.plain.a v 0 o.after
        → Next true c d base g.plain (with_heard w (after_report (after_extraction w.ground_node x) o) bs)
    stays_early o early command_is to =
        heard_keeps true true c d base w g x bs rs v vs o 0 also rest count up to (record {
          checked = g.stage.checked;
          early = early;
          command_is = command_is;
          confirmed_not = rw (g.stage.confirmed_not, confirms_not d w.ground_node.fop.state o.after.state early) refl;
          front_is = g.stage.front_is;
          none_sent = g.stage.none_sent;
          lasts = lasts.1;
          same = λ e. (same e).4;
        })

    vs_of : is_closed w.ground_node.fop.state ≡ false → w.ground_node.fop.vs ≡ base
    vs_of on = omega (arith, (holds_on g.linked on).vs_is, g.stage.none_sent, g.linked.base_octet)

    -- the CLCW confirms
    goes_late : (f : FopState SegmentView) → is_closed w.ground_node.fop.state ≡ false
        → is_initialising w.ground_node.fop.state ≡ true → f.state ≡ S1 → f.vs ≡ w.ground_node.fop.vs
        → f.nn ≡ w.ground_node.fop.nn → f.sent ≡ w.ground_node.fop.sent → f.waiting ≡ w.ground_node.fop.waiting
        → Good base r → Hears (goes_on f)
    goes_late f on waits_for state vs_is nn_is sent waiting good =
        let all = lasts.0 good in
        let last = last_good base rs (WouldConfirm base w.spacecraft.farm) all in
        let was = holds_on g.linked on in
        let farm = w.spacecraft.farm in
        let rises : Rises v vs 0 = subst (Rises v vs) r_none up.1 in
        let to = moves f nn_is (λ pending n units held. rw state (held_same_where false base
        (record w.ground_node { pending = pending }) f g.plain.a n units vs_is nn_is (ap units_of sent) waiting
        (rw on at held))) in
        let stage : Settled d base f.state farm
        (w.session.confirmed || is_confirmation w.ground_node.fop.state f.state) g.front rs (g.plain.a + 0) g.plain.r
        g.plain.n vs = record {
          late = rw state tt;
          confirmed_is = λ t. confirms_now w.session.confirmed w.ground_node.fop.state f.state state waits_for;
          confirmed_so = λ t. g.stage.checked;
          vr_is = omega (arith, last.3, r_none, g.linked.base_octet);
          first = λ e. r_none;
          down_is = good_down base v rs vs (WouldConfirm base farm) g.linked.base_octet count rises all;
          calm = λ t.
              let none : 2 * g.plain.r + bit farm.retransmit ≡ 0 = rw last.2 (omega (arith, r_none)) in
              record {
                unlocked = last.0;
                clear = λ e. last.2;
                ranks = rw none (good_ranks base v (2 * (g.plain.a + 0) + asked f.state) rs vs (WouldConfirm base farm)
                    (rw state (omega (arith, a_none))) count rises all);
                rank_most = omega (arith, none);
              };
        } in
        inr (record {
          late = heard_keeps true false c d base w g x bs rs v vs (goes_on f) 0 also rest count up to stage;
          exact = refilled_keeps (λ t. (farm.vr ≡ t.fop.vs) × (t.fop.nn ≡ t.fop.vs))
              (record (acknowledging (after_extraction w.ground_node x) (goes_on f)) { fop = f })
              (λ wait pending so off. (
                last.3 ∙ sym (vs_of on) ∙ sym vs_is,
                omega (arith, nn_is, vs_is, was.nn_is, a_none, vs_of on, g.linked.base_octet),
              ));
        })

    hears_early : Hears (clcw_step w.ground_node.fop r)
    hears_early =
        let s = w.ground_node.fop in
        let confirming : is_closed s.state ≡ false → IsConfirming s r → Good base r =
        λ on t. (t.0, t.1, t.2, t.3 ∙ vs_of on) in
        reported s r (λ o. Hears o) (record {
          active = λ active. absurd (early_off d s.state g.stage.early active);
          alerted = λ is alert cause. inl (stays_early (alerts s alert) tt tt (moves (after_alert s) refl
              (λ pending n units was. kept_of (is_closed w.ground_node.fop.state) _ _ _ _ _ _ _ _ was)));
          checked = λ state confirms. let on : is_closed s.state ≡ false = rw state refl in
              goes_late (record s { state = S1; ticks = None }) on (rw state refl) refl refl refl refl refl
              (confirming on confirms);
          commanded = λ state confirms. let on : is_closed s.state ≡ false = rw state refl in
              goes_late (record s { state = S1; ticks = None; control = Idle }) on (rw state refl) refl refl refl refl
              refl (confirming on confirms);
          same = inl (stays_early (goes_on s) g.stage.early g.stage.command_is
              (moves s refl (λ pending n units was. was)));
        })

  down_early : (bs : List (List ℕ)) (rs : List Clcw) (vs : List ℕ) → g.reports ≡ rs → g.plain.down ≡ vs
      → Reporting c bs rs → length rs ≡ length vs → Rises g.plain.a vs g.plain.r
      → Next true c d base g.plain (down_deliver_step w bs).after
      ⊎ Confirmed c d base g.plain (down_deliver_step w bs).after
  down_early [] rs vs is also rest count up = inl (stays g)
  down_early (b ∷ bs) [] vs is also rest count up = elim rest [ ]
  down_early (b ∷ bs) (r ∷ rs) [] is also rest count up = absurd cc
  down_early (b ∷ bs) (r ∷ rs) (v ∷ vs) is also rest count up =
      let x : Extracted = extract_step w.ground_node.extractor rest.0.frame in
      subst (λ (o : GroundOutcome Heard). Next true c d base g.plain (with_heard w o.after bs)
      ⊎ Confirmed c d base g.plain (with_heard w o.after bs))
      (sym (used_is c w.ground_node b r k.ground_node.config rest.0))
      (hears_early x r bs rs v vs is also rest.1 (omega (arith, count)) up)

  pub early_down_deliver : Next true c d base g.plain (down_deliver_step w w.down).after
      ⊎ Confirmed c d base g.plain (down_deliver_step w w.down).after
  early_down_deliver =
      down_early w.down g.reports g.plain.down refl refl g.linked.reporting g.linked.counted g.linked.rises

  -- the same for a CLCW by itself
  pub early_down_clcw : Next true c d base g.plain (world_step w events.DownClcw).after
      ⊎ Confirmed c d base g.plain (world_step w events.DownClcw).after
  early_down_clcw =
      let t : HasReports c w.down = record { reports = g.reports; reporting = g.linked.reporting } in
      subst (λ (new : World). Next true c d base g.plain new ⊎ Confirmed c d base g.plain new)
      (sym (words_apart c w k t)) (elim early_down_deliver [
        | inl n ↦ inl (next_apart w n)
        | inr n ↦ inr (record { late = next_apart w n.late; exact = n.exact })
      ])

-- Telemetry that arrives once a session is settled keeps what holds.

-- ---- what a CLCW leads to

pub record Goes (base : ℕ) (checked : Type 0) (s : FopState SegmentView) (rank a v gone : ℕ) (f : FopState SegmentView)
    : Type 0 where
  pub moves : Moves base s a v gone f
  pub late : IsLate f.state
  pub rank_is : checked → 2 * (a + gone) + asked f.state ≤ rank

abbrev Going : ℕ → Type 0 → FopState SegmentView → ℕ → Clcw → ℕ → FopState SegmentView → Type 0
Going base checked s a c v f = (gone : ℕ) × Goes base checked s (2 * v + bit (asks c)) a v gone f

held_after : (base : ℕ) (s : FopState SegmentView) (a : ℕ) (off : Bool) (gone : ℕ)
    (o : FopOutcome SegmentView (Option Alert)) (pending : List SegmentView) (n : ℕ) (us : List SegmentView)
    → o.after.vs ≡ s.vs → o.after.nn ≡ (base + (a + gone)) % 256 → HeldBy off s gone o
    → Held false base s.vs s.nn s.sent (option_to_list s.waiting ++ pending) a n us
    → Held off base o.after.vs o.after.nn o.after.sent (option_to_list o.after.waiting ++ pending) (a + gone) n us
held_after base s a true gone o pending n us vs nn by was = inl (vs ∙ was.vs_is, nn)
held_after base s a false gone o pending n us vs nn by was = record {
  vs_is = vs ∙ was.vs_is;
  nn_is = nn;
  sent_is = by.0 ∙ rw (was.sent_is, drop-drop) refl;
  rest_is = rw by.1 was.rest_is;
}

-- ---- the world

not_waiting : (m : FopMode) → IsLate m → is_initialising m ≡ false
not_waiting S4 late = elim late [ ]
not_waiting S5 late = elim late [ ]
not_waiting _ late = refl

confirms_no_more : (old new : FopMode) → IsLate old → is_confirmation old new ≡ false
confirms_no_more old S1 late = not_waiting old late
confirms_no_more old _ late = refl

was_confirmed : (was : Bool) (old new : FopMode) → IsLate old → was || is_confirmation old new ≡ true → was ≡ true
was_confirmed true old new late is = refl
was_confirmed false old new late is = sym (confirms_no_more old new late) ∙ is

module _ (c : Config) (d : Directive) (base : ℕ) (w : World) (k : Sound c w) (g : Late c d base w) where
  -- the sender changes
  heard_so : (r : Clcw) (rs : List Clcw) (v : ℕ) (vs : List ℕ) (rank : ℕ) (f : FopState SegmentView) (gone : ℕ)
      → DownIs base (r ∷ rs) (v ∷ vs)
      → (IsChecked d → Ranks rank rs vs (2 * g.plain.r + bit w.spacecraft.farm.retransmit))
      → Goes base (IsChecked d) w.ground_node.fop rank g.plain.a v gone f
      → Settled d base f.state w.spacecraft.farm
      (w.session.confirmed || is_confirmation w.ground_node.fop.state f.state) g.front rs (g.plain.a + gone) g.plain.r
      g.plain.n vs
  heard_so r rs v vs rank f gone down_is ranks_on to =
      let p = g.plain in
      let s = g.stage in
      record {
        late = to.late;
        confirmed_is = λ t. rw (s.confirmed_is t) refl;
        confirmed_so = λ t. s.confirmed_so
            (was_confirmed w.session.confirmed w.ground_node.fop.state f.state s.late t);
        vr_is = s.vr_is;
        first = s.first;
        down_is = down_is.1;
        calm = λ checked.
            let m = s.calm checked in
            let ranks : Ranks (2 * (p.a + gone) + asked f.state) rs vs (2 * p.r + bit w.spacecraft.farm.retransmit) =
            ranks_lower rank (2 * (p.a + gone) + asked f.state) (2 * p.r + bit w.spacecraft.farm.retransmit) rs vs
            (to.rank_is checked) (ranks_on checked) in
            assumption (ranks, m);
      }

  -- what is known of a CLCW when it arrives, while the sender is on
  abbrev pub Comes : Clcw → ℕ → Type 0
  Comes r v = is_closed w.ground_node.fop.state ≡ false
      → ReportComes base (c.width / 2) (IsChecked d) w.ground_node.fop g.plain.a g.plain.n r v

  -- the CLCW is the first in transit
  pub coming : (r : Clcw) (rs : List Clcw) (v : ℕ) (vs : List ℕ) → DownIs base (r ∷ rs) (v ∷ vs)
      → Rises g.plain.a (v ∷ vs) g.plain.r
      → (IsChecked d
      → Ranks (2 * g.plain.a + asked w.ground_node.fop.state) (r ∷ rs) (v ∷ vs)
      (2 * g.plain.r + bit w.spacecraft.farm.retransmit))
      → Comes r v
  coming r rs v vs down_is up ranks on =
      let p = g.plain in
      let l = g.linked in
      let was = holds_on l on in
      let high : v ≤ p.r = rises_to v p.r vs up.1 in
      record {
        value_is = down_is.0;
        low = up.0;
        high = omega (arith, high, l.r_n);
        n_a = l.n_a;
        half_most = omega (arith, k.ranges.width);
        vs_is = was.vs_is;
        nn_is = was.nn_is;
        unlocked = λ t. (ranks t).0;
        wait_flag = λ t. (ranks t).1;
        rank_low = λ t. (ranks t).2;
        rank_high = λ t.
            let most = (g.stage.calm t).rank_most in
            let rest = ranks_to (2 * v + bit (asks r)) (2 * p.r + bit w.spacecraft.farm.retransmit) rs vs (ranks t).3 in
            omega arith;
      }

  module _ (r : Clcw) (v : ℕ) (comes : Comes r v)
      (low : IsChecked d → 2 * g.plain.a + asked w.ground_node.fop.state ≤ 2 * v + bit (asks r)) where
    abbrev Leads_on : FopOutcome SegmentView (Option Alert) → Type 0
    Leads_on o = Going base (IsChecked d) w.ground_node.fop g.plain.a r v o.after

    running : (o : FopOutcome SegmentView (Option Alert)) → is_closed w.ground_node.fop.state ≡ false
        → Led base (IsChecked d) w.ground_node.fop g.plain.a r v o → Leads_on o
    running o on led =
        let k = comes on in
        let to = led.2 in
        let most : led.0 ≤ 127 =
        elim led.1 [ inl e ↦ omega (arith, e) | inr e ↦ omega (arith, e, k.high, k.n_a, k.half_most) ] in (
          led.0,
          record {
            moves = record {
              gone_is = led.1;
              nn_is = omega (arith, to.nn_is, k.nn_is, most);
              nn_octet = omega (arith, to.nn_is);
              held = λ pending n us was. held_after base w.ground_node.fop g.plain.a (is_closed o.after.state) led.0 o
                  pending n us to.vs_is to.nn_is to.held (rw on at was);
            };
            late = to.late;
            rank_is = to.rank_is;
          },
        )

    goes_in : (m : FopMode) → w.ground_node.fop.state ≡ m → Leads_on (report_in w.ground_node.fop r m)
    goes_in S4 is = absurd (let no : IsLate S4 = rw is at g.stage.late in no)
    goes_in S5 is = absurd (let no : IsLate S5 = rw is at g.stage.late in no)
    goes_in S6 is = (
      0,
      record {
        moves = record {
          gone_is = inl refl;
          nn_is = omega (arith, g.linked.nn_octet);
          nn_octet = g.linked.nn_octet;
          held = λ pending n us was. let same : g.plain.a + 0 ≡ g.plain.a = omega arith in rw same was;
        };
        late = g.stage.late;
        rank_is = λ t. omega (arith, low t);
      },
    )
    goes_in _ is =
        let on : is_closed w.ground_node.fop.state ≡ false = rw is refl in
        running (report_while_active w.ground_node.fop r) on
        (active_led base (c.width / 2) (IsChecked d) w.ground_node.fop g.plain.a g.plain.n r v (comes on) (rw is tt))

  deliver_keeps : (bs : List (List ℕ)) (rs : List Clcw) (vs : List ℕ) → g.plain.down ≡ vs → Reporting c bs rs
      → length rs ≡ length vs → DownIs base rs vs → Rises g.plain.a vs g.plain.r
      → (IsChecked d
      → Ranks (2 * g.plain.a + asked w.ground_node.fop.state) rs vs (2 * g.plain.r + bit w.spacecraft.farm.retransmit))
      → Next false c d base g.plain (down_deliver_step w bs).after
  deliver_keeps [] rs vs also rest count down_is up ranks = stays g
  deliver_keeps (b ∷ bs) [] vs also rest count down_is up ranks = elim rest [ ]
  deliver_keeps (b ∷ bs) (r ∷ rs) [] also rest count down_is up ranks = elim down_is [ ]
  deliver_keeps (b ∷ bs) (r ∷ rs) (v ∷ vs) also rest count down_is up ranks =
      let x : Extracted = extract_step w.ground_node.extractor rest.0.frame in
      let goes =
      goes_in r v (coming r rs v vs down_is up ranks) (λ t. (ranks t).2) w.ground_node.fop.state refl in
      let heard : FopOutcome SegmentView (Option Alert) = clcw_step w.ground_node.fop r in
      subst (λ (o : GroundOutcome Heard). Next false c d base g.plain (with_heard w o.after bs))
      (sym (used_is c w.ground_node b r k.ground_node.config rest.0))
      (heard_keeps false false c d base w g x bs rs v vs heard goes.0 also rest.1 (omega (arith, count)) up
      goes.1.moves (heard_so r rs v vs (2 * v + bit (asks r)) heard.after goes.0 down_is (λ t. (ranks t).3) goes.1))

  pub late_down_deliver : Next false c d base g.plain (down_deliver_step w w.down).after
  late_down_deliver =
      deliver_keeps w.down g.reports g.plain.down refl g.linked.reporting g.linked.counted g.stage.down_is
      g.linked.rises (λ t. (g.stage.calm t).ranks)

  -- the same for a CLCW by itself
  pub late_down_clcw : Next false c d base g.plain (world_step w events.DownClcw).after
  late_down_clcw =
      let t : HasReports c w.down = record { reports = g.reports; reporting = g.linked.reporting } in
      subst (Next false c d base g.plain) (sym (words_apart c w k t)) (next_apart w late_down_deliver)
