-- What the ground counts about the submissions of a session is what the records show.
use Rattle.tc_link.proofs.Common.{◌≡◌, ℕ, ◌+◌, ◌%◌, ◌/◌, ◌<◌, ◌≤◌, ◌⊎◌, inl, inr, true, false, List, [], ◌∷◌, ◌++◌}
use Rattle.tc_link.proofs.Common.{length, map, Option, Some, None, Result, Ok, refl, ap, sym, subst, ◌∙◌, arith}
use Rattle.tc_link.proofs.Common.{length-append, length-map, AllByRecursion, SegmentView, CopFault, Alert, Directive}
use Rattle.tc_link.proofs.Common.{InitWithoutCheck, InitWithCheck, InitUnlock, InitSetVr, directive_step, FopState}
use Rattle.tc_link.proofs.Common.{FopOutcome, is_initiation, is_closed, Config, GroundState, refill_step}
use Rattle.tc_link.proofs.Common.{with_fop, directive_outcome, segments_on, segments_of, after_submission, clcw_step}
use Rattle.tc_link.proofs.Common.{submitting, ahead_by, PacketOn, Event, World, WorldOutcome, world_step}
use Rattle.tc_link.proofs.Common.{world_after_directive, BeginsNoSession, IsIdle, IsSettled, IsEvent}
use Rattle.tc_link.proofs.Common.{accepted, directive_of, option_map, Opening, IsChecking, closed_is, HasPlainHistory}
use Rattle.tc_link.proofs.Common.{obeyed, begun, packet_on, after_alert, obeying, acknowledging, Clcw, ClcwFault}
use Rattle.tc_link.proofs.Common.{TmFault, GroundOutcome, cond_both, telemetry_outcome, after_extraction, Err}
use Rattle.clcw.specs.Decoding.{clcw_at}
use Rattle.tm_link.specs.Layout as telemetry
use Rattle.tm_link.specs.Decoding as telemetry_reading
use Rattle.tm_link.specs.Extractor.{extract_step}
use Rattle.nodes.specs.declared.heard.Heard.{Heard}
use Rattle.nodes.specs.declared.heard.HeardClcw.{HeardClcw}
use Rattle.simulated_link.specs.Replies.{heard_alert}
use Rattle.cop1.proofs.Cases.{obeyed_set}
use Rattle.tc_link.specs.Confirmation.{IsChecked}
use Rattle.std.specs.Prelude.{◌^◌, ◌==◌, ◌≢◌}
use Rattle.std.specs.List.{flat_map}
use Rattle.cop1.specs.declared.vocabulary.Directive.TheVariants.{Terminate, SetVs}
use Rattle.cop1.specs.declared.vocabulary.Alert.TheVariants.{Terminated}
use Rattle.cop1.specs.Accepted.{accepted_beyond}
use Rattle.nodes.specs.Fates.{Fates, left_after, whole_within, whole_with, new_fates, with_submission}
use Rattle.nodes.specs.Fates.{after_acknowledging, after_obeying, kept_after, submitted as submissions_of}
use Rattle.nodes.specs.Fates.{beside_alert, shows_one}
use Rattle.nodes.specs.Ground.{moved_by, after_report, after_directive, known_on_board, sent_beyond}
use Rattle.nodes.specs.Ground.{report_outcome, is_own_telemetry}
use Rattle.nodes.proofs.Owed.{moved_is, fewer_left, left_more}
use Rattle.nodes.specs.declared.event.Event.TheVariants as events
use Rattle.simulated_link.proofs.Unchanged.{ground_after, not_restarted, BringsReport, down_arrives, word_arrives}
use Rattle.simulated_link.specs.World.{Session, session_after_report}
use Rattle.tc_link.proofs.AnyPast.{past_holds, link_step_holds, still_idle, still_opening, CountsAs, counts_still}
use Rattle.tc_link.proofs.CountsOn.{keeps_what_is_known}
use Rattle.tc_link.proofs.OneLink.{sent_count, accepted_count}
use Rattle.tc_link.proofs.Promised.{promised_so}
use Rattle.tc_link.proofs.Beside.{beside_so}
use Rattle.tc_link.proofs.IdleStart.{in_session}
use Rattle.tc_link.proofs.Linked.{holds_on}
use Rattle.tc_link.proofs.InOrder.{sent_length, has_plain_history}
use Rattle.tc_link.proofs.Whole.{total, left_with, whole_still, whole_more}
use Rattle.tc_link.proofs.Invariant.{Holding, BeganAt, step_holds, began_at, begun_session}
use Rattle.tc_link.proofs.Known.{octet}
use Rattle.tc_link.proofs.Refilled.{refilled_keeps}
use Rattle.tc_link.specs.Accepted.{SaysWhatWasAccepted}
use Rattle.std.proofs.lemmas.Bool.{cases_Bool, eqb-true, eqb-false}
use Rattle.tc_link.specs.AnyPast.{HasAnyPast, LinkStep, IsLinkStep, link_run, link_step}
use Rattle.tc_link.specs.Beside.{LeavesSession, SessionLasts, LeavesNumbers, SetsNone, ShowsNothing, ShowsNone}
use Rattle.tc_link.specs.FalseAlarms.{alert_in}
use Rattle.tc_link.specs.CountsOn.{CountsFrom}
use Rattle.tc_link.specs.Taken.{BeginsSession}
use Rattle.tc_link.specs.Fates.{whole_first, CountsSubmissions, KnowsOnBoard, KnowsFates}
use Rattle.tc_link.specs.Whole.{segments_each}
use Rattle.tc_link.specs.Known.{SetsNoNumber}

-- ---- the segments of submissions

module _ (c : Config) where
  abbrev pub segments : PacketOn → List SegmentView
  segments p = segments_of c.part p.on_map p.octets

  abbrev pub counts : List PacketOn → List ℕ
  counts ps = map (λ (p : PacketOn). length (segments p)) ps

  counts_total : (ps : List PacketOn) → length (flat_map segments ps) ≡ total (counts ps)
  counts_total [] = refl
  counts_total (p ∷ ps) = omega (arith, length-append (segments p) (flat_map segments ps), counts_total ps)

  counts_with : (ps : List PacketOn) (p : PacketOn) → counts (ps ++ p ∷ []) ≡ counts ps ++ length (segments p) ∷ []
  counts_with [] p = refl
  counts_with (q ∷ ps) p = ap (λ (ns : List ℕ). length (segments q) ∷ ns) (counts_with ps p)

-- ---- the ground's bookkeeping

-- the ground's bookkeeping is about these submissions; so many of their segments are acknowledged
pub record Accounts (c : Config) (fates : Fates) (submissions : List PacketOn) (a : ℕ) : Type 0 where
  pub left : fates.left ≡ left_after a (counts c submissions)
  pub acknowledged : fates.acknowledged ≡ whole_within a (counts c submissions) % 2 ^ 64

abbrev pub AccountsAt : Config → World → Type 0
AccountsAt c w = Accounts c w.ground_node.fates w.session.submissions w.session.acknowledged

pub new_accounts : (c : Config) → Accounts c (new_fates true) [] 0
new_accounts c = record { left = refl; acknowledged = refl }

pub with_accounts : (c : Config) (fates : Fates) (ps : List PacketOn) (p : PacketOn) (a n : ℕ)
    → a ≤ length (flat_map (segments c) ps) → n ≡ length (segments c p) → Accounts c fates ps a
    → Accounts c (with_submission n fates) (ps ++ p ∷ []) a
with_accounts c fates ps p a n le is k =
    let most : a ≤ total (counts c ps) = omega (arith, le, counts_total c ps) in
    record {
      left =
          ap (λ (ns : List ℕ). ns ++ n ∷ []) k.left
          ∙ ap (λ (m : ℕ). left_after a (counts c ps) ++ m ∷ []) is
          ∙ sym (left_with a (counts c ps) (length (segments c p) ∷ []) most)
          ∙ ap (left_after a) (sym (counts_with c ps p));
      acknowledged =
          k.acknowledged
          ∙ ap (λ (m : ℕ). m % 2 ^ 64)
          (sym (whole_still a (counts c ps) (length (segments c p) ∷ []) most)
          ∙ ap (whole_within a) (sym (counts_with c ps p)));
    }

pub with_acknowledged : (c : Config) (fates : Fates) (ps : List PacketOn) (a k b : ℕ) (alert : Option Alert)
    → b ≡ a + k → Accounts c fates ps a → Accounts c (beside_alert alert (after_acknowledging k fates)) ps b
with_acknowledged c fates ps a k b alert is t =
    let left : left_after k fates.left ≡ left_after b (counts c ps) =
    ap (left_after k) t.left ∙ sym (left_more a k b (counts c ps) is) in
    let more : whole_within k fates.left ≡ whole_within k (left_after a (counts c ps)) =
    ap (whole_within k) t.left in
    record {
      left = left;
      acknowledged = omega (arith, t.acknowledged, more, whole_more a k b (counts c ps) is);
    }

-- so many segments more than those acknowledged
pub whole_so : (c : Config) (fates : Fates) (ps : List PacketOn) (a j m : ℕ) → Accounts c fates ps a → m ≡ a + j
    → whole_with j fates ≡ whole_within m (counts c ps) % 2 ^ 64
whole_so c fates ps a j m k is =
    omega (arith, k.acknowledged, ap (whole_within j) k.left, whole_more a j m (counts c ps) is)

pub submitted_so : (c : Config) (fates : Fates) (ps : List PacketOn) (a : ℕ) → Accounts c fates ps a
    → submissions_of fates ≡ length ps % 2 ^ 64
submitted_so c fates ps a k =
    omega (
      arith,
      k.acknowledged,
      ap length k.left,
      (fewer_left a (counts c ps)).0,
      length-map ps (λ (p : PacketOn). length (segments c p)),
    )

-- ---- the ground

pub refilled_fates : (s : GroundState) → (refill_step s).fates ≡ s.fates
refilled_fates s = refilled_keeps (λ t. t.fates ≡ s.fates) s (λ waiting pending on closed. refl)

pub with_fates : (s : GroundState) (f : FopState SegmentView) → (with_fop s f).fates ≡ s.fates
with_fates s f = refilled_fates (record s { fop = f })

-- a CLCW acknowledges as many segments as NN(R) moves; telemetry without a CLCW leaves the
-- bookkeeping
abbrev Acknowledges : GroundState → GroundState → Type 0
Acknowledges s t =
    ((t.fates ≡ s.fates) × (t.fop.nn ≡ s.fop.nn))
    ⊎ ((alert : Option Alert)
    × (t.fates ≡ beside_alert alert (after_acknowledging (moved_by t.fop.nn s.fop.nn) s.fates)))

with_report : (s : GroundState) (o : FopOutcome SegmentView (Option Alert)) → Acknowledges s (after_report s o)
with_report s o =
    let counted : GroundState = acknowledging s o in
    let nn : (with_fop counted o.after).fop.nn ≡ o.after.nn =
    refilled_keeps (λ t. t.fop.nn ≡ o.after.nn) (record counted { fop = o.after })
    (λ waiting pending on closed. refl) in
    inr (
      o.answer,
      with_fates counted o.after
          ∙ ap (λ (n : ℕ). beside_alert o.answer (after_acknowledging (moved_by n s.fop.nn) s.fates)) (sym nn),
    )

-- ---- a directive that begins no session, and sets no V(S)

pub counts_on : (d : Directive) → is_initiation d ≡ false → ((x : ℕ) → d ≢ SetVs x) → kept_after d ≡ None
counts_on (SetVs x) plain other = absurd (other x refl)
counts_on _ plain other = cc plain

abbrev KeepsAccount : World → WorldOutcome → Type 0
KeepsAccount w o =
    (o.after.ground_node.fates ≡ w.ground_node.fates) × (o.after.session.submissions ≡ w.session.submissions)
    × (o.after.session.acknowledged ≡ w.session.acknowledged)

module _ (w : World) where
  obeyed_keeps : (d : Directive) → kept_after d ≡ None → is_initiation d ≡ false
      → (alert : Option Alert) (f : FopState SegmentView)
      → KeepsAccount w (world_after_directive w d
      (record { answer = Ok alert; after = after_directive w.ground_node d (Ok alert) f }))
  obeyed_keeps d none plain alert f =
      let fates : after_obeying w.ground_node.fates d ≡ w.ground_node.fates = rw none refl in (
        with_fates (record w.ground_node { fates = after_obeying w.ground_node.fates d }) f ∙ fates,
        rw plain refl,
        rw plain refl,
      )

  abbrev Keeps : Directive → FopOutcome SegmentView (Result (Option Alert) CopFault) → Type 0
  Keeps d o =
      BeginsNoSession w (events.Directive d) → SetsNoNumber w (events.Directive d)
      → KeepsAccount w (world_after_directive w d (directive_outcome w.ground_node d o))

  directive_keeps : (d : Directive) → Keeps d (directive_step w.ground_node.fop d)
  directive_keeps = obeyed_set w.ground_node.fop Keeps (record {
    refused = λ d fault on goes quiet. (refl, refl, refl);
    begins = λ d is off goes quiet. absurd (cc (goes is, off));
    terminated = λ goes quiet. obeyed_keeps Terminate refl refl (Some Terminated) (after_alert w.ground_node.fop);
    numbers = λ x off goes quiet. absurd (cc (quiet x refl, off));
    sets = λ d k n ticks plain set goes quiet. obeyed_keeps d (counts_on d plain set.plain) plain None
        (record w.ground_node.fop { window = k; limit = n; timer = ticks });
  })

-- ---- one event

module _ (c : Config) (w : World) (k : AccountsAt c w) (config : w.ground_node.config ≡ c)
    (most : w.session.acknowledged ≤ length (flat_map (segments c) w.session.submissions)) where
  submits : (m : ℕ) (octets : List ℕ) → Accounts c (after_submission w.ground_node m octets).fates
      (w.session.submissions ++ packet_on m octets ∷ []) w.session.acknowledged
  submits m octets =
      let s : GroundState = w.ground_node in
      let p : PacketOn = record { on_map = m; octets = octets } in
      let n : ℕ = length (segments_on s m octets) in
      let count : n ≡ length (segments c p) = ap (λ (x : Config). length (segments_of x.part m octets)) config in
      subst (λ (fates : Fates). Accounts c fates (w.session.submissions ++ p ∷ []) w.session.acknowledged)
      (sym (refilled_fates (submitting s m octets)))
      (with_accounts c s.fates w.session.submissions p w.session.acknowledged n most count k)

  hears : (t : GroundState) → w.ground_node.fop.nn < 256 → Acknowledges w.ground_node t
      → Accounts c t.fates w.session.submissions (session_after_report w.session w.ground_node t).acknowledged
  hears t octet is = elim is [
    | inl same ↦ (
        let none : w.session.acknowledged ≡ w.session.acknowledged + ahead_by t.fop.nn w.ground_node.fop.nn =
        omega (arith, same.1, octet) in
        rw (same.0) (subst (Accounts c w.ground_node.fates w.session.submissions) none k))
    | inr told ↦ (
        let moved : ahead_by t.fop.nn w.ground_node.fop.nn ≡ moved_by t.fop.nn w.ground_node.fop.nn =
        moved_is t.fop.nn w.ground_node.fop.nn octet in
        rw (told.1) (with_acknowledged c w.ground_node.fates w.session.submissions w.session.acknowledged
        (moved_by t.fop.nn w.ground_node.fop.nn) (w.session.acknowledged + ahead_by t.fop.nn w.ground_node.fop.nn)
        told.0 (ap (λ (n : ℕ). w.session.acknowledged + n) moved) k))
  ]

  step_accounts : w.ground_node.fop.nn < 256 → (e : Event) → BeginsNoSession w e → SetsNoNumber w e
      → AccountsAt c (world_step w e).after
  step_accounts octet e goes quiet =
      let s = w.ground_node in
      ground_after w (λ t session. Accounts c t.fates session.submissions session.acknowledged) e (record {
        same = k;
        submits = λ m octets none. submits m octets;
        bypasses = λ m octets is none. k;
        directs = λ d is.
            let kept = directive_keeps w d (subst (BeginsNoSession w) is goes) (subst (SetsNoNumber w) is quiet) in
            rw (kept.0, kept.1, kept.2) k;
        restarts = λ value is can. not_restarted w e goes value is can;
        ticks = λ is. rw (with_fates s _) k;
        sends = λ is sent. rw (with_fates s _) k;
        hears_none = λ told x packets. hears (record s { extractor = x; telemetry = packets }) octet
            (inl (refl, refl));
        hears = λ told x packets r.
            let t : GroundState = record s { extractor = x; telemetry = packets } in
            let o : FopOutcome SegmentView (Option Alert) = clcw_step s.fop r in
            hears (after_report t o) octet (with_report t o);
      })

-- ---- an event that begins no session, and sets no V(S)

module _ (w : World) (kept : w.ground_node.fates.kept ≡ true) where
  abbrev StillKept : WorldOutcome → Type 0
  StillKept o = shows_one (alert_in o.answer) ≡ false → o.after.ground_node.fates.kept ≡ true

  -- a CLCW is heard, in its frame or by itself
  word_kept : (s : GroundState) → s.fates.kept ≡ true → (r : Result Clcw ClcwFault)
      → let o = report_outcome s r in shows_one o.answer.alert ≡ false → o.after.fates.kept ≡ true
  word_kept s is (Err fault) = λ none. is
  word_kept s is (Ok report) =
      cond_both (report.vcid == s.config.vcid) _ _
      (λ (o : GroundOutcome HeardClcw). shows_one o.answer.alert ≡ false → o.after.fates.kept ≡ true)
      (λ t none. let o = clcw_step s.fop report in
      ap (λ (f : Fates). f.kept) (with_fates (acknowledging s o) o.after) ∙ rw (none, is) refl)
      (λ t none. is)

  frame_kept : (r : Result telemetry.FrameView TmFault) → let o = telemetry_outcome w.ground_node r in
      shows_one (heard_alert o.answer) ≡ false → o.after.fates.kept ≡ true
  frame_kept (Err fault) = λ none. kept
  frame_kept (Ok frame) =
      cond_both (is_own_telemetry w.ground_node.config frame) _ _
      (λ (o : GroundOutcome Heard). shows_one (heard_alert o.answer) ≡ false → o.after.fates.kept ≡ true)
      (λ t. word_kept (after_extraction w.ground_node (extract_step w.ground_node.extractor frame)) kept
      (clcw_at frame.ocf))
      (λ t none. kept)

  -- an event that brings no CLCW
  other_kept : (e : Event) → BeginsNoSession w e → SetsNoNumber w e → (BringsReport e → ⊥)
      → (world_step w e).after.ground_node.fates.kept ≡ true
  other_kept e goes quiet silent =
      let s = w.ground_node in
      ground_after w (λ t session. t.fates.kept ≡ true) e (record {
        same = kept;
        submits = λ m octets none. ap (λ (f : Fates). f.kept) (refilled_fates (submitting s m octets)) ∙ kept;
        bypasses = λ m octets is none. kept;
        directs = λ d is.
            let same = directive_keeps w d (subst (BeginsNoSession w) is goes) (subst (SetsNoNumber w) is quiet) in
            ap (λ (f : Fates). f.kept) same.0 ∙ kept;
        restarts = λ value is can. not_restarted w e goes value is can;
        ticks = λ is. ap (λ (f : Fates). f.kept) (with_fates s _) ∙ kept;
        sends = λ is sent. ap (λ (f : Fates). f.kept) (with_fates s _) ∙ kept;
        hears_none = λ told. absurd (silent told);
        hears = λ told. absurd (silent told);
      })

  pub event_kept : (e : Event) → BeginsNoSession w e → SetsNoNumber w e → StillKept (world_step w e)
  event_kept events.DownDeliver goes quiet =
      down_arrives w StillKept (λ none. kept)
      (λ b bs is. frame_kept (telemetry_reading.frame_at w.ground_node.config.frame_length b))
  event_kept events.DownClcw goes quiet =
      word_arrives w StillKept (record {
        refused = λ fault none. kept;
        up = λ b bs is reply silent none. kept;
        down = λ b bs is reply silent none. kept;
      }) (λ b bs is. word_kept w.ground_node kept)
  event_kept e goes quiet = λ none. other_kept e goes quiet (λ told. told)

-- ---- since the session began

begun_kept : (d : Directive) → is_initiation d ≡ true → (fates : Fates) → after_obeying fates d ≡ new_fates true
begun_kept d is fates = rw is refl

module _ (g : GroundState) where
  abbrev StartsAccount : Directive → FopOutcome SegmentView (Result (Option Alert) CopFault) → Type 0
  StartsAccount d o = is_initiation d ≡ true → is_closed g.fop.state ≡ true
      → (directive_outcome g d o).after.fates ≡ new_fates true

  pub starts_account : (d : Directive) → StartsAccount d (directive_step g.fop d)
  starts_account =
      let s = g.fop in
      obeyed s StartsAccount (record {
        refused = λ d fault on is off. absurd (on is (closed_is s.state off));
        begins = λ d is off so closed.
            with_fates (record g { fates = after_obeying g.fates d }) (begun s d)
            ∙ begun_kept d is g.fates;
        terminated = λ is off. absurd cc;
        numbers = λ x same is off. absurd cc;
        sets = λ d k n ticks plain most is off. absurd (cc (plain, is));
      })

module _ (c : Config) where
  -- the acknowledged segments are some of those submitted
  acknowledged_most : (w : World) (h : Holding c w) → IsIdle w
      → w.session.acknowledged ≤ length (flat_map (segments c) w.session.submissions)
  acknowledged_most w h idle =
      let p = has_plain_history c w h.sound (h.session idle) in
      let units : p.plain.units ≡ flat_map (segments c) w.session.submissions =
      p.is.units
      ∙ ap (λ (x : Config). flat_map (λ (p : PacketOn). segments_of x.part p.on_map p.octets) w.session.submissions)
      h.sound.ground_node.config in
      omega (arith, p.is.acknowledged, p.is.order.0, p.is.order.1, p.is.order.2, ap length units)

  -- the session continues, and the bookkeeping with it
  pub record Goes (o : Option Opening) (base : ℕ) (w : World) : Type 0 where
    pub holds : Holding c w
    pub idle : IsIdle w
    pub opening : w.session.opening ≡ o
    pub counts : CountsAs c base w
    pub accounts : AccountsAt c w

  accounts_still : (w : World) → Holding c w → IsIdle w → AccountsAt c w → (s : LinkStep) → LeavesSession w s
      → LeavesNumbers w s → AccountsAt c (link_step w s)
  accounts_still w h idle k s goes quiet = beside_so w (AccountsAt c) s goes (record {
    happens = λ e is goes. step_accounts c w k h.sound.ground_node.config (acknowledged_most w h idle)
        (octet c w h.sound (h.session idle)) e goes (subst (LeavesNumbers w) is quiet);
    same = k;
    takes = λ x packets. k;
    passes = λ u kept. k;
  })

  goes_on : (o : Option Opening) (base : ℕ) (w : World) → Goes o base w → (steps : List LinkStep)
      → AllByRecursion IsLinkStep steps → SessionLasts w steps → SetsNone w steps → Goes o base (link_run w steps)
  goes_on o base w g [] fits lasts quiet = g
  goes_on o base w g (s ∷ steps) fits lasts quiet =
      let h = g.holds in
      goes_on o base (link_step w s) (record {
        holds = link_step_holds c w h s fits.0;
        idle = still_idle w s g.idle lasts.0;
        opening = still_opening w s lasts.0 ∙ g.opening;
        counts = counts_still c w h base s fits.0 lasts.0 g.counts;
        accounts = accounts_still w h g.idle g.accounts s lasts.0 quiet.0;
      }) steps fits.1 lasts.1 quiet.1

  -- the ground knows what is on board, while no alert shows a broken condition
  still_kept : (w : World) → w.ground_node.fates.kept ≡ true → (s : LinkStep) → LeavesSession w s
      → LeavesNumbers w s → ShowsNothing w s → (link_step w s).ground_node.fates.kept ≡ true
  still_kept w kept s goes quiet none = beside_so w (λ (x : World). x.ground_node.fates.kept ≡ true) s goes (record {
    happens = λ e is goes. event_kept w kept e goes (subst (LeavesNumbers w) is quiet) (subst (ShowsNothing w) is none);
    same = kept;
    takes = λ x packets. kept;
    passes = λ u held. kept;
  })

  kept_on : (w : World) → w.ground_node.fates.kept ≡ true → (steps : List LinkStep) → SessionLasts w steps
      → SetsNone w steps → ShowsNone w steps → (link_run w steps).ground_node.fates.kept ≡ true
  kept_on w kept [] lasts quiet none = kept
  kept_on w kept (s ∷ steps) lasts quiet none =
      kept_on (link_step w s) (still_kept w kept s lasts.0 quiet.0 none.0) steps lasts.1 quiet.1 none.1

  -- before the session is settled nothing is sent
  unchecked_or_not : (d : Directive) → is_initiation d ≡ true → (d ≡ InitWithoutCheck) ⊎ IsChecked d
  unchecked_or_not InitWithoutCheck is = inl refl
  unchecked_or_not InitWithCheck is = inr (refl, λ e. absurd cc)
  unchecked_or_not InitUnlock is = inr (refl, λ e. absurd cc)
  unchecked_or_not (InitSetVr x) is = inr (refl, λ e. absurd cc)
  unchecked_or_not _ is = absurd cc

  settled_or_none : (w : World) → Holding c w → IsIdle w → (d : Directive) → is_initiation d ≡ true
      → directive_of w ≡ Some d → IsSettled w ⊎ (length w.session.sent ≡ 0)
  settled_or_none w h idle d is opened =
      let s = h.session idle in
      elim s.session [
        | inl g ↦ inr (ap length g.linked.sent_is ∙ rw g.stage.none_sent refl)
        | inr g ↦ inl (elim (unchecked_or_not d is) [
          | inl without ↦ inr (opened ∙ ap Some without)
          | inr checked ↦ inl (g.stage.confirmed_is
              (subst IsChecking (sym opened ∙ g.linked.opened) checked))
        ])
      ]

  -- ---- what is read from it

  module _ (w : World) (h : Holding c w) (idle : IsIdle w) (k : AccountsAt c w) where
    abbrev history : HasPlainHistory w
    history = has_plain_history c w h.sound (h.session idle)

    counts_are : segments_each w ≡ counts c w.session.submissions
    counts_are =
        ap (λ (x : Config). map (λ (p : PacketOn). length (segments_of x.part p.on_map p.octets)) w.session.submissions)
        h.sound.ground_node.config

    -- so many segments more than those acknowledged
    whole_is : (j m : ℕ) → m ≡ w.session.acknowledged + j → whole_with j w.ground_node.fates ≡ whole_first w m
    whole_is j m is =
        whole_so c w.ground_node.fates w.session.submissions w.session.acknowledged j m k is
        ∙ ap (λ (ns : List ℕ). whole_within m ns % 2 ^ 64) (sym counts_are)

    submitted_is : submissions_of w.ground_node.fates ≡ length w.session.submissions % 2 ^ 64
    submitted_is = submitted_so c w.ground_node.fates w.session.submissions w.session.acknowledged k

    module _ (base : ℕ) (t : CountsFrom base w) where
      half : w.ground_node.config.width / 2 ≤ 127
      half = let it : c.width / 2 ≤ 127 = omega (arith, h.sound.ranges.width) in rw h.sound.ground_node.config it

      -- V(S) - NN(R) is the number of segments that were sent and are not acknowledged
      sent_is : length w.session.sent ≡ w.session.acknowledged + sent_beyond w.ground_node
      sent_is =
          let p = history in
          omega (
            arith,
            t.vs,
            t.nn,
            sent_count w p.base p.plain p.is,
            p.is.acknowledged,
            p.is.order.0,
            p.is.order.1,
            p.is.window,
            half,
          )

      known_with : (value j : ℕ) → w.ground_node.fates.kept ≡ true
          → accepted_beyond w.ground_node.fop.nn w.ground_node.fop.vs value ≡ Some j
          → known_on_board w.ground_node value ≡ Some (whole_with j w.ground_node.fates)
      known_with value j kept is = rw (kept, is) refl

      on_board : SaysWhatWasAccepted w → IsSettled w ⊎ (length w.session.sent ≡ 0)
          → w.ground_node.fates.kept ≡ true → KnowsOnBoard w
      on_board says settled kept =
          let f = w.ground_node.fop in
          let p = history in
          let sent = sent_count w p.base p.plain p.is in
          elim (cases_Bool (f.vs == f.nn)) [
            | inl equal ↦ (
                let all : length (accepted w) ≡ w.session.acknowledged + 0 =
                omega (
                  arith,
                  t.all (eqb-true f.vs f.nn equal),
                  sent,
                  accepted_count w p.base p.plain p.is,
                  p.is.acknowledged,
                  p.is.order.0,
                  p.is.order.1,
                ) in
                known_with w.spacecraft.farm.vr 0 kept (rw equal refl) ∙ ap Some (whole_is 0 (length (accepted w)) all))
            | inr two ↦ (elim settled [
              | inl settled ↦ (
                  let said = says.now settled (inr (eqb-false f.vs f.nn two)) in
                  known_with w.spacecraft.farm.vr said.0 kept said.1
                  ∙ ap Some (whole_is said.0 (length (accepted w)) (sym said.2)))
              | inr none ↦ (
                  let one : f.vs ≡ f.nn =
                  omega (arith, t.vs, t.nn, none, sent, p.is.acknowledged, p.is.order.0, p.is.order.1) in
                  absurd (eqb-false f.vs f.nn two one))
            ])
          ]

-- ---- since the session began

module _ (w : World) where
  abbrev StartsOn : Directive → FopOutcome SegmentView (Result (Option Alert) CopFault) → Type 0
  StartsOn d o = is_initiation d ≡ true → is_closed w.ground_node.fop.state ≡ true
      → is_closed (directive_outcome w.ground_node d o).after.fop.state ≡ false

  begun_on : (f : FopState SegmentView) (d : Directive) → is_initiation d ≡ true → is_closed (begun f d).state ≡ false
  begun_on f InitWithoutCheck is = refl
  begun_on f InitWithCheck is = refl
  begun_on f InitUnlock is = refl
  begun_on f (InitSetVr x) is = refl
  begun_on f _ is = absurd cc

  -- the sender is not in S6 then
  starts_on : (d : Directive) → StartsOn d (directive_step w.ground_node.fop d)
  starts_on =
      let s = w.ground_node.fop in
      obeyed s StartsOn (record {
        refused = λ d fault on is off. absurd (on is (closed_is s.state off));
        begins = λ d is off so closed.
            refilled_keeps (λ t. is_closed t.fop.state ≡ false) (record (obeying w.ground_node d) { fop = begun s d })
            (λ waiting pending on none. begun_on s d is);
        terminated = λ is off. absurd cc;
        numbers = λ x same is off. absurd cc;
        sets = λ d k n ticks plain most is off. absurd (cc (plain, is));
      })

-- what is known at a moment of such a session
pub record Since (c : Config) (w now : World) (e : Event) : Type 0 where
  pub at : BeganAt w e
  pub goes : Goes c (world_step w e).after.session.opening (world_step w e).after.ground_node.fop.vs now
  pub counts : CountsFrom (world_step w e).after.ground_node.fop.vs now

begun_fates : (w : World) (e : Event) → (at : BeganAt w e) → (world_step w e).after.ground_node.fates ≡ new_fates true
begun_fates w e at = subst (λ (x : World). x.ground_node.fates ≡ new_fates true) (sym at.is)
    (starts_account at.start.ground_node at.directive at.initiates at.closed)

pub since_begun : (w : World) (e : Event) (since : List LinkStep) → (r : HasAnyPast w) → BeginsSession w e
    → SessionLasts (world_step w e).after since → SetsNone (world_step w e).after since → IsEvent e
    → AllByRecursion IsLinkStep since → IsIdle (world_step w e).after
    → Since r.config w (link_run (world_step w e).after since) e
since_begun w e since r b lasts quiet fits numbers idle =
    let c : Config = r.config in
    let start : World = (world_step w e).after in
    let h = step_holds c w (past_holds w r) e fits in
    let at = began_at w e b in
    let s = begun_session w e at in
    let fates = begun_fates w e at in
    let on = subst (λ (x : World). is_closed x.ground_node.fop.state ≡ false) (sym at.is)
    (starts_on at.start at.directive at.initiates at.closed) in
    let k : AccountsAt c start = rw (fates, s) (new_accounts c) in
    let t = h.session idle in
    let none : length start.session.sent ≡ 0 = ap (λ (s : Session). length s.sent) s in
    let base_is : t.base ≡ start.ground_node.fop.vs =
    in_session t (λ early g. omega (
      arith,
      (holds_on g.linked on).vs_is,
      none,
      sent_length early c t.directive t.base start g h.sound,
      g.linked.base_octet,
    )) in
    let goes : Goes c start.session.opening start.ground_node.fop.vs start = record {
      holds = h;
      idle = idle;
      opening = refl;
      counts = record { session = t; base_is = base_is };
      accounts = k;
    } in
    record {
      at = at;
      goes = goes_on c start.session.opening start.ground_node.fop.vs start goes since numbers lasts quiet;
      counts = keeps_what_is_known w e since r b lasts quiet fits numbers idle;
    }

module _ (c : Config) (w now : World) (e : Event) (t : Since c w now e) where
  opened_now : directive_of now ≡ Some t.at.directive
  opened_now =
      ap (λ (o : Option Opening). option_map (λ (o : Opening). o.directive) o)
      (t.goes.opening ∙ ap (λ (s : Session). s.opening) (begun_session w e t.at))

  pub settled_now : IsSettled now ⊎ (length now.session.sent ≡ 0)
  settled_now = settled_or_none c now t.goes.holds t.goes.idle t.at.directive t.at.initiates opened_now

  pub counts_at : CountsSubmissions now
  counts_at =
      let on = t.goes in
      let base : ℕ = (world_step w e).after.ground_node.fop.vs in
      record {
        submitted = submitted_is c now on.holds on.idle on.accounts;
        sent = whole_is c now on.holds on.idle on.accounts (sent_beyond now.ground_node) (length now.session.sent)
            (sent_is c now on.holds on.idle on.accounts base t.counts);
        acknowledged = whole_is c now on.holds on.idle on.accounts 0 now.session.acknowledged (omega arith);
      }

  pub knows_at : now.ground_node.fates.kept ≡ true → KnowsOnBoard now
  knows_at =
      let on = t.goes in
      on_board c now on.holds on.idle on.accounts (world_step w e).after.ground_node.fop.vs t.counts
      (promised_so c now on.holds on.idle).says settled_now

-- this is kept while no alert shows a broken condition
pub kept_since : (w : World) (e : Event) (since : List LinkStep) → HasAnyPast w → BeginsSession w e
    → SessionLasts (world_step w e).after since → SetsNone (world_step w e).after since
    → ShowsNone (world_step w e).after since → (link_run (world_step w e).after since).ground_node.fates.kept ≡ true
kept_since w e since r b lasts quiet none =
    let start : World = (world_step w e).after in
    kept_on r.config start (ap (λ (f : Fates). f.kept) (begun_fates w e (began_at w e b))) since lasts quiet none

pub knows_fates : KnowsFates
knows_fates w e since r b lasts quiet fits numbers idle =
    let now : World = link_run (world_step w e).after since in
    let at = since_begun w e since r b lasts quiet fits numbers idle in (
      counts_at r.config w now e at,
      λ none. knows_at r.config w now e at (kept_since w e since r b lasts quiet none),
    )
