-- Without loss on the uplink, ticks or a receiver that waits, nothing is sent again.
use Rattle.tc_link.proofs.Common.{◌≡◌, ◌≢◌, ◌<◌, ℕ, ◌+◌, ◌*◌, ◌%◌, ◌⊎◌, inl, inr, Bool, true, false}
use Rattle.tc_link.proofs.Common.{◌/◌}
use Rattle.tc_link.proofs.Common.{List, [], ◌∷◌, ◌++◌, length, drop, take, Option, Some, None, Result, Ok, Err}
use Rattle.tc_link.proofs.Common.{refl, ap, sym, subst, ◌∙◌, arith, AllByRecursion, Clcw, Unlock, SetVr, On}
use Rattle.tc_link.proofs.Common.{SegmentView, BodyView, Ad, Bd, Bc, S4, S5, FarmState, Open, FopMode}
use Rattle.tc_link.proofs.Common.{Accepted, NoBuffer, Verdict, verdict_of, farm_step, BufferReleased, after_verdict}
use Rattle.tc_link.proofs.Common.{after_unlock, after_set_vr, Control, Idle, Directive, InitSetVr}
use Rattle.tc_link.proofs.Common.{Alert, CopFault, FopState, FopOutcome, SentUnit, asks, clcw_step}
use Rattle.tc_link.proofs.Common.{report_while_active, pull_step, directive_step, PulledUnit}
use Rattle.tc_link.proofs.Common.{unmarked_unit, oldest_marked, pulled_out}
use Rattle.tc_link.proofs.Common.{heard_active, obeyed, is_initiation, active_on, closed_not, is_closed, refill_step}
use Rattle.tc_link.proofs.Common.{with_fop, Config, FitsFrame, GroundState, SpacecraftState, SpacecraftOutcome}
use Rattle.tc_link.proofs.Common.{body_outcome, sequence_outcome, bypass_outcome, is_free, is_kept, frame_of}
use Rattle.tc_link.proofs.Common.{frame_to_send, submitting, obeying, acknowledging, after_bypass, directive_outcome}
use Rattle.tc_link.proofs.Common.{extract_step, after_extraction, Event, World, WorldOutcome, world_step, world_run}
use Rattle.tc_link.proofs.Common.{world_after_pull, up_deliver_step, down_deliver_step, down_lose_step}
use Rattle.tc_link.proofs.Common.{down_damage_step, down_damage_outcome, IsIdle, BeginsNoSession, directive_of, IsEvent}
use Rattle.tc_link.proofs.Common.{IsChecked, IsChecking, TmFault, units_of, length-map, append-nil, ahead_by}
use Rattle.tc_link.proofs.Common.{report_of, spacecraft_report, option_map, Opening}
use Rattle.std.proofs.Math.Seq.{drop-nil}
use Rattle.std.proofs.lemmas.Bool.{cases_Bool}
use Rattle.std.proofs.lemmas.List.{nil_from_length}
use Rattle.tc_frame.specs.Decoding.{frame_at}
use Rattle.tc_frame.specs.Encoding.{spelling}
use Rattle.tc_frame.specs.Layout.{FrameView}
use Rattle.tm_link.specs.Encoding as telemetry_writing
use Rattle.tm_link.specs.Layout as telemetry
use Rattle.tm_link.specs.Decoding as telemetry_reading
use Rattle.map_service.proofs.Groups.{behind-each}
use Rattle.cop1.specs.Farm.{after_type_b}
use Rattle.cop1.specs.FopPull.{after_send_first}
use Rattle.nodes.specs.Ground.{after_directive, can_resume}
use Rattle.nodes.specs.declared.received.Received.{Received}
use Rattle.nodes.specs.declared.event.Event.TheVariants as events
use Rattle.simulated_link.specs.World.{Session, world_after_telemetry, session_after_directive, session_after_report}
use Rattle.simulated_link.specs.World.{directed, resumed}
use Rattle.tc_link.specs.AnyPast.{with_telemetry_of}
use Rattle.simulated_link.proofs.Counted.{reported}
use Rattle.simulated_link.proofs.Unchanged.{stepped, resumes, up_arrives, down_arrives, first_on, not_restarted}
use Rattle.simulated_link.proofs.Unchanged.{BringsReport}
use Rattle.tc_link.specs.SentOnce.{IsSmooth, GoesSmoothly, SendsNothingAgain, EachIsSentOnce}
use Rattle.tc_link.proofs.AnyPast.{past_holds}
use Rattle.tc_link.proofs.Downward.{used_is, words_apart}
use Rattle.tc_link.proofs.IdleStart.{in_session, tells_now, flags_are}
use Rattle.tc_link.proofs.InOrder.{sent_length}
use Rattle.tc_link.proofs.Invariant.{Holding, step_holds, idle_goes, opening_stays, began_at, begun_session}
use Rattle.tc_link.proofs.Linked.{Begun, Late, UpIs, CommandFits, Fits, Tells, Reporting, Ranks, bit, ranks_to}
use Rattle.tc_link.proofs.Linked.{IsLate, early_off, Carries, carries_push, holds_on}
use Rattle.tc_link.proofs.ProgressNext.{accepts_expected}
use Rattle.tc_link.proofs.Readable.{Goes, reads_back, moved}
use Rattle.tc_link.proofs.Refilled.{refilled_keeps}
use Rattle.tc_link.proofs.SeenGround.{off_stays}
use Rattle.tc_link.proofs.Sound.{Commanded, all_push}
use Rattle.tc_link.proofs.Upward.{own_arrives}

-- ---- the frames in transit

-- the Type-AD frames in transit on the uplink count up from one number to another, as the receiver will expect them
abbrev Follow : ℕ → List BodyView → ℕ → Type 0
Follow v [] e = v ≡ e
Follow v (Ad n u ∷ fs) e = (n ≡ v) × Follow ((v + 1) % 256) fs e
Follow v (Bd u ∷ fs) e = Follow v fs e
Follow v (Bc Unlock ∷ fs) e = Follow v fs e
Follow v (Bc (SetVr x) ∷ fs) e = (x < 256) × Follow x fs e

follow_next : (v e : ℕ) (fs : List BodyView) (u : SegmentView) → Follow v fs e
    → Follow v (fs ++ Ad e u ∷ []) ((e + 1) % 256)
follow_next v e [] u is = (sym is, ap (λ (n : ℕ). (n + 1) % 256) is)
follow_next v e (Ad n x ∷ fs) u is = (is.0, follow_next ((v + 1) % 256) e fs u is.1)
follow_next v e (Bd x ∷ fs) u is = follow_next v e fs u is
follow_next v e (Bc Unlock ∷ fs) u is = follow_next v e fs u is
follow_next v e (Bc (SetVr x) ∷ fs) u is = (is.0, follow_next x e fs u is.1)

follow_bypass : (v e : ℕ) (fs : List BodyView) (u : SegmentView) → Follow v fs e → Follow v (fs ++ Bd u ∷ []) e
follow_bypass v e [] u is = is
follow_bypass v e (Ad n x ∷ fs) u is = (is.0, follow_bypass ((v + 1) % 256) e fs u is.1)
follow_bypass v e (Bd x ∷ fs) u is = follow_bypass v e fs u is
follow_bypass v e (Bc Unlock ∷ fs) u is = follow_bypass v e fs u is
follow_bypass v e (Bc (SetVr x) ∷ fs) u is = (is.0, follow_bypass x e fs u is.1)

set_is : (d : Directive) (base x : ℕ) → CommandFits d base (SetVr x) → x ≡ base
set_is (InitSetVr y) base x fits = fits
set_is _ base x fits = elim fits [ ]

-- before any Type-AD frame is sent
follow_none : (d : Directive) (base : ℕ) (front : Bool) (fs : List BodyView) → base < 256 → UpIs d base front fs []
    → Follow base fs base
follow_none d base front [] octet up = refl
follow_none d base front (Bd u ∷ fs) octet up = follow_none d base front fs octet up
follow_none d base front (Bc Unlock ∷ fs) octet up = follow_none d base front fs octet up.2
follow_none d base front (Bc (SetVr x) ∷ fs) octet up =
    let same : x ≡ base = set_is d base x up.1 in
    let rest = follow_none d base front fs octet up.2 in
    (omega (arith, same, octet), subst (λ (n : ℕ). Follow n fs base) (sym same) rest)
follow_none d base front (Ad n u ∷ fs) octet up = elim up [ ]

-- a frame in transit on the downlink has a CLCW without the retransmit flag
abbrev IsQuiet : Config → List ℕ → Type 0
IsQuiet c b = (r : Clcw) × Tells c b r × (asks r ≡ false)

no_bit : (b : Bool) → bit b ≡ 0 → b ≡ false
no_bit false none = refl
no_bit true none = absurd (omega (arith, none))

quiet_all : (c : Config) (low high : ℕ) (bs : List (List ℕ)) (rs : List Clcw) (vs : List ℕ) → high ≡ 0
    → Reporting c bs rs → Ranks low rs vs high → AllByRecursion (IsQuiet c) bs
quiet_all c low high [] [] vs none says up = tt
quiet_all c low high (b ∷ bs) (r ∷ rs) (v ∷ vs) none says up =
    let least = ranks_to (2 * v + bit (asks r)) high rs vs up.3 in (
      (r, says.0, no_bit (asks r) (omega (arith, least, none))),
      quiet_all c (2 * v + bit (asks r)) high bs rs vs none says.1 up.3,
    )
quiet_all c low high (b ∷ bs) (r ∷ rs) [] none says up = elim up [ ]
quiet_all c low high _ _ vs none says up = elim says [ ]

-- ---- the sender

abbrev IsUnmarked : SentUnit SegmentView → Type 0
IsUnmarked u = u.marked ≡ false

none_marked : (k : ℕ) (us : List (SentUnit SegmentView)) → AllByRecursion IsUnmarked us → oldest_marked k us ≡ None
none_marked k [] all = refl
none_marked k (u ∷ us) all = rw all.0 (none_marked (k + 1) us all.1)

-- it holds nothing that is to be sent again, and does not wait for a confirmation
record Still (vs : ℕ) (f : FopState SegmentView) : Type 0 where
  vs_is : f.vs ≡ vs
  unmarked : AllByRecursion IsUnmarked f.sent
  late : IsLate f.state

abbrev OffOr : ℕ → FopState SegmentView → Type 0
OffOr vs f = (is_closed f.state ≡ true) ⊎ Still vs f

module _ (s : FopState SegmentView) (k : Still s.vs s) where
  module _ (r : Clcw) (none : asks r ≡ false) where
    abbrev Heard : FopOutcome SegmentView (Option Alert) → Type 0
    Heard o = OffOr s.vs o.after

    active_still : Heard (report_while_active s r)
    active_still = heard_active s r Heard (record {
      locked = λ t. inl refl;
      outside = λ t. inl refl;
      wait_flag = λ other waiting. inl refl;
      asks_none = λ asking at. inl refl;
      same = inr k;
      ceases = λ other at were. inl refl;
      moves = λ inside. inr (record {
        vs_is = refl;
        unmarked = behind-each IsUnmarked _ s.sent k.unmarked;
        late = tt;
      });
      others_over = λ inside asking one. absurd (cc (asking, none));
      others_wait = λ inside asking. absurd (cc (asking, none));
      others_again = λ inside asking. absurd (cc (asking, none));
      all_over = λ asking one. absurd (cc (asking, none));
      all_wait = λ asking. absurd (cc (asking, none));
      all_again = λ asking again. absurd (cc (asking, none));
    })

    report_still : Heard (clcw_step s r)
    report_still = reported s r Heard (record {
      active = λ active. active_still;
      alerted = λ is x cause. inl refl;
      checked = λ is confirms. absurd (let no : IsLate S4 = rw is at k.late in no);
      commanded = λ is confirms. absurd (let no : IsLate S5 = rw is at k.late in no);
      same = inr k;
    })

  -- a directive that begins no session
  abbrev Directs : Directive → FopOutcome SegmentView (Result (Option Alert) CopFault) → Type 0
  Directs d o = (is_initiation d ≡ true → is_closed s.state ≡ false) → OffOr s.vs o.after

  directed_still : is_closed s.state ≡ false → (d : Directive) → Directs d (directive_step s d)
  directed_still on = obeyed s Directs (record {
    refused = λ d fault other goes. inr k;
    begins = λ d is off goes. closed_not s.state off (goes is);
    terminated = λ goes. inl refl;
    numbers = λ x off goes. closed_not s.state off on;
    sets = λ d m limit ticks plain most goes. inr (record { vs_is = refl; unmarked = k.unmarked; late = k.late });
  })

-- nothing is held as sent if nothing was sent
nothing_sent : (sent : List (SentUnit SegmentView)) (n a : ℕ) (units : List SegmentView) → n ≡ 0
    → units_of sent ≡ drop a (take n units) → sent ≡ []
nothing_sent sent n a units least is =
    let none : take n units ≡ [] = ap (λ (m : ℕ). take m units) least in
    let nothing : units_of sent ≡ [] = is ∙ ap (drop a) none ∙ drop-nil a in
    nil_from_length sent (omega (arith, ap length nothing, length-map sent (λ u. u.unit)))

-- ---- the world

record Well (c : Config) (w : World) : Type 0 where
  frames : List BodyView
  carries : Carries c w.up frames
  follows : Follow w.spacecraft.farm.vr frames w.ground_node.fop.vs
  octet : w.spacecraft.farm.vr < 256
  opened : w.spacecraft.farm.state ≡ Open
  flag : w.spacecraft.farm.retransmit ≡ false
  quiet : AllByRecursion (IsQuiet c) w.down
  sender : Still w.ground_node.fop.vs w.ground_node.fop

-- the sender is off, or nothing was sent yet, or this holds
abbrev Stage : Config → World → Type 0
Stage c w = (is_closed w.ground_node.fop.state ≡ true) ⊎ ((length w.session.sent ≡ 0) ⊎ Well c w)

refilled_as : (t : GroundState) → ((refill_step t).fop.vs ≡ t.fop.vs) × ((refill_step t).fop.sent ≡ t.fop.sent)
    × ((refill_step t).fop.state ≡ t.fop.state)
refilled_as t =
    refilled_keeps (λ v. (v.fop.vs ≡ t.fop.vs) × (v.fop.sent ≡ t.fop.sent) × (v.fop.state ≡ t.fop.state)) t
    (λ waiting pending on off. (refl, refl, refl))

still_refilled : (vs : ℕ) (t : GroundState) → OffOr vs t.fop → OffOr vs (refill_step t).fop
still_refilled vs t so =
    let been = refilled_as t in
    elim so [
      | inl off ↦ inl (ap is_closed been.2 ∙ off)
      | inr k ↦ inr (record {
        vs_is = been.0 ∙ k.vs_is;
        unmarked = subst (AllByRecursion IsUnmarked) (sym been.1) k.unmarked;
        late = subst IsLate (sym been.2) k.late;
      })
    ]

module _ (c : Config) (w : World) (h : Holding c w) (g : Well c w) (on : is_closed w.ground_node.fop.state ≡ false)
  where
    abbrev s : FopState SegmentView
    s = w.ground_node.fop

    abbrev farm : FarmState
    farm = w.spacecraft.farm

    abbrev After : WorldOutcome → Type 0
    After o = Stage c o.after

    stays : Stage c w
    stays = inr (inr g)

    -- another sender and other CLCWs, with the uplink and the receiver as they are
    stage_of : (new : World) → new.up ≡ w.up → new.spacecraft.farm ≡ farm → AllByRecursion (IsQuiet c) new.down
        → OffOr s.vs new.ground_node.fop → Stage c new
    stage_of new up same quiet so = elim so [
      | inl off ↦ inl off
      | inr k ↦ inr (inr (record {
        frames = g.frames;
        carries = rw up g.carries;
        follows = rw (same, k.vs_is) g.follows;
        octet = rw same g.octet;
        opened = rw same g.opened;
        flag = rw same g.flag;
        quiet = quiet;
        sender = record { vs_is = refl; unmarked = k.unmarked; late = k.late };
      }))
    ]

    own : OffOr s.vs s
    own = inr g.sender

    -- ---- a frame is sent

    abbrev Pulls : FopOutcome SegmentView (PulledUnit SegmentView) → Type 0
    Pulls o = After (world_after_pull w (with_fop w.ground_node o.after) (frame_to_send w.ground_node.config o.answer))

    idle_late : (m : FopMode) (control : Control) → IsLate m → Commanded m control → control ≡ Idle
    idle_late S4 control late is = elim late [ ]
    idle_late S5 control late is = elim late [ ]
    idle_late _ control late is = is

    sent_stage : (f : FopState SegmentView) (b : BodyView) → Goes b → Follow farm.vr (g.frames ++ b ∷ []) f.vs
        → Still f.vs f → After (world_after_pull w (with_fop w.ground_node f) (Some (frame_of w.ground_node.config b)))
    sent_stage f b goes follows k =
        let octets : List ℕ = spelling On (frame_of w.ground_node.config b) in
        let reads : frame_at On octets ≡ Ok (frame_of c b) =
        rw h.sound.ground_node.config (reads_back c b h.sound.ranges goes) in
        let so = still_refilled f.vs (record w.ground_node { fop = f }) (inr k) in
        let been = refilled_as (record w.ground_node { fop = f }) in
        elim so [
          | inl off ↦ inl off
          | inr t ↦ inr (inr (record {
            frames = g.frames ++ b ∷ [];
            carries = carries_push c octets b w.up g.frames reads g.carries;
            follows = rw been.0 follows;
            octet = g.octet;
            opened = g.opened;
            flag = g.flag;
            quiet = g.quiet;
            sender = record { vs_is = refl; unmarked = t.unmarked; late = t.late };
          }))
        ]

    sends : Pulls (pull_step s)
    sends = pulled_out s Pulls (record {
      none = stage_of (record w { ground_node = with_fop w.ground_node s }) refl refl g.quiet
          (still_refilled s.vs w.ground_node own);
      command = λ command due.
          let idle = idle_late s.state s.control g.sender.late h.sound.ground_node.fop.commanded in
          absurd (cc (due, idle));
      bypass = λ u us is.
          let fit : AllByRecursion FitsFrame (u ∷ us) = rw is at h.sound.ground_node.fop.bypass_fits in
          sent_stage (record s { bypass = us }) (Bd u) fit.0 (follow_bypass farm.vr s.vs g.frames u g.follows)
          (record { vs_is = refl; unmarked = g.sender.unmarked; late = g.sender.late });
      again = λ active x is.
          absurd (let none = none_marked 0 s.sent g.sender.unmarked in cc (is, none));
      first = λ active u is room.
          let fit : FitsFrame u = (moved s w.ground_node.pending h.carried.fits u is on).0 in
          sent_stage (after_send_first s u) (Ad s.vs u) fit (follow_next farm.vr s.vs g.frames u g.follows)
          (record {
            vs_is = refl;
            unmarked = all_push IsUnmarked s.sent (unmarked_unit u) g.sender.unmarked refl;
            late = g.sender.late;
          });
    })

    -- ---- a frame arrives on board

    module _ (bs : List (List ℕ)) (fs : List BodyView) (rest : Carries c bs fs) where
      abbrev Comes : SpacecraftOutcome Received → Type 0
      Comes o = o.after.farm.wait ≡ false → Well c (record w { up = bs; spacecraft = o.after })

      board : (t : SpacecraftState) (new : FarmState) → t.farm ≡ new → Follow new.vr fs s.vs → new.vr < 256
          → new.state ≡ Open → new.retransmit ≡ false → Well c (record w { up = bs; spacecraft = t })
      board t new is follows octet opened flag = record {
        frames = fs;
        carries = rest;
        follows = rw is follows;
        octet = rw is octet;
        opened = rw is opened;
        flag = rw is flag;
        quiet = g.quiet;
        sender = g.sender;
      }

      accepts : (n : ℕ) (u : SegmentView) → n ≡ farm.vr → Follow ((farm.vr + 1) % 256) fs s.vs
          → Comes (body_outcome w.spacecraft (Ad n u))
      accepts n u is follows = elim (cases_Bool (is_free w.spacecraft)) [
        | inl free ↦ (
            let accepted : verdict_of farm n (is_free w.spacecraft) ≡ Accepted =
            ap (λ (m : ℕ). verdict_of farm m (is_free w.spacecraft)) is
            ∙ accepts_expected farm (is_free w.spacecraft) g.octet g.opened free in
            subst (λ (v : Verdict). Comes (sequence_outcome w.spacecraft n u v)) (sym accepted) (λ calm.
            board (sequence_outcome w.spacecraft n u Accepted).after (after_verdict farm Accepted)
            (ap (after_verdict farm) accepted) follows (omega arith) g.opened refl))
        | inr full ↦ (
            let none : verdict_of farm n (is_free w.spacecraft) ≡ NoBuffer = refuses n is full in
            subst (λ (v : Verdict). Comes (sequence_outcome w.spacecraft n u v)) (sym none) (λ calm.
            absurd (let waits : (after_verdict farm (verdict_of farm n (is_free w.spacecraft))).wait ≡ true =
            ap (λ (v : Verdict). (after_verdict farm v).wait) none in cc (waits, calm))))
      ] where
        refuses : (n : ℕ) → n ≡ farm.vr → is_free w.spacecraft ≡ false
            → verdict_of farm n (is_free w.spacecraft) ≡ NoBuffer
        refuses n is full =
            let octet = g.octet in
            let none : ahead_by n farm.vr ≡ 0 = omega (arith, is, octet) in
            rw (none, full, g.opened) refl

      passes : (u : SegmentView) (kept : Bool) → Follow farm.vr fs s.vs → Comes (bypass_outcome w.spacecraft u kept)
      passes u true follows calm =
          board (bypass_outcome w.spacecraft u true).after (after_type_b farm) refl follows g.octet g.opened g.flag
      passes u false follows calm =
          board (bypass_outcome w.spacecraft u false).after (after_type_b farm) refl follows g.octet g.opened g.flag

      body_comes : (f : BodyView) → Follow farm.vr (f ∷ fs) s.vs → Comes (body_outcome w.spacecraft f)
      body_comes (Ad n u) follows calm = accepts n u follows.0 follows.1 calm
      body_comes (Bd u) follows calm = passes u (is_kept w.spacecraft.config u) follows calm
      body_comes (Bc Unlock) follows calm =
          board (body_outcome w.spacecraft (Bc Unlock)).after (after_unlock farm Open) (ap (after_unlock farm) g.opened)
          follows g.octet g.opened refl
      body_comes (Bc (SetVr x)) follows calm =
          board (body_outcome w.spacecraft (Bc (SetVr x))).after (after_set_vr farm x Open)
          (ap (after_set_vr farm x) g.opened) follows.1 follows.0 g.opened refl

    arrives : (b : List ℕ) (bs : List (List ℕ)) (fs : List BodyView) → Carries c (b ∷ bs) fs → Follow farm.vr fs s.vs
        → (up_deliver_step w (b ∷ bs)).after.spacecraft.farm.wait ≡ false → Well c (up_deliver_step w (b ∷ bs)).after
    arrives b bs [] carries follows = elim carries [ ]
    arrives b bs (f ∷ fs) carries follows =
        subst (Comes bs fs carries.1)
        (sym (own_arrives w.spacecraft c f (frame_at On b) h.sound.spacecraft.config carries.0))
        (body_comes bs fs carries.1 f follows)

    receives : (world_step w events.UpDeliver).after.spacecraft.farm.wait ≡ false
        → After (world_step w events.UpDeliver)
    receives =
        up_arrives w (λ o. o.after.spacecraft.farm.wait ≡ false → After o) (λ calm. stays) (λ b bs is calm.
        inr (inr (arrives b bs g.frames (rw is at g.carries) g.follows calm)))

    -- ---- a CLCW arrives, or is lost

    quiet_of : (b : List ℕ) (bs : List (List ℕ)) → w.down ≡ b ∷ bs → AllByRecursion (IsQuiet c) (b ∷ bs)
    quiet_of b bs is = subst (AllByRecursion (IsQuiet c)) is g.quiet

    gone : (b : List ℕ) (bs : List (List ℕ)) → w.down ≡ b ∷ bs → Stage c (record w { down = bs })
    gone b bs is = stage_of (record w { down = bs }) refl refl (quiet_of b bs is).1 own

    hears : (b : List ℕ) (bs : List (List ℕ)) → w.down ≡ b ∷ bs → After (down_deliver_step w (b ∷ bs))
    hears b bs is =
        let first = quiet_of b bs is in
        let r : Clcw = first.0.0 in
        let x = extract_step w.ground_node.extractor first.0.1.frame in
        let o = clcw_step s r in
        let t : GroundState = record (acknowledging (after_extraction w.ground_node x) o) { fop = o.after } in
        subst (λ o. After (world_after_telemetry w bs o))
        (sym (used_is c w.ground_node b r h.sound.ground_node.config first.0.1))
        (stage_of (record w {
          ground_node = refill_step t;
          down = bs;
          session = session_after_report w.session w.ground_node (refill_step t);
        }) refl refl first.1 (still_refilled s.vs t (report_still s g.sender r first.0.2)))

    apart : (new : World) → Stage c new → Stage c (with_telemetry_of w new)
    apart new so = elim so [
      | inl off ↦ inl off
      | inr later ↦ (elim later [
        | inl none ↦ inr (inl none)
        | inr k ↦ inr (inr (record {
          frames = k.frames;
          carries = k.carries;
          follows = k.follows;
          octet = k.octet;
          opened = k.opened;
          flag = k.flag;
          quiet = k.quiet;
          sender = k.sender;
        }))
      ])
    ]

    damaged : (b : List ℕ) (bs : List (List ℕ)) → w.down ≡ b ∷ bs → (r : Result telemetry.FrameView TmFault)
        → After (down_damage_outcome w bs r)
    damaged b bs is (Ok frame) = stays
    damaged b bs is (Err fault) = gone b bs is

    -- ---- any other event

    abbrev Same : World → Type 0
    Same new = new.up ≡ w.up → Stage c new

    others : (e : Event) → IsSmooth e → BeginsNoSession w e → e ≢ events.Send → e ≢ events.UpDeliver
        → (BringsReport e → ⊥) → Same (world_step w e).after
    others e smooth goes not_sent not_come not_told = stepped w Same e (record {
      same = λ up. stays;
      up_gone = λ b bs is up. absurd (omega (arith, ap length is, ap length up));
      down_gone = λ b bs is taken up. gone b bs is;
      receives = λ is. absurd (not_come is);
      reports = λ is up.
          stage_of (world_step w events.Report).after refl refl
          (all_push (IsQuiet c) w.down (telemetry_writing.spelling (spacecraft_report w.spacecraft).answer) g.quiet
          (report_of farm w.spacecraft.config.vcid, tells_now c w h.sound, asks_not)) own;
      takes = λ is left kept up. stage_of (record w { spacecraft = record w.spacecraft { ready = left } }) refl refl
          g.quiet own;
      releases = λ is left free up.
          let same : farm_step farm BufferReleased ≡ farm = rw g.opened refl in
          stage_of (record w {
            spacecraft = record w.spacecraft { ready = left; farm = farm_step farm BufferReleased };
          }) refl same g.quiet own;
      passes = λ is left up. stage_of (record w { spacecraft = record w.spacecraft { bypass = left } }) refl refl
          g.quiet own;
      queues = λ octets is up. stage_of _ refl refl g.quiet own;
      submits = λ m octets none up. stage_of _ refl refl g.quiet
          (still_refilled s.vs (submitting w.ground_node m octets) own);
      bypasses = λ m octets is none up. stage_of (record w { ground_node = after_bypass w.ground_node m octets.now })
          refl refl g.quiet
          (inr (record { vs_is = refl; unmarked = g.sender.unmarked; late = g.sender.late }));
      directs = λ d is up. stage_of (directed w d) refl refl g.quiet
          (directed_or d (directive_step s d).answer _
          (directed_still s g.sender on d (subst (BeginsNoSession w) is goes)));
      restarts = λ value is can. not_restarted w e goes value is can;
      ticks = λ is. absurd (let no : IsSmooth events.Tick = subst IsSmooth is smooth in no);
      sends = λ is. absurd (not_sent is);
      hears_none = λ b bs is told. absurd (not_told told);
      hears = λ b bs is told. absurd (not_told told);
    }) where
      asks_not : asks (report_of farm w.spacecraft.config.vcid) ≡ false
      asks_not = (flags_are farm w.spacecraft.config.vcid).2 ∙ g.flag

      directed_or : (d : Directive) (r : Result (Option Alert) CopFault) (f : FopState SegmentView) → OffOr s.vs f
          → OffOr s.vs (after_directive w.ground_node d r f).fop
      directed_or d (Ok alert) f so = still_refilled s.vs (record (obeying w.ground_node d) { fop = f }) so
      directed_or d (Err fault) f so = own

    well_step : (e : Event) → IsSmooth e → BeginsNoSession w e
        → (world_step w e).after.spacecraft.farm.wait ≡ false → After (world_step w e)
    well_step events.Send smooth goes calm = sends
    well_step events.UpDeliver smooth goes calm = receives calm
    well_step events.DownDeliver smooth goes calm = down_arrives w After stays hears
    well_step events.DownClcw smooth goes calm =
        subst (Stage c) (sym (words_apart c w h.sound h.reports))
        (apart (world_step w events.DownDeliver).after (down_arrives w After stays hears))
    well_step events.DownLose smooth goes calm = first_on After (down_lose_step w) w.down stays gone
    well_step (events.DownDamage octets) smooth goes calm =
        first_on After (λ bs. down_damage_step w bs octets.now) w.down stays (λ b bs is.
        damaged b bs is (telemetry_reading.frame_at w.ground_node.config.frame_length octets.now))
    well_step events.Tick smooth goes calm = elim smooth [ ]
    well_step events.UpLose smooth goes calm = elim smooth [ ]
    well_step (events.UpDamage octets) smooth goes calm = elim smooth [ ]
    well_step (events.Resume value) smooth goes calm =
        resumes w value After stays (λ whole known can. not_restarted w (events.Resume value) goes value refl can)
    well_step e smooth goes calm =
        others e smooth goes (λ is. cc is) (λ is. cc is) (λ told. absurd told) refl

-- ---- nothing was sent yet

module _ (w : World) where
  abbrev Sends : Directive → FopOutcome SegmentView (Result (Option Alert) CopFault) → Type 0
  Sends d o = (is_initiation d ≡ true → is_closed w.ground_node.fop.state ≡ false)
      → (session_after_directive w d (directive_outcome w.ground_node d o).answer).sent ≡ w.session.sent

  directed_sent : (d : Directive) → Sends d (directive_step w.ground_node.fop d)
  directed_sent = obeyed w.ground_node.fop Sends (record {
    refused = λ d fault on goes. refl;
    begins = λ d is off goes. closed_not w.ground_node.fop.state off (goes is);
    terminated = λ goes. refl;
    numbers = λ x is goes. refl;
    sets = λ d k n ticks plain most goes. rw plain refl;
  })

  sent_stays : (e : Event) → e ≢ events.Send → BeginsNoSession w e
      → (world_step w e).after.session.sent ≡ w.session.sent
  sent_stays e not_sent goes =
      let directs : (d : Directive) → e ≡ events.Directive d → (directed w d).session.sent ≡ w.session.sent =
      λ d is. directed_sent d (subst (BeginsNoSession w) is goes) in
      let restarts : (value : ℕ) → e ≡ events.Resume value → can_resume w.ground_node value ≡ true
      → (resumed w value).session.sent ≡ w.session.sent = λ value is can. not_restarted w e goes value is can in
      let sends : e ≡ events.Send → (up sent : List (List ℕ)) → sent ≡ w.session.sent = λ is. absurd (not_sent is) in
      stepped w (λ new. new.session.sent ≡ w.session.sent) e (assumption (directs, restarts, sends))

module _ (c : Config) (w : World) (h : Holding c w) (idle : IsIdle w) (checking : IsChecking (directive_of w))
    (none : length w.session.sent ≡ 0) (on : is_closed w.ground_node.fop.state ≡ false) where
  fits_none : (half n r : ℕ) (units : List SegmentView) (qs : List (ℕ × SegmentView)) → n ≡ 0
      → Fits half n units r qs → qs ≡ []
  fits_none half n r units [] least fits = refl
  fits_none half n r units (q ∷ qs) least fits = absurd (omega (arith, least, fits.1))

  -- once the session is confirmed
  well_at : (d : Directive) (base : ℕ) → Late c d base w → Well c w
  well_at d base g =
      let p = g.plain in
      let l = g.linked in
      let s = g.stage in
      let checked : IsChecked d = subst IsChecking l.opened checking in
      let k = s.calm checked in
      let n : p.n ≡ 0 = sym (sent_length false c d base w g h.sound) ∙ none in
      let held = holds_on l on in
      let up : p.up ≡ [] = fits_none (c.width / 2) p.n p.r p.units p.up n l.fits in
      let vr : w.spacecraft.farm.vr ≡ base = omega (arith, s.vr_is, l.r_n, n, l.base_octet) in
      let vs : w.ground_node.fop.vs ≡ base = omega (arith, held.vs_is, n, l.base_octet) in
      let flag = no_bit w.spacecraft.farm.retransmit (omega (arith, k.rank_most, n)) in
      let agree = h.sound.spacecraft.farm.flags in
      let calm : w.spacecraft.farm.wait ≡ false = no_wait w.spacecraft.farm.wait agree.asks flag in
      let opened : w.spacecraft.farm.state ≡ Open = agree.state ∙ rw (k.unlocked, calm) refl in
      let follows = follow_none d base g.front g.frames l.base_octet
      (subst (λ (qs : List (ℕ × SegmentView)). UpIs d base g.front g.frames qs) up l.up_is) in
      record {
        frames = g.frames;
        carries = l.carries;
        follows = rw (vr, vs) follows;
        octet = omega (arith, vr, l.base_octet);
        opened = opened;
        flag = flag;
        quiet = quiet_all c _ (2 * p.r + bit w.spacecraft.farm.retransmit) w.down g.reports p.down
            (omega (arith, k.rank_most, n)) l.reporting k.ranks;
        sender = record { vs_is = refl; unmarked = unmarked_none p.n p.a p.units n held.sent_is; late = s.late };
      }
    where
      no_wait : (wait : Bool) → (wait ≡ true → w.spacecraft.farm.retransmit ≡ true)
          → w.spacecraft.farm.retransmit ≡ false → wait ≡ false
      no_wait false asks flag = refl
      no_wait true asks flag = absurd (let yes = asks refl in cc (yes, flag))

      unmarked_none : (n a : ℕ) (units : List SegmentView) → n ≡ 0
          → units_of w.ground_node.fop.sent ≡ drop a (take n units)
          → AllByRecursion IsUnmarked w.ground_node.fop.sent
      unmarked_none n a units least is =
          let empty : w.ground_node.fop.sent ≡ [] = nothing_sent w.ground_node.fop.sent n a units least is in
          rw empty tt

  -- before that, no Type-AD frame is sent
  abbrev Zero : FopOutcome SegmentView (PulledUnit SegmentView) → Type 0
  Zero o = length (world_after_pull w (with_fop w.ground_node o.after)
      (frame_to_send w.ground_node.config o.answer)).after.session.sent ≡ 0

  early_zero : (d : Directive) (base : ℕ) → Begun c d base w → Zero (pull_step w.ground_node.fop)
  early_zero d base g =
      let same : length (w.session.sent ++ []) ≡ 0 = ap length (append-nil w.session.sent) ∙ none in
      pulled_out w.ground_node.fop Zero (record {
        none = none;
        command = λ command due. same;
        bypass = λ u us is. same;
        again = λ active x is. absurd (early_off d w.ground_node.fop.state g.stage.early active);
        first = λ active u is room. absurd (early_off d w.ground_node.fop.state g.stage.early active);
      })

  send_zero : (world_step w events.Send).after.spacecraft.farm.wait ≡ false → Stage c (world_step w events.Send).after
  send_zero calm =
      let s = h.session idle in
      elim s.session [
        | inl g ↦ inr (inl (early_zero s.directive s.base g))
        | inr g ↦ well_step c w h (well_at s.directive s.base g) on events.Send tt tt calm
      ]

  zero_step : (e : Event) → IsSmooth e → BeginsNoSession w e
      → (world_step w e).after.spacecraft.farm.wait ≡ false → Stage c (world_step w e).after
  zero_step events.Send smooth goes calm = send_zero calm
  zero_step e smooth goes calm = inr (inl (ap length (sent_stays w e (λ is. cc is) goes) ∙ none))

-- ---- a run

module _ (c : Config) where
  stage_step : (w : World) → Holding c w → IsIdle w → IsChecking (directive_of w) → Stage c w → (e : Event)
      → IsSmooth e → BeginsNoSession w e → (world_step w e).after.spacecraft.farm.wait ≡ false
      → Stage c (world_step w e).after
  stage_step w h idle checking stage e smooth goes calm = elim (cases_Bool (is_closed w.ground_node.fop.state)) [
    | inl off ↦ inl (off_stays w off e goes)
    | inr on ↦ (elim stage [
      | inl off ↦ absurd (cc (off, on))
      | inr later ↦ (elim later [
        | inl none ↦ zero_step c w h idle checking none on e smooth goes calm
        | inr g ↦ well_step c w h g on e smooth goes calm
      ])
    ])
  ]

  -- nothing is to be sent again
  none_due : (w : World) → Holding c w → IsIdle w → Stage c w → is_closed w.ground_node.fop.state ≡ false
      → oldest_marked 0 w.ground_node.fop.sent ≡ None
  none_due w h idle stage on = elim stage [
    | inl off ↦ absurd (cc (off, on))
    | inr later ↦ (elim later [
      | inl none ↦ (
          let s = h.session idle in
          let empty : w.ground_node.fop.sent ≡ [] =
          in_session s (λ early g. nothing_sent w.ground_node.fop.sent g.plain.n g.plain.a g.plain.units
          (sym (sent_length early c s.directive s.base w g h.sound) ∙ none) (holds_on g.linked on).sent_is) in
          rw empty refl)
      | inr g ↦ none_marked 0 w.ground_node.fop.sent g.sender.unmarked
    ])
  ]

  abbrev First : World → FopOutcome SegmentView (PulledUnit SegmentView) → Type 0
  First w o = (frame : FrameView) (n : ℕ) (segment : SegmentView)
      → frame_to_send w.ground_node.config o.answer ≡ Some frame → frame.body ≡ Ad n segment
      → n ≡ w.ground_node.fop.vs

  body_of : (frame : FrameView) (b : BodyView) (x : Config) → Some (frame_of x b) ≡ Some frame → frame.body ≡ b
  body_of frame b x is = let same : frame_of x b ≡ frame = cc is in ap (λ (f : FrameView). f.body) (sym same)

  sends_first : (w : World) → Holding c w → IsIdle w → Stage c w → First w (pull_step w.ground_node.fop)
  sends_first w h idle stage =
      let s = w.ground_node.fop in
      let x : Config = w.ground_node.config in
      pulled_out s (First w) (record {
        none = λ frame n u is body. absurd (cc is);
        command = λ command due frame n u is body.
            absurd (let no : Bc command ≡ Ad n u = sym (body_of frame (Bc command) x is) ∙ body in cc no);
        bypass = λ v vs some frame n u is body.
            absurd (let no : Bd v ≡ Ad n u = sym (body_of frame (Bd v) x is) ∙ body in cc no);
        again = λ active y marked frame n u is body.
            absurd (let none = none_due w h idle stage (active_on s.state active) in cc (marked, none));
        first = λ active v some room frame n u is body.
            let same : Ad s.vs v ≡ Ad n u = sym (body_of frame (Ad s.vs v) x is) ∙ body in cc same;
      })

  smooth_run : (es : List Event) (w : World) → Holding c w → IsIdle w → IsChecking (directive_of w) → Stage c w
      → AllByRecursion IsEvent es → GoesSmoothly w es → SendsNothingAgain (world_run w es)
  smooth_run [] w h idle checking stage fits smooth = sends_first w h idle stage
  smooth_run (e ∷ es) w h idle checking stage fits smooth =
      let opening = opening_stays w e smooth.1 in
      let same : directive_of (world_step w e).after ≡ directive_of w =
      ap (λ (o : Option Opening). option_map (λ (x : Opening). x.directive) o) opening in
      smooth_run es (world_step w e).after (step_holds c w h e fits.0) (idle_goes w e idle smooth.1)
      (subst IsChecking (sym same) checking) (stage_step w h idle checking stage e smooth.0 smooth.1 smooth.2) fits.1
      smooth.3

pub each_is_sent_once : EachIsSentOnce
each_is_sent_once w e since r b event fits idle checking smooth =
    let start : World = (world_step w e).after in
    let at = began_at w e b in
    let begun = begun_session w e at in
    let none : length start.session.sent ≡ 0 = ap (λ (s : Session). length s.sent) begun in
    smooth_run r.config since start (step_holds r.config w (past_holds w r) e event) idle checking (inr (inl none)) fits
    smooth
