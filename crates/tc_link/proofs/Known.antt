-- V(S) and NN(R) change only with the records of the session.
use Rattle.tc_link.proofs.Common.{◌≡◌, ℕ, Bool, List, [], ◌∷◌, Option, Result, refl}
use Rattle.tc_link.proofs.Common.{ap, subst, ◌∙◌, SegmentView, CopFault, Alert, ◌≢◌}
use Rattle.tc_link.proofs.Common.{Directive, directive_step, Config, Event}
use Rattle.tc_link.proofs.Common.{directive_outcome, World, world_step}
use Rattle.tc_link.proofs.Common.{IsIdle, BeginsNoSession}
use Rattle.tc_link.proofs.Common.{IsEvent, obeyed}
use Rattle.tc_link.proofs.Common.{FopOutcome, closed_not, GroundState, ◌+◌, ◌%◌, ◌<◌}
use Rattle.tc_link.proofs.Common.{◌++◌, length, arith, length-append, eq-eqb, append-nil, Clcw, Ad, segment_octets}
use Rattle.tc_link.proofs.Common.{Sent, PulledUnit, pull_step, clcw_step, FopState, tick_step, after_alert, after_stop}
use Rattle.tc_link.proofs.Common.{retransmits, after_new_value, after_restart, pulled_out, ticked, heard_active}
use Rattle.tc_link.proofs.Common.{without_oldest_mark, with_fop, frame_to_send, world_after_pull, world_after_directive}
use Rattle.tc_link.proofs.Common.{Fates, submitting, report_while_active}
use Rattle.cop1.specs.FopPull.{after_send_first}
use Rattle.nodes.specs.declared.event.Event.TheVariants as events
use Rattle.simulated_link.specs.World.{Session, first_sent, session_after_report}
use Rattle.simulated_link.proofs.Unchanged.{ground_after, not_restarted}
use Rattle.simulated_link.proofs.Counted.{reported}
use Rattle.tc_link.specs.Known.{SetsNoNumber, MovesWithRecords}
use Rattle.tc_link.proofs.Upward.{not_next}
use Rattle.tc_link.proofs.IdleStart.{InSession, in_session}
use Rattle.tc_link.proofs.Linked.{In}
use Rattle.tc_link.proofs.Sound.{Sound}
use Rattle.tc_link.proofs.Refilled.{refilled_keeps}
use Rattle.tc_link.proofs.Invariant.{idle_goes, Holding, step_holds}

-- ---- the sender's numbers are the same

abbrev pub Same : FopState SegmentView → FopState SegmentView → Type 0
Same f t = (t.vs ≡ f.vs) × (t.nn ≡ f.nn)

pub with_same : (s : GroundState) (f : FopState SegmentView) → Same f (with_fop s f).fop
with_same s f = refilled_keeps (λ t. Same f t.fop) (record s { fop = f }) (λ waiting pending on closed. (refl, refl))

-- an alert leaves both numbers
alert_same : (f : FopState SegmentView) → Same f (after_alert f)
alert_same f = (refl, refl)

again_same : (f : FopState SegmentView) (again : Bool) → (retransmits f again).vs ≡ f.vs
again_same f again = grind arith

-- a CLCW leaves V(S)
heard_same : (f : FopState SegmentView) (r : Clcw) → (clcw_step f r).after.vs ≡ f.vs
heard_same f r =
    let over = (alert_same f).0 in
    let later_over = (alert_same (after_new_value f r.value)).0 in
    let active : (report_while_active f r).after.vs ≡ f.vs =
    heard_active f r (λ o. o.after.vs ≡ f.vs) (assumption (over, later_over, again_same f)) in
    reported f r (λ o. o.after.vs ≡ f.vs) (assumption (active, over))

pub tick_same : (f : FopState SegmentView) → Same f (tick_step f).after
tick_same f = ticked f (λ o. Same f o.after) (assumption (alert_same (after_stop f)))

-- ---- one event

module _ (w : World) where
  moves : (new : World) → Same w.ground_node.fop new.ground_node.fop → length new.session.sent ≡ length w.session.sent
      → new.session.acknowledged ≡ w.session.acknowledged → MovesWithRecords w new
  moves new same sent acked = record { vs = rw (same.0, sent) refl; nn = rw (same.1, acked) refl }

  moves_none : MovesWithRecords w w
  moves_none = record { vs = refl; nn = refl }

  with_so : (f : FopState SegmentView) → Same w.ground_node.fop f
      → MovesWithRecords w (record w { ground_node = with_fop w.ground_node f })
  with_so f same =
      let t = with_same w.ground_node f in
      moves (record w { ground_node = with_fop w.ground_node f }) (t.0 ∙ same.0, t.1 ∙ same.1) refl refl

  counted_so : (fates : Fates) (f : FopState SegmentView) → Same w.ground_node.fop f
      → MovesWithRecords w (record w { ground_node = with_fop (record w.ground_node { fates = fates }) f })
  counted_so fates f same =
      let s : GroundState = record w.ground_node { fates = fates } in
      let t = with_same s f in
      moves (record w { ground_node = with_fop s f }) (t.0 ∙ same.0, t.1 ∙ same.1) refl refl

  abbrev Directed : Directive → FopOutcome SegmentView (Result (Option Alert) CopFault) → Type 0
  Directed d o = BeginsNoSession w (events.Directive d) → SetsNoNumber w (events.Directive d)
      → MovesWithRecords w (world_after_directive w d (directive_outcome w.ground_node d o)).after

  directive_so : (d : Directive) → Directed d (directive_step w.ground_node.fop d)
  directive_so =
      let s = w.ground_node.fop in
      obeyed s Directed (record {
        refused = λ d fault on goes quiet. moves_none;
        begins = λ d is closed goes quiet. closed_not s.state closed (goes is);
        terminated = λ goes quiet. with_so (after_alert s) (alert_same s);
        numbers = λ x is goes quiet. closed_not s.state is (quiet x refl);
        sets = λ d k n ticks plain most goes quiet. rw plain
            (counted_so _ (record s { window = k; limit = n; timer = ticks }) (refl, refl));
      })

-- a frame is sent
module _ (early : Bool) (c : Config) (d : Directive) (base : ℕ) (w : World) (k : Sound c w) (g : In early c d base w)
  where
    abbrev Sends : FopOutcome SegmentView (PulledUnit SegmentView) → Type 0
    Sends o = MovesWithRecords w (world_after_pull w (with_fop w.ground_node o.after)
        (frame_to_send w.ground_node.config o.answer)).after

    -- the records, except for what is sent
    abbrev sent_so : FopState SegmentView → List (List ℕ) → List (List ℕ) → World
    sent_so f up field = record w {
      ground_node = with_fop w.ground_node f;
      up = up;
      session = record w.session { sent = w.session.sent ++ field };
    }

    no_field : (f : FopState SegmentView) (up field : List (List ℕ)) → Same w.ground_node.fop f → field ≡ []
        → MovesWithRecords w (sent_so f up field)
    no_field f up field same none =
        let t = with_same w.ground_node f in
        moves w (sent_so f up field) (t.0 ∙ same.0, t.1 ∙ same.1)
        (rw none (ap length (append-nil w.session.sent))) refl

    send_so : Sends (pull_step w.ground_node.fop)
    send_so =
        let s = w.ground_node.fop in
        pulled_out s Sends (record {
          none = with_so w s (refl, refl);
          command = λ command is.
              no_field (record (after_restart s) { control = Sent command }) _ [] (refl, refl) refl;
          bypass = λ u us is. no_field (record s { bypass = us }) _ [] (refl, refl) refl;
          again = λ active x is.
              let other = not_next early c d base w k g active x is in
              no_field (record (after_restart s) { sent = without_oldest_mark s.sent }) _
              (first_sent s.vs (Ad ((s.nn + x.0) % 256) x.1)) (refl, refl) (rw other refl);
          first = λ active u is room.
              let same = with_same w.ground_node (after_send_first s u) in
              let field : first_sent s.vs (Ad s.vs u) ≡ segment_octets u ∷ [] = rw (eq-eqb s.vs s.vs refl) refl in
              let more : length (w.session.sent ++ first_sent s.vs (Ad s.vs u)) ≡ length w.session.sent + 1 =
              rw field (length-append w.session.sent (segment_octets u ∷ [])) in
              record { vs = omega (arith, same.0, more); nn = rw same.1 refl };
        })

module _ (c : Config) (w : World) (k : Sound c w) (s : InSession c w) where
  sends : MovesWithRecords w (world_step w events.Send).after
  sends = in_session s (λ early g. send_so early c s.directive s.base w k g)

  abbrev pub IsOctet : World → Type 0
  IsOctet new = new.ground_node.fop.nn < 256

  pub octet : IsOctet w
  octet = in_session s (λ early g. g.linked.nn_octet)

  -- the ground is this one, and these are the records
  abbrev Moves : GroundState → Session → Type 0
  Moves t session = t.fop.nn < 256 → MovesWithRecords w (record w { ground_node = t; session = session })

  -- a CLCW arrives, or none
  heard_so : (t : GroundState) → t.fop.vs ≡ w.ground_node.fop.vs
      → Moves t (session_after_report w.session w.ground_node t)
  heard_so t same octet_after = record { vs = rw same refl; nn = omega (arith, octet, octet_after) }

  moves_so : (e : Event) → e ≢ events.Send → BeginsNoSession w e → SetsNoNumber w e
      → Moves (world_step w e).after.ground_node (world_step w e).after.session
  moves_so e not_sent goes quiet =
      let s = w.ground_node in
      ground_after w Moves e (record {
        same = λ octet. moves_none w;
        submits = λ m octets none octet. moves w _ (with_same (submitting s m octets) s.fop) refl refl;
        bypasses = λ m octets is none octet. record { vs = refl; nn = refl };
        directs = λ d is octet. directive_so w d (subst (BeginsNoSession w) is goes) (subst (SetsNoNumber w) is quiet);
        restarts = λ value is can. not_restarted w e goes value is can;
        ticks = λ is octet. with_so w (tick_step s.fop).after (tick_same s.fop);
        sends = λ is. absurd (not_sent is);
        hears_none = λ told x packets. heard_so (record s { extractor = x; telemetry = packets }) refl;
        hears = λ told x packets r. heard_so _ (refilled_keeps (λ t. t.fop.vs ≡ s.fop.vs) _
            (λ waiting pending on off. heard_same s.fop r));
      })

  pub step_moves : (e : Event) → BeginsNoSession w e → SetsNoNumber w e → IsOctet (world_step w e).after
      → MovesWithRecords w (world_step w e).after
  step_moves events.Send goes quiet octet = sends
  step_moves e goes quiet octet = assumption (moves_so e (λ is. cc is) goes quiet octet)

pub moves_with_records : (c : Config) (w : World) → Holding c w → (e : Event) → IsEvent e → IsIdle w
    → BeginsNoSession w e → SetsNoNumber w e → MovesWithRecords w (world_step w e).after
moves_with_records c w h e fits idle goes quiet =
    let new : World = (world_step w e).after in
    let after = step_holds c w h e fits in
    step_moves c w h.sound (h.session idle) e goes quiet
    (octet c new after.sound (after.session (idle_goes w e idle goes)))
