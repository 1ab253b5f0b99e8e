-- Bypass packets and telemetry leave commanding as it is.
use Rattle.tc_link.proofs.Common.{◌≡◌, ℕ, Bool, true, false, List, [], ◌∷◌, Option, Some, None, Result, Ok, Err}
use Rattle.tc_link.proofs.Common.{refl, ap, sym, ◌∙◌, append-nil, cond_both, On, TcFault, SegmentView, BodyView}
use Rattle.tc_link.proofs.Common.{Ad, Bd, Bc, Verdict, FopOutcome, pull_step, PulledUnit, pulled_out}
use Rattle.tc_link.proofs.Common.{is_closed, with_fop, refill_step, GroundState, SpacecraftOutcome, PacketOn}
use Rattle.tc_link.proofs.Common.{frame_outcome, body_outcome, sequence_outcome, bypass_outcome, is_kept, is_own_frame}
use Rattle.tc_link.proofs.Common.{verdict_of, is_free, frame_to_send, LinkFault, unless_refused, bypass_fault}
use Rattle.tc_link.proofs.Common.{after_bypass, Event, World, WorldOutcome, world_step, world_after_pull, is_to_send}
use Rattle.tc_link.proofs.Common.{world_after_take, world_after_queueing, spacecraft_take_bypass, spacecraft_telemetry}
use Rattle.tc_frame.specs.Layout.{FrameView}
use Rattle.tc_frame.specs.Decoding.{frame_at}
use Rattle.nodes.specs.Ground.{after_moving_up}
use Rattle.nodes.specs.Spacecraft.{is_accepted}
use Rattle.nodes.specs.declared.received.Received.{Received}
use Rattle.nodes.specs.declared.event.Event.TheVariants as events
use Rattle.simulated_link.specs.World.{world_after_bypass, world_after_receipt}
use Rattle.simulated_link.proofs.Unchanged.{up_arrives}
use Rattle.tc_link.specs.Separate.{IsBypassFrame, BringsBypass, IsSeparate, LeavesCommanding, EachIsSeparate}
use Rattle.tc_link.proofs.AnyPast.{past_holds}
use Rattle.tc_link.proofs.Sound.{GroundNodeSteady}

-- nothing moves up
refilled_none : (t : GroundState) → (is_closed t.fop.state ≡ true → t.pending ≡ [])
    → (t.fop.waiting ≡ None → t.pending ≡ []) → refill_step t ≡ t
refilled_none t off none =
    cond_both (is_closed t.fop.state) (record t { pending = [] }) (after_moving_up t t.fop.waiting t.pending)
    (λ (u : GroundState). u ≡ t)
    (λ is. ap (λ (ps : List SegmentView). record t { pending = ps }) (sym (off is)))
    (λ on. stays t.fop.waiting t.pending refl refl) where
      stays : (o : Option SegmentView) (ps : List SegmentView) → t.fop.waiting ≡ o → t.pending ≡ ps
          → after_moving_up t o ps ≡ t
      stays (Some u) ps waits is = refl
      stays None [] waits is = refl
      stays None (u ∷ ps) waits is = absurd (let no : u ∷ ps ≡ [] = sym is ∙ none waits in cc no)

module _ (w : World) where
  abbrev s : GroundState
  s = w.ground_node

  abbrev After : WorldOutcome → Type 0
  After o = LeavesCommanding w o.after

  same : LeavesCommanding w w
  same = record { ground_node = refl; spacecraft = refl; session = refl }

  bypass_or : (m : ℕ) (octets : List ℕ) (fault : Option LinkFault)
      → After (world_after_bypass w (unless_refused fault s (after_bypass s m octets)))
  bypass_or m octets None = record { ground_node = refl; spacecraft = refl; session = refl }
  bypass_or m octets (Some fault) = same

  taken : (ps : List PacketOn) → After (world_after_take w (spacecraft_take_bypass w.spacecraft ps))
  taken [] = same
  taken (p ∷ left) = record { ground_node = refl; spacecraft = refl; session = refl }

  queued : (octets : List ℕ) → After (world_after_queueing w (spacecraft_telemetry w.spacecraft octets))
  queued octets =
      cond_both (is_to_send octets) _ _ (λ o. After (world_after_queueing w o))
      (λ t. record { ground_node = refl; spacecraft = refl; session = refl }) (λ t. same)

  -- ---- a frame is sent

  abbrev Sends : FopOutcome SegmentView (PulledUnit SegmentView) → Type 0
  Sends o = IsBypassFrame (frame_to_send s.config o.answer)
      → After (world_after_pull w (with_fop s o.after) (frame_to_send s.config o.answer))

  sent : (is_closed s.fop.state ≡ true → s.pending ≡ []) → (s.fop.waiting ≡ None → s.pending ≡ [])
      → Sends (pull_step s.fop)
  sent off moved = pulled_out s.fop Sends (record {
    none = λ no. absurd no;
    command = λ command is no. absurd no;
    bypass = λ u us is brings.
        let t : GroundState = record s { fop = record s.fop { bypass = us } } in
        let stays : refill_step t ≡ t = refilled_none t off moved in
        record {
          ground_node = stays ∙ ap (λ (g : GroundState). record s { fop = record s.fop { bypass = g.fop.bypass } })
              (sym stays);
          spacecraft = refl;
          session = ap (λ (fields : List (List ℕ)). record w.session { sent = fields }) (append-nil w.session.sent);
        };
    again = λ active x is no. absurd no;
    first = λ active u is room no. absurd no;
  })

  -- ---- a frame arrives on board

  module _ (bs : List (List ℕ)) where
    abbrev Comes : SpacecraftOutcome Received → Type 0
    Comes o = BringsBypass (world_after_receipt w bs o).answer → After (world_after_receipt w bs o)

    sequence_comes : (n : ℕ) (u : SegmentView) (v : Verdict) → Comes (sequence_outcome w.spacecraft n u v)
    sequence_comes n u v = cond_both (is_accepted v) _ _ Comes (λ t no. absurd no) (λ t no. absurd no)

    bypass_comes : (u : SegmentView) (kept : Bool) → Comes (bypass_outcome w.spacecraft u kept)
    bypass_comes u true brings = record { ground_node = refl; spacecraft = refl; session = refl }
    bypass_comes u false brings = record { ground_node = refl; spacecraft = refl; session = refl }

    body_comes : (f : BodyView) → Comes (body_outcome w.spacecraft f)
    body_comes (Ad n u) = sequence_comes n u (verdict_of w.spacecraft.farm n (is_free w.spacecraft))
    body_comes (Bd u) = bypass_comes u (is_kept w.spacecraft.config u)
    body_comes (Bc command) = λ no. absurd no

    frame_comes : (r : Result FrameView TcFault) → Comes (frame_outcome w.spacecraft r)
    frame_comes (Err fault) = λ no. absurd no
    frame_comes (Ok frame) =
        cond_both (is_own_frame w.spacecraft.config frame) (body_outcome w.spacecraft frame.body) _ Comes
        (λ t. body_comes frame.body) (λ t no. absurd no)

  arrived : BringsBypass (world_step w events.UpDeliver).answer → After (world_step w events.UpDeliver)
  arrived =
      up_arrives w (λ o. BringsBypass o.answer → After o) (λ no. absurd no)
      (λ b bs is. frame_comes bs (frame_at On b))

  leaves : (is_closed s.fop.state ≡ true → s.pending ≡ []) → (s.fop.waiting ≡ None → s.pending ≡ []) → (e : Event)
      → IsSeparate w e → After (world_step w e)
  leaves off moved (events.Bypass m octets) is = bypass_or m octets.now (bypass_fault s m octets.now)
  leaves off moved events.Send is = sent off moved is
  leaves off moved events.UpDeliver is = arrived is
  leaves off moved events.TakeBypass is = taken w.spacecraft.bypass
  leaves off moved (events.Telemetry octets) is = queued octets.now
  leaves off moved events.Report is = record { ground_node = refl; spacecraft = refl; session = refl }
  leaves off moved _ is = elim is [ ]

pub each_is_separate : EachIsSeparate
each_is_separate w e past is =
    let k : GroundNodeSteady past.config w.ground_node = (past_holds w past).sound.ground_node in
    leaves w k.pending_none k.moved e is
