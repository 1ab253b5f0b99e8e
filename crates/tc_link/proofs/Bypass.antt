-- Bypass packets.
use Rattle.tc_link.proofs.Common.{◌≡◌, ℕ, Bool, true, false, refl, arith, ◌∙◌, Clcw, SegmentView, Directive, CopFault}
use Rattle.tc_link.proofs.Common.{Alert, InitUnlock, directive_step, FopState, FopOutcome, clcw_step, retransmits}
use Rattle.tc_link.proofs.Common.{tick_step, heard_active, obeyed, begun, ticked, GroundState, refill_step, with_fop}
use Rattle.tc_link.proofs.Common.{Result, Option, directive_outcome, TmFault, ◌≢◌, telemetry_outcome, LinkFault}
use Rattle.tc_link.proofs.Common.{unless_refused, List, after_alert, Some, None, SetVs, obeying, submitting, zero, suc}
use Rattle.tc_link.proofs.Common.{[], ◌∷◌, ◌++◌, drop, AreSomeOf, ◌+◌, ◌%◌, ◌-◌, length, map, Ok, Err, ap, sym, subst}
use Rattle.tc_link.proofs.Common.{append_assoc, append-nil, map-append, cond_both, AllByRecursion, TcFault, On}
use Rattle.tc_link.proofs.Common.{BodyView, Ad, Bd, Bc, PulledUnit, pull_step, pulled_out, Config, FitsFrame, frame_of}
use Rattle.tc_link.proofs.Common.{frame_to_send, bypass_fault, after_bypass, PacketOn, SpacecraftState}
use Rattle.tc_link.proofs.Common.{SpacecraftOutcome, frame_outcome, body_outcome, bypass_outcome, is_own_frame, is_kept}
use Rattle.tc_link.proofs.Common.{verdict_of, is_free, spacecraft_take_bypass, Heard, Event, World}
use Rattle.tc_link.proofs.Common.{WorldOutcome, world_step, world_after_pull, world_after_take, active_on}
use Rattle.std.proofs.lemmas.List.Concat.{flat_map-append}
use Rattle.std.specs.List.{flat_map}
use Rattle.std.specs.Borrow.{Bor}
use Rattle.tc_frame.specs.Layout.{FrameView}
use Rattle.tc_frame.specs.Encoding.{spelling}
use Rattle.tc_frame.specs.Decoding as command
use Rattle.clcw.specs.Decoding.{clcw_at}
use Rattle.tm_link.specs.Layout as telemetry
use Rattle.tm_link.specs.Decoding.{frame_at}
use Rattle.nodes.specs.Ground.{ground_step, ground_take_telemetry}
use Rattle.nodes.specs.Spacecraft.{is_accepted}
use Rattle.nodes.specs.declared.received.Received.{Received}
use Rattle.nodes.specs.declared.heard.HeardReport.{HeardReport}
use Rattle.nodes.specs.declared.heard.HeardReport.TheVariants.{Used}
use Rattle.nodes.specs.Ground as ground_calls
use Rattle.nodes.specs.declared.heard.Heard.TheVariants as heard_cases
use Rattle.nodes.specs.declared.event.Event.TheVariants as events
use Rattle.simulated_link.specs.World.{world_after_bypass, directed}
use Rattle.simulated_link.proofs.Counted.{reported, report_seen, frame_seen}
use Rattle.simulated_link.proofs.Unchanged.{up_arrives, board_after, ground_after, up_after, TakesBypass}
use Rattle.tc_link.specs.Telemetry.{none, one, without}
use Rattle.tc_link.specs.AnyPast.{LinkStep, Happens, TakeTelemetry, Receives, Hears, HearsReport, ForgetTelemetry}
use Rattle.tc_link.specs.AnyPast.{NewGround, NewSpacecraft, IsLinkStep, link_step, link_run, after_report}
use Rattle.tc_link.specs.AnyPast.{after_hearing}
use Rattle.tc_link.specs.Bypass.{packet_of, packet_in, bypass_up, bypass_queued, bypass_held, bypass_accepted_by}
use Rattle.tc_link.specs.Bypass.{bypass_taken_by, by_step, bypass_accepted, bypass_taken, ReceivesNothingElse}
use Rattle.tc_link.specs.Bypass.{BypassKeepsOrder}
use Rattle.tc_link.specs.InTransit.{in_frame}
use Rattle.tc_link.proofs.Refilled.{refilled_keeps}
use Rattle.tc_link.proofs.AnyPast.{link_step_holds, past_holds}
use Rattle.tc_link.proofs.Readable.{moved, marked_fits, Goes, reads_back}
use Rattle.tc_link.proofs.Invariant.{Holding}

-- The sender's bypass queue changes only by a packet that is accepted, and by one that is sent.

module _ (s : FopState SegmentView) where
  -- the same packets are queued
  abbrev pub Same : FopState SegmentView → Type 0
  Same f = f.bypass ≡ s.bypass

  begun_same : (d : Directive) → Same (begun s d)
  begun_same d = grind arith

  again_same : (repeats : Bool) → Same (retransmits s repeats)
  again_same repeats = grind arith

  pub report_same : (r : Clcw) → Same (clcw_step s r).after
  report_same r =
      reported s r (λ o. Same o.after) (assumption (heard_active s r (λ o. Same o.after) (assumption again_same)))

  pub tick_same : Same (tick_step s).after
  tick_same = ticked s (λ o. Same o.after) (assumption)

pub refilled_same : (s : GroundState) → (refill_step s).fop.bypass ≡ s.fop.bypass
refilled_same s = refilled_keeps (λ g. g.fop.bypass ≡ s.fop.bypass) s (λ waiting pending on off. refl)

with_same : (s : GroundState) (f : FopState SegmentView) → Same s.fop f → (with_fop s f).fop.bypass ≡ s.fop.bypass
with_same s f same = refilled_same (record s { fop = f }) ∙ same

module _ (s : GroundState) where
  abbrev Directed : Directive → FopOutcome SegmentView (Result (Option Alert) CopFault) → Type 0
  Directed d o = (directive_outcome s d o).after.fop.bypass ≡ s.fop.bypass

  pub directive_same : (d : Directive) → Directed d (directive_step s.fop d)
  directive_same = obeyed s.fop Directed (record {
    refused = λ d fault on. refl;
    begins = λ d is off. with_same (obeying s d) (begun s.fop d) (begun_same s.fop d);
    terminated = with_same s (after_alert s.fop) refl;
    numbers = λ x is. with_same (obeying s (SetVs x)) (record s.fop { vs = x; nn = x }) refl;
    sets = λ d n limit ticks plain most. with_same (obeying s d)
        (record s.fop { window = n; limit = limit; timer = ticks }) refl;
  })

  pub telemetry_same : (r : Result telemetry.FrameView TmFault)
      → (telemetry_outcome s r).after.fop.bypass ≡ s.fop.bypass
  telemetry_same = frame_seen s (λ g. g.fop.bypass ≡ s.fop.bypass) (record {
    same = refl;
    extracts = λ x. refl;
    uses = λ x report. refilled_same _ ∙ report_same s.fop report;
  })

-- Bypass packets.

-- When some elements of a list, in order, are some elements of another list.

module _ {A : Type 0} where
  pub some_all : (xs : List A) → AreSomeOf xs xs
  some_all [] = none
  some_all (x ∷ xs) = one (some_all xs)

  pub some_none : (xs : List A) → AreSomeOf [] xs
  some_none [] = none
  some_none (x ∷ xs) = without (some_none xs)

  pub some_append : {xs ys us vs : List A} → AreSomeOf xs ys → AreSomeOf us vs → AreSomeOf (xs ++ us) (ys ++ vs)
  some_append none q = q
  some_append (one p) q = one (some_append p q)
  some_append (without p) q = without (some_append p q)

  -- some of some of a list are some of the list
  pub some_trans : {ys zs : List A} → AreSomeOf ys zs → {xs : List A} → AreSomeOf xs ys → AreSomeOf xs zs
  some_trans none p = p
  some_trans (one q) (one p) = one (some_trans q p)
  some_trans (one q) (without p) = without (some_trans q p)
  some_trans (without q) p = without (some_trans q p)

  pub some_drop : (n : ℕ) (xs : List A) → AreSomeOf (drop n xs) xs
  some_drop zero xs = some_all xs
  some_drop (suc n) [] = none
  some_drop (suc n) (x ∷ xs) = without (some_drop n xs)

  -- the last elements of a list are some of it, and so are the first ones
  pub some_later : (xs ys : List A) → AreSomeOf ys (xs ++ ys)
  some_later [] ys = some_all ys
  some_later (x ∷ xs) ys = without (some_later xs ys)

  pub some_first : (xs ys : List A) → AreSomeOf xs (xs ++ ys)
  some_first [] ys = some_none ys
  some_first (x ∷ xs) ys = one (some_first xs ys)

-- Each step passes bypass packets on, or drops some. None is delivered twice, or before one that was accepted
-- earlier.

-- the packets in octets, and in the octets in transit
abbrev in_octets : List ℕ → List PacketOn
in_octets octets = in_frame packet_in (command.frame_at On octets)

abbrev in_all : List (List ℕ) → List PacketOn
in_all way = flat_map (λ octets. in_octets octets) way

-- ---- what the spacecraft keeps of what arrives

module _ (s : SpacecraftState) where
  abbrev Keeps_of : List PacketOn → List PacketOn → Type 0
  Keeps_of came after = AreSomeOf after (s.bypass ++ came)

  bypass_kept : (u : SegmentView) (kept : Bool) → Keeps_of (packet_of u ∷ []) (bypass_outcome s u kept).after.bypass
  bypass_kept u true =
      let all : List PacketOn = s.bypass ++ packet_of u ∷ [] in some_drop (length all - s.config.bypass_slots) all
  bypass_kept u false = some_first s.bypass (packet_of u ∷ [])

  body_kept : (f : BodyView) → Keeps_of (packet_in f) (body_outcome s f).after.bypass
  body_kept (Ad n u) =
      cond_both (is_accepted (verdict_of s.farm n (is_free s))) _ _
      (λ (o : SpacecraftOutcome Received). Keeps_of [] o.after.bypass) (λ t. some_first s.bypass [])
      (λ t. some_first s.bypass [])
  body_kept (Bd u) = bypass_kept u (is_kept s.config u)
  body_kept (Bc command) = some_first s.bypass []

  frame_kept : (r : Result FrameView TcFault) → Keeps_of (in_frame packet_in r) (frame_outcome s r).after.bypass
  frame_kept (Err fault) = some_first s.bypass []
  frame_kept (Ok frame) =
      cond_both (is_own_frame s.config frame) _ _
      (λ (o : SpacecraftOutcome Received). Keeps_of (packet_in frame.body) o.after.bypass)
      (λ t. body_kept frame.body) (λ t. some_first s.bypass (packet_in frame.body))

-- ---- each step

-- from a world to the next one, if these packets were accepted and those taken
record Passes (w : World) (taken accepted : List PacketOn) (new : World) : Type 0 where
  some : AreSomeOf (taken ++ bypass_held new) (bypass_held w ++ accepted)

module _ (c : Config) (w : World) (h : Holding c w) where
  abbrev Passes_on : Event → WorldOutcome → Type 0
  Passes_on e o = Passes w (bypass_taken_by e o.answer) (bypass_accepted_by e o.answer) o.after

  -- none is accepted, and none is taken
  with_none : (new : World) → AreSomeOf (bypass_held new) (bypass_held w) → Passes w [] [] new
  with_none new some = record { some = subst (AreSomeOf (bypass_held new)) (sym (append-nil (bypass_held w))) some }

  -- fewer packets are held at each place
  fewer : (new : World) → AreSomeOf new.spacecraft.bypass w.spacecraft.bypass → AreSomeOf (bypass_up new) (bypass_up w)
      → AreSomeOf (bypass_queued new) (bypass_queued w) → Passes w [] [] new
  fewer new board up queued = with_none new (some_append board (some_append up queued))

  same : Passes w [] [] w
  same = with_none w (some_all (bypass_held w))

  -- the ground has the same queue, or another
  on_ground : (new : World) → new.spacecraft ≡ w.spacecraft → new.up ≡ w.up
      → new.ground_node.fop.bypass ≡ w.ground_node.fop.bypass → Passes w [] [] new
  on_ground new board up queued =
      fewer new (rw board (some_all w.spacecraft.bypass)) (rw up (some_all (bypass_up w)))
      (rw queued (some_all (bypass_queued w)))

  -- ---- the first frame in transit on the uplink leaves it

  module _ (b : List ℕ) (bs : List (List ℕ)) (is : w.up ≡ b ∷ bs) where
    up_is : bypass_up w ≡ in_octets b ++ in_all bs
    up_is = ap (λ (way : List (List ℕ)). in_all way) is

    arrived : (s : SpacecraftState) → AreSomeOf s.bypass (w.spacecraft.bypass ++ in_octets b)
        → Passes w [] [] (record w { up = bs; spacecraft = s })
    arrived s kept =
        let q = bypass_queued w in
        let ring = w.spacecraft.bypass in
        let all : AreSomeOf (s.bypass ++ (in_all bs ++ q)) ((ring ++ in_octets b) ++ (in_all bs ++ q)) =
        some_append kept (some_all (in_all bs ++ q)) in
        let parts : (ring ++ in_octets b) ++ (in_all bs ++ q) ≡ bypass_held w =
        rw (up_is, append_assoc ring (in_octets b) (in_all bs ++ q), append_assoc (in_octets b) (in_all bs) q) in
        with_none (record w { up = bs; spacecraft = s }) (subst (AreSomeOf (s.bypass ++ (in_all bs ++ q))) parts all)

  -- ---- a frame is sent

  abbrev Pulls : FopOutcome SegmentView (PulledUnit SegmentView) → Type 0
  Pulls o = Passes w [] [] (world_after_pull w (with_fop w.ground_node o.after)
      (frame_to_send w.ground_node.config o.answer)).after

  -- what is read from the frame that is sent
  reads : (f : BodyView) → Goes f → in_octets (spelling On (frame_of w.ground_node.config f)) ≡ packet_in f
  reads f goes =
      let octets : List ℕ = spelling On (frame_of w.ground_node.config f) in
      let read : command.frame_at On octets ≡ Ok (frame_of w.ground_node.config f) =
      rw h.sound.ground_node.config (reads_back c f h.sound.ranges goes) in ap (in_frame packet_in) read

  pushed : (f : BodyView) → Goes f
      → in_all (w.up ++ spelling On (frame_of w.ground_node.config f) ∷ []) ≡ bypass_up w ++ packet_in f
  pushed f goes =
      flat_map-append (λ (octets : List ℕ). in_octets octets) w.up (spelling On (frame_of w.ground_node.config f) ∷ [])
      ∙ ap (λ (ps : List PacketOn). bypass_up w ++ ps)
      (append-nil (in_octets (spelling On (frame_of w.ground_node.config f))) ∙ reads f goes)

  -- with what is left in the queue, the same packets are held
  sends : (f : BodyView) → Goes f → (new : World) → new.spacecraft ≡ w.spacecraft
      → new.up ≡ w.up ++ spelling On (frame_of w.ground_node.config f) ∷ []
      → packet_in f ++ bypass_queued new ≡ bypass_queued w → Passes w [] [] new
  sends f goes new board up queued =
      let up_so : bypass_up new ≡ bypass_up w ++ packet_in f =
      ap (λ (way : List (List ℕ)). in_all way) up ∙ pushed f goes in
      let held : bypass_held new ≡ bypass_held w = rw (board, up_so, append_assoc, queued) in
      with_none new (subst (λ (ps : List PacketOn). AreSomeOf ps (bypass_held w)) (sym held) (some_all (bypass_held w)))

  abbrev queue_of : List SegmentView → List PacketOn
  queue_of us = map packet_of us

  sent_passes : Pulls (pull_step w.ground_node.fop)
  sent_passes =
      let s = w.ground_node.fop in
      let g = h.carried.fits in
      pulled_out s Pulls (record {
        none = on_ground _ refl refl (refilled_same w.ground_node);
        command = λ command is. sends (Bc command) tt _ refl refl (ap queue_of (refilled_same _));
        bypass = λ u us is.
            let fit : AllByRecursion FitsFrame (u ∷ us) = rw is at h.sound.ground_node.fop.bypass_fits in
            sends (Bd u) fit.0 _ refl refl
            (ap (λ (left : List SegmentView). packet_of u ∷ queue_of left) (refilled_same _) ∙ ap queue_of (sym is));
        again = λ active x is.
            let fit : FitsFrame x.1 = marked_fits s w.ground_node.pending g x is (active_on s.state active) in
            sends (Ad ((s.nn + x.0) % 256) x.1) fit _ refl refl (ap queue_of (refilled_same _));
        first = λ active u is room.
            let fit : FitsFrame u = (moved s w.ground_node.pending g u is (active_on s.state active)).0 in
            sends (Ad s.vs u) fit _ refl refl (ap queue_of (refilled_same _));
      })

  -- ---- a packet is accepted on the ground, or taken on board

  accepted_on : (m : ℕ) (octets : List ℕ) → Passes w [] (record { on_map = m; octets = octets } ∷ [])
      (record w { ground_node = after_bypass w.ground_node m octets })
  accepted_on m octets =
      let p : PacketOn = record { on_map = m; octets = octets } in
      let ring = w.spacecraft.bypass in
      let q = bypass_queued w in
      let queued : bypass_queued (record w { ground_node = after_bypass w.ground_node m octets }) ≡ q ++ p ∷ [] =
      map-append packet_of w.ground_node.fop.bypass _ in
      let held : ring ++ (bypass_up w ++ (q ++ p ∷ [])) ≡ bypass_held w ++ p ∷ [] =
      ap (λ (ps : List PacketOn). ring ++ ps) (sym (append_assoc (bypass_up w) q (p ∷ [])))
      ∙ sym (append_assoc ring (bypass_up w ++ q) (p ∷ [])) in
      record {
        some = subst (λ (ps : List PacketOn). AreSomeOf ps (bypass_held w ++ p ∷ []))
            (sym (ap (λ (ps : List PacketOn). ring ++ (bypass_up w ++ ps)) queued ∙ held))
            (some_all (bypass_held w ++ p ∷ []));
      }

  bypass_event : (m : ℕ) (octets : Bor (List ℕ)) (o : Option LinkFault) → Passes_on (events.Bypass m octets)
      (world_after_bypass w (unless_refused o w.ground_node (after_bypass w.ground_node m octets.now)))
  bypass_event m octets None = accepted_on m octets.now
  bypass_event m octets (Some fault) = same

  take_event : (packets : List PacketOn) → w.spacecraft.bypass ≡ packets
      → Passes_on events.TakeBypass (world_after_take w (spacecraft_take_bypass w.spacecraft packets))
  take_event [] is = same
  take_event (packet ∷ left) is =
      let rest : List PacketOn = bypass_up w ++ bypass_queued w in
      record {
        some = subst (AreSomeOf (packet ∷ (left ++ rest)))
            (ap (λ (ps : List PacketOn). ps ++ rest) (sym is) ∙ sym (append-nil (bypass_held w)))
            (some_all (packet ∷ (left ++ rest)));
      }

  -- ---- all events

  -- no other event passes a packet on
  others : (e : Event) → e ≢ events.Send → e ≢ events.UpDeliver → (TakesBypass e → ⊥)
      → ((m : ℕ) (octets : Bor (List ℕ)) → e ≢ events.Bypass m octets) → Passes w [] [] (world_step w e).after
  others e not_sent not_come not_taken not_given =
      let s = w.ground_node in
      let Queued : GroundState → Type 0 = λ t. t.fop.bypass ≡ s.fop.bypass in
      let ring = some_all w.spacecraft.bypass in
      let queued : Queued (world_step w e).after.ground_node = ground_after w (λ t session. Queued t) e (record {
        same = refl;
        submits = λ m octets none. refilled_same (submitting s m octets);
        bypasses = λ m octets is none. absurd (not_given m octets is);
        directs = λ d is. directive_same s d;
        restarts = λ value is can.
            directive_same (directed w (SetVs value)).ground_node InitUnlock ∙ directive_same s (SetVs value);
        ticks = λ is. with_same s (tick_step s.fop).after (tick_same s.fop);
        sends = λ is. absurd (not_sent is);
        hears_none = λ told x packets. refl;
        hears = λ told x packets r. refilled_same _ ∙ report_same s.fop r;
      }) in
      fewer (world_step w e).after
      (board_after w (λ t. AreSomeOf t.bypass w.spacecraft.bypass) e (record {
        same = ring;
        receives = λ is. absurd (not_come is);
        reports = λ is. ring;
        takes = λ is left kept. ring;
        releases = λ is left free. ring;
        passes = λ is. absurd (not_taken is);
        queues = λ octets is. ring;
      }))
      (up_after w (λ way. AreSomeOf (in_all way) (bypass_up w)) e not_sent (some_all (bypass_up w)) (λ b bs is.
      subst (AreSomeOf (in_all bs)) (sym (up_is b bs is)) (some_later (in_octets b) (in_all bs))))
      (rw queued (some_all (bypass_queued w)))

  event_passes : (e : Event) → Passes_on e (world_step w e)
  event_passes (events.Bypass m octets) = bypass_event m octets (bypass_fault w.ground_node m octets.now)
  event_passes events.Send = sent_passes
  event_passes events.UpDeliver =
      up_arrives w (Passes_on events.UpDeliver) same
      (λ b bs is. arrived b bs is _ (frame_kept w.spacecraft (command.frame_at On b)))
  event_passes events.TakeBypass = take_event w.spacecraft.bypass refl
  event_passes e = others e (λ is. cc is) (λ is. cc is) (λ is. is) (λ m octets is. cc is)

  -- ---- the other steps

  report_passes : (after : GroundState) (r : HeardReport) → after.fop.bypass ≡ w.ground_node.fop.bypass
      → Passes w [] [] (after_report w after r)
  report_passes after Used queued = on_ground _ refl refl queued
  report_passes after _ queued = on_ground _ refl refl queued

  heard_passes : (after : GroundState) (a : Heard) → after.fop.bypass ≡ w.ground_node.fop.bypass
      → Passes w [] [] (after_hearing w after a)
  heard_passes after (heard_cases.Frame gap packets report alert) queued = report_passes after report queued
  heard_passes after _ queued = on_ground _ refl refl queued

  taken_same : (packets : List (List ℕ))
      → (ground_take_telemetry w.ground_node packets).after.fop.bypass ≡ w.ground_node.fop.bypass
  taken_same packets = grind arith

  step_passes : (s : LinkStep) → ReceivesNothingElse s
      → Passes w (by_step bypass_taken_by w s) (by_step bypass_accepted_by w s) (link_step w s)
  step_passes (Happens e) own = event_passes e
  step_passes TakeTelemetry own = on_ground _ refl refl (taken_same w.ground_node.telemetry)
  step_passes (Hears octets) own =
      let o = ground_step w.ground_node (ground_calls.Telemetry octets) in
      heard_passes o.after o.answer
      (telemetry_same w.ground_node (frame_at w.ground_node.config.frame_length octets))
  step_passes (HearsReport octets) own =
      let s = w.ground_node in
      let o = ground_step s (ground_calls.ControlWord octets) in
      report_passes o.after o.answer.report (report_seen s (λ g. g.fop.bypass ≡ s.fop.bypass) refl
      (λ report. refilled_same _ ∙ report_same s.fop report) (clcw_at octets))
  step_passes ForgetTelemetry own = on_ground _ refl refl refl
  step_passes NewGround own =
      fewer _ (some_all w.spacecraft.bypass) (some_all (bypass_up w)) (some_none (bypass_queued w))
  step_passes (NewSpacecraft kept) own =
      fewer _ (some_none w.spacecraft.bypass) (some_all (bypass_up w)) (some_all (bypass_queued w))
  step_passes (Receives octets) own = elim own [ ]

-- ---- a run

run_passes : (c : Config) (steps : List LinkStep) (w : World) → Holding c w → AllByRecursion IsLinkStep steps
    → AllByRecursion ReceivesNothingElse steps
    → AreSomeOf (bypass_taken w steps ++ bypass_held (link_run w steps)) (bypass_held w ++ bypass_accepted w steps)
run_passes c [] w h fits own = (same c w h).some
run_passes c (s ∷ more) w h fits own =
    let next = link_step w s in
    let t = by_step bypass_taken_by w s in
    let a = by_step bypass_accepted_by w s in
    let held = bypass_held (link_run next more) in
    let later = run_passes c more next (link_step_holds c w h s fits.0) fits.1 own.1 in
    let first : AreSomeOf (t ++ (bypass_taken next more ++ held))
    (t ++ (bypass_held next ++ bypass_accepted next more)) =
    some_append (some_all t) later in
    let last : AreSomeOf ((t ++ bypass_held next) ++ bypass_accepted next more)
    ((bypass_held w ++ a) ++ bypass_accepted next more) =
    some_append (step_passes c w h s own.0).some (some_all (bypass_accepted next more)) in
    let middle : AreSomeOf (t ++ (bypass_held next ++ bypass_accepted next more))
    (bypass_held w ++ (a ++ bypass_accepted next more)) =
    rw (
      ← append_assoc t (bypass_held next) (bypass_accepted next more),
      ← append_assoc (bypass_held w) a (bypass_accepted next more),
    ) last in
    rw (append_assoc t (bypass_taken next more) held) (some_trans middle first)

pub bypass_keeps_order : BypassKeepsOrder
bypass_keeps_order w since past fits own = run_passes past.config since w (past_holds w past) fits own
