-- Two nodes that are configured alike behave as two with one configuration.
use Rattle.tc_link.proofs.Common.{◌≡◌, ℕ, Bool, true, false, List, [], ◌∷◌, Option, Some, None, Result, Ok, Err, refl}
use Rattle.tc_link.proofs.Common.{ap, subst, ◌∙◌, ◌==◌, if◌then◌else◌, length, Clcw, ClcwFault, SegmentView, BodyView}
use Rattle.tc_link.proofs.Common.{Ad, Bd, Bc, TcFault, On, Verdict, CopFault, Alert, FopState, PulledUnit, Config}
use Rattle.tc_link.proofs.Common.{IsConfig, limits_of, LinkFault, GroundState, SpacecraftState, is_kept, refill_step}
use Rattle.tc_link.proofs.Common.{with_fop, unless_refused, submit_fault, is_closed, bypass_fault, after_bypass}
use Rattle.tc_link.proofs.Common.{frame_to_send, after_extraction, telemetry_outcome, frame_outcome, body_outcome}
use Rattle.tc_link.proofs.Common.{sequence_outcome, bypass_outcome, is_free, is_own_frame, verdict_of, directive_step}
use Rattle.tc_link.proofs.Common.{pull_step, tick_step, clcw_step, extract_step, Extracted, TmFault, AdArrives, is_open}
use Rattle.tc_link.proofs.Common.{Directive, InitUnlock, SetVs, obeying, submitting, acknowledging}
use Rattle.std.specs.Prelude.{◌++◌}
use Rattle.clcw.specs.Decoding.{clcw_at}
use Rattle.tc_frame.specs.Decoding as command
use Rattle.tc_frame.specs.Layout.{FrameView}
use Rattle.tc_frame.specs.declared.frame.SegmentFlags.{SegmentFlags}
use Rattle.tc_frame.specs.declared.frame.SegmentFlags.TheVariants.{First, Continuing, Last, Alone}
use Rattle.cop1.specs.FopPull.{NothingPulled}
use Rattle.map_service.specs.Assembly.{open_part, unless_too_long, ending_part, of_map}
use Rattle.map_service.specs.AssemblerTable.{TakeOutcome, cell, take_step}
use Rattle.tm_link.specs.Builder.{is_to_send}
use Rattle.tm_link.specs.Layout as telemetry
use Rattle.tm_link.specs.Decoding as telemetry_reading
use Rattle.nodes.specs.declared.heard.HeardReport.TheVariants.{Used}
use Rattle.nodes.specs.declared.received.Received.TheVariants.{Sequence}
use Rattle.nodes.specs.Ground.{GroundEvent, Submit, Bypass, Direct, Pull, Tick, Telemetry, ControlWord, TakeTelemetry}
use Rattle.nodes.specs.Ground.{ForgetTelemetry, ground_step, after_moving_up, after_directive, report_outcome}
use Rattle.nodes.specs.Ground.{ground_take_telemetry, is_own_telemetry, beside_packets}
use Rattle.nodes.specs.Ground.{Resume, known_at_end, resumed_from, after_resuming, ground_directive}
use Rattle.nodes.specs.Packets.{PacketOn, put_on_map}
use Rattle.nodes.specs.Spacecraft.{SpacecraftEvent, Receive, Take, TakeBypass, Report, spacecraft_step, after_farm}
use Rattle.nodes.specs.Spacecraft.{Telemetry as Queue, is_accepted, assemble_step, spacecraft_take}
use Rattle.nodes.specs.Spacecraft.{spacecraft_take_bypass}
use Rattle.tc_link.specs.Configured.{made_of, seen_on_board, ground_with, ground_outcome_with, spacecraft_with}
use Rattle.tc_link.specs.Configured.{spacecraft_outcome_with, IsSpacecraftAs, AlikeIsAsOne}
use Rattle.tc_link.proofs.Refilled.{refilled_keeps}

-- what holds in both branches
either : {A B : Type 0} (f : A → B) (t : Bool) {x y : A} {u v : B} → u ≡ f x → v ≡ f y
    → (if t then u else v) ≡ f (if t then x else y)
either f true same other = same
either f false same other = other

-- ---- the ground reads neither number of slots on board

module _ (g b : Config) where
  abbrev c : Config
  c = made_of g b

  moved_as : (s : GroundState) (waiting : Option SegmentView) (pending : List SegmentView)
      → after_moving_up (ground_with g s) waiting pending
      ≡ ground_with g (after_moving_up (ground_with c s) waiting pending)
  moved_as s (Some u) pending = refl
  moved_as s None [] = refl
  moved_as s None (u ∷ us) = refl

  refilled_as : (s : GroundState) → refill_step (ground_with g s) ≡ ground_with g (refill_step (ground_with c s))
  refilled_as s = either (ground_with g) (is_closed s.fop.state) refl (moved_as s s.fop.waiting s.pending)

  refilled_with_as : (s : GroundState) (f : FopState SegmentView)
      → with_fop (ground_with g s) f ≡ ground_with g (with_fop (ground_with c s) f)
  refilled_with_as s f = refilled_as (record s { fop = f })

  unless_as : (s next other : GroundState) (fault : Option LinkFault) → next ≡ ground_with g other
      → unless_refused fault (ground_with g s) next
      ≡ ground_outcome_with g (unless_refused fault (ground_with c s) other)
  unless_as s next other None same = ap (λ (after : GroundState). record { answer = Ok tt; after = after }) same
  unless_as s next other (Some fault) same = refl

  directed_as : (s : GroundState) (d : Directive) (answer : Result (Option Alert) CopFault) (f : FopState SegmentView)
      → after_directive (ground_with g s) d answer f ≡ ground_with g (after_directive (ground_with c s) d answer f)
  directed_as s d (Ok alert) f = refilled_with_as (obeying s d) f
  directed_as s d (Err fault) f = refl

  directed_own : (s : GroundState) (d : Directive) (answer : Result (Option Alert) CopFault) (f : FopState SegmentView)
      → ground_with c (after_directive (ground_with c s) d answer f) ≡ after_directive (ground_with c s) d answer f
  directed_own s d (Ok alert) f =
      refilled_keeps (λ (t : GroundState). ground_with c t ≡ t) (record (obeying (ground_with c s) d) { fop = f })
      (λ waiting pending on off. refl)
  directed_own s d (Err fault) f = refl

  -- V(S) is set, and a session begins
  resumed_as : (s : GroundState) (value : ℕ)
      → after_resuming (ground_with g s) value ≡ ground_with g (after_resuming (ground_with c s) value)
  resumed_as s value =
      let d : Directive = SetVs value in
      let o = directive_step s.fop d in
      let t : GroundState = after_directive (ground_with c s) d o.answer o.after in
      let p = directive_step t.fop InitUnlock in
      ap (λ (x : GroundState). (ground_directive x InitUnlock).after) (directed_as s d o.answer o.after)
      ∙ directed_as t InitUnlock p.answer p.after
      ∙ ap (λ (x : GroundState). ground_with g (ground_directive x InitUnlock).after)
      (directed_own s d o.answer o.after)

  resumed_from_as : (s : GroundState) (value : ℕ) (o : Option ℕ)
      → resumed_from (ground_with g s) value o ≡ ground_outcome_with g (resumed_from (ground_with c s) value o)
  resumed_from_as s value (Some whole) =
      ap (λ (after : GroundState). record { answer = Ok whole; after = after }) (resumed_as s value)
  resumed_from_as s value None = refl

  sends_as : (pulled : PulledUnit SegmentView) → frame_to_send g pulled ≡ frame_to_send c pulled
  sends_as NothingPulled = refl
  sends_as _ = refl

  reported_as : (s : GroundState) (r : Result Clcw ClcwFault)
      → report_outcome (ground_with g s) r ≡ ground_outcome_with g (report_outcome (ground_with c s) r)
  reported_as s (Err fault) = refl
  reported_as s (Ok report) =
      either (ground_outcome_with g) (report.vcid == g.vcid)
      (ap (λ (after : GroundState).
      record { answer = record { report = Used; alert = (clcw_step s.fop report).answer }; after = after })
      (refilled_with_as (acknowledging s (clcw_step s.fop report)) (clcw_step s.fop report).after))
      refl

  framed_as : (s : GroundState) (r : Result telemetry.FrameView TmFault)
      → telemetry_outcome (ground_with g s) r ≡ ground_outcome_with g (telemetry_outcome (ground_with c s) r)
  framed_as s (Err fault) = refl
  framed_as s (Ok frame) =
      let x : Extracted = extract_step s.extractor frame in
      either (ground_outcome_with g) (is_own_telemetry g frame)
      (ap (beside_packets x) (reported_as (after_extraction s x) (clcw_at frame.ocf))) refl

  taken_as : (s : GroundState) (packets : List (List ℕ))
      → ground_take_telemetry (ground_with g s) packets
      ≡ ground_outcome_with g (ground_take_telemetry (ground_with c s) packets)
  taken_as s [] = refl
  taken_as s (packet ∷ left) = refl

  pub ground_as : (s : GroundState) (event : GroundEvent)
      → ground_step (ground_with g s) event ≡ ground_outcome_with g (ground_step (ground_with c s) event)
  ground_as s (Submit m octets) =
      unless_as s _ _ (submit_fault (ground_with g s) m octets)
      (refilled_as (submitting (ground_with g s) m octets))
  ground_as s (Bypass m octets) =
      unless_as s _ (after_bypass (ground_with c s) m octets) (bypass_fault (ground_with g s) m octets) refl
  ground_as s (Direct directive) =
      let answer = (directive_step s.fop directive).answer in
      ap (λ (after : GroundState). record { answer = answer; after = after })
      (directed_as s directive answer (directive_step s.fop directive).after)
  ground_as s (Resume value) =
      resumed_from_as s value (known_at_end s value)
  ground_as s Pull =
      ap (λ (frame : Option FrameView). record
      { answer = frame; after = with_fop (ground_with g s) (pull_step s.fop).after })
      (sends_as (pull_step s.fop).answer)
      ∙ ap (λ (after : GroundState). record { answer = frame_to_send c (pull_step s.fop).answer; after = after })
      (refilled_with_as s (pull_step s.fop).after)
  ground_as s Tick =
      ap (λ (after : GroundState). record { answer = (tick_step s.fop).answer; after = after })
      (refilled_with_as s (tick_step s.fop).after)
  ground_as s (Telemetry octets) = framed_as s (telemetry_reading.frame_at g.frame_length octets)
  ground_as s (ControlWord octets) = reported_as s (clcw_at octets)
  ground_as s TakeTelemetry = taken_as s s.telemetry
  ground_as s ForgetTelemetry = refl

-- ---- the spacecraft reads nothing that belongs to the sender or to cutting

module _ (g b : Config) where
  abbrev d : Config
  d = seen_on_board g b

  cell_as : (flags : SegmentFlags) (before : Option (List ℕ)) (octets : List ℕ)
      → cell (limits_of b) flags before octets ≡ cell (limits_of d) flags before octets
  cell_as Alone before octets = refl
  cell_as First before octets = refl
  cell_as Continuing None octets = refl
  cell_as Continuing (Some before) octets = refl
  cell_as Last None octets = refl
  cell_as Last (Some before) octets = refl

  long_as : (before : Option (List ℕ)) → unless_too_long (limits_of b) before ≡ unless_too_long (limits_of d) before
  long_as None = refl
  long_as (Some octets) = refl

  same_as : {A : Type 0} (t : Bool) {x y : A} (z : A) → x ≡ y → (if t then x else z) ≡ (if t then y else z)
  same_as true z same = same
  same_as false z same = refl

  open_as : (m : ℕ) (segments : List SegmentView)
      → open_part (limits_of b) m segments ≡ open_part (limits_of d) m segments
  open_as m segments = same_as (is_open (limits_of b) m) None (long_as (ending_part (of_map m segments)))

  taken_in : (before : Option (List ℕ)) (segment : SegmentView)
      → take_step (limits_of b) before segment ≡ take_step (limits_of d) before segment
  taken_in before segment =
      same_as (is_open (limits_of b) segment.header.map) _ (cell_as segment.header.flags before segment.payload)

  assembled_as : (s : SpacecraftState) (segment : SegmentView)
      → assemble_step (spacecraft_with b s) segment ≡ assemble_step (spacecraft_with d s) segment
  assembled_as s segment =
      ap (λ before. take_step (limits_of b) before segment) (open_as segment.header.map s.accepted)
      ∙ taken_in (open_part (limits_of d) segment.header.map s.accepted) segment

  accepts_as : (s : SpacecraftState) (n : ℕ) (segment : SegmentView) (verdict : Verdict)
      → sequence_outcome (spacecraft_with b s) n segment verdict
      ≡ spacecraft_outcome_with b (sequence_outcome (spacecraft_with d s) n segment verdict)
  accepts_as s n segment verdict =
      either (spacecraft_outcome_with b) (is_accepted verdict)
      (ap (λ (o : TakeOutcome). record {
        answer = Sequence n verdict (length o.packets) o.dropped;
        after =
            after_farm (record (spacecraft_with b s) {
              accepted = s.accepted ++ segment ∷ [];
              ready = s.ready ++ put_on_map segment.header.map o.packets;
            }) (AdArrives n (is_free (spacecraft_with b s)));
      }) (assembled_as s segment))
      refl

  bypassed_as : (s : SpacecraftState) (segment : SegmentView) (kept : Bool)
      → bypass_outcome (spacecraft_with b s) segment kept
      ≡ spacecraft_outcome_with b (bypass_outcome (spacecraft_with d s) segment kept)
  bypassed_as s segment true = refl
  bypassed_as s segment false = refl

  body_as : (s : SpacecraftState) (body : BodyView)
      → body_outcome (spacecraft_with b s) body
      ≡ spacecraft_outcome_with b (body_outcome (spacecraft_with d s) body)
  body_as s (Ad n segment) = accepts_as s n segment (verdict_of s.farm n (is_free (spacecraft_with b s)))
  body_as s (Bd segment) = bypassed_as s segment (is_kept b segment)
  body_as s (Bc command) = refl

  received_as : (s : SpacecraftState) (r : Result FrameView TcFault)
      → frame_outcome (spacecraft_with b s) r
      ≡ spacecraft_outcome_with b (frame_outcome (spacecraft_with d s) r)
  received_as s (Err fault) = refl
  received_as s (Ok frame) = either (spacecraft_outcome_with b) (is_own_frame b frame) (body_as s frame.body) refl

  takes_as : (s : SpacecraftState) (packets : List PacketOn)
      → spacecraft_take (spacecraft_with b s) packets
      ≡ spacecraft_outcome_with b (spacecraft_take (spacecraft_with d s) packets)
  takes_as s [] = refl
  takes_as s (packet ∷ left) = refl

  takes_bypass_as : (s : SpacecraftState) (packets : List PacketOn)
      → spacecraft_take_bypass (spacecraft_with b s) packets
      ≡ spacecraft_outcome_with b (spacecraft_take_bypass (spacecraft_with d s) packets)
  takes_bypass_as s [] = refl
  takes_bypass_as s (packet ∷ left) = refl

  pub spacecraft_as : (s : SpacecraftState) (event : SpacecraftEvent)
      → spacecraft_step (spacecraft_with b s) event
      ≡ spacecraft_outcome_with b (spacecraft_step (spacecraft_with d s) event)
  spacecraft_as s (Receive octets) = received_as s (command.frame_at On octets)
  spacecraft_as s Take = takes_as s s.ready
  spacecraft_as s TakeBypass = takes_bypass_as s s.bypass
  spacecraft_as s (Queue packet) = either (spacecraft_outcome_with b) (is_to_send packet) refl refl
  spacecraft_as s Report = refl

-- ---- both

made_ranges : (g b : Config) → IsConfig g → IsConfig b → IsConfig (made_of g b)
made_ranges g b up on_board = assumption (on_board, up)

pub alike_is_as_one : AlikeIsAsOne
alike_is_as_one g b alike = record {
  ranges = made_ranges g b;
  as_ground = record { new = refl; steps = ground_as g b };
  as_spacecraft = subst (IsSpacecraftAs b) alike (record { new = refl; steps = spacecraft_as g b });
}
