-- A loop of your own is a link: its nodes, what is in transit and its answers are those of the world.
use Rattle.tc_link.proofs.Common.{◌≡◌, ℕ, Bool, true, false, List, [], ◌∷◌, Option, Some, None, Result, Ok, Err}
use Rattle.tc_link.proofs.Common.{refl, ap, sym, subst, ◌∙◌, if◌then◌else◌, AllByRecursion, Config, IsEvent}
use Rattle.tc_link.proofs.Common.{Event, World, WorldOutcome, new_world, world_step, run_answers, world_after_pull}
use Rattle.tc_link.proofs.Common.{up_deliver_step, up_lose_step, up_damage_step, up_damage_outcome, down_deliver_step}
use Rattle.tc_link.proofs.Common.{down_lose_step, down_damage_step, down_damage_outcome, GroundState, TcFault, TmFault}
use Rattle.tc_link.proofs.Common.{frame_outcome, telemetry_outcome, Heard, On}
use Rattle.tc_link.proofs.Common.{SpacecraftState}
use Rattle.std.specs.Prelude.{IsErr}
use Rattle.tc_frame.specs.Decoding as command
use Rattle.tc_frame.specs.Layout.{FrameView}
use Rattle.tm_link.specs.Decoding as telemetry_reading
use Rattle.tm_link.specs.Layout as telemetry
use Rattle.nodes.specs.Ground.{ground_step, known_at_end, resumed_from, report_outcome}
use Rattle.nodes.specs.Ground as ground
use Rattle.nodes.specs.Spacecraft.{spacecraft_receive}
use Rattle.nodes.specs.declared.event.Event.TheVariants as events
use Rattle.nodes.specs.declared.heard.Heard.TheVariants as heard_cases
use Rattle.nodes.specs.declared.heard.HeardReport.{HeardReport}
use Rattle.nodes.specs.declared.heard.HeardReport.TheVariants.{Used}
use Rattle.simulated_link.specs.Replies.{Up, Down}
use Rattle.simulated_link.specs.World.{world_after_resuming, down_word_outcome, down_clcw_step}
use Rattle.tc_link.specs.AnyPast.{LinkStep, Happens, TakeTelemetry, Receives, Hears, HearsReport, ForgetTelemetry}
use Rattle.tc_link.specs.AnyPast.{NewGround, NewSpacecraft, IsLinkStep, link_step, link_run, is_left, with_nodes}
use Rattle.tc_link.specs.AnyPast.{after_report, after_hearing}
use Rattle.tc_link.specs.OwnLoop.{Loop, LoopOutcome, loop_event, loop_step, loop_run, loop_answers}
use Rattle.tc_link.specs.OwnLoop.{on_ground, on_board, on_pull, reply_to_resuming, reply_to_report, first_of, with_up}
use Rattle.tc_link.specs.OwnLoop.{with_down, comes_up, comes_down, word_comes, is_lost, IsDetected, IsDetectedAt}
use Rattle.tc_link.specs.OwnLoop.{without_records, EachLoopIsALink, EachAnswersAsALink, EachLoopIsSeen}
use Rattle.tc_link.specs.OwnLoop.{as_link_step, loop_answer, loop_downlink_answers, EachLoopSeesTelemetry}
use Rattle.tc_link.specs.SeenTelemetry.{OfEvent, answer_to, downlink_answers, IsTelemetrySeen, telemetry_seen}
use Rattle.tc_link.specs.Telemetry.{Downlink, DownlinkStep, IsDownlinkStep, new_downlink, downlink_step}
use Rattle.tc_link.specs.Telemetry as downlink
use Rattle.tc_link.specs.Seen.{IsPromisedOfSeen, seen}
use Rattle.tc_link.proofs.IdleStart.{report_reads}
use Rattle.tc_link.proofs.Invariant.{Holding, new_holds, step_holds}
use Rattle.tc_link.proofs.AnyPast.{link_step_holds, link_run_holds}
use Rattle.tc_link.proofs.Seen.{each_is_seen}
use Rattle.tc_link.proofs.SeenTelemetry.{telemetry_is_seen}

-- the world's outcome without the records
abbrev of_world : WorldOutcome → LoopOutcome
of_world o = record { answer = o.answer; after = without_records o.after }

module _ (w : World) where
  abbrev l : Loop
  l = without_records w

  -- ---- calls whose answer determines the state they leave

  resumed_same : (value : ℕ) (o : Option ℕ)
      → on_ground l reply_to_resuming (resumed_from w.ground_node value o)
      ≡ of_world (world_after_resuming w value (resumed_from w.ground_node value o).answer)
  resumed_same value (Some whole) = refl
  resumed_same value None = refl

  pulled_same : (next : GroundState) (frame : Option FrameView)
      → on_pull l (record { answer = frame; after = next }) ≡ of_world (world_after_pull w next frame)
  pulled_same next None = refl
  pulled_same next (Some frame) = refl

  -- ---- what is in transit

  up_same : (way : List (List ℕ))
      → first_of l way (λ octets left. comes_up (with_up l left) octets) ≡ of_world (up_deliver_step w way)
  up_same [] = refl
  up_same (octets ∷ left) = refl

  up_lost : (way : List (List ℕ))
      → first_of l way (λ octets left. is_lost (with_up l left)) ≡ of_world (up_lose_step w way)
  up_lost [] = refl
  up_lost (octets ∷ left) = refl

  up_refused : (left : List (List ℕ)) (r : Result FrameView TcFault) → IsErr r
      → on_board (with_up l left) Up (frame_outcome w.spacecraft r) ≡ of_world (up_damage_outcome w left r)
  up_refused left (Ok frame) seen = cc seen
  up_refused left (Err fault) seen = refl

  up_damaged : (damaged : List ℕ) → IsErr (command.frame_at On damaged) → (way : List (List ℕ))
      → first_of l way (λ octets left. comes_up (with_up l left) damaged) ≡ of_world (up_damage_step w way damaged)
  up_damaged damaged seen [] = refl
  up_damaged damaged seen (octets ∷ left) = up_refused left (command.frame_at On damaged) seen

  down_same : (way : List (List ℕ))
      → first_of l way (λ octets left. comes_down (with_down l left) octets) ≡ of_world (down_deliver_step w way)
  down_same [] = refl
  down_same (octets ∷ left) = refl

  down_lost : (way : List (List ℕ))
      → first_of l way (λ octets left. is_lost (with_down l left)) ≡ of_world (down_lose_step w way)
  down_lost [] = refl
  down_lost (octets ∷ left) = refl

  down_refused : (left : List (List ℕ)) (r : Result telemetry.FrameView TmFault) → IsErr r
      → on_ground (with_down l left) Down (telemetry_outcome w.ground_node r)
      ≡ of_world (down_damage_outcome w left r)
  down_refused left (Ok frame) seen = cc seen
  down_refused left (Err fault) seen = refl

  down_damaged : (damaged : List ℕ)
      → IsErr (telemetry_reading.frame_at w.ground_node.config.frame_length damaged) → (way : List (List ℕ))
      → first_of l way (λ octets left. comes_down (with_down l left) damaged)
      ≡ of_world (down_damage_step w way damaged)
  down_damaged damaged seen [] = refl
  down_damaged damaged seen (octets ∷ left) =
      down_refused left (telemetry_reading.frame_at w.ground_node.config.frame_length damaged) seen

  word_so : (left : List (List ℕ)) (r : Result telemetry.FrameView TmFault)
      → word_comes (with_down l left) r ≡ of_world (down_word_outcome w left r)
  word_so left (Ok frame) = refl
  word_so left (Err fault) = refl

  word_same : (way : List (List ℕ))
      → first_of l way (λ octets left. word_comes (with_down l left)
      (telemetry_reading.frame_at w.ground_node.config.frame_length octets)) ≡ of_world (down_clcw_step w way)
  word_same [] = refl
  word_same (octets ∷ left) =
      word_so left (telemetry_reading.frame_at w.ground_node.config.frame_length octets)

  -- ---- octets from outside

  received_same : (after : SpacecraftState) (t : Bool) → record l { spacecraft = after }
      ≡ without_records (if t then record w { spacecraft = after } else with_nodes w w.ground_node after)
  received_same after true = refl
  received_same after false = refl

  reported_same : (after : GroundState) (report : HeardReport)
      → record l { ground_node = after } ≡ without_records (after_report w after report)
  reported_same after Used = refl
  reported_same after _ = refl

  heard_same : (after : GroundState) (heard : Heard)
      → record l { ground_node = after } ≡ without_records (after_hearing w after heard)
  heard_same after (heard_cases.Frame gap packets report alert) = reported_same after report
  heard_same after _ = refl

  -- ---- each event, and each step

  module _ (c : Config) (h : Holding c w) where
    event_same : (e : Event) → IsDetected c e → loop_event l e ≡ of_world (world_step w e)
    event_same (events.Submit m octets) seen = refl
    event_same (events.Bypass m octets) seen = refl
    event_same (events.Directive directive) seen = refl
    event_same (events.Resume value) seen = resumed_same value (known_at_end w.ground_node value)
    event_same events.Tick seen = refl
    event_same events.Send seen =
        pulled_same (ground_step w.ground_node ground.Pull).after (ground_step w.ground_node ground.Pull).answer
    event_same events.UpDeliver seen = up_same w.up
    event_same events.UpLose seen = up_lost w.up
    event_same (events.UpDamage damaged) seen = up_damaged damaged.now seen w.up
    event_same events.Report seen =
        ap (λ r. record { answer = Ok (reply_to_report r); after = without_records (world_step w events.Report).after })
        (report_reads w.spacecraft.farm w.spacecraft.config.vcid h.sound.spacecraft.farm.farm_b)
    event_same events.DownDeliver seen = down_same w.down
    event_same events.DownLose seen = down_lost w.down
    event_same (events.DownDamage damaged) seen =
        down_damaged damaged.now
        (subst (λ (own : Config). IsDetected own (events.DownDamage damaged)) (sym h.sound.ground_node.config) seen)
        w.down
    event_same events.DownClcw seen = word_same w.down
    event_same events.Take seen = refl
    event_same events.TakeBypass seen = refl
    event_same (events.Telemetry octets) seen = refl

    step_same : (s : LinkStep) → IsDetectedAt c s → loop_step l s ≡ without_records (link_step w s)
    step_same (Happens event) seen = ap (λ (o : LoopOutcome). o.after) (event_same event seen)
    step_same TakeTelemetry seen = refl
    step_same ForgetTelemetry seen = refl
    step_same (Receives octets) seen =
        let after : SpacecraftState = (spacecraft_receive w.spacecraft octets).after in
        received_same after (is_left w.spacecraft.farm after.farm)
    step_same (Hears octets) seen =
        let o = ground_step w.ground_node (ground.Telemetry octets) in heard_same o.after o.answer
    step_same (HearsReport octets) seen =
        let o = ground_step w.ground_node (ground.ControlWord octets) in reported_same o.after o.answer.report
    step_same NewGround seen = refl
    step_same (NewSpacecraft kept) seen = refl

-- ---- a run

run_same : (c : Config) (steps : List LinkStep) (w : World) → Holding c w → AllByRecursion IsLinkStep steps
    → AllByRecursion (IsDetectedAt c) steps → loop_run (without_records w) steps ≡ without_records (link_run w steps)
run_same c [] w h fits seen = refl
run_same c (s ∷ steps) w h fits seen =
    ap (λ (x : Loop). loop_run x steps) (step_same w c h s seen.0)
    ∙ run_same c steps (link_step w s) (link_step_holds c w h s fits.0) fits.1 seen.1

answers_same : (c : Config) (es : List Event) (w : World) → Holding c w → AllByRecursion IsEvent es
    → AllByRecursion (IsDetected c) es → loop_answers (without_records w) es ≡ run_answers w es
answers_same c [] w h fits seen = refl
answers_same c (e ∷ es) w h fits seen =
    let same = event_same w c h e seen.0 in
    ap (λ (o : LoopOutcome). o.answer ∷ loop_answers o.after es) same
    ∙ ap (λ rest. (world_step w e).answer ∷ rest)
    (answers_same c es (world_step w e).after (step_holds c w h e fits.0) fits.1 seen.1)

pub each_loop_is_a_link : EachLoopIsALink
each_loop_is_a_link c steps ranges fits seen = run_same c steps (new_world c) (new_holds c ranges) fits seen

pub each_answers_as_a_link : EachAnswersAsALink
each_answers_as_a_link c steps event ranges fits seen now =
    let w : World = link_run (new_world c) steps in
    ap (λ (x : Loop). (loop_event x event).answer) (each_loop_is_a_link c steps ranges fits seen)
    ∙ ap (λ (o : LoopOutcome). o.answer)
    (event_same w c (link_run_holds c steps (new_world c) fits (new_holds c ranges)) event now)

pub each_loop_is_seen : EachLoopIsSeen
each_loop_is_seen c events ranges fits detected =
    subst (λ answers. IsPromisedOfSeen c.blocking (seen events answers))
    (sym (answers_same c events (new_world c) (new_holds c ranges) fits detected)) (each_is_seen c events ranges fits)

-- ---- with takes of telemetry

answered_as : (c : Config) (d : Downlink) → Holding c d.world → (s : DownlinkStep) → IsDetectedAt c (as_link_step s)
    → loop_answer (without_records d.world) s ≡ answer_to d s
answered_as c d h (downlink.Happens event) seen =
    ap (λ (o : LoopOutcome). OfEvent o.answer) (event_same d.world c h event seen)
answered_as c d h downlink.TakeTelemetry seen = refl

-- the loop takes a step as the link does
leads_as : (c : Config) (d : Downlink) → Holding c d.world → (s : DownlinkStep) → IsDownlinkStep s
    → ((downlink_step d s).world ≡ link_step d.world (as_link_step s)) × IsLinkStep (as_link_step s)
leads_as c d h (downlink.Happens event) fits = (refl, fits)
leads_as c d h downlink.TakeTelemetry fits = (refl, tt)

downlink_same : (c : Config) (steps : List DownlinkStep) (d : Downlink) → Holding c d.world
    → AllByRecursion IsDownlinkStep steps
    → AllByRecursion (λ (step : DownlinkStep). IsDetectedAt c (as_link_step step)) steps
    → loop_downlink_answers (without_records d.world) steps ≡ downlink_answers d steps
downlink_same c [] d h fits seen = refl
downlink_same c (s ∷ steps) d h fits seen =
    let leads = leads_as c d h s fits.0 in
    let next : Holding c (downlink_step d s).world =
    subst (Holding c) (sym leads.0) (link_step_holds c d.world h (as_link_step s) leads.1) in
    ap (λ answer. answer ∷ loop_downlink_answers (loop_step (without_records d.world) (as_link_step s)) steps)
    (answered_as c d h s seen.0)
    ∙ ap (λ (x : Loop). answer_to d s ∷ loop_downlink_answers x steps)
    (step_same d.world c h (as_link_step s) seen.0 ∙ ap without_records (sym leads.0))
    ∙ ap (λ rest. answer_to d s ∷ rest) (downlink_same c steps (downlink_step d s) next fits.1 seen.1)

pub each_loop_sees_telemetry : EachLoopSeesTelemetry
each_loop_sees_telemetry c steps ranges fits detected =
    subst (λ answers. IsTelemetrySeen (telemetry_seen steps answers))
    (sym (downlink_same c steps (new_downlink c) (new_holds c ranges) fits detected))
    (telemetry_is_seen c steps ranges fits)
