-- FARM-B counts the Type-B frames that arrive.
use Rattle.tc_link.proofs.Common.{◌≡◌, ◌∙◌, ℕ, ◌+◌, ◌%◌, ◌<◌, Bool, true, false, List, [], ◌∷◌, Result, Ok}
use Rattle.tc_link.proofs.Common.{Err, refl, ap, arith}
use Rattle.tc_link.proofs.Common.{cond_both, AllByRecursion, TcFault, On, SegmentView, BodyView, Ad, Bd, Bc, FarmState}
use Rattle.tc_link.proofs.Common.{FarmMode, Open, Wait, Verdict, Command, Unlock, SetVr, verdict_of, after_verdict}
use Rattle.tc_link.proofs.Common.{after_unlock, after_set_vr, after_release, farm_step, SpacecraftState}
use Rattle.tc_link.proofs.Common.{SpacecraftOutcome, frame_outcome, body_outcome, sequence_outcome, bypass_outcome}
use Rattle.tc_link.proofs.Common.{is_free, is_kept, is_own_frame, GroundState, Heard, Event, World, WorldOutcome}
use Rattle.tc_link.proofs.Common.{world_step}
use Rattle.tc_frame.specs.Layout.{FrameView}
use Rattle.tc_frame.specs.Decoding.{frame_at}
use Rattle.cop1.specs.declared.farm.FarmMode.TheVariants.{Lockout}
use Rattle.cop1.specs.declared.farm.Verdict.TheVariants.{Accepted, Ahead, NoBuffer, Behind, Outside, Discarded}
use Rattle.nodes.specs.Ground.{ground_step}
use Rattle.nodes.specs.Ground as ground_calls
use Rattle.nodes.specs.Spacecraft.{command_event, is_accepted}
use Rattle.nodes.specs.declared.event.Event.TheVariants as events
use Rattle.nodes.specs.declared.heard.Heard.TheVariants as heard_cases
use Rattle.nodes.specs.declared.heard.HeardReport.{HeardReport}
use Rattle.nodes.specs.declared.heard.HeardReport.TheVariants.{Used}
use Rattle.nodes.specs.declared.received.Received.{Received}
use Rattle.simulated_link.proofs.Unchanged.{up_arrives, board_after}
use Rattle.tc_link.specs.AnyPast.{LinkStep, Happens, TakeTelemetry, Receives, Hears, HearsReport, ForgetTelemetry}
use Rattle.tc_link.specs.AnyPast.{NewGround, link_step, link_run, after_report, after_hearing, with_nodes, is_left}
use Rattle.tc_link.specs.TypeB.{type_b_in, type_b_by, type_b_at, type_b, KeepsSpacecraft, CountsTypeB}
use Rattle.tc_link.proofs.AnyPast.{past_holds}

-- ---- the receiver

verdict_counts : (f : FarmState) (v : Verdict) → (after_verdict f v).farm_b ≡ f.farm_b
verdict_counts f Accepted = refl
verdict_counts f Ahead = refl
verdict_counts f NoBuffer = refl
verdict_counts f Behind = refl
verdict_counts f Outside = refl
verdict_counts f Discarded = refl

unlock_counts : (f : FarmState) (m : FarmMode) → (after_unlock f m).farm_b ≡ (f.farm_b + 1) % 4
unlock_counts f Open = refl
unlock_counts f Wait = refl
unlock_counts f Lockout = refl

set_counts : (f : FarmState) (x : ℕ) (m : FarmMode) → (after_set_vr f x m).farm_b ≡ (f.farm_b + 1) % 4
set_counts f x Open = refl
set_counts f x Wait = refl
set_counts f x Lockout = refl

release_counts : (f : FarmState) (m : FarmMode) → (after_release f m).farm_b ≡ f.farm_b
release_counts f Open = refl
release_counts f Wait = refl
release_counts f Lockout = refl

command_counts : (f : FarmState) (command : Command) → (farm_step f (command_event command)).farm_b ≡ (f.farm_b + 1) % 4
command_counts f Unlock = unlock_counts f f.state
command_counts f (SetVr x) = set_counts f x f.state

-- ---- octets that arrive on board

-- FARM-B after so many frames were counted
abbrev By : SpacecraftState → ℕ → ℕ → Type 0
By s n farm_b = farm_b ≡ (s.farm.farm_b + n) % 4

module _ (s : SpacecraftState) (small : s.farm.farm_b < 4) where
  abbrev Counts : SpacecraftOutcome Received → Type 0
  Counts o = By s (type_b_in o.answer) o.after.farm.farm_b

  none : (farm_b : ℕ) → farm_b ≡ s.farm.farm_b → By s 0 farm_b
  none farm_b same = omega (arith, same, small)

  sequence_counted : (n : ℕ) (u : SegmentView) → Counts (body_outcome s (Ad n u))
  sequence_counted n u =
      let v : Verdict = verdict_of s.farm n (is_free s) in
      let same : By s 0 (after_verdict s.farm v).farm_b =
      none (after_verdict s.farm v).farm_b (verdict_counts s.farm v) in
      cond_both (is_accepted v) _ _ Counts (λ t. same) (λ t. same)

  bypass_counted : (u : SegmentView) (kept : Bool) → Counts (bypass_outcome s u kept)
  bypass_counted u true = refl
  bypass_counted u false = refl

  body_counted : (f : BodyView) → Counts (body_outcome s f)
  body_counted (Ad n u) = sequence_counted n u
  body_counted (Bd u) = bypass_counted u (is_kept s.config u)
  body_counted (Bc command) = command_counts s.farm command

  received_counted : (r : Result FrameView TcFault) → Counts (frame_outcome s r)
  received_counted (Err fault) = none s.farm.farm_b refl
  received_counted (Ok frame) =
      cond_both (is_own_frame s.config frame) (body_outcome s frame.body) _ Counts (λ t. body_counted frame.body)
      (λ t. none s.farm.farm_b refl)

-- ---- each step

module _ (w : World) (small : w.spacecraft.farm.farm_b < 4) where
  abbrev s : SpacecraftState
  s = w.spacecraft

  same_board : (new : World) → new.spacecraft ≡ s → By s 0 new.spacecraft.farm.farm_b
  same_board new same = none s small new.spacecraft.farm.farm_b (ap (λ (t : SpacecraftState). t.farm.farm_b) same)

  -- an event with no frame arriving on board
  rest_counted : (e : Event) → (e ≡ events.UpDeliver → ⊥) → By s 0 (world_step w e).after.spacecraft.farm.farm_b
  rest_counted e other = none s small (world_step w e).after.spacecraft.farm.farm_b
      (board_after w (λ t. t.farm.farm_b ≡ s.farm.farm_b) e (record {
        same = refl;
        receives = λ is b bs first. absurd (other is);
        reports = λ is. refl;
        takes = λ is left kept. refl;
        releases = λ is left free. release_counts s.farm s.farm.state;
        passes = λ is left. refl;
        queues = λ octets is. refl;
      }))

  event_counted : (e : Event) → By s (type_b_by e (world_step w e).answer) (world_step w e).after.spacecraft.farm.farm_b
  event_counted events.UpDeliver =
      up_arrives w (λ (o : WorldOutcome). By s (type_b_by events.UpDeliver o.answer) o.after.spacecraft.farm.farm_b)
      (none s small s.farm.farm_b refl) (λ b bs is. received_counted s small (frame_at On b))
  event_counted e = rest_counted e (λ is. cc is)

  report_board : (after : GroundState) (r : HeardReport) → (after_report w after r).spacecraft ≡ s
  report_board after Used = refl
  report_board after _ = refl

  heard_board : (after : GroundState) (a : Heard) → (after_hearing w after a).spacecraft ≡ s
  heard_board after (heard_cases.Frame gap packets report alert) = report_board after report
  heard_board after _ = refl

  step_counted : (step : LinkStep) → KeepsSpacecraft step
      → By s (type_b_at w step) (link_step w step).spacecraft.farm.farm_b
  step_counted (Happens e) keeps = event_counted e
  step_counted TakeTelemetry keeps = none s small s.farm.farm_b refl
  step_counted (Receives octets) keeps =
      let o : SpacecraftOutcome Received = frame_outcome s (frame_at On octets) in
      cond_both (is_left s.farm o.after.farm) (record w { spacecraft = o.after }) (with_nodes w w.ground_node o.after)
      (λ (x : World). By s (type_b_in o.answer) x.spacecraft.farm.farm_b)
      (λ t. received_counted s small (frame_at On octets)) (λ t. received_counted s small (frame_at On octets))
  step_counted (Hears octets) keeps =
      let o = ground_step w.ground_node (ground_calls.Telemetry octets) in
      same_board (after_hearing w o.after o.answer) (heard_board o.after o.answer)
  step_counted (HearsReport octets) keeps =
      let o = ground_step w.ground_node (ground_calls.ControlWord octets) in
      same_board (after_report w o.after o.answer.report) (report_board o.after o.answer.report)
  step_counted ForgetTelemetry keeps = none s small s.farm.farm_b refl
  step_counted NewGround keeps = none s small s.farm.farm_b refl
  step_counted _ keeps = elim keeps [ ]

-- ---- a run

run_counts : (w : World) (since : List LinkStep) → w.spacecraft.farm.farm_b < 4 → AllByRecursion KeepsSpacecraft since
    → (link_run w since).spacecraft.farm.farm_b ≡ (w.spacecraft.farm.farm_b + type_b w since) % 4
run_counts w [] small keeps = omega (arith, small)
run_counts w (step ∷ more) small keeps =
    let one = step_counted w small step keeps.0 in
    let next : (link_step w step).spacecraft.farm.farm_b < 4 = omega (arith, one) in
    omega (arith, one, run_counts (link_step w step) more next keeps.1)

pub counts_type_b : CountsTypeB
counts_type_b w since past keeps = run_counts w since (past_holds w past).sound.spacecraft.farm.farm_b keeps
