-- Telemetry after an outage: at most the first packet is a wrong one.
use Rattle.tc_link.proofs.Common.{◌≡◌, ◌≤◌, ℕ, zero, suc, Bool, true, false, List, [], ◌∷◌, ◌++◌, length, drop, refl}
use Rattle.tc_link.proofs.Common.{sym, ap, subst, ◌∙◌, arith, append_assoc, length-append, append-nil, AllByRecursion}
use Rattle.tc_link.proofs.Common.{all_extracted, state_after, ExtractorState, extract_step, held_by, choice, Config}
use Rattle.tc_link.proofs.Common.{IsConfig, world_step, WorldOutcome}
use Rattle.std.specs.Prelude.{replicate}
use Rattle.std.proofs.lemmas.List.{drop_at}
use Rattle.tm_link.specs.Extractor.{new_extractor}
use Rattle.tm_link.specs.Layout.{FrameView}
use Rattle.tm_link.specs.Stream.{IsClose, marks_of, arrived_packets}
use Rattle.tm_link.proofs.Outages.{one_more_arrives}
use Rattle.nodes.specs.Ground.{ground_step}
use Rattle.nodes.specs.Ground as ground_calls
use Rattle.tc_link.specs.Outage.{HasComeSince}
use Rattle.tc_link.specs.Telemetry.{Downlink, DownlinkStep, Happens, TakeTelemetry, IsDownlinkStep, new_downlink}
use Rattle.tc_link.specs.Telemetry.{after_event, after_taking, downlink_run, packets_down, came_by, sent_by}
use Rattle.tc_link.proofs.Telemetry.{choice_none, arrived_some, Laid, new_downlink_laid, chosen, run_laid, in_range}

-- ---- what is sent, arrives or is lost later comes after what was there before

record Grown (old new : Downlink) : Type 0 where
  came : List Bool
  sent : List FrameView
  came_is : new.came ≡ old.came ++ came
  sent_is : new.sent ≡ old.sent ++ sent

grown : (d : Downlink) (steps : List DownlinkStep) → Grown d (downlink_run d steps)
grown d [] = record { came = []; sent = []; came_is = sym (append-nil d.came); sent_is = sym (append-nil d.sent) }
grown d (Happens e ∷ steps) =
    let o : WorldOutcome = world_step d.world e in
    let rest = grown (after_event d e o) steps in
    record {
      came = came_by e o.answer ++ rest.came;
      sent = sent_by d.world e ++ rest.sent;
      came_is = rest.came_is ∙ append_assoc d.came (came_by e o.answer) rest.came;
      sent_is = rest.sent_is ∙ append_assoc d.sent (sent_by d.world e) rest.sent;
    }
grown d (TakeTelemetry ∷ steps) =
    let rest =
    grown (after_taking d (ground_step d.world.ground_node ground_calls.TakeTelemetry)) steps in
    record { came = rest.came; sent = rest.sent; came_is = rest.came_is; sent_is = rest.sent_is }

-- ---- the frames that came since

abbrev since : List Bool → List Bool → List Bool
since before came = replicate (length before) false ++ came

choice_since : (frames more : List FrameView) (before came : List Bool) → length before ≤ length frames
    → choice (frames ++ more) (before ++ came) ≡ choice frames before ++ choice (frames ++ more) (since before came)
choice_since frames more [] came le =
    ap (λ (fs : List FrameView). fs ++ choice (frames ++ more) came) (sym (choice_none frames))
choice_since [] more (b ∷ before) came le = absurd (omega arith)
choice_since (f ∷ frames) more (true ∷ before) came le =
    ap (λ (fs : List FrameView). f ∷ fs) (choice_since frames more before came (omega arith))
choice_since (f ∷ frames) more (false ∷ before) came le = choice_since frames more before came (omega arith)

extracted_since : (s : ExtractorState) (frames more : List FrameView)
    → all_extracted s (frames ++ more) ≡ all_extracted s frames ++ all_extracted (state_after s frames) more
extracted_since s [] more = refl
extracted_since s (f ∷ frames) more =
    let next : ExtractorState = (extract_step s f).after in
    ap (λ (ps : List (List ℕ)). (extract_step s f).packets ++ ps) (extracted_since next frames more)
    ∙ sym (append_assoc (extract_step s f).packets (all_extracted next frames)
    (all_extracted (state_after next frames) more))

close_since : (n : ℕ) (came : List Bool) → IsClose came → IsClose (replicate n false ++ came)
close_since zero came close before after k e = close before after k e
close_since (suc n) came close [] after k e = absurd cc
close_since (suc n) came close (b ∷ before) after k e = close_since n came close before after k cc

-- ---- what is promised

module _ (c : Config) (d now : Downlink) (g : Laid c d) (h : Laid c now) (more : Grown d now)
    (close : IsClose more.came) where
  flags : List Bool
  flags = since d.came more.came

  state : ExtractorState
  state = state_after new_extractor (choice d.sent d.came)

  counted : length d.came ≤ length d.sent
  counted = omega (arith, g.way.counted, ap length g.way.parts, length-append g.way.gone g.way.going)

  frames : choice now.sent now.came ≡ choice d.sent d.came ++ choice now.sent flags
  unfolding flags
  frames =
      ap (choice now.sent) more.came_is ∙ ap (λ fs. choice fs (d.came ++ more.came)) more.sent_is
      ∙ choice_since d.sent more.sent d.came more.came counted
      ∙ ap (λ fs. choice d.sent d.came ++ choice fs (since d.came more.came)) (sym more.sent_is)

  parts : packets_down now ≡ packets_down d ++ all_extracted state (choice now.sent flags)
  unfolding state
  parts =
      h.way.given ∙ ap (all_extracted new_extractor) (sym (chosen c now h) ∙ frames)
      ∙ extracted_since new_extractor (choice d.sent d.came) (choice now.sent flags)
      ∙ ap (λ (ps : List (List ℕ)). ps ++ all_extracted state (choice now.sent flags))
      (sym (g.way.given ∙ ap (all_extracted new_extractor) (sym (chosen c d g))))

  has_come : HasComeSince d now
  unfolding flags
  has_come =
      let but =
      one_more_arrives state now.queued now.sent (held_by now.world.spacecraft.builder) h.laid.laid flags
      (in_range c now.sent h.each) (close_since (length d.came) more.came close) in
      record {
        first = but.first;
        others = arrived_packets h.laid.laid.all now.sent flags;
        most = but.most;
        parts = parts ∙ ap (λ (ps : List (List ℕ)). packets_down d ++ ps) but.parts;
        in_order = arrived_some h.laid.laid.all now.queued (marks_of now.sent flags) h.laid.laid.sent;
      }

pub at_most_the_first : (c : Config) (before steps : List DownlinkStep) → IsConfig c
    → AllByRecursion IsDownlinkStep before → AllByRecursion IsDownlinkStep steps
    → let moment : Downlink = downlink_run (new_downlink c) before in
    let now : Downlink = downlink_run moment steps in
    IsClose (drop (length moment.came) now.came) → HasComeSince moment now
at_most_the_first c before steps ranges first later close =
    let d : Downlink = downlink_run (new_downlink c) before in
    let now : Downlink = downlink_run d steps in
    let g = run_laid c before (new_downlink c) first (new_downlink_laid c ranges) in
    let more = grown d steps in
    let came : drop (length d.came) now.came ≡ more.came =
    ap (drop (length d.came)) more.came_is ∙ drop_at d.came more.came (length d.came) refl in
    has_come c d now g (run_laid c steps d later g) more (subst IsClose came close)
