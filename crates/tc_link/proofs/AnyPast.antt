-- Whatever came before, the world is sound, and so is a session that had an idle start.
use Rattle.tc_link.proofs.Common.{false, inl, inr, Config, Event, IsEvent, World}
use Rattle.tc_link.proofs.Common.{world_step, ◌≡◌, ℕ, Bool, true, List, []}
use Rattle.tc_link.proofs.Common.{◌∷◌, map, refl, subst, arith, ◌==◌, AllByRecursion, cond_both}
use Rattle.tc_link.proofs.Common.{Clcw, Directive, ◌++◌}
use Rattle.tc_link.proofs.Common.{Result, Ok, Err, ap, ◌∙◌}
use Rattle.tc_link.proofs.Common.{new_world, world_run, IsIdle}
use Rattle.tc_link.proofs.Common.{TcFault, On, SegmentView, TmFault, clcw_step}
use Rattle.tc_link.proofs.Common.{GroundState, SpacecraftState, SpacecraftOutcome, frame_outcome}
use Rattle.tc_link.proofs.Common.{bypass_outcome}
use Rattle.tc_link.proofs.Common.{telemetry_outcome}
use Rattle.tc_link.proofs.Common.{after_report, acknowledging}
use Rattle.tc_link.proofs.Common.{Option}
use Rattle.tc_link.proofs.Common.{FopState}
use Rattle.tc_link.proofs.Common.{Opening, option_map}
use Rattle.tc_frame.specs.Layout.{FrameView}
use Rattle.tc_frame.specs.Decoding as command
use Rattle.clcw.specs.Decoding.{clcw_at}
use Rattle.clcw.specs.declared.fault.ClcwFault.{ClcwFault}
use Rattle.tm_link.specs.Extractor.{ExtractorState, new_extractor, extract_step}
use Rattle.tm_link.specs.Layout as telemetry
use Rattle.tm_link.specs.Decoding as telemetry_reading
use Rattle.nodes.specs.Spacecraft.{restarted_spacecraft}
use Rattle.nodes.specs.Ground.{GroundOutcome, report_outcome, is_own_telemetry, new_ground, ground_take_telemetry}
use Rattle.nodes.specs.declared.heard.HeardClcw.{HeardClcw}
use Rattle.nodes.specs.declared.heard.Heard.{Heard}
use Rattle.nodes.specs.declared.received.Received.{Received}
use Rattle.nodes.specs.declared.spacecraft.KeptNumbers.{KeptNumbers}
use Rattle.tc_link.specs.AnyPast.{LinkStep, Happens, TakeTelemetry, Receives, Hears, HearsReport, ForgetTelemetry}
use Rattle.tc_link.specs.AnyPast.{NewGround, NewSpacecraft, AreNumbers, IsLinkStep, with_nodes, received, heard}
use Rattle.tc_link.specs.AnyPast.{is_left}
use Rattle.tc_link.specs.AnyPast.{EachGoesOnAsKept, heard_word, link_step, link_run, ReportsDoAsFrames, HasAnyPast}
use Rattle.tc_link.specs.AnyPast.{HoldsAfterAnyPast, RunsAsEvents}
use Rattle.tc_link.specs.Beside.{LeavesSession, SessionLasts, LeavesNumbers}
use Rattle.tc_link.specs.Known.{MovesWithRecords}
use Rattle.tc_link.proofs.Beside.{with_telemetry, with_bypass, taken_beside, beside_so, left_so, received_so}
use Rattle.tc_link.proofs.IdleStart.{InSession}
use Rattle.tc_link.proofs.Invariant.{late_step, Holding, new_holds, step_holds, early_step, opened, session_stays}
use Rattle.tc_link.proofs.Known.{moves_with_records}
use Rattle.tc_link.proofs.Linked.{In, beside, run_to}
use Rattle.tc_link.proofs.Sound.{refilled_so, report_so, arrives_so, new_sound}
use Rattle.tc_link.proofs.Sound.{GroundNodeSteady, SpacecraftSteady}
use Rattle.nodes.proofs.Arrivals.{AtEachArrival, bypass_comes, bypass_same, frame_comes}
use Rattle.tc_link.proofs.Readable.{GroundFits, with_fits, heard_fits}
use Rattle.tc_link.proofs.Upward.{eases_keep, bypass_eases}
use Rattle.tc_link.proofs.Downward.{apart, words_apart, words_say}
use Rattle.tc_link.proofs.Promised.{holds_so}

-- ---- the session continues

session_to : (c : Config) (w new : World)
    → ((early : Bool) (d : Directive) (base : ℕ) → In early c d base w → In early c d base new) → InSession c w
    → InSession c new
session_to c w new goes s = record {
  directive = s.directive;
  base = s.base;
  session = elim s.session [
    | inl g ↦ inl (goes true s.directive s.base g)
    | inr g ↦ inr (goes false s.directive s.base g)
  ];
}

module _ (c : Config) (w : World) (x : ExtractorState) (packets : List (List ℕ)) where
  heard_in : (early : Bool) (d : Directive) (base : ℕ) → In early c d base w
      → In early c d base (with_telemetry w x packets)
  heard_in early d base g = beside g (with_telemetry w x packets) g.ran (assumption g.linked) g.stage

  telemetry_holds : Holding c w → Holding c (with_telemetry w x packets)
  telemetry_holds h = record {
    sound = assumption h.sound;
    reports = h.reports;
    carried = record { frames = h.carried.frames; carries = h.carried.carries; fits = assumption h.carried.fits };
    clean = h.clean;
    session = λ is. session_to c w (with_telemetry w x packets) heard_in (h.session is);
  }

-- a Type-BD frame arrived
module _ (c : Config) (w : World) (h : Holding c w) (u : SegmentView) (kept : Bool) where
  abbrev bypassed : World
  bypassed = with_bypass w u kept

  -- the session continues, with the same beginning
  bypassed_in : (early : Bool) (d : Directive) (base : ℕ) → In early c d base w → In early c d base bypassed
  bypassed_in early d base g =
      run_to g (eases_keep early c d base w h.sound g (bypass_outcome w.spacecraft u kept).after
      (bypass_same w.spacecraft u kept) (bypass_eases d base g.front w.spacecraft u kept))

  bypassed_holds : Holding c bypassed
  bypassed_holds = record {
    sound = record {
      ranges = h.sound.ranges;
      ground_node = h.sound.ground_node;
      spacecraft = bypass_comes w.spacecraft (λ o t. SpacecraftSteady c t)
          (arrives_so c w.spacecraft h.sound.spacecraft) u kept;
      before = rw (bypass_same w.spacecraft u kept) h.sound.before;
    };
    reports = h.reports;
    carried = record { frames = h.carried.frames; carries = h.carried.carries; fits = h.carried.fits };
    clean = h.clean;
    session = λ is. session_to c w bypassed bypassed_in (h.session is);
  }

-- ---- each step

module _ (c : Config) (w : World) (h : Holding c w) where
  take_holds : (packets : List (List ℕ))
      → Holding c (record w { ground_node = (ground_take_telemetry w.ground_node packets).after })
  take_holds packets = taken_beside w (Holding c) packets h (λ left. telemetry_holds c w w.ground_node.extractor left h)

  -- these nodes are on the link, without a session
  nodes_hold : (ground_node : GroundState) (spacecraft : SpacecraftState) → GroundNodeSteady c ground_node
      → GroundFits ground_node → SpacecraftSteady c spacecraft → Holding c (with_nodes w ground_node spacecraft)
  nodes_hold ground_node spacecraft steady fits board = record {
    sound = record { ranges = h.sound.ranges; ground_node = steady; spacecraft = board; before = omega arith };
    reports = h.reports;
    carried = record { frames = h.carried.frames; carries = h.carried.carries; fits = fits };
    clean = λ is. absurd cc;
    session = λ is. absurd cc;
  }

  -- ---- the spacecraft receives octets

  abbrev Receives_well : SpacecraftOutcome Received → Type 0
  Receives_well o = Holding c (received w o)

  board_holds : (after : SpacecraftState) → SpacecraftSteady c after → Holding c (with_nodes w w.ground_node after)
  board_holds after steady = nodes_hold w.ground_node after h.sound.ground_node h.carried.fits steady

  arrives : AtEachArrival w.spacecraft (λ o t. SpacecraftSteady c t)
  arrives = arrives_so c w.spacecraft h.sound.spacecraft

  received_holds : (r : Result FrameView TcFault) → Receives_well (frame_outcome w.spacecraft r)
  received_holds r =
      let after : SpacecraftState = (frame_outcome w.spacecraft r).after in
      cond_both (is_left w.spacecraft.farm after.farm) (record w { spacecraft = after })
      (with_nodes w w.ground_node after) (Holding c)
      (λ t. received_so w (Holding c) h (bypassed_holds c w h) r (left_so w.spacecraft.farm after.farm t))
      (λ t. board_holds after (frame_comes w.spacecraft _ arrives r))

  -- ---- the ground hears octets

  abbrev Hears_well : GroundOutcome Heard → Type 0
  Hears_well o = Holding c (heard w o)

  -- ---- a CLCW, in addition to such telemetry

  used_holds : (x : ExtractorState) (packets : List (List ℕ)) (report : Clcw) → Holding c
      (with_nodes w (after_report (apart w.ground_node x packets) (clcw_step w.ground_node.fop report))
      w.spacecraft)
  used_holds x packets report =
      let s : GroundState = w.ground_node in
      let k = h.sound.ground_node in
      let f : FopState SegmentView = (clcw_step s.fop report).after in
      let t : GroundState = acknowledging (apart s x packets) (clcw_step s.fop report) in
      nodes_hold _ w.spacecraft (refilled_so c (record t { fop = f }) k.config (report_so c s.fop k.fop report))
      (with_fits t f (heard_fits s.fop s.pending h.carried.fits report))
      h.sound.spacecraft

  word_holds : (x : ExtractorState) (packets : List (List ℕ)) (r : Result Clcw ClcwFault)
      → Holding c (heard_word w (report_outcome (apart w.ground_node x packets) r))
  word_holds x packets (Err fault) = telemetry_holds c w x packets h
  word_holds x packets (Ok report) =
      cond_both (report.vcid == w.ground_node.config.vcid) _ _
      (λ (o : GroundOutcome HeardClcw). Holding c (heard_word w o)) (λ t. used_holds x packets report)
      (λ t. telemetry_holds c w x packets h)

  heard_holds : (r : Result telemetry.FrameView TmFault) → Hears_well (telemetry_outcome w.ground_node r)
  heard_holds (Err fault) = h
  heard_holds (Ok frame) =
      cond_both (is_own_telemetry w.ground_node.config frame) _ _ Hears_well
      (λ t. word_holds (extract_step w.ground_node.extractor frame).after _ (clcw_at frame.ocf)) (λ t. h)

  -- ---- a node is new

  restarted_steady : (kept : KeptNumbers) → AreNumbers kept
      → SpacecraftSteady c (restarted_spacecraft w.spacecraft.config kept)
  restarted_steady kept numbers = rw h.sound.spacecraft.config (record {
    config = refl;
    farm = record { width = refl; farm_b = numbers.farm_b; flags = record { asks = λ t. absurd cc; state = refl } };
    builder = record { scid = refl; vcid = refl; total = refl };
    idle_left = omega arith;
  })

  pub link_step_holds : (s : LinkStep) → IsLinkStep s → Holding c (link_step w s)
  link_step_holds (Happens event) fits = step_holds c w h event fits
  link_step_holds TakeTelemetry fits = take_holds w.ground_node.telemetry
  link_step_holds (Receives octets) fits = received_holds (command.frame_at On octets)
  link_step_holds (Hears octets) fits =
      heard_holds (telemetry_reading.frame_at w.ground_node.config.frame_length octets)
  link_step_holds (HearsReport octets) fits =
      word_holds w.ground_node.extractor w.ground_node.telemetry (clcw_at octets)
  link_step_holds ForgetTelemetry fits = telemetry_holds c w new_extractor w.ground_node.telemetry h
  link_step_holds NewGround fits =
      nodes_hold (new_ground w.ground_node.config) w.spacecraft
      (rw h.sound.ground_node.config (new_sound c h.sound.ranges).ground_node)
      (record { sent = λ running. tt; unsent = λ running. tt }) h.sound.spacecraft
  link_step_holds (NewSpacecraft kept) fits =
      board_holds (restarted_spacecraft w.spacecraft.config kept) (restarted_steady kept fits)

-- ---- a run

pub link_push : (w : World) (steps : List LinkStep) (s : LinkStep)
    → link_run w (steps ++ s ∷ []) ≡ link_step (link_run w steps) s
link_push w [] s = refl
link_push w (x ∷ xs) s = link_push (link_step w x) xs s

pub link_run_holds : (c : Config) (steps : List LinkStep) (w : World) → AllByRecursion IsLinkStep steps → Holding c w
    → Holding c (link_run w steps)
link_run_holds c [] w fits h = h
link_run_holds c (s ∷ steps) w fits h = link_run_holds c steps (link_step w s) fits.1 (link_step_holds c w h s fits.0)

pub past_holds : (w : World) → (p : HasAnyPast w) → Holding p.config w
past_holds w p =
    subst (Holding p.config) p.led
    (link_run_holds p.config p.steps (new_world p.config) p.numbers (new_holds p.config p.ranges))

-- ---- a session that continues

idle_of_opening : (w new : World) → new.session.opening ≡ w.session.opening → IsIdle w → IsIdle new
idle_of_opening w new same idle =
    ap (λ (o : Option Opening). option_map (λ (x : Opening). x.idle) o) same ∙ idle

-- it is still the session that began so
pub session_still : (w : World) (s : LinkStep) → LeavesSession w s
    → opened (link_step w s).session ≡ opened w.session
session_still w s goes = beside_so w (λ new. opened new.session ≡ opened w.session) s goes (record {
  happens = λ e is goes. session_stays w e goes;
  same = refl;
  takes = λ x packets. refl;
  passes = λ u kept. refl;
})

pub still_opening : (w : World) (s : LinkStep) → LeavesSession w s
    → (link_step w s).session.opening ≡ w.session.opening
still_opening w s goes = ap (λ (o : Option Opening × ℕ). o.0) (session_still w s goes)

-- so it had an idle start
pub still_idle : (w : World) (s : LinkStep) → IsIdle w → LeavesSession w s → IsIdle (link_step w s)
still_idle w s idle goes = idle_of_opening w (link_step w s) (still_opening w s goes) idle

pub run_idle : (w : World) (steps : List LinkStep) → IsIdle w → SessionLasts w steps → IsIdle (link_run w steps)
run_idle w [] idle lasts = idle
run_idle w (s ∷ steps) idle lasts = run_idle (link_step w s) steps (still_idle w s idle lasts.0) lasts.1

-- the session, with the number from which it counts
pub record CountsAs (c : Config) (base : ℕ) (w : World) : Type 0 where
  pub session : InSession c w
  pub base_is : session.base ≡ base

module _ (c : Config) (base : ℕ) (w new : World) where
  counts_to : ((early : Bool) (d : Directive) (base : ℕ) → In early c d base w → In early c d base new)
      → CountsAs c base w → CountsAs c base new
  counts_to goes t = record {
    session = record {
      directive = t.session.directive;
      base = t.session.base;
      session = elim t.session.session [
        | inl g ↦ inl (goes true t.session.directive t.session.base g)
        | inr g ↦ inr (goes false t.session.directive t.session.base g)
      ];
    };
    base_is = t.base_is;
  }

module _ (c : Config) (w : World) (h : Holding c w) where
  pub counts_still : (base : ℕ) (s : LinkStep) → IsLinkStep s → LeavesSession w s → CountsAs c base w
      → CountsAs c base (link_step w s)
  counts_still base s fits goes t = beside_so w (CountsAs c base) s goes (record {
    happens = λ e is goes.
        let d = t.session.directive in
        let b = t.session.base in
        let event : IsEvent e = subst IsLinkStep is fits in
        record {
          session = record {
            directive = d;
            base = b;
            session = elim t.session.session [
              | inl g ↦ early_step c d b w h.sound g e event goes
              | inr g ↦ inr (run_to g (late_step c d b w h.sound g e event goes))
            ];
          };
          base_is = t.base_is;
        };
    same = t;
    takes = λ x packets. counts_to c base w (with_telemetry w x packets) (heard_in c w x packets) t;
    passes = λ u kept. counts_to c base w (with_bypass w u kept) (bypassed_in c w h u kept) t;
  })

  -- V(S) and NN(R) change only with the records
  pub moves_still : (s : LinkStep) → IsLinkStep s → IsIdle w → LeavesSession w s → LeavesNumbers w s
      → MovesWithRecords w (link_step w s)
  moves_still s fits idle goes quiet = beside_so w (MovesWithRecords w) s goes (record {
    happens = λ e is goes. moves_with_records c w h e (subst IsLinkStep is fits) idle goes
        (subst (LeavesNumbers w) is quiet);
    same = record { vs = refl; nn = refl };
    takes = λ x packets. record { vs = refl; nn = refl };
    passes = λ u kept. record { vs = refl; nn = refl };
  })

pub holds_after_any_past : HoldsAfterAnyPast
holds_after_any_past c steps event ranges all fits =
    holds_so c (link_run (new_world c) steps)
    (link_run_holds c steps (new_world c) all (new_holds c ranges)) event fits

events_run : (w : World) (events : List Event) → link_run w (map (λ event. Happens event) events) ≡ world_run w events
events_run w [] = refl
events_run w (e ∷ es) = events_run (world_step w e).after es

pub runs_as_events : RunsAsEvents
runs_as_events c events = events_run (new_world c) events

pub each_goes_on_as_kept : EachGoesOnAsKept
each_goes_on_as_kept s = record { mc_count = refl; vc_count = refl; value = refl; farm_b = refl }

pub reports_do_as_frames : ReportsDoAsFrames
reports_do_as_frames w past =
    let h = past_holds w past in
    record {
      after = words_apart past.config w h.sound h.reports;
      answer = words_say past.config w h.sound h.reports;
    }
