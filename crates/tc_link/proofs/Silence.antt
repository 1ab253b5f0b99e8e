-- While silence is kept, the receiver's CLCW stays the same, so the frames on the downlink after the first
-- ones carry it.
use Rattle.tc_link.proofs.Common.{◌≡◌, ℕ, zero, suc, ◌-◌, ◌≤◌, true, false, List, [], ◌∷◌, ◌++◌, length, refl, arith}
use Rattle.tc_link.proofs.Common.{◌∙◌, subst, AllByRecursion, list_all, Clcw, flags_number, ◌≢◌, FarmState, FarmMode}
use Rattle.tc_link.proofs.Common.{after_release, report_of, Config, GroundState, Heard, Event, World, WorldOutcome}
use Rattle.tc_link.proofs.Common.{world_step, spacecraft_report, reports_as, report_now, eq-eqb, ◌==◌}
use Rattle.nodes.specs.Ground as ground_calls
use Rattle.nodes.specs.Ground.{ground_step}
use Rattle.nodes.specs.declared.heard.Heard.TheVariants as heard_cases
use Rattle.nodes.specs.declared.heard.HeardReport.{HeardReport}
use Rattle.nodes.specs.declared.heard.HeardReport.TheVariants.{Used}
use Rattle.simulated_link.proofs.Unchanged.{lost, down_arrives, TakesDown, board_after, word_arrives, down_after}
use Rattle.simulated_link.proofs.Unchanged.{up_after}
use Rattle.simulated_link.specs.World.{is_idle}
use Rattle.tm_link.specs.Decoding.{frame_at}
use Rattle.tm_link.specs.Encoding.{spelling}
use Rattle.nodes.specs.declared.event.Event.TheVariants as events
use Rattle.tc_link.specs.AnyPast.{LinkStep, Happens, TakeTelemetry, Hears, HearsReport, ForgetTelemetry, NewGround}
use Rattle.tc_link.specs.AnyPast.{IsLinkStep, link_step, link_run, after_report, after_hearing}
use Rattle.tc_link.specs.Silence.{IsSilent, KeepsSilence, gone_by, gone_down, SilenceIsIdle}
use Rattle.tc_link.specs.Telemetry.{came_by}
use Rattle.tc_link.proofs.AnyPast.{link_step_holds, past_holds}
use Rattle.tc_link.proofs.Invariant.{Holding}
use Rattle.tc_link.proofs.Linked.{Tells}
use Rattle.tc_link.proofs.IdleStart.{tells_now}

-- ---- the frames in transit on the downlink

-- octets are read as a frame with this CLCW
abbrev pub Report_so : Clcw → ℕ → List ℕ → Type 0
Report_so now total b = reports_as now (frame_at total b) ≡ true

-- each frame after the first k carries it
abbrev pub AllLater : Clcw → ℕ → ℕ → List (List ℕ) → Type 0
AllLater now total k [] = Unit {0}
AllLater now total zero (b ∷ bs) = Report_so now total b × AllLater now total zero bs
AllLater now total (suc k) (b ∷ bs) = AllLater now total k bs

abbrev pub less : ℕ → ℕ
less zero = zero
less (suc k) = k

pub less_is : (k : ℕ) → less k ≡ k - 1
less_is k = grind arith

module _ (now : Clcw) (total : ℕ) where
  pub none_later : (bs : List (List ℕ)) → AllLater now total (length bs) bs
  none_later [] = tt
  none_later (b ∷ bs) = none_later bs

  pub later_gone : (k : ℕ) (b : List ℕ) (bs : List (List ℕ)) → AllLater now total k (b ∷ bs)
      → AllLater now total (less k) bs
  later_gone zero b bs all = all.1
  later_gone (suc k) b bs all = all

  pub later_push : (k : ℕ) (bs : List (List ℕ)) (b : List ℕ) → AllLater now total k bs → Report_so now total b
      → AllLater now total k (bs ++ b ∷ [])
  later_push zero [] b all so = (so, tt)
  later_push (suc k) [] b all so = tt
  later_push zero (x ∷ xs) b all so = (all.0, later_push zero xs b all.1 so)
  later_push (suc k) (x ∷ xs) b all so = later_push k xs b all so

  pub all_later : (bs : List (List ℕ)) → AllLater now total zero bs
      → list_all (λ (b : List ℕ). reports_as now (frame_at total b)) bs ≡ true
  all_later [] all = refl
  all_later (b ∷ bs) all = rw all.0 (all_later bs all.1)

pub tells_so : (c : Config) (b : List ℕ) (now : Clcw) → Tells c b now → Report_so now c.frame_length b
tells_so c b now t =
    let value : now.value == now.value ≡ true = eq-eqb now.value now.value refl in
    let flags : flags_number now.flags == flags_number now.flags ≡ true = eq-eqb _ _ refl in
    rw t.reads (rw t.word (rw (value, flags) refl))

-- ---- what silence keeps

record Quiet (c : Config) (k : ℕ) (w : World) : Type 0 where
  up_none : w.up ≡ []
  later : AllLater (report_now w) c.frame_length k w.down

-- so many of the first frames are left, and so many have gone
record Left (c : Config) (k gone : ℕ) (w : World) : Type 0 where
  left : ℕ
  quiet : Quiet c left w
  most : left ≤ k - gone

released : (s : FarmState) (vcid : ℕ) (m : FarmMode) → s.wait ≡ false
    → report_of (after_release s m) vcid ≡ report_of s vcid
released s vcid m is = grind (arith, is)

module _ (c : Config) (w : World) (h : Holding c w) (k : ℕ) (q : Quiet c k w) where
  abbrev Keeps : Event → WorldOutcome → Type 0
  Keeps e o = Left c k (length (came_by e o.answer)) o.after

  -- nothing that matters changes
  same : Left c k 0 w
  same = record { left = k; quiet = q; most = omega arith }

  on_ground : (new : World) → new.up ≡ w.up → new.down ≡ w.down → new.spacecraft ≡ w.spacecraft → Left c k 0 new
  on_ground new up down board = record {
    left = k;
    quiet = record { up_none = up ∙ q.up_none; later = rw (board, down) q.later };
    most = omega arith;
  }

  none_up : {A : Type 0} (b : List ℕ) (bs : List (List ℕ)) → w.up ≡ b ∷ bs → A
  none_up b bs is = absurd (let none : w.up ≡ [] = q.up_none in cc)

  first_gone : (b : List ℕ) (bs : List (List ℕ)) → w.down ≡ b ∷ bs → (new : World) → new.up ≡ w.up → new.down ≡ bs
      → new.spacecraft ≡ w.spacecraft → Left c k 1 new
  first_gone b bs is new up down board =
      let later : AllLater (report_now w) c.frame_length k (b ∷ bs) = rw is at q.later in
      record {
        left = less k;
        quiet = record {
          up_none = up ∙ q.up_none;
          later = rw (board, down) (later_gone (report_now w) c.frame_length k b bs later);
        };
        most = omega (arith, less_is k);
      }

  -- ---- on board

  report_kept : Left c k 0 (world_step w events.Report).after
  report_kept =
      let b : List ℕ = spelling (spacecraft_report w.spacecraft).answer in
      let so : Report_so (report_now w) c.frame_length b = tells_so c b (report_now w) (tells_now c w h.sound) in
      record {
        left = k;
        quiet = record {
          up_none = q.up_none;
          later = later_push (report_now w) c.frame_length k w.down b q.later so;
        };
        most = omega arith;
      }

  -- ---- each step

  -- an event that sends no CLCW, and removes no frame
  rest_kept : (e : Event) → IsSilent w (Happens e) → e ≢ events.Send → e ≢ events.Report → (TakesDown e → ⊥)
      → Left c k 0 (world_step w e).after
  rest_kept e silent not_sent not_made not_gone =
      let farm = w.spacecraft.farm in
      let board : report_now (world_step w e).after ≡ report_now w =
      board_after w (λ s. report_of s.farm s.config.vcid ≡ report_now w) e (record {
        same = refl;
        receives = λ is b bs first. none_up b bs first;
        reports = λ is. absurd (not_made is);
        takes = λ is left kept. refl;
        releases = λ is left free. released farm w.spacecraft.config.vcid farm.state
            (subst (λ x. IsSilent w (Happens x)) is silent);
        passes = λ is left. refl;
        queues = λ octets is. refl;
      }) in
      let down : (world_step w e).after.down ≡ w.down =
      down_after w (λ way. way ≡ w.down) e not_made refl (λ gone. absurd (not_gone gone)) in
      record {
        left = k;
        quiet = record {
          up_none = up_after w (λ way. way ≡ []) e not_sent q.up_none (λ b bs is. none_up b bs is);
          later = rw (board, down) q.later;
        };
        most = omega arith;
      }

  event_kept : (e : Event) → IsSilent w (Happens e) → Keeps e (world_step w e)
  event_kept events.Send silent = elim silent [ ]
  event_kept events.Report silent = report_kept
  event_kept events.DownDeliver silent =
      down_arrives w (Keeps events.DownDeliver) same (λ b bs is. first_gone b bs is _ refl refl refl)
  event_kept events.DownLose silent = lost w (Keeps events.DownLose) (record {
    refused = λ fault. same;
    up = λ b bs is reply silent. none_up b bs is;
    down = λ b bs is reply silent. first_gone b bs is (record w { down = bs }) refl refl refl;
  }) events.DownLose tt
  event_kept (events.DownDamage octets) silent = lost w (Keeps (events.DownDamage octets)) (record {
    refused = λ fault. same;
    up = λ b bs is reply silent. none_up b bs is;
    down = λ b bs is reply silent. first_gone b bs is (record w { down = bs }) refl refl refl;
  }) (events.DownDamage octets) tt
  event_kept events.DownClcw silent = word_arrives w (Keeps events.DownClcw) (record {
    refused = λ fault. same;
    up = λ b bs is reply silent. none_up b bs is;
    down = λ b bs is reply silent. first_gone b bs is (record w { down = bs }) refl refl refl;
  }) (λ b bs is r. first_gone b bs is _ refl refl refl)
  event_kept e silent = rest_kept e silent (λ is. cc is) (λ is. cc is) (λ gone. absurd gone)

  report_heard : (after : GroundState) (r : HeardReport) → Left c k 0 (after_report w after r)
  report_heard after Used = on_ground _ refl refl refl
  report_heard after _ = on_ground _ refl refl refl

  hearing_kept : (after : GroundState) (a : Heard) → Left c k 0 (after_hearing w after a)
  hearing_kept after (heard_cases.Frame gap packets report alert) = report_heard after report
  hearing_kept after _ = on_ground _ refl refl refl

  step_kept : (s : LinkStep) → IsSilent w s → Left c k (gone_by w s) (link_step w s)
  step_kept (Happens e) silent = event_kept e silent
  step_kept TakeTelemetry silent = on_ground _ refl refl refl
  step_kept (Hears octets) silent =
      let o = ground_step w.ground_node (ground_calls.Telemetry octets) in hearing_kept o.after o.answer
  step_kept (HearsReport octets) silent =
      let o = ground_step w.ground_node (ground_calls.ControlWord octets) in report_heard o.after o.answer.report
  step_kept ForgetTelemetry silent = on_ground _ refl refl refl
  step_kept NewGround silent = on_ground _ refl refl refl
  step_kept _ silent = elim silent [ ]

-- ---- a run

idle_now : (c : Config) (w : World) → Holding c w → Quiet c zero w → is_idle w ≡ true
idle_now c w h q =
    let all : list_all (λ (b : List ℕ). reports_as (report_now w) (frame_at c.frame_length b)) w.down ≡ true =
    all_later (report_now w) c.frame_length w.down q.later in
    rw (q.up_none, h.sound.ground_node.config) all

run_kept : (c : Config) (steps : List LinkStep) (w : World) (k : ℕ) → Holding c w → AllByRecursion IsLinkStep steps
    → KeepsSilence w steps → Quiet c k w → k ≤ gone_down w steps → is_idle (link_run w steps) ≡ true
run_kept c [] w k h fits keeps q enough =
    let none : k ≡ 0 = omega (arith, enough) in
    idle_now c w h (subst (λ (n : ℕ). Quiet c n w) none q)
run_kept c (s ∷ more) w k h fits keeps q enough =
    let l = step_kept c w h k q s keeps.0 in
    run_kept c more (link_step w s) l.left (link_step_holds c w h s fits.0) fits.1 keeps.1 l.quiet
    (omega (arith, enough, l.most))

pub silence_is_idle : SilenceIsIdle
silence_is_idle w steps past fits up keeps enough =
    let h = past_holds w past in
    run_kept past.config steps w (length w.down) h fits keeps
    (record { up_none = up; later = none_later (report_now w) past.config.frame_length w.down }) enough
