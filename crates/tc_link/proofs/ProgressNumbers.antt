-- The numbers of the sender at every moment of a run, and how schedules are composed.
use Rattle.tc_link.proofs.Common.{ap, ◌≡◌, ◌<◌, ◌≤◌, ℕ, ◌+◌, ◌%◌, Bool, true, false, List, [], ◌∷◌, ◌++◌, length, drop}
use Rattle.tc_link.proofs.Common.{Option, Some, None, Ok, refl, sym, subst, ◌∙◌, arith, cond_both, ltb-true, ltb-false}
use Rattle.tc_link.proofs.Common.{length-append, length-drop, AllByRecursion, Clcw, On, SegmentView, BodyView, Ad, Bd}
use Rattle.tc_link.proofs.Common.{Bc, Command, SetVr, Control, Idle, Due, Sent, ahead_by, Directive}
use Rattle.tc_link.proofs.Common.{InitWithoutCheck, InitWithCheck, InitUnlock, InitSetVr, is_initiation, begun, obeyed}
use Rattle.tc_link.proofs.Common.{directive_step, FopState, FopOutcome, S1, S3, S6, clcw_step, report_while_active}
use Rattle.tc_link.proofs.Common.{after_move_on, after_acknowledge, after_new_value, retransmits, heard_active}
use Rattle.tc_link.proofs.Common.{pull_step, pulled_out, PulledUnit, after_restart, without_oldest_mark, unmarked_unit}
use Rattle.tc_link.proofs.Common.{tick_step, ticked, after_repeat, after_stop, due_again, after_alert, report_of}
use Rattle.tc_link.proofs.Common.{Config, FitsFrame, frame_of, frame_to_send, with_fop, is_closed, after_extraction}
use Rattle.tc_link.proofs.Common.{extract_step, IsDirective, IsEvent, SpacecraftState, SpacecraftOutcome, body_outcome}
use Rattle.tc_link.proofs.Common.{Event, World, WorldOutcome, new_world, world_step, world_after_pull, up_deliver_step}
use Rattle.tc_link.proofs.Common.{down_deliver_step, closed_not, active_on, spacecraft_report, FlagsAgree}
use Rattle.tc_link.proofs.Common.{acknowledging, SetVs, ◌≢◌, ◌⊎◌, inl, inr, zero, suc, replicate, world_run, IsIdle}
use Rattle.tc_link.proofs.Common.{IsSettled, BeginsNoSession, option_map, Opening, directive_of}
use Rattle.tc_link.specs.Beside.{HasOctetPast}
use Rattle.std.specs.Prelude.{IsSome}
use Rattle.tc_frame.specs.Decoding.{frame_at}
use Rattle.tc_frame.specs.Encoding.{spelling}
use Rattle.tm_link.specs.Encoding as telemetry_writing
use Rattle.cop1.specs.FopPull.{after_send_first}
use Rattle.cop1.specs.FopWords.{is_outside}
use Rattle.nodes.specs.declared.event.Event.TheVariants as events
use Rattle.simulated_link.specs.World.{world_after_telemetry, directed}
use Rattle.simulated_link.proofs.Unchanged.{up_arrives, down_arrives, resumes, BringsReport, board_after, down_after}
use Rattle.simulated_link.proofs.Unchanged.{up_after}
use Rattle.simulated_link.proofs.Counted.{reported as report_cases}
use Rattle.tc_link.specs.FalseAlarms.{alert_in}
use Rattle.tc_link.specs.Progress.{Schedule, followed_by, times, AlertsIn, all_sent, all_arrived, all_taken, reported}
use Rattle.tc_link.specs.Progress.{all_heard, round_trip, awaits, most_sent, next_arrived, are_marked, ticks_left}
use Rattle.tc_link.specs.Progress.{timer_run_out, exchange}
use Rattle.tc_link.proofs.Upward.{own_arrives}
use Rattle.tc_link.proofs.Readable.{moved, marked_fits, Goes, reads_back}
use Rattle.tc_link.proofs.Downward.{used_is, words_apart}
use Rattle.tc_link.proofs.Invariant.{Holding, step_holds, opening_stays, idle_goes, new_holds}
use Rattle.tc_link.proofs.Linked.{Tells}
use Rattle.tc_link.proofs.IdleStart.{tells_now}
use Rattle.tc_link.proofs.ProgressSender.{with_kept, step_kept, without_length, marked_length, WaitsFull, body_full}
use Rattle.tc_link.proofs.ProgressSender.{released, directed_kept, Timed, timed_empty, timed_step}
use Rattle.tc_link.proofs.Sound.{Commanded, all_append, all_push}
use Rattle.tc_link.proofs.Promised.{run_append}
use Rattle.tc_link.proofs.OneLink.{settled_goes}
use Rattle.tc_link.proofs.AnyPast.{link_step_holds, link_push}
use Rattle.tc_link.proofs.Beside.{with_telemetry, taken_beside}
use Rattle.tc_link.proofs.Common.{IsConfig, ExtractorState}
use Rattle.nodes.specs.Ground.{new_ground}
use Rattle.tc_link.specs.AnyPast.{LinkStep, Happens, NewGround, NewSpacecraft, IsLinkStep, link_step, link_run}
use Rattle.nodes.specs.declared.received.Received.{Received}
use Rattle.tc_link.specs.AnyPast.{with_nodes, is_left}
use Rattle.tc_link.specs.AnyPast.{TakeTelemetry, Receives as ReceivesOctets, Hears, HearsReport, ForgetTelemetry}
use Rattle.tc_link.specs.AnyPast.{after_receiving, heard, heard_word}
use Rattle.tc_link.specs.Beside.{CarriesOctets}
use Rattle.std.specs.Prelude.{IfOk, ◌==◌, Result, Err}
use Rattle.tc_frame.specs.Layout.{FrameView}
use Rattle.clcw.specs.Decoding.{clcw_at}
use Rattle.tm_link.specs.Extractor.{new_extractor}
use Rattle.tm_link.specs.Layout as telemetry
use Rattle.tm_link.specs.Decoding as telemetry_reading
use Rattle.nodes.specs.Ground.{report_outcome, is_own_telemetry, ground_take_telemetry}
use Rattle.nodes.specs.declared.heard.Heard.{Heard}
use Rattle.nodes.specs.declared.heard.HeardClcw.{HeardClcw}
use Rattle.tc_link.proofs.Common.{TcFault, TmFault, ClcwFault, GroundOutcome, frame_outcome, is_own_frame}
use Rattle.tc_link.proofs.Common.{telemetry_outcome, after_report}
use Rattle.tc_link.proofs.OctetsRead.{IsOctetIn, IsOctetBody, FineFrame, FineTelemetry, frame_fine, telemetry_fine}
use Rattle.tc_link.proofs.Repeated.{word_octet}
use Rattle.tc_link.proofs.Downward.{apart}
use Rattle.tc_link.proofs.ProgressSender.{report_timed, queued_timed}

-- The numbers of the sender, at every moment of a run, in any session. While it is on, the units that it sent have the
-- numbers from NN(R) to V(S) - 1. All numbers are octets, including those in transit.

-- ---- the sender

abbrev pub IsOctetOf : Control → Type 0
IsOctetOf Idle = Unit {0}
IsOctetOf (Due command) = IsOctetIn command
IsOctetOf (Sent command) = IsOctetIn command

pub record Numbered (f : FopState SegmentView) : Type 0 where
  pub vs : f.vs < 256
  pub nn : f.nn < 256
  pub command : IsOctetOf f.control
  pub numbered : is_closed f.state ≡ false → ahead_by f.vs f.nn ≡ length f.sent
  pub most : length f.sent ≤ 127

module _ (s : FopState SegmentView) (k : Numbered s) where
  abbrev Numbers : {A : Type 0} → FopOutcome SegmentView A → Type 0
  Numbers o = Numbered o.after

  -- nothing is sent, and the sender is off
  gives_up : (f : FopState SegmentView) → f.vs ≡ s.vs → f.nn < 256 → Numbered (after_alert f)
  gives_up f vs nn = record {
    vs = rw vs k.vs;
    nn = nn;
    command = tt;
    numbered = λ on. absurd cc;
    most = omega arith;
  }

  -- as many units are sent, with the same numbers
  same_numbers : (f : FopState SegmentView) → f.vs ≡ s.vs → f.nn ≡ s.nn → length f.sent ≡ length s.sent
      → (is_closed f.state ≡ false → is_closed s.state ≡ false) → IsOctetOf f.control → Numbered f
  same_numbers f vs nn sent on command = record {
    vs = rw vs k.vs;
    nn = rw nn k.nn;
    command = command;
    numbered = λ runs. rw (vs, nn) (k.numbered (on runs) ∙ sym sent);
    most = omega (arith, sent, k.most);
  }

  module _ (v : ℕ) (octet : v < 256) (on : is_closed s.state ≡ false) (inside : is_outside s v ≡ false) where
    -- the units before a number are acknowledged
    acknowledged : (f : FopState SegmentView) → f.vs ≡ s.vs → f.nn ≡ v
        → length f.sent ≡ length (drop (ahead_by v s.nn) s.sent) → IsOctetOf f.control → Numbered f
    acknowledged f vs nn sent command =
        let fewer = length-drop (ahead_by v s.nn) s.sent in
        let below = ltb-false (ahead_by s.vs s.nn) (ahead_by v s.nn) inside in
        let numbered = k.numbered on in
        record {
          vs = rw vs k.vs;
          nn = rw nn octet;
          command = command;
          numbered = λ runs. omega (arith, vs, nn, sent, fewer, below, numbered, octet, k.vs, k.nn, k.most);
          most = omega (arith, sent, fewer, k.most);
        }

  module _ (r : Clcw) (octet : r.value < 256) where
    again_numbers : is_closed s.state ≡ false → (again : Bool) → Numbered (retransmits s again)
    again_numbers on true = same_numbers (retransmits s true) refl refl (marked_length s.sent) (λ t. on) k.command
    again_numbers on false = same_numbers (retransmits s false) refl refl refl (λ t. on) k.command

    active_numbers : is_closed s.state ≡ false → Numbers (report_while_active s r)
    active_numbers on =
        let left = drop (ahead_by r.value s.nn) s.sent in
        heard_active s r (λ o. Numbers o) (record {
          locked = λ t. gives_up s refl k.nn;
          outside = λ t. gives_up s refl k.nn;
          wait_flag = λ none waiting. gives_up s refl k.nn;
          asks_none = λ asking at. gives_up s refl k.nn;
          same = k;
          ceases = λ none at were. gives_up s refl k.nn;
          moves = λ inside. acknowledged r.value octet on inside (after_move_on (after_acknowledge s r.value)) refl refl
              refl k.command;
          others_over = λ inside asking one. gives_up (after_new_value s r.value) refl octet;
          others_wait = λ inside asking. acknowledged r.value octet on inside
              (record (after_new_value s r.value) { state = S3 }) refl refl refl k.command;
          others_again = λ inside asking. acknowledged r.value octet on inside
              (retransmits (after_new_value s r.value) true) refl refl (marked_length left) k.command;
          all_over = λ asking one. gives_up s refl k.nn;
          all_wait = λ asking. same_numbers (record s { state = S3 }) refl refl refl (λ t. on) k.command;
          all_again = λ asking. again_numbers on;
        })

    pub report_numbers : Numbers (clcw_step s r)
    report_numbers = report_cases s r (λ o. Numbers o) (record {
      active = λ active. active_numbers (active_on s.state active);
      alerted = λ is x cause. gives_up s refl k.nn;
      checked = λ is confirms. same_numbers (record s { state = S1; ticks = None }) refl refl refl (λ t. rw is refl)
          k.command;
      commanded = λ is confirms. same_numbers (record s { state = S1; ticks = None; control = Idle }) refl refl refl
          (λ t. rw is refl) tt;
      same = k;
    })

  due_octet : (control : Control) → IsOctetOf control → IsOctetOf (due_again control)
  due_octet Idle is = is
  due_octet _ is = is

  pub tick_numbers : Numbers (tick_step s)
  tick_numbers =
      let repeats = same_numbers (after_repeat (after_stop s)) refl refl (marked_length s.sent) (λ t. t) k.command in
      let command = due_octet s.control k.command in
      ticked s (λ o. Numbers o) (assumption (repeats, command, gives_up (after_stop s) refl k.nn, k))

  sent_octet : (c : Command) → s.control ≡ Due c → IsOctetIn c
  sent_octet c is = let it : IsOctetOf (Due c) = rw is at k.command in it

  pub pull_numbers : s.window ≤ 127 → Numbers (pull_step s)
  pull_numbers most = pulled_out s (λ o. Numbers o) (record {
    none = k;
    command = λ c is. let command = sent_octet c is in assumption (command, k);
    bypass = λ u us is. assumption k;
    again = λ active x is. same_numbers (record (after_restart s) { sent = without_oldest_mark s.sent }) refl refl
        (without_length s.sent) (λ t. t) k.command;
    first = λ active u is room.
        let longer = length-append s.sent (unmarked_unit u ∷ []) in
        let numbered = k.numbered (active_on s.state active) in
        let room : ahead_by s.vs s.nn < s.window = ltb-true (ahead_by s.vs s.nn) s.window room in
        record {
          vs = omega arith;
          nn = k.nn;
          command = k.command;
          numbered = λ on. omega (arith, longer, numbered, room, most, k.vs, k.nn);
          most = omega (arith, longer, numbered, room, most);
        };
  })

  -- a session begins with this number
  begins_at : (x : ℕ) → x < 256 → (f : FopState SegmentView) → f.vs ≡ x → f.nn ≡ x → f.sent ≡ []
      → IsOctetOf f.control → Numbered f
  begins_at x octet f vs nn sent command = record {
    vs = rw vs octet;
    nn = rw nn octet;
    command = command;
    numbered = λ on. omega (arith, vs, nn, ap length sent, octet);
    most = omega (arith, ap length sent);
  }

  begun_numbers : (d : Directive) → is_initiation d ≡ true → IsDirective d → s.control ≡ Idle → Numbered (begun s d)
  begun_numbers InitWithoutCheck is fits idle =
      begins_at s.vs k.vs (begun s InitWithoutCheck) refl refl refl (rw idle tt)
  begun_numbers InitWithCheck is fits idle = begins_at s.vs k.vs (begun s InitWithCheck) refl refl refl (rw idle tt)
  begun_numbers InitUnlock is fits idle = begins_at s.vs k.vs (begun s InitUnlock) refl refl refl tt
  begun_numbers (InitSetVr x) is fits idle = begins_at x fits (begun s (InitSetVr x)) refl refl refl fits
  begun_numbers _ is fits idle = absurd cc

  pub directive_numbers : (s.state ≡ S6 → s.control ≡ Idle) → (d : Directive) → IsDirective d
      → Numbers (directive_step s d)
  directive_numbers idle = obeyed s (λ d o. IsDirective d → Numbers o) (record {
    refused = λ d fault on fits. k;
    begins = λ d is off fits. begun_numbers d is fits (idle off);
    terminated = λ fits. gives_up s refl k.nn;
    numbers = λ x off fits. record {
      vs = fits;
      nn = fits;
      command = k.command;
      numbered = λ on. closed_not s.state off on;
      most = k.most;
    };
    sets = λ d k' n ticks plain most fits. assumption k;
  })

-- whatever is waiting
pub queued_numbers : (f : FopState SegmentView) (waiting : Option SegmentView) (bypass : List SegmentView) → Numbered f
    → Numbered (record f { waiting = waiting; bypass = bypass })
queued_numbers f waiting bypass k = assumption k

-- ---- the receiver

module _ (s : SpacecraftState) (octet : s.farm.vr < 256) where
  body_octet : (f : BodyView) → IsOctetBody f → (body_outcome s f).after.farm.vr < 256
  body_octet (Bc (SetVr x)) is = grind (arith, is)
  body_octet f is = grind arith

-- ---- what is in transit

-- a frame of the ground, or a CLCW of the spacecraft, with octets
abbrev pub IsOctetFrame : Config → List ℕ → Type 0
IsOctetFrame c b = (f : BodyView) × (frame_at On b ≡ Ok (frame_of c f)) × IsOctetBody f

abbrev pub IsOctetReport : Config → List ℕ → Type 0
IsOctetReport c b = (r : Clcw) × Tells c b r × (r.value < 256)

-- ---- the world

pub record Receives (s : SpacecraftState) : Type 0 where
  pub vr : s.farm.vr < 256
  pub full : WaitsFull s

pub record HasOctets (c : Config) (w : World) : Type 0 where
  pub sender : Numbered w.ground_node.fop
  pub receiver : Receives w.spacecraft
  pub up : AllByRecursion (IsOctetFrame c) w.up
  pub down : AllByRecursion (IsOctetReport c) w.down

module _ (c : Config) (w : World) (h : Holding c w) (k : HasOctets c w) where
  abbrev s : FopState SegmentView
  s = w.ground_node.fop

  abbrev After : WorldOutcome → Type 0
  After o = HasOctets c o.after

  up_of : (b : List ℕ) (bs : List (List ℕ)) → w.up ≡ b ∷ bs → AllByRecursion (IsOctetFrame c) (b ∷ bs)
  up_of b bs is = subst (AllByRecursion (IsOctetFrame c)) is k.up

  down_of : (b : List ℕ) (bs : List (List ℕ)) → w.down ≡ b ∷ bs → AllByRecursion (IsOctetReport c) (b ∷ bs)
  down_of b bs is = subst (AllByRecursion (IsOctetReport c)) is k.down

  flags : FlagsAgree w.spacecraft.farm
  flags = h.sound.spacecraft.farm.flags

  -- ---- a frame is sent

  abbrev Pulls : FopOutcome SegmentView (PulledUnit SegmentView) → Type 0
  Pulls o = Numbered o.after
      → After (world_after_pull w (with_fop w.ground_node o.after) (frame_to_send w.ground_node.config o.answer))

  pushed : (f : BodyView) → Goes f → IsOctetBody f
      → AllByRecursion (IsOctetFrame c) (w.up ++ spelling On (frame_of w.ground_node.config f) ∷ [])
  pushed f goes is =
      let reads : frame_at On (spelling On (frame_of w.ground_node.config f)) ≡ Ok (frame_of c f) =
      rw h.sound.ground_node.config (reads_back c f h.sound.ranges goes) in
      all_append (IsOctetFrame c) w.up (spelling On (frame_of w.ground_node.config f) ∷ []) k.up ((f, reads, is), tt)

  sent_after : (f : FopState SegmentView) (b : BodyView) → Goes b → IsOctetBody b → Numbered f
      → After (world_after_pull w (with_fop w.ground_node f) (Some (frame_of w.ground_node.config b)))
  sent_after f b goes is numbers = record {
    sender = with_kept Numbered queued_numbers w.ground_node f numbers;
    receiver = k.receiver;
    up = pushed b goes is;
    down = k.down;
  }

  sends : Pulls (pull_step s)
  sends = pulled_out s Pulls (record {
    none = λ numbers. let sender = with_kept Numbered queued_numbers w.ground_node s numbers in assumption (sender, k);
    command = λ command is numbers.
        sent_after (record (after_restart s) { control = Sent command }) (Bc command) tt
        (sent_octet s k.sender command is) numbers;
    bypass = λ u us is numbers.
        let fit : AllByRecursion FitsFrame (u ∷ us) = rw is at h.sound.ground_node.fop.bypass_fits in
        sent_after (record s { bypass = us }) (Bd u) fit.0 tt numbers;
    again = λ active x is numbers.
        let fit : FitsFrame x.1 = marked_fits s w.ground_node.pending h.carried.fits x is (active_on s.state active) in
        sent_after (record (after_restart s) { sent = without_oldest_mark s.sent }) (Ad ((s.nn + x.0) % 256) x.1) fit tt
        numbers;
    first = λ active u is room numbers.
        let fit : FitsFrame u = (moved s w.ground_node.pending h.carried.fits u is (active_on s.state active)).0 in
        sent_after (after_send_first s u) (Ad s.vs u) fit tt numbers;
  })

  -- ---- a frame arrives

  arrives : (b : List ℕ) (bs : List (List ℕ)) → w.up ≡ b ∷ bs → After (up_deliver_step w (b ∷ bs))
  arrives b bs is =
      let first = up_of b bs is in
      subst (λ (o : SpacecraftOutcome Received). HasOctets c (record w { up = bs; spacecraft = o.after }))
      (sym (own_arrives w.spacecraft c first.0.0 (frame_at On b) h.sound.spacecraft.config first.0.1)) (record {
        sender = k.sender;
        receiver = record {
          vr = body_octet w.spacecraft k.receiver.vr first.0.0 first.0.2;
          full = body_full w.spacecraft flags k.receiver.full first.0.0;
        };
        up = first.1;
        down = k.down;
      })

  hears : (b : List ℕ) (bs : List (List ℕ)) → w.down ≡ b ∷ bs → After (down_deliver_step w (b ∷ bs))
  hears b bs is =
      let first = down_of b bs is in
      let x = extract_step w.ground_node.extractor first.0.1.frame in
      let f : FopState SegmentView = (clcw_step s first.0.0).after in
      subst (λ o. After (world_after_telemetry w bs o))
      (sym (used_is c w.ground_node b first.0.0 h.sound.ground_node.config first.0.1)) (record {
        sender = with_kept Numbered queued_numbers
            (acknowledging (after_extraction w.ground_node x) (clcw_step s first.0.0)) f
            (report_numbers s k.sender first.0.0 first.0.2);
        receiver = k.receiver;
        up = k.up;
        down = first.1;
      })

  off_idle : s.state ≡ S6 → s.control ≡ Idle
  off_idle off = let idle : Commanded S6 s.control = rw off at h.sound.ground_node.fop.commanded in idle

  -- a CLCW by itself does what its frame does, except for telemetry
  words : After (world_step w events.DownClcw)
  words =
      let heard : After (world_step w events.DownDeliver) = down_arrives w After k hears in
      subst (HasOctets c) (sym (words_apart c w h.sound h.reports)) (assumption heard)

  -- ---- all events

  directive_octets : (d : Directive) → IsDirective d → HasOctets c (directed w d)
  directive_octets d fits =
      let sender : Numbered (directed w d).ground_node.fop =
      directed_kept Numbered queued_numbers w.ground_node k.sender d (directive_step s d).answer _
      (directive_numbers s k.sender off_idle d fits) in
      assumption (sender, k)

  -- no frame is sent on the uplink or arrives there, and no CLCW arrives
  others : (e : Event) → IsEvent e → ((value : ℕ) → e ≢ events.Resume value) → e ≢ events.Send → e ≢ events.UpDeliver
      → e ≢ events.Report → (BringsReport e → ⊥) → After (world_step w e)
  others e fits not_resumed not_sent not_come not_made not_told = record {
    sender = step_kept Numbered queued_numbers w k.sender e (λ is. tick_numbers s k.sender) (λ is. absurd (not_sent is))
        (λ told. absurd (not_told told)) (λ d is. directive_numbers s k.sender off_idle d (subst IsEvent is fits))
        (λ value is. absurd (not_resumed value is));
    receiver = board_after w Receives e (record {
      same = k.receiver;
      receives = λ is. absurd (not_come is);
      reports = λ is. absurd (not_made is);
      takes = λ is left kept. record { vr = k.receiver.vr; full = λ waits. ltb-false _ _ kept };
      releases = λ is left free. record {
        vr = let octet = k.receiver.vr in grind (arith, octet);
        full = λ waits. absurd
            (let free = released w.spacecraft flags k.receiver.full w.spacecraft.farm.state refl in cc (waits, free));
      };
      passes = λ is left. assumption k.receiver;
      queues = λ octets is. assumption k.receiver;
    });
    up = up_after w (AllByRecursion (IsOctetFrame c)) e not_sent k.up (λ b bs is. (up_of b bs is).1);
    down = down_after w (AllByRecursion (IsOctetReport c)) e not_made k.down (λ gone b bs is. (down_of b bs is).1);
  }

  -- if it is known what a resumption leads to
  event_octets : ((value : ℕ) → value < 256 → HasOctets c (world_step w (events.Resume value)).after)
      → (e : Event) → IsEvent e → After (world_step w e)
  event_octets goes events.Send fits =
      sends (pull_numbers s k.sender (omega (arith, h.sound.ground_node.fop.window, h.sound.ranges.width)))
  event_octets goes events.UpDeliver fits = up_arrives w After k arrives
  event_octets goes events.Report fits = record {
    sender = k.sender;
    receiver = record { vr = k.receiver.vr; full = k.receiver.full };
    up = k.up;
    down = all_append (IsOctetReport c) w.down (telemetry_writing.spelling (spacecraft_report w.spacecraft).answer ∷ [])
        k.down ((report_of w.spacecraft.farm w.spacecraft.config.vcid, tells_now c w h.sound, k.receiver.vr), tt);
  }
  event_octets goes events.DownDeliver fits = down_arrives w After k hears
  event_octets goes events.DownClcw fits = words
  event_octets goes (events.Resume value) fits = goes value fits
  event_octets goes e fits =
      others e fits (λ value is. cc is) (λ is. cc is) (λ is. cc is) (λ is. cc is) (λ told. absurd told)

pub step_octets : (c : Config) (w : World) → Holding c w → HasOctets c w → (e : Event) → IsEvent e
    → HasOctets c (world_step w e).after
step_octets c w h k =
    event_octets c w h k (λ value fits.
    resumes w value (λ o. HasOctets c o.after) k (λ whole known can.
    directive_octets c (directed w (SetVs value)) (step_holds c w h (events.Directive (SetVs value)) fits)
    (directive_octets c w h k (SetVs value) fits) InitUnlock tt))

pub new_octets : (c : Config) → HasOctets c (new_world c)
new_octets c = record {
  sender = record {
    vs = omega arith;
    nn = omega arith;
    command = tt;
    numbered = λ on. absurd cc;
    most = omega arith;
  };
  receiver = record { vr = omega arith; full = λ waits. absurd cc };
  up = tt;
  down = tt;
}

new_timed : (c : Config) → IsConfig c → Timed (new_ground c).fop
new_timed c ranges =
    timed_empty _ refl (λ e. absurd cc) (λ e. absurd cc) ranges.timer.0 (omega arith) ranges.window.0

-- How schedules are composed: an alert is raised in one of their parts, or each leads to the state from which the next
-- starts.

-- ---- a session continues

-- an event of an exchange, or of a dead link: no directive is given
abbrev pub IsCalm : Event → Type 0
IsCalm events.Send = Unit {0}
IsCalm events.UpLose = Unit {0}
IsCalm events.UpDeliver = Unit {0}
IsCalm events.Report = Unit {0}
IsCalm events.DownDeliver = Unit {0}
IsCalm events.Tick = Unit {0}
IsCalm events.Take = Unit {0}
IsCalm _ = ⊥

pub calm_fits : (e : Event) → IsCalm e → IsEvent e
calm_fits (events.Directive d) calm = elim calm [ ]
calm_fits (events.Resume value) calm = elim calm [ ]
calm_fits _ calm = tt

pub no_directive : {A : Type 0} (e : Event) → IsCalm e → (d : Directive) → e ≡ events.Directive d → A
no_directive e calm d is = absurd (let no : IsCalm (events.Directive d) = subst IsCalm is calm in no)

pub no_resumption : {A : Type 0} (e : Event) → IsCalm e → (value : ℕ) → e ≡ events.Resume value → A
no_resumption e calm value is = absurd (let no : IsCalm (events.Resume value) = subst IsCalm is calm in no)

pub calm_goes : (w : World) (e : Event) → IsCalm e → BeginsNoSession w e
calm_goes w (events.Directive d) calm = elim calm [ ]
calm_goes w (events.Resume value) calm = elim calm [ ]
calm_goes w _ calm = tt

pub octet_step : (w : World) (e : Event) → HasOctetPast w → IsEvent e → HasOctetPast (world_step w e).after
octet_step w e r fits = record {
  config = r.config;
  ranges = r.ranges;
  steps = r.steps ++ Happens e ∷ [];
  numbers = all_push IsLinkStep r.steps (Happens e) r.numbers fits;
  octets = all_push CarriesOctets r.steps (Happens e) r.octets tt;
  led = link_push (new_world r.config) r.steps (Happens e) ∙ ap (λ (x : World). (world_step x e).after) r.led;
}

pub going_step : (w : World) → HasOctetPast w → (e : Event) → IsCalm e → HasOctetPast (world_step w e).after
going_step w g e calm = octet_step w e g (calm_fits e calm)

-- what is known of a world, at every moment of a run
pub record Known (c : Config) (w : World) : Type 0 where
  pub holds : Holding c w
  pub sender : Timed w.ground_node.fop
  pub octets : HasOctets c w

-- what is known of a world, except for its sessions
record KnownOf (c : Config) (w : World) : Type 0 where
  sender : Timed w.ground_node.fop
  octets : HasOctets c w

module _ (c : Config) (w : World) (k : Known c w) where
  apart_known : (x : ExtractorState) (packets : List (List ℕ)) → KnownOf c (with_telemetry w x packets)
  apart_known x packets = record { sender = k.sender; octets = assumption k.octets }

  taken_known : (packets : List (List ℕ))
      → KnownOf c (record w { ground_node = (ground_take_telemetry w.ground_node packets).after })
  taken_known packets =
      taken_beside w (KnownOf c) packets (record { sender = k.sender; octets = k.octets })
      (apart_known w.ground_node.extractor)

  -- ---- the spacecraft receives octets

  abbrev board_octets : (after : SpacecraftState) → Receives after → HasOctets c (record w { spacecraft = after })
  board_octets after receiver = record {
    sender = k.octets.sender;
    receiver = receiver;
    up = k.octets.up;
    down = k.octets.down;
  }

  board_known : (after : SpacecraftState) → Receives after → KnownOf c (after_receiving w after)
  board_known after receiver =
      cond_both (is_left w.spacecraft.farm after.farm) (record w { spacecraft = after })
      (with_nodes w w.ground_node after) (KnownOf c)
      (λ t. record { sender = k.sender; octets = assumption (board_octets after receiver) })
      (λ t. record { sender = k.sender; octets = assumption (board_octets after receiver) })

  body_receives : (f : BodyView) → IsOctetBody f → Receives (body_outcome w.spacecraft f).after
  body_receives f is = record {
    vr = body_octet w.spacecraft k.octets.receiver.vr f is;
    full = body_full w.spacecraft k.holds.sound.spacecraft.farm.flags k.octets.receiver.full f;
  }

  received_octets : (r : Result FrameView TcFault) → FineFrame r → Receives (frame_outcome w.spacecraft r).after
  received_octets (Err fault) fine = k.octets.receiver
  received_octets (Ok frame) fine =
      cond_both (is_own_frame w.spacecraft.config frame) (body_outcome w.spacecraft frame.body) _
      (λ (o : SpacecraftOutcome Received). Receives o.after) (λ t. body_receives frame.body fine)
      (λ t. k.octets.receiver)

  -- ---- the ground hears octets

  used_known : (x : ExtractorState) (packets : List (List ℕ)) (report : Clcw) → report.value < 256
      → KnownOf c (with_nodes w
      (after_report (apart w.ground_node x packets) (clcw_step w.ground_node.fop report)) w.spacecraft)
  used_known x packets report octet =
      let f : FopState SegmentView = (clcw_step w.ground_node.fop report).after in
      let t = acknowledging (apart w.ground_node x packets) (clcw_step w.ground_node.fop report) in
      record {
        sender = with_kept Timed queued_timed t f (report_timed w.ground_node.fop k.sender report);
        octets = record {
          sender = with_kept Numbered queued_numbers t f
              (report_numbers w.ground_node.fop k.octets.sender report octet);
          receiver = k.octets.receiver;
          up = k.octets.up;
          down = k.octets.down;
        };
      }

  word_known : (x : ExtractorState) (packets : List (List ℕ)) (r : Result Clcw ClcwFault) → IfOk r (λ r. r.value < 256)
      → KnownOf c (heard_word w (report_outcome (apart w.ground_node x packets) r))
  word_known x packets (Err fault) octet = apart_known x packets
  word_known x packets (Ok report) octet =
      cond_both (report.vcid == w.ground_node.config.vcid) _ _
      (λ (o : GroundOutcome HeardClcw). KnownOf c (heard_word w o)) (λ t. used_known x packets report octet)
      (λ t. apart_known x packets)

  heard_known : (r : Result telemetry.FrameView TmFault) → FineTelemetry r
      → KnownOf c (heard w (telemetry_outcome w.ground_node r))
  heard_known (Err fault) fine = record { sender = k.sender; octets = k.octets }
  heard_known (Ok frame) fine =
      cond_both (is_own_telemetry w.ground_node.config frame) _ _ (λ (o : GroundOutcome Heard). KnownOf c (heard w o))
      (λ t. word_known (extract_step w.ground_node.extractor frame).after _ (clcw_at frame.ocf)
      (word_octet frame.ocf fine)) (λ t. record { sender = k.sender; octets = k.octets })

  -- ---- each step

  step_known : (step : LinkStep) → CarriesOctets step → IsLinkStep step → KnownOf c (link_step w step)
  step_known (Happens e) octets fits =
      record { sender = timed_step w k.sender e; octets = step_octets c w k.holds k.octets e fits }
  step_known TakeTelemetry octets fits = taken_known w.ground_node.telemetry
  step_known (ReceivesOctets octets) are fits =
      board_known (frame_outcome w.spacecraft (frame_at On octets)).after
      (received_octets (frame_at On octets) (frame_fine octets are))
  step_known (Hears octets) are fits =
      let total = w.ground_node.config.frame_length in
      heard_known (telemetry_reading.frame_at total octets) (telemetry_fine total octets are)
  step_known (HearsReport octets) are fits =
      word_known w.ground_node.extractor w.ground_node.telemetry (clcw_at octets) (word_octet octets are)
  step_known ForgetTelemetry octets fits = apart_known new_extractor w.ground_node.telemetry
  step_known NewGround octets fits =
      subst (λ (x : Config). KnownOf c (with_nodes w (new_ground x) w.spacecraft))
      (sym k.holds.sound.ground_node.config)
      (record {
        sender = new_timed c k.holds.sound.ranges;
        octets = record {
          sender = (new_octets c).sender;
          receiver = k.octets.receiver;
          up = k.octets.up;
          down = k.octets.down;
        };
      })
  step_known (NewSpacecraft kept) octets fits = record {
    sender = k.sender;
    octets = record {
      sender = k.octets.sender;
      receiver = record { vr = fits.vr; full = λ waits. absurd cc };
      up = k.octets.up;
      down = k.octets.down;
    };
  }

run_known : (c : Config) (steps : List LinkStep) (w : World) → AllByRecursion IsLinkStep steps
    → AllByRecursion CarriesOctets steps → Known c w → Known c (link_run w steps)
run_known c [] w fits octets k = k
run_known c (s ∷ steps) w fits octets k =
    let t = step_known c w k s octets.0 fits.0 in
    run_known c steps (link_step w s) fits.1 octets.1
    (record { holds = link_step_holds c w k.holds s fits.0; sender = t.sender; octets = t.octets })

pub known : (w : World) → (r : HasOctetPast w) → Known r.config w
known w r =
    subst (Known r.config) r.led (run_known r.config r.steps (new_world r.config) r.numbers r.octets (record {
      holds = new_holds r.config r.ranges;
      sender = new_timed r.config r.ranges;
      octets = new_octets r.config;
    }))

-- ---- the session continues

pub idle_step : (w : World) (e : Event) → IsCalm e → IsIdle w → IsIdle (world_step w e).after
idle_step w e calm idle = idle_goes w e idle (calm_goes w e calm)

pub directive_stays : (w : World) (e : Event) → IsCalm e → directive_of (world_step w e).after ≡ directive_of w
directive_stays w e calm =
    ap (λ o. option_map (λ (o : Opening). o.directive) o) (opening_stays w e (calm_goes w e calm))

pub settled_step : (w : World) → HasOctetPast w → (e : Event) → IsCalm e → IsIdle w → IsSettled w
    → IsSettled (world_step w e).after
settled_step w g e calm idle settled =
    let h = (known w g).holds in
    settled_goes g.config w h.sound (h.session idle) e (calm_fits e calm) settled (calm_goes w e calm)

-- an alert is raised first, or the session continues
pub or_on : {A B C : Type 0} → A ⊎ B → (B → A ⊎ C) → A ⊎ C
or_on (inl a) on = inl a
or_on (inr b) on = on b

-- ---- where a list of events leads

pub alerts_first : (w : World) (es fs : List Event) → AlertsIn w es → AlertsIn w (es ++ fs)
alerts_first w [] fs a = absurd a
alerts_first w (e ∷ es) fs a = elim a [
  | inl now ↦ inl now
  | inr later ↦ inr (alerts_first (world_step w e).after es fs later)
]

pub alerts_then : (w : World) (es fs : List Event) → AlertsIn (world_run w es) fs → AlertsIn w (es ++ fs)
alerts_then w [] fs a = a
alerts_then w (e ∷ es) fs a = inr (alerts_then (world_step w e).after es fs a)

-- an alert is returned, or the session continues and this holds
abbrev pub Ends : (World → Type 0) → World → List Event → Type 0
Ends P w es = AlertsIn w es ⊎ (HasOctetPast (world_run w es) × P (world_run w es))

module _ (P Q : World → Type 0) where
  pub ends_then : (first next : Schedule) (w : World) → Ends P w (first w)
      → ((v : World) → HasOctetPast v → P v → Ends Q v (next v)) → Ends Q w (followed_by first next w)
  ends_then first next w start more = elim start [
    | inl a ↦ inl (alerts_first w (first w) (next (world_run w (first w))) a)
    | inr s ↦ (
        let v = world_run w (first w) in
        elim (more v s.0 s.1) [
          | inl a ↦ inl (alerts_then w (first w) (next v) a)
          | inr t ↦ inr (subst (λ (x : World). HasOctetPast x × Q x) (sym (run_append w (first w) (next v))) t)
        ])
  ]

-- one event, so many times
module _ (P : ℕ → World → Type 0) (e : Event) (calm : IsCalm e)
    (each : (n : ℕ) (w : World) → HasOctetPast w → P (suc n) w
    → IsSome (alert_in (world_step w e).answer) ⊎ P n (world_step w e).after) where
  pub ends_repeat : (n : ℕ) (w : World) → HasOctetPast w → P n w → Ends (P zero) w (replicate n e)
  ends_repeat zero w g p = inr (g, p)
  ends_repeat (suc n) w g p = elim (each n w g p) [
    | inl a ↦ inl (inl a)
    | inr q ↦ elim (ends_repeat n (world_step w e).after (going_step w g e calm) q) [
      | inl a ↦ inl (inr a)
      | inr t ↦ inr t
    ]
  ]

-- a schedule, so many times
module _ (P : ℕ → World → Type 0) (schedule : Schedule)
    (each : (n : ℕ) (w : World) → HasOctetPast w → P (suc n) w → Ends (P n) w (schedule w)) where
  pub ends_times : (n : ℕ) (w : World) → HasOctetPast w → P n w → Ends (P zero) w (times n schedule w)
  ends_times zero w g p = inr (g, p)
  ends_times (suc n) w g p =
      ends_then (P n) (P zero) schedule (times n schedule) w (each n w g p) (λ v h q. ends_times n v h q)

-- one event
pub ends_once : (P : World → Type 0) (w : World) (e : Event) → IsCalm e → HasOctetPast w
    → IsSome (alert_in (world_step w e).answer) ⊎ P (world_step w e).after → Ends P w (e ∷ [])
ends_once P w e calm g one = elim one [
  | inl a ↦ inl (inl a)
  | inr p ↦ inr (going_step w g e calm, p)
]

-- what holds then implies more
pub ends_so : (P Q : World → Type 0) (w : World) (es : List Event) → Ends P w es
    → ((v : World) → HasOctetPast v → P v → Q v) → Ends Q w es
ends_so P Q w es ends says = or_on ends (λ t. inr (t.0, says (world_run w es) t.0 t.1))

-- a round trip: all is sent, arrives and is taken, and a CLCW is made and heard
pub ends_trip : (A B C D Q : World → Type 0) (w : World) → Ends A w (all_sent w)
    → ((v : World) → HasOctetPast v → A v → Ends B v (all_arrived v))
    → ((v : World) → HasOctetPast v → B v → Ends C v (all_taken v))
    → ((v : World) → HasOctetPast v → C v → Ends D v (reported v))
    → ((v : World) → HasOctetPast v → D v → Ends Q v (all_heard v)) → Ends Q w (round_trip w)
ends_trip A B C D Q w sent arrive take report hear =
    let after_taking = followed_by reported all_heard in
    let after_arriving = followed_by all_taken after_taking in
    ends_then A Q all_sent (followed_by all_arrived after_arriving) w sent (λ v g p.
    ends_then B Q all_arrived after_arriving v (arrive v g p) (λ v g p.
    ends_then C Q all_taken after_taking v (take v g p) (λ v g p.
    ends_then D Q reported all_heard v (report v g p) hear)))

-- The events of an exchange, and that a session continues with them.

-- ---- lists of events of one kind

module _ (K : Event → Type 0) where
  abbrev pub All : List Event → Type 0
  All es = AllByRecursion K es

  pub all_same : (n : ℕ) (e : Event) → K e → All (replicate n e)
  all_same zero e is = tt
  all_same (suc n) e is = (is, all_same n e is)

  pub all_then : (first next : Schedule) → ((w : World) → All (first w)) → ((w : World) → All (next w)) → (w : World)
      → All (followed_by first next w)
  all_then first next is so w =
      all_append K (first w) (next (world_run w (first w))) (is w) (so (world_run w (first w)))

  pub all_times : (n : ℕ) (schedule : Schedule) → ((w : World) → All (schedule w)) → (w : World)
      → All (times n schedule w)
  all_times zero schedule is w = tt
  all_times (suc n) schedule is w = all_then schedule (times n schedule) is (all_times n schedule is) w

  module _ (send : K events.Send) (deliver : K events.UpDeliver) (take : K events.Take) (report : K events.Report) where
    takes_are : (w : World) → All (all_taken w)
    takes_are w = all_same _ events.Take take

    arrives_are : (w : World) → All (all_arrived w)
    arrives_are w =
        all_times (length w.up) (followed_by all_taken next_arrived)
        (all_then all_taken next_arrived takes_are (λ w. (deliver, tt))) w

    pub befores_are : (w : World) → All (all_sent w) × All (all_arrived w) × All (all_taken w) × All (reported w)
    befores_are w = (all_same (most_sent w) events.Send send, arrives_are w, takes_are w, (report, tt))

    module _ (hear : K events.DownDeliver) where
      pub trips_are : (w : World) → All (round_trip w)
      trips_are =
          let after_taking = followed_by reported all_heard in
          let after_arriving = followed_by all_taken after_taking in
          let after_sending = followed_by all_arrived after_arriving in
          all_then all_sent after_sending (λ w. all_same (most_sent w) events.Send send)
          (all_then all_arrived after_arriving arrives_are (all_then all_taken after_taking takes_are
          (all_then reported all_heard (λ w. (report, tt)) (λ w. all_same _ events.DownDeliver hear))))

-- the events of a round trip
abbrev pub IsTalk : Event → Type 0
IsTalk e = IsCalm e × (e ≢ events.Tick)

pub talks_calm : (es : List Event) → AllByRecursion IsTalk es → AllByRecursion IsCalm es
talks_calm [] all = tt
talks_calm (e ∷ es) all = (all.0.0, talks_calm es all.1)

pub trip_talks : (w : World) → AllByRecursion IsTalk (round_trip w)
trip_talks = trips_are IsTalk (tt, λ is. absurd (cc is)) (tt, λ is. absurd (cc is)) (tt, λ is. absurd (cc is))
    (tt, λ is. absurd (cc is)) (tt, λ is. absurd (cc is))

pub timer_calm : (w : World) → AllByRecursion IsCalm (timer_run_out w)
timer_calm w =
    cond_both (awaits w.ground_node.fop.state (are_marked w.ground_node.fop.sent))
    (replicate (ticks_left w.ground_node.fop.ticks) events.Tick) [] (λ es. AllByRecursion IsCalm es)
    (λ t. all_same IsCalm _ events.Tick tt) (λ t. tt)

pub exchange_calm : (w : World) → AllByRecursion IsCalm (exchange w)
exchange_calm w =
    all_append IsCalm (round_trip w) (timer_run_out (world_run w (round_trip w)))
    (talks_calm (round_trip w) (trip_talks w)) (timer_calm (world_run w (round_trip w)))

pub idle_run : (es : List Event) (w : World) → AllByRecursion IsCalm es → IsIdle w → IsIdle (world_run w es)
idle_run [] w all idle = idle
idle_run (e ∷ es) w all idle = idle_run es (world_step w e).after all.1 (idle_step w e all.0 idle)

pub idle_after : (n : ℕ) (w : World) → IsIdle w → IsIdle (world_run w (times n exchange w))
idle_after n w idle = idle_run (times n exchange w) w (all_times IsCalm n exchange exchange_calm w) idle
