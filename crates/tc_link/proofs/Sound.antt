-- What holds of each node, of what is submitted, and of the world at every moment, in any session.
use Rattle.tc_link.proofs.Common.{◌≡◌, ◌/◌, ◌<◌, ◌≤◌, true, [], length, AllByRecursion, SegmentView, Control, Idle}
use Rattle.tc_link.proofs.Common.{FopMode, FarmState, FlagsAgree, FopState, Config, FitsFrame, GroundState, is_closed}
use Rattle.tc_link.proofs.Common.{SpacecraftState, IsBuilderOf, IsConfig, World, S5, None, ℕ, false, ◌∷◌, refl, ◌∙◌}
use Rattle.tc_link.proofs.Common.{arith, ◌+◌, ◌%◌, Clcw, Sent, FarmEvent, AdArrives, BdArrives, BufferReleased}
use Rattle.tc_link.proofs.Common.{farm_step, goes_on, FopOutcome, pull_step, clcw_step, report_while_active}
use Rattle.tc_link.proofs.Common.{retransmits, after_new_value, IsActive, tick_step, after_count, due_again}
use Rattle.tc_link.proofs.Common.{after_alert, after_stop, refill_step, ticked, pulled_out, heard_active, Bool, List}
use Rattle.tc_link.proofs.Common.{◌++◌, take, drop, map, Option, option_to_list, ap, sym, subst, append_assoc}
use Rattle.tc_link.proofs.Common.{length-append, inr, ◌==◌, and_parts, not-false, take-append-le, drop-append-le}
use Rattle.tc_link.proofs.Common.{append-nil, segment_octets, segments_of, Directive, PacketOn, packet_on, segments_on}
use Rattle.tc_link.proofs.Common.{submit_fault, after_submission, bypass_fault, after_bypass, segments_fit, submitting}
use Rattle.tc_link.proofs.Common.{◌-◌, Result, Ok, Err, cond_both, eqb-false, CopFault, Alert, InitWithoutCheck}
use Rattle.tc_link.proofs.Common.{InitWithCheck, InitUnlock, InitSetVr, S6, directive_step, BuilderState, after_queue}
use Rattle.tc_link.proofs.Common.{data_size, is_at_rest, room_left, Event, spacecraft_report, is_free, with_fop}
use Rattle.tc_link.proofs.Common.{directive_outcome, new_world, world_step, is_initiation, session_after_directive}
use Rattle.tc_link.proofs.Common.{IsDirective, IsEvent, obeyed, begun, SetVs, obeying}
use Rattle.tc_frame.specs.declared.frame.SegmentFlags.TheVariants.{Alone}
use Rattle.map_service.specs.Packets.{packets_in, are_taken, is_some_over}
use Rattle.map_service.specs.Cutting.{segment_with}
use Rattle.tm_link.specs.Builder.{after_send, idle_after, with_next_count}
use Rattle.cop1.proofs.FarmFlags.{FlagsAgree-step}
use Rattle.nodes.specs.Spacecraft.{after_farm, spacecraft_receive}
use Rattle.nodes.proofs.Arrivals.{AtEachArrival, octets_come}
use Rattle.simulated_link.proofs.Gained.{accepts_segment}
use Rattle.nodes.specs.declared.event.Event.TheVariants as events
use Rattle.nodes.specs.Ground.{can_resume}
use Rattle.nodes.proofs.Submissions.{passed, submit_map, bypass_fits}
use Rattle.simulated_link.specs.World.{directed, resumed}
use Rattle.simulated_link.proofs.Counted.{reported}
use Rattle.simulated_link.proofs.Unchanged.{board_after, ground_after, stepped}
use Rattle.tc_link.specs.PlainLink.{adds}
use Rattle.tc_link.proofs.Refilled.{refilled_keeps, session_refilled}
use Rattle.tc_link.proofs.Linked.{Fits, fits_longer, In, IsGiven, units_of_all, Held, Next, holds_on}

-- What holds of both nodes and of the world at every moment, in any session.

-- ---- the ground

-- there is a control command only in S5
abbrev pub Commanded : FopMode → Control → Type 0
Commanded S5 control = Unit {0}
Commanded _ control = control ≡ Idle

pub record FopSteady (c : Config) (f : FopState SegmentView) : Type 0 where
  pub room : f.room ≡ c.width / 2
  pub window : f.window ≤ c.width / 2
  pub vs_octet : f.vs < 256
  pub commanded : Commanded f.state f.control
  pub bypass_fits : AllByRecursion FitsFrame f.bypass

pub record GroundNodeSteady (c : Config) (s : GroundState) : Type 0 where
  pub config : s.config ≡ c
  pub fop : FopSteady c s.fop
  pub pending_none : is_closed s.fop.state ≡ true → s.pending ≡ []
  -- what is pending moves up
  pub moved : s.fop.waiting ≡ None → s.pending ≡ []

-- ---- the spacecraft

pub record FarmSteady (c : Config) (s : FarmState) : Type 0 where
  pub width : s.width ≡ c.width
  pub farm_b : s.farm_b < 4
  pub flags : FlagsAgree s

pub record SpacecraftSteady (c : Config) (s : SpacecraftState) : Type 0 where
  pub config : s.config ≡ c
  pub farm : FarmSteady c s.farm
  pub builder : IsBuilderOf c s.builder
  pub idle_left : s.builder.idle_left ≤ 6

-- ---- the world

pub record Sound (c : Config) (w : World) : Type 0 where
  pub ranges : IsConfig c
  pub ground_node : GroundNodeSteady c w.ground_node
  pub spacecraft : SpacecraftSteady c w.spacecraft
  pub before : w.session.before ≤ length w.spacecraft.accepted

-- What holds of each node at every moment, in any session.

-- ---- the sender

module _ (c : Config) (s : FopState SegmentView) (k : FopSteady c s) where
  abbrev Steadily : {A : Type 0} → FopOutcome SegmentView A → Type 0
  Steadily o = FopSteady c o.after

  steady_so : (f : FopState SegmentView) → f.room ≡ s.room → f.window ≡ s.window → f.vs < 256
      → f.bypass ≡ s.bypass → Commanded f.state f.control → FopSteady c f
  steady_so f room window vs_octet bypass commanded =
      let bypass_fits : AllByRecursion FitsFrame f.bypass = rw bypass k.bypass_fits in
      record {
        room = room ∙ k.room;
        window = omega (arith, window, k.window);
        vs_octet = vs_octet;
        commanded = commanded;
        bypass_fits = bypass_fits;
      }

  gives_up : (f : FopState SegmentView) → f.room ≡ s.room → f.window ≡ s.window → f.vs ≡ s.vs → f.bypass ≡ s.bypass
      → FopSteady c (after_alert f)
  gives_up f room window vs bypass = steady_so (after_alert f) room window (rw vs k.vs_octet) bypass refl

  -- ---- a CLCW

  module _ (r : Clcw) (idle : s.control ≡ Idle) where
    again_so : (repeats : Bool) → FopSteady c (retransmits s repeats)
    again_so true = assumption (idle, k)
    again_so false = assumption (idle, k)

    active_so : Steadily (report_while_active s r)
    active_so =
        let over = gives_up s refl refl refl refl in
        let later_over = gives_up (after_new_value s r.value) refl refl refl refl in
        heard_active s r (λ o. Steadily o) (assumption (over, later_over, again_so, idle, k))

  idle_active : (m : FopMode) → IsActive m → Commanded m s.control → s.control ≡ Idle
  idle_active S5 active is = elim active [ ]
  idle_active _ active is = is

  pub report_so : (r : Clcw) → FopSteady c (clcw_step s r).after
  report_so r = reported s r (λ o. Steadily o) (record {
    active = λ active. active_so r (idle_active s.state active k.commanded);
    alerted = λ is x cause. gives_up s refl refl refl refl;
    checked = λ is confirms. let idle : s.control ≡ Idle = rw is at k.commanded in assumption (idle, k);
    commanded = λ is confirms. assumption k;
    same = k;
  })

  -- ---- a tick

  pub tick_so : Steadily (tick_step s)
  tick_so =
      let commands : s.state ≡ S5
      → Steadily (goes_on (record (after_count (after_stop s)) { control = due_again s.control })) =
      λ is. let commanded : Commanded s.state (due_again s.control) = rw is tt in assumption (commanded, k) in
      ticked s (λ o. Steadily o) (assumption (commands, gives_up (after_stop s) refl refl refl refl, k))

  -- ---- a pull

  sent_so : (command : Control) (m : FopMode) (new : Control) → Commanded m command → (command ≡ Idle → ⊥)
      → Commanded m new
  sent_so command S5 new is not_idle = tt
  sent_so command _ new is not_idle = absurd (not_idle is)

  pub pull_so : Steadily (pull_step s)
  pull_so = pulled_out s (λ o. Steadily o) (record {
    none = k;
    command = λ command is.
        let commanded : Commanded s.state (Sent command) =
        sent_so s.control s.state (Sent command) k.commanded (λ e. absurd (cc (e, is))) in
        assumption (commanded, k);
    bypass = λ u us is.
        let fit : AllByRecursion FitsFrame (u ∷ us) = rw is at k.bypass_fits in
        let bypass_fits : AllByRecursion FitsFrame us = fit.1 in
        assumption (bypass_fits, k);
    again = λ active x is. assumption k;
    first = λ active u is room.
        let vs_octet : (s.vs + 1) % 256 < 256 = omega arith in
        assumption (vs_octet, k);
  })

-- ---- the ground

pub refilled_so : (c : Config) (s : GroundState) → s.config ≡ c → FopSteady c s.fop → GroundNodeSteady c (refill_step s)
refilled_so c s is k = refilled_keeps (GroundNodeSteady c) s (λ waiting pending on off.
    let fop : FopSteady c (record s.fop { waiting = waiting }) = assumption k in
    record { config = is; fop = fop; pending_none = off.0; moved = off.1 })

-- ---- the receiver

farm_fields : (s : FarmState) (e : FarmEvent) → s.farm_b < 4
    → ((farm_step s e).width ≡ s.width) × ((farm_step s e).farm_b < 4)
farm_fields s e lt = grind arith

pub farm_so : (c : Config) (s : FarmState) (e : FarmEvent) → FarmSteady c s → FarmSteady c (farm_step s e)
farm_so c s e k =
    let t = farm_fields s e k.farm_b in record
    { width = t.0 ∙ k.width; farm_b = t.1; flags = FlagsAgree-step s e k.flags }

-- Submitting packets keeps what holds in a session.

-- what is known of a submission that is not refused
pub record Taken (c : Config) (s : GroundState) (m : ℕ) (octets : List ℕ) : Type 0 where
  pub on : is_closed s.fop.state ≡ false
  pub given : IsGiven c (packet_on m octets)
  pub on_map : m < 64

taken_from : (s : GroundState) (m : ℕ) (octets : List ℕ) → submit_fault s m octets ≡ None → Taken s.config s m octets
taken_from s m octets h =
    let on = passed _ _ _ h in
    let opened = passed _ _ _ on.1 in
    let command = passed _ _ _ opened.1 in
    let long = passed _ _ _ command.1 in
    let taken : are_taken (s.config.blocking == 1) octets ≡ true = (and_parts _ _ (not-false _ command.0)).0 in
    let short : is_some_over s.config.max_packet (packets_in octets) ≡ false = long.0 in
    record {
      on = on.0;
      given = record { opened = not-false _ opened.0; cut = rw (taken, short) refl };
      on_map = submit_map s m octets h;
    }

pub taken_is : (c : Config) (s : GroundState) (m : ℕ) (octets : List ℕ) → s.config ≡ c → submit_fault s m octets ≡ None
    → Taken c s m octets
taken_is c s m octets is h = subst (λ x. Taken x s m octets) is (taken_from s m octets h)

pub all_append : {X : Type 0} (P : X → Type 0) (xs ys : List X) → AllByRecursion P xs → AllByRecursion P ys
    → AllByRecursion P (xs ++ ys)
all_append P [] ys all rest = rest
all_append P (x ∷ xs) ys all rest = (all.0, all_append P xs ys all.1 rest)

pub all_push : {X : Type 0} (P : X → Type 0) (xs : List X) (x : X) → AllByRecursion P xs → P x
    → AllByRecursion P (xs ++ x ∷ [])
all_push P xs x all is = all_append P xs (x ∷ []) all (is, tt)

pub units-push : (c : Config) (ps : List PacketOn) (p : PacketOn)
    → units_of_all c (ps ++ p ∷ []) ≡ units_of_all c ps ++ segments_of c.part p.on_map p.octets
units-push c [] p = append-nil (segments_of c.part p.on_map p.octets)
units-push c (x ∷ xs) p = rw (units-push c xs p, append_assoc) refl

module _ (early : Bool) (c : Config) (d : Directive) (base : ℕ) (w : World) (k : Sound c w) (g : In early c d base w)
    (m : ℕ) (octets : List ℕ) where
  pub given_keeps : submit_fault w.ground_node m octets ≡ None
      → Next early c d base g.plain (record w {
        ground_node = after_submission w.ground_node m octets;
        session = record w.session { submissions = w.session.submissions ++ packet_on m octets ∷ [] };
      })
  given_keeps none =
      let p = g.plain in
      let l = g.linked in
      let t = taken_is c w.ground_node m octets k.ground_node.config none in
      let new : List SegmentView = segments_of c.part m octets in
      let cut : segments_on w.ground_node m octets ≡ new = ap (λ x. segments_of x.part m octets) k.ground_node.config in
      let was = holds_on l t.on in
      let r_most : p.r ≤ length p.units = omega (arith, l.r_n, l.n_most) in
      let shorter : take p.n (p.units ++ new) ≡ take p.n p.units = take-append-le p.n p.units new l.n_most in
      let rest : option_to_list w.ground_node.fop.waiting
      ++ (w.ground_node.pending ++ segments_on w.ground_node m octets) ≡ drop p.n (p.units ++ new) =
      sym (append_assoc (option_to_list w.ground_node.fop.waiting) w.ground_node.pending
      (segments_on w.ground_node m octets)) ∙ ap (λ xs. xs ++ segments_on w.ground_node m octets) was.rest_is
      ∙ ap (λ xs. drop p.n p.units ++ xs) cut ∙ sym (drop-append-le p.n p.units new l.n_most) in
      let held : Held (is_closed w.ground_node.fop.state) base w.ground_node.fop.vs w.ground_node.fop.nn
      w.ground_node.fop.sent (option_to_list w.ground_node.fop.waiting
      ++ (w.ground_node.pending ++ segments_on w.ground_node m octets)) p.a p.n (p.units ++ new) =
      rw t.on (record {
        vs_is = was.vs_is;
        nn_is = was.nn_is;
        sent_is = was.sent_is ∙ ap (drop p.a) (sym shorter);
        rest_is = rest;
      }) in
      let given : AllByRecursion (IsGiven c) (w.session.submissions ++ packet_on m octets ∷ []) =
      all_push (IsGiven c) w.session.submissions (packet_on m octets) l.given t.given in
      let units_are : p.units ++ new ≡ units_of_all c (w.session.submissions ++ packet_on m octets ∷ []) =
      ap (λ xs. xs ++ new) l.units_are ∙ sym (units-push c w.session.submissions (packet_on m octets)) in
      let units_fit : AllByRecursion FitsFrame (p.units ++ new) =
      all_append FitsFrame p.units new l.units_fit
      (segments_fit c.part m octets k.ranges.part.0 k.ranges.part.1 t.on_map) in
      let sent_is : w.session.sent ≡ map segment_octets (take p.n (p.units ++ new)) =
      l.sent_is ∙ ap (map segment_octets) (sym shorter) in
      let accepted_is : drop w.session.before w.spacecraft.accepted ≡ take p.r (p.units ++ new) =
      l.accepted_is ∙ sym (take-append-le p.r p.units new r_most) in
      let n_most : p.n ≤ length (p.units ++ new) = omega (arith, l.n_most, length-append p.units new) in
      let fits : Fits (c.width / 2) p.n (p.units ++ new) p.r p.up =
      fits_longer (c.width / 2) p.n p.units new p.r p.up l.fits in
      session_refilled early c d base (record w {
        ground_node = submitting w.ground_node m octets;
        session = record w.session { submissions = w.session.submissions ++ packet_on m octets ∷ [] };
      }) (record {
        plain = record p { units = p.units ++ new };
        ran = inr (adds new);
        front = g.front;
        frames = g.frames;
        reports = g.reports;
        linked = assumption (held, given, units_are, units_fit, sent_is, accepted_is, n_most, fits, l);
        stage = g.stage;
      })

-- What holds of the world at every moment, in any session.

-- ---- the spacecraft

module _ (c : Config) (s : SpacecraftState) (k : SpacecraftSteady c s) where
  -- the receiver steps, and the spacecraft is as it was except in what no field mentions
  steps_so : (e : FarmEvent) (t : SpacecraftState) → t.config ≡ s.config → t.farm ≡ farm_step s.farm e
      → t.builder ≡ s.builder → SpacecraftSteady c t
  steps_so e t config farm builder =
      record {
        config = config ∙ k.config;
        farm = rw farm (farm_so c s.farm e k.farm);
        builder = rw builder k.builder;
        idle_left = rw builder k.idle_left;
      }

  pub arrives_so : AtEachArrival s (λ o t. SpacecraftSteady c t)
  arrives_so = record {
    same = k;
    steps = λ e. steps_so e (after_farm s e) refl refl refl;
    keeps = λ packet. steps_so BdArrives _ refl refl refl;
    accepts = λ n u. steps_so (AdArrives n (is_free s)) _ refl refl refl;
  }

  -- telemetry changes
  builder_so : (b : BuilderState) → b.scid ≡ s.builder.scid → b.vcid ≡ s.builder.vcid → b.total ≡ s.builder.total
      → b.idle_left ≤ 6 → SpacecraftSteady c (record s { builder = b })
  builder_so b scid vcid total idle_left = record {
    config = k.config;
    farm = k.farm;
    builder = record { scid = scid ∙ k.builder.scid; vcid = vcid ∙ k.builder.vcid; total = total ∙ k.builder.total };
    idle_left = idle_left;
  }

  idle_so : (size left count : ℕ) → left ≤ 6 → idle_after size left count ≤ 6
  idle_so size left count least =
      cond_both (room_left size left count == 0) (left - size) (7 - room_left size left count) (λ (n : ℕ). n ≤ 6)
      (λ t. omega (arith, least)) (λ t. omega (arith, eqb-false _ _ t))

  reported_so : SpacecraftSteady c (spacecraft_report s).after
  reported_so =
      let b : BuilderState = s.builder in
      cond_both (is_at_rest b) b (after_send b (data_size b))
      (λ (t : BuilderState). SpacecraftSteady c (record s { builder = with_next_count t }))
      (λ t. builder_so (with_next_count b) refl refl refl k.idle_left)
      (λ t. builder_so (with_next_count (after_send b (data_size b))) refl refl refl
      (idle_so (data_size b) b.idle_left (length b.pending) k.idle_left))

-- ---- the ground

module _ (c : Config) (s : GroundState) (k : GroundNodeSteady c s) where
  pub with_so : (f : FopState SegmentView) → FopSteady c f → GroundNodeSteady c (with_fop s f)
  with_so f so = refilled_so c (record s { fop = f }) k.config so

  obeys_so : (d : Directive) (f : FopState SegmentView) → FopSteady c f → GroundNodeSteady c (with_fop (obeying s d) f)
  obeys_so d f so = refilled_so c (record (obeying s d) { fop = f }) k.config so

  idle_off : s.fop.state ≡ S6 → s.fop.control ≡ Idle
  idle_off is = let idle : Commanded S6 s.fop.control = rw is at k.fop.commanded in idle

  begun_so : (d : Directive) → is_initiation d ≡ true → IsDirective d → s.fop.state ≡ S6 → FopSteady c (begun s.fop d)
  begun_so InitWithoutCheck is fits off = let idle = idle_off off in assumption (idle, k.fop)
  begun_so InitWithCheck is fits off = let idle = idle_off off in assumption (idle, k.fop)
  begun_so InitUnlock is fits off = assumption k.fop
  begun_so (InitSetVr x) is fits off = assumption (fits, k.fop)
  begun_so _ is fits off = absurd cc

  abbrev Directed : Directive → FopOutcome SegmentView (Result (Option Alert) CopFault) → Type 0
  Directed d o = IsDirective d → GroundNodeSteady c (directive_outcome s d o).after

  pub directive_so : (d : Directive) → Directed d (directive_step s.fop d)
  directive_so = obeyed s.fop Directed (record {
    refused = λ d fault on fits. k;
    begins = λ d is off fits. obeys_so d (begun s.fop d) (begun_so d is fits off);
    terminated = λ fits. with_so (after_alert s.fop) (gives_up c s.fop k.fop s.fop refl refl refl refl);
    numbers = λ x is fits. obeys_so (SetVs x) (record s.fop { vs = x; nn = x }) (assumption (fits, k.fop));
    sets = λ d n limit ticks plain most fits.
        let window : n ≤ c.width / 2 = most (c.width / 2) k.fop.window (omega (arith, k.fop.room)) in
        obeys_so d (record s.fop { window = n; limit = limit; timer = ticks }) (assumption (window, k.fop));
  })

  pub bypassed_so : IsConfig c → (m : ℕ) (octets : List ℕ) → bypass_fault s m octets ≡ None
      → GroundNodeSteady c (after_bypass s m octets)
  bypassed_so ranges m octets none =
      let own : IsConfig s.config = rw k.config ranges in
      let fits : AllByRecursion FitsFrame (s.fop.bypass ++ segment_with Alone m octets ∷ []) =
      all_push FitsFrame s.fop.bypass (segment_with Alone m octets) k.fop.bypass_fits
      (bypass_fits s m octets own none) in
      let fop : FopSteady c (after_bypass s m octets).fop = assumption (fits, k.fop) in
      assumption (fop, k)

-- ---- the world

session_so : (w : World) (d : Directive) (r : Result (Option Alert) CopFault)
    → w.session.before ≤ length w.spacecraft.accepted
    → (session_after_directive w d r).before ≤ length w.spacecraft.accepted
session_so w d (Err fault) before = before
session_so w d (Ok alert) before =
    cond_both (is_initiation d) _ w.session (λ x. x.before ≤ length w.spacecraft.accepted) (λ t. omega arith)
    (λ t. before)

pub directive_sound : (c : Config) (w : World) → Sound c w → (d : Directive) → IsDirective d → Sound c (directed w d)
directive_sound c w k d fits = record {
  ranges = k.ranges;
  ground_node = directive_so c w.ground_node k.ground_node d fits;
  spacecraft = k.spacecraft;
  before = session_so w d (directive_step w.ground_node.fop d).answer k.before;
}

resumed_sound : (c : Config) (w : World) → Sound c w → (value : ℕ) → value < 256 → Sound c (resumed w value)
resumed_sound c w k value fits =
    directive_sound c (directed w (SetVs value)) (directive_sound c w k (SetVs value) fits) InitUnlock tt

module _ (c : Config) (w : World) (k : Sound c w) (e : Event) (fits : IsEvent e) where
  abbrev s : GroundState
  s = w.ground_node

  ground_so : GroundNodeSteady c (world_step w e).after.ground_node
  ground_so = ground_after w (λ t session. GroundNodeSteady c t) e (record {
    same = k.ground_node;
    submits = λ m octets none. refilled_so c (submitting s m octets) k.ground_node.config k.ground_node.fop;
    bypasses = λ m octets is none. bypassed_so c s k.ground_node k.ranges m octets.now none;
    directs = λ d is. directive_so c s k.ground_node d (subst IsEvent is fits);
    restarts = λ value is can. (resumed_sound c w k value (subst IsEvent is fits)).ground_node;
    ticks = λ is. with_so c s k.ground_node (tick_step s.fop).after (tick_so c s.fop k.ground_node.fop);
    sends = λ is sent. with_so c s k.ground_node (pull_step s.fop).after (pull_so c s.fop k.ground_node.fop);
    hears_none = λ told x packets. assumption k.ground_node;
    hears = λ told x packets r. refilled_so c _ k.ground_node.config (report_so c s.fop k.ground_node.fop r);
  })

  board_so : SpacecraftSteady c (world_step w e).after.spacecraft
  board_so =
      let t = w.spacecraft in
      let so = k.spacecraft in
      board_after w (SpacecraftSteady c) e (record {
        same = so;
        receives = λ is b bs first. octets_come t (λ o t. SpacecraftSteady c t) (arrives_so c t so) b;
        reports = λ is. reported_so c t so;
        takes = λ is left kept. assumption so;
        releases = λ is left free. steps_so c t so BufferReleased _ refl refl refl;
        passes = λ is left. assumption so;
        queues = λ octets is. builder_so c t so (after_queue t.builder octets.now) refl refl refl so.idle_left;
      })

  abbrev Before : World → Type 0
  Before new = new.session.before ≤ length new.spacecraft.accepted

  before_so : Before (world_step w e).after
  before_so =
      let receives : e ≡ events.UpDeliver → (b : List ℕ) (bs : List (List ℕ)) → w.up ≡ b ∷ bs
      → w.session.before ≤ length (spacecraft_receive w.spacecraft b).after.accepted =
      λ is b bs first. let more = accepts_segment w.spacecraft b in
      omega (arith, k.before, ap length more, length-append {A = SegmentView}) in
      let directs : (d : Directive) → e ≡ events.Directive d → Before (directed w d) =
      λ d is. session_so w d (directive_step s.fop d).answer k.before in
      let restarts : (value : ℕ) → e ≡ events.Resume value → can_resume s value ≡ true → Before (resumed w value) =
      λ value is can. (resumed_sound c w k value (subst IsEvent is fits)).before in
      stepped w Before e (assumption (receives, directs, restarts, k.before))

pub step_sound : (c : Config) (w : World) → Sound c w → (e : Event) → IsEvent e → Sound c (world_step w e).after
step_sound c w k e fits = record {
  ranges = k.ranges;
  ground_node = ground_so c w k e fits;
  spacecraft = board_so c w k e fits;
  before = before_so c w k e fits;
}

pub new_sound : (c : Config) → IsConfig c → Sound c (new_world c)
new_sound c ranges = record {
  ranges = ranges;
  ground_node = record {
    config = refl;
    fop = record {
      room = refl;
      window = ranges.window.1;
      vs_octet = omega arith;
      commanded = refl;
      bypass_fits = tt;
    };
    pending_none = λ e. refl;
    moved = λ none. refl;
  };
  spacecraft = record {
    config = refl;
    farm = record { width = refl; farm_b = omega arith; flags = record { asks = λ t. absurd cc; state = refl } };
    builder = record { scid = refl; vcid = refl; total = refl };
    idle_left = omega arith;
  };
  before = omega arith;
}
