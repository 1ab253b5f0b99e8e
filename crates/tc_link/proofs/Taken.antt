-- What is taken on board since a session began is what it has delivered.
use Rattle.tc_link.proofs.Common.{true, false, ◌≡◌, ◌≤◌, ℕ, Bool, List, [], ◌∷◌, ◌++◌, Option, take, drop, refl, ap}
use Rattle.tc_link.proofs.Common.{sym, subst, ◌∙◌}
use Rattle.tc_link.proofs.Common.{append-nil, ◌≢◌, append_assoc, map-append, take-append-drop, option_to_list}
use Rattle.tc_link.proofs.Common.{AllByRecursion, SegmentView, Limits, assembled, assembled-push, segments_of, Config}
use Rattle.tc_link.proofs.Common.{PacketOn, limits_of, SpacecraftState, segment_to_accept, spacecraft_step, length, map}
use Rattle.tc_link.proofs.Common.{filter, eqb, option_map, filter-append, assembled-other, spacecraft_take, Event}
use Rattle.tc_link.proofs.Common.{Opening, World, WorldOutcome, IsIdle, delivered, world_step, bypass_outcome}
use Rattle.tc_link.proofs.Common.{world_after_take, S1, take_all, Directive, PlainLink}
use Rattle.std.specs.List.{flat_map}
use Rattle.std.proofs.lemmas.List.{append_cancel_left}
use Rattle.std.proofs.Math.Seq.{take-append_seam, drop-append_seam}
use Rattle.octets.specs.Beginning.{IsBeginning}
use Rattle.map_service.specs.Assembly.{open_part}
use Rattle.map_service.specs.Cutting.{IsPart}
use Rattle.map_service.specs.Packets.{packets_in}
use Rattle.map_service.specs.AssemblerTable.{take_step}
use Rattle.map_service.proofs.Parts.{segments-parts}
use Rattle.map_service.proofs.Passage.{given-passed}
use Rattle.nodes.specs.Packets.{put_on_map}
use Rattle.nodes.specs.Spacecraft.{Receive}
use Rattle.nodes.specs.Delivery.{packets_of_map, delivered_on}
use Rattle.nodes.specs.Ground.{outstanding}
use Rattle.nodes.specs.declared.event.Event.TheVariants as events
use Rattle.nodes.proofs.Arrivals.{octets_come}
use Rattle.nodes.proofs.Delivery.{delivers}
use Rattle.simulated_link.specs.World.{Session}
use Rattle.simulated_link.proofs.Gained.{accepts_segment, config_stays}
use Rattle.simulated_link.proofs.Unchanged.{board_after}
use Rattle.tc_link.specs.AnyPast.{LinkStep, Happens, link_step, link_run}
use Rattle.tc_link.specs.Beside.{LeavesSession, SessionLasts}
use Rattle.tc_link.proofs.Beside.{beside_so}
use Rattle.tc_link.specs.Taken.{BeginsSession, handed_out, handed_by, taken, taken_since, ready_on}
use Rattle.tc_link.specs.Taken.{HandsOutWhatIsDelivered}
use Rattle.tc_link.specs.Taken.{HandsOutWhatIsSubmitted, HandsOutAsSubmitted, all_submitted}
use Rattle.tc_link.proofs.Linked.{IsGiven, units_of_all, In}
use Rattle.tc_link.proofs.Sound.{Sound}
use Rattle.tc_link.proofs.IdleStart.{in_session}
use Rattle.tc_link.proofs.InOrder.{is_in_order, all_accepted}
use Rattle.tc_link.proofs.AnyPast.{past_holds, link_run_holds, session_still}
use Rattle.tc_link.proofs.Invariant.{opened, begun_is, step_holds, began_at}

-- The packets that segments make ready, each with its MAP, in the order in which they become ready.

-- the packets that segments make ready after other segments
abbrev pub made : Limits → List SegmentView → List SegmentView → List PacketOn
made limits before [] = []
made limits before (s ∷ more) =
    put_on_map s.header.map (take_step limits (open_part limits s.header.map before) s).packets
    ++ made limits (before ++ s ∷ []) more

pub made-append : (limits : Limits) (before xs ys : List SegmentView)
    → made limits before (xs ++ ys) ≡ made limits before xs ++ made limits (before ++ xs) ys
made-append limits before [] ys = ap (λ b. made limits b ys) (sym (append-nil before))
made-append limits before (s ∷ xs) ys =
    rw (made-append limits (before ++ s ∷ []) xs ys, append_assoc before (s ∷ []) xs, append_assoc)

-- ---- octets that arrive

receives_made : (s : SpacecraftState) (octets : List ℕ) → (spacecraft_step s (Receive octets)).after.ready ≡ s.ready
    ++ made (limits_of s.config) s.accepted (option_to_list (segment_to_accept s octets))
receives_made s = octets_come s (λ o t. t.ready ≡ s.ready ++ made (limits_of s.config) s.accepted (option_to_list o))
    (record {
      same = sym (append-nil s.ready);
      steps = λ e. sym (append-nil s.ready);
      keeps = λ packet. sym (append-nil s.ready);
      accepts = λ n u. ap (λ ps. s.ready ++ ps) (sym (append-nil _));
    })

-- ---- what was submitted

-- segments of one MAP make ready just those packets that are assembled on it
record MadeOn (limits : Limits) (m : ℕ) (before segments : List SegmentView) : Type 0 where
  packets : List (List ℕ)
  made_is : made limits before segments ≡ put_on_map m packets
  assembled_is : assembled limits m (before ++ segments) ≡ assembled limits m before ++ packets

made_on : (limits : Limits) (part m : ℕ) (before segments : List SegmentView) → AllByRecursion (IsPart part m) segments
    → MadeOn limits m before segments
made_on limits part m before [] h = record {
  packets = [];
  made_is = refl;
  assembled_is = ap (assembled limits m) (append-nil before) ∙ sym (append-nil (assembled limits m before));
}
made_on limits part m before (s ∷ more) h =
    let first : List (List ℕ) = (take_step limits (open_part limits s.header.map before) s).packets in
    let rest = made_on limits part m (before ++ s ∷ []) more h.1 in
    let own : s.header.map ≡ m = h.0.on_map in
    let pushed : assembled limits m (before ++ s ∷ []) ≡ assembled limits m before ++ first =
    subst (λ k. assembled limits k (before ++ s ∷ []) ≡ assembled limits k before ++ first) own
    (assembled-push limits before s _ refl) in
    record {
      packets = first ++ rest.packets;
      made_is = rw (rest.made_is, own, map-append);
      assembled_is = rw (← append_assoc before (s ∷ []) more, rest.assembled_is, pushed, append_assoc);
    }

module _ (c : Config) (one : 1 ≤ c.part) where
  abbrev pub packets_of : PacketOn → List PacketOn
  packets_of p = put_on_map p.on_map (packets_in p.octets)

  one_made : (before : List SegmentView) (p : PacketOn) → IsGiven c p
      → made (limits_of c) before (segments_of c.part p.on_map p.octets) ≡ packets_of p
  one_made before p h =
      let limits = limits_of c in
      let t = made_on limits c.part p.on_map before (segments_of c.part p.on_map p.octets)
      (segments-parts c.part p.on_map p.octets one) in
      t.made_is
      ∙ ap (put_on_map p.on_map) (append_cancel_left (assembled limits p.on_map before) t.packets (packets_in p.octets)
      (sym t.assembled_is ∙ given-passed limits p.on_map before p.octets one h.opened h.cut))

  -- all packets, in the order of submission
  pub all_made : (before : List SegmentView) (ps : List PacketOn) → AllByRecursion (IsGiven c) ps
      → made (limits_of c) before (units_of_all c ps) ≡ flat_map packets_of ps
  all_made before [] h = refl
  all_made before (p ∷ ps) h =
      let cut = segments_of c.part p.on_map p.octets in
      rw (made-append (limits_of c) before cut (units_of_all c ps), one_made before p h.0)
      (ap (λ xs. packets_of p ++ xs) (all_made (before ++ cut) ps h.1))

-- What is taken on board since a session began is what it has delivered.

-- from the one state to the other, these packets were taken, and some more were made ready
pub record Passes (old : SpacecraftState) (out : List PacketOn) (new : SpacecraftState) : Type 0 where
  pub config : new.config ≡ old.config
  pub segments : List SegmentView
  pub accepted : new.accepted ≡ old.accepted ++ segments
  pub more : List PacketOn
  pub made_is : more ≡ made (limits_of old.config) old.accepted segments
  pub ready : out ++ new.ready ≡ old.ready ++ more
  pub delivered : (m : ℕ) → delivered_on m new ≡ delivered_on m old ++ packets_of_map m more

of_both : (m : ℕ) (xs ys : List PacketOn) → packets_of_map m (xs ++ ys) ≡ packets_of_map m xs ++ packets_of_map m ys
of_both m xs ys =
    ap (map (λ (p : PacketOn). p.octets)) (filter-append (λ (p : PacketOn). eqb p.on_map m) xs ys)
    ∙ map-append (λ (p : PacketOn). p.octets) (filter (λ (p : PacketOn). eqb p.on_map m) xs)
    (filter (λ (p : PacketOn). eqb p.on_map m) ys)

-- nothing more is made ready
passes_none : (old new : SpacecraftState) (out : List PacketOn) → new.config ≡ old.config
    → new.accepted ≡ old.accepted → out ++ new.ready ≡ old.ready → Passes old out new
passes_none old new out config accepted ready = record {
  config = config;
  segments = [];
  accepted = accepted ∙ sym (append-nil old.accepted);
  more = [];
  made_is = refl;
  ready = ready ∙ sym (append-nil old.ready);
  delivered = λ m. rw (config, accepted) (sym (append-nil (delivered_on m old)));
}

passes_both : (s t u : SpacecraftState) (xs ys : List PacketOn) → Passes s xs t → Passes t ys u → Passes s (xs ++ ys) u
passes_both s t u xs ys first next = record {
  config = next.config ∙ first.config;
  segments = first.segments ++ next.segments;
  accepted = rw (next.accepted, first.accepted) (append_assoc s.accepted first.segments next.segments);
  more = first.more ++ next.more;
  made_is = rw (first.made_is, next.made_is, first.config, first.accepted)
      (sym (made-append (limits_of s.config) s.accepted first.segments next.segments));
  ready = rw (append_assoc, next.ready, ← append_assoc xs t.ready next.more, first.ready)
      (append_assoc s.ready first.more next.more);
  delivered = λ m. rw (next.delivered m, first.delivered m, of_both m first.more next.more, append_assoc);
}

-- ---- each event

receives : (s : SpacecraftState) (octets : List ℕ) → Passes s [] (spacecraft_step s (Receive octets)).after
receives s octets =
    let has = delivers (λ limits segments u. assembled-push limits segments u _ refl) assembled-other s octets in
    record {
      config = config_stays s octets;
      segments = option_to_list (segment_to_accept s octets);
      accepted = accepts_segment s octets;
      more = has.more;
      made_is = append_cancel_left s.ready has.more _ (sym has.ready ∙ receives_made s octets);
      ready = has.ready;
      delivered = has.delivered;
    }

module _ (w : World) where
  takes : (ready : List PacketOn) → w.spacecraft.ready ≡ ready
      → let o : WorldOutcome = world_after_take w (spacecraft_take w.spacecraft ready) in
      Passes w.spacecraft (handed_out events.Take o.answer) o.after.spacecraft
  takes [] is = passes_none w.spacecraft w.spacecraft [] refl refl refl
  takes (p ∷ left) is = passes_none w.spacecraft _ (p ∷ []) refl refl (sym is)

  stays : Passes w.spacecraft [] w.spacecraft
  stays = passes_none w.spacecraft w.spacecraft [] refl refl refl

  hands_out_none : (e : Event) → e ≢ events.Take → Passes w.spacecraft [] (world_step w e).after.spacecraft
  hands_out_none e not_taken = board_after w (Passes w.spacecraft []) e (record {
    same = stays;
    receives = λ is b bs first. receives w.spacecraft b;
    reports = λ is. passes_none w.spacecraft _ [] refl refl refl;
    takes = λ is. absurd (not_taken is);
    releases = λ is. absurd (not_taken is);
    passes = λ is left. passes_none w.spacecraft _ [] refl refl refl;
    queues = λ octets is. passes_none w.spacecraft _ [] refl refl refl;
  })

  pub passes : (e : Event)
      → Passes w.spacecraft (handed_out e (world_step w e).answer) (world_step w e).after.spacecraft
  passes events.Take = takes w.spacecraft.ready refl
  passes e = hands_out_none e (λ is. cc is)

-- ---- a session

record Since (old : World) (out : List PacketOn) (new : World) : Type 0 where
  passes : Passes old.spacecraft out new.spacecraft
  same : opened new.session ≡ opened old.session

-- a Type-BD frame makes no packet ready, and none is taken
bypass_passes : (s : SpacecraftState) (u : SegmentView) (kept : Bool) → Passes s [] (bypass_outcome s u kept).after
bypass_passes s u true = passes_none s _ [] refl refl refl
bypass_passes s u false = passes_none s _ [] refl refl refl

step_passes : (w : World) (s : LinkStep) → LeavesSession w s
    → Passes w.spacecraft (handed_by w s) (link_step w s).spacecraft
step_passes w (Happens e) goes = passes w e
step_passes w s goes = beside_so w (λ new. Passes w.spacecraft [] new.spacecraft) s goes (record {
  happens = λ e is. absurd (cc is);
  same = stays w;
  takes = λ x packets. stays w;
  passes = λ u kept. bypass_passes w.spacecraft u kept;
})

since_then : (w : World) (steps : List LinkStep) → SessionLasts w steps → Since w (taken w steps) (link_run w steps)
since_then w [] lasts = record { passes = stays w; same = refl }
since_then w (s ∷ steps) lasts =
    let rest = since_then (link_step w s) steps lasts.1 in
    record {
      passes = passes_both w.spacecraft (link_step w s).spacecraft (link_run (link_step w s) steps).spacecraft
          (handed_by w s) (taken (link_step w s) steps) (step_passes w s lasts.0) rest.passes;
      same = rest.same ∙ session_still w s lasts.0;
    }

module _ (old new : World) (out : List PacketOn) (m : ℕ) (s : Since old out new)
    (begins : old.session.before ≡ length old.spacecraft.accepted) where
  -- what the session delivered was made ready since it began
  delivered_is : delivered new m ≡ packets_of_map m s.passes.more
  delivered_is =
      let before : new.session.before ≡ length old.spacecraft.accepted =
      ap (λ (o : Option Opening × ℕ). o.1) s.same ∙ begins in
      let seam = take-append_seam old.spacecraft.accepted s.passes.segments in
      rw (s.passes.delivered m, s.passes.config, before, s.passes.accepted, seam)
      (drop-append_seam (delivered_on m old.spacecraft) (packets_of_map m s.passes.more))

  hands_out : packets_of_map m out ++ ready_on new m ≡ ready_on old m ++ delivered new m
  hands_out =
      sym (of_both m out new.spacecraft.ready) ∙ ap (packets_of_map m) s.passes.ready
      ∙ of_both m old.spacecraft.ready s.passes.more ∙ ap (λ d. ready_on old m ++ d) (sym delivered_is)

begins_there : (w : World) (e : Event) → BeginsSession w e
    → (world_step w e).after.session.before ≡ length (world_step w e).after.spacecraft.accepted
begins_there w e b =
    let at = began_at w e b in
    subst (λ (x : World). x.session.before ≡ length x.spacecraft.accepted) (sym at.is)
    (ap (λ (s : Session). s.before) (begun_is at.start at.directive at.initiates at.closed))

pub hands_out_what_is_delivered : HandsOutWhatIsDelivered
hands_out_what_is_delivered w e since m b lasts =
    let start : World = (world_step w e).after in
    hands_out start (link_run start since) (taken start since) m (since_then start since lasts)
    (begins_there w e b)

pub hands_out_what_is_submitted : HandsOutWhatIsSubmitted
hands_out_what_is_submitted w e since m r b lasts fits numbers idle =
    let start : World = (world_step w e).after in
    let new : World = link_run start since in
    let s = since_then start since lasts in
    let h = link_run_holds r.config since start numbers (step_holds r.config w (past_holds w r) e fits) in
    let still : IsIdle new = ap (λ (o : Option Opening × ℕ). option_map (λ (x : Opening). x.idle) o.0) s.same ∙ idle in
    let order = (is_in_order r.config new h.sound (h.session still)).in_order m in (
      ready_on new m ++ order.0,
      ap (λ d. ready_on start m ++ d) order.1
          ∙ sym (append_assoc (ready_on start m) (delivered new m) order.0)
          ∙ ap (λ d. d ++ order.0) (sym (hands_out_what_is_delivered w e since m b lasts))
          ∙ append_assoc (taken_since start since m) (ready_on new m) order.0,
    )

-- ---- over all MAPs

module _ (old new : World) (out : List PacketOn) (s : Since old out new)
    (begins : old.session.before ≡ length old.spacecraft.accepted) where
  -- what was accepted since is what the session has accepted
  since_is : s.passes.segments ≡ drop new.session.before new.spacecraft.accepted
  since_is =
      sym (ap (λ n. drop n new.spacecraft.accepted) (ap (λ (o : Option Opening × ℕ). o.1) s.same ∙ begins)
      ∙ ap (drop (length old.spacecraft.accepted)) s.passes.accepted
      ∙ drop-append_seam old.spacecraft.accepted s.passes.segments)

  module _ (early : Bool) (c : Config) (d : Directive) (base : ℕ) (k : Sound c new) (g : In early c d base new) where
    abbrev p : PlainLink
    p = g.plain

    abbrev was : List SegmentView
    was = old.spacecraft.accepted

    more_is : s.passes.more ≡ made (limits_of c) was (take p.r p.units)
    more_is =
        s.passes.made_is
        ∙ ap (λ (x : Config). made (limits_of x) was s.passes.segments) (sym s.passes.config ∙ k.spacecraft.config)
        ∙ ap (made (limits_of c) was) (since_is ∙ g.linked.accepted_is)

    units_made : made (limits_of c) was p.units ≡ all_submitted new
    units_made = ap (made (limits_of c) was) g.linked.units_are
        ∙ all_made c k.ranges.part.0 was new.session.submissions g.linked.given

    begins_all : IsBeginning s.passes.more (all_submitted new)
    begins_all = (
      made (limits_of c) (was ++ take p.r p.units) (drop p.r p.units),
      sym units_made
          ∙ ap (made (limits_of c) was) (sym (take-append-drop p.r p.units))
          ∙ made-append (limits_of c) was (take p.r p.units) (drop p.r p.units)
          ∙ ap (λ ps. ps ++ made (limits_of c) (was ++ take p.r p.units) (drop p.r p.units)) (sym more_is),
    )

    all_passed : new.ground_node.fop.state ≡ S1 → outstanding new.ground_node ≡ [] → s.passes.more ≡ all_submitted new
    all_passed on nothing =
        more_is
        ∙ ap (made (limits_of c) was) (take_all p.r p.units (all_accepted early c d base new g on nothing))
        ∙ units_made

pub hands_out_as_submitted : HandsOutAsSubmitted
hands_out_as_submitted w e since r b lasts fits numbers idle =
    let start : World = (world_step w e).after in
    let new : World = link_run start since in
    let out = taken start since in
    let s = since_then start since lasts in
    let begins = begins_there w e b in
    let h = link_run_holds r.config since start numbers (step_holds r.config w (past_holds w r) e fits) in
    let still : IsIdle new = ap (λ (o : Option Opening × ℕ). option_map (λ (x : Opening). x.idle) o.0) s.same ∙ idle in
    let t = h.session still in
    let k = h.sound in
    record {
      passed = s.passes.more;
      order = s.passes.ready;
      begins = in_session t (λ early g. begins_all start new out s begins early r.config t.directive t.base k g);
      complete = in_session t (λ early g. all_passed start new out s begins early r.config t.directive t.base k g);
    }
