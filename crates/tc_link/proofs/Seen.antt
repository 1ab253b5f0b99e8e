-- What a program takes on board, in terms of what it sees of a link.
use Rattle.tc_link.proofs.Common.{◌≡◌, ◌≢◌, ℕ, ◌≤◌, Bool, true, false, List, [], ◌∷◌, ◌++◌, length, take, drop}
use Rattle.tc_link.proofs.Common.{Option, Some, None, Result, Ok, Err, refl, ap, sym, subst, ◌∙◌, arith, append-nil}
use Rattle.tc_link.proofs.Common.{append_assoc, and_parts, ne_eqb, take-append-drop, option_map, AllByRecursion, inl}
use Rattle.tc_link.proofs.Common.{inr, is_closed, Config, IsConfig, IsEvent, GroundState, SegmentView, PacketOn}
use Rattle.tc_link.proofs.Common.{limits_of, Limits, LinkFault, CopFault, Alert, SimFault, Directive}
use Rattle.tc_link.proofs.Common.{InitWithoutCheck, InitWithCheck, InitUnlock, InitSetVr, is_initiation, FopOutcome}
use Rattle.tc_link.proofs.Common.{directive_step, directive_outcome, obeyed, closed_not, closed_is, Opening, Event}
use Rattle.tc_link.proofs.Common.{World, WorldOutcome, new_world, world_step, world_run, run_answers}
use Rattle.tc_link.proofs.Common.{world_after_directive, world_after_pull, IsIdle, BeginsNoSession, up_deliver_step}
use Rattle.tc_link.proofs.Common.{up_lose_step, up_damage_step, up_damage_outcome, down_deliver_step, down_lose_step}
use Rattle.tc_link.proofs.Common.{down_damage_step, down_damage_outcome, On, report_now, packet_on, begins_idle}
use Rattle.tc_link.proofs.Common.{SetVs, ◌<◌, ◌+◌, ◌==◌, take-append-le, drop-append-le, SpacecraftState, new_link}
use Rattle.tc_link.proofs.Common.{length-append, ◌/◌}
use Rattle.std.proofs.Math.Seq.{drop-length, take-add}
use Rattle.std.specs.Borrow.{Bor}
use Rattle.std.specs.Prelude.{◌^◌, ◌&&◌, is_some}
use Rattle.std.specs.List.{flat_map}
use Rattle.std.proofs.lemmas.Grind.{flat_map-append}
use Rattle.std.proofs.lemmas.Bool.{cases_Bool, eqb-true}
use Rattle.octets.specs.Beginning.{IsBeginning}
use Rattle.tc_frame.specs.Layout.{FrameView}
use Rattle.tc_frame.specs.Decoding as command
use Rattle.tm_link.specs.Decoding as telemetry_reading
use Rattle.map_service.specs.Assembly.{open_part}
use Rattle.map_service.specs.Packets.{packets_in}
use Rattle.map_service.proofs.Passage.{cuttable_from}
use Rattle.nodes.specs.Packets.{put_on_map}
use Rattle.nodes.specs.Ground as ground
use Rattle.nodes.specs.Ground.{ground_step, can_resume, known_at_end, resumed_from}
use Rattle.nodes.proofs.Resuming.{known_kept}
use Rattle.nodes.specs.declared.event.Event.TheVariants as events
use Rattle.simulated_link.specs.World.{directed, resumed, world_after_resuming, down_clcw_step, down_word_outcome}
use Rattle.simulated_link.specs.World.{is_idle, Session, world_after_submission}
use Rattle.simulated_link.specs.Replies.{ReplyView, Done, Sent, Reported, Packet, Resumed}
use Rattle.tc_link.specs.AnyPast.{HasAnyPast, Happens}
use Rattle.tc_link.specs.Seen.{IsWanted, Seen, Part, seen_step, seen_from, seen, nothing_seen, begins}
use Rattle.tc_link.specs.Seen.{has_check, is_first, is_silent, all_packets, ArePrefixes, IsSeenInOrder, EachIsSeen}
use Rattle.tc_link.specs.Seen.{is_made}
use Rattle.tc_link.specs.SeenBlocks.{EachBlockIsSeen}
use Rattle.tc_link.specs.Whole.{on_board, IsOneGroup}
use Rattle.tc_link.specs.Taken.{handed_out}
use Rattle.tc_link.proofs.Linked.{zeros_run, In, run_to, IsGiven, units_of_all, Kept}
use Rattle.simulated_link.proofs.Unchanged.{resumes, resumed_after}
use Rattle.tc_link.proofs.Resumed.{set_idle, Began, Leads, began_on, began_first, past_push, more_is, board_most}
use Rattle.tc_link.proofs.Resumed.{known_now, all_of_front}
use Rattle.map_service.proofs.Groups.{behind-each}
use Rattle.tc_link.proofs.Invariant.{session_stays, begun_is, can_off, Holding, new_holds, step_holds, early_step}
use Rattle.tc_link.proofs.Invariant.{late_step}
use Rattle.tc_link.proofs.Whole.{AllHaveMore, step_none, given_first, all_single, cut, is_cut}
use Rattle.tc_link.proofs.Taken.{passes, made, made-append, all_made, packets_of}
use Rattle.tc_link.proofs.IdleStart.{InSession, in_session}
use Rattle.tc_link.proofs.Sound.{Sound}
use Rattle.tc_link.proofs.SeenCounts.{CountsAt, counts_step, idle_seen}
use Rattle.tc_link.proofs.SeenGround.{kept_stays, sets_none, off_stays}

-- ---- what an event that begins no session changes of what was seen

-- the submission that an event makes
abbrev submitted_by : Event → Result ReplyView SimFault → List PacketOn
submitted_by (events.Submit m octets) (Ok Done) = packet_on m octets.now ∷ []
submitted_by _ _ = []

abbrev BeginsNone : Event → Result ReplyView SimFault → Type 0
BeginsNone (events.Directive d) (Ok Done) = is_initiation d ≡ false
BeginsNone (events.Resume value) (Ok (Resumed whole)) = ⊥
BeginsNone _ _ = Unit {0}

record Keeps (s : Seen) (out more : List PacketOn) (t : Seen) : Type 0 where
  before : t.before ≡ s.before
  from : t.session.from ≡ s.session.from
  submissions : t.session.submissions ≡ s.session.submissions ++ more
  taken : t.taken ≡ s.taken ++ out
  idle : t.idle ≡ s.idle
  resumed : t.resumed ≡ s.resumed

module _ (s : Seen) where
  none_out : s.taken ≡ s.taken ++ []
  none_out = sym (append-nil s.taken)

  no_more : s.session.submissions ≡ s.session.submissions ++ []
  no_more = sym (append-nil s.session.submissions)

  keeps : (e : Event) (a : Result ReplyView SimFault) → BeginsNone e a
      → Keeps s (handed_out e a) (submitted_by e a) (seen_step s e a)
  keeps (events.Submit m octets) (Ok Done) goes = assumption none_out
  keeps (events.Directive d) (Ok Done) goes = rw goes (assumption (none_out, no_more))
  keeps (events.Resume value) (Ok (Resumed whole)) goes = elim goes [ ]
  keeps events.Send (Ok (Sent octets)) goes = assumption (none_out, no_more)
  keeps events.UpDeliver (Ok reply) goes = assumption (none_out, no_more)
  keeps events.UpLose (Ok reply) goes = assumption (none_out, no_more)
  keeps (events.UpDamage octets) (Ok reply) goes = assumption (none_out, no_more)
  keeps events.Report (Ok (Reported report)) goes = assumption (none_out, no_more)
  keeps events.DownDeliver (Ok reply) goes = assumption (none_out, no_more)
  keeps events.DownLose (Ok reply) goes = assumption (none_out, no_more)
  keeps (events.DownDamage octets) (Ok reply) goes = assumption (none_out, no_more)
  keeps events.DownClcw (Ok reply) goes = assumption (none_out, no_more)
  keeps events.Take (Ok (Packet packet)) goes = assumption no_more
  keeps _ _ goes = assumption (none_out, no_more)

-- ---- with another opening of the session, each event that begins none does the same

module _ (o : Option Opening) where
  abbrev opened_as : World → World
  opened_as w = record w { session = record w.session { opening = o } }

  module _ (w : World) where
    abbrev Same : Event → WorldOutcome → WorldOutcome → Type 0
    Same e a b = (b.after ≡ opened_as a.after)
        × (a.after.session.submissions ≡ w.session.submissions ++ submitted_by e a.answer) × BeginsNone e a.answer

    none_more : w.session.submissions ≡ w.session.submissions ++ []
    none_more = sym (append-nil w.session.submissions)

    on_way : (e : Event) (step : World → List (List ℕ) → WorldOutcome) → Same e (step w []) (step (opened_as w) [])
        → ((b : List ℕ) (bs : List (List ℕ)) → Same e (step w (b ∷ bs)) (step (opened_as w) (b ∷ bs)))
        → (way : List (List ℕ)) → Same e (step w way) (step (opened_as w) way)
    on_way e step nothing each [] = nothing
    on_way e step nothing each (b ∷ bs) = each b bs

    on_result : {A B : Type 0} (e : Event) (step : World → Result A B → WorldOutcome)
        → ((x : A) → Same e (step w (Ok x)) (step (opened_as w) (Ok x)))
        → ((x : B) → Same e (step w (Err x)) (step (opened_as w) (Err x))) → (r : Result A B)
        → Same e (step w r) (step (opened_as w) r)
    on_result e step ok err (Ok x) = ok x
    on_result e step ok err (Err x) = err x

    submitted_same : (m : ℕ) (octets : Bor (List ℕ)) (next : GroundState) (r : Result (Unit {0}) LinkFault)
        → Same (events.Submit m octets)
        (world_after_submission w (packet_on m octets.now) (record { answer = r; after = next }))
        (world_after_submission (opened_as w) (packet_on m octets.now) (record { answer = r; after = next }))
    submitted_same m octets next (Ok done) = (refl, refl, tt)
    submitted_same m octets next (Err fault) = (refl, refl, tt)

    pulled_same : (next : GroundState) (frame : Option FrameView)
        → Same events.Send (world_after_pull w next frame) (world_after_pull (opened_as w) next frame)
    pulled_same next None = (refl, none_more, tt)
    pulled_same next (Some frame) = (refl, none_more, tt)

    abbrev Directed : Directive → FopOutcome SegmentView (Result (Option Alert) CopFault) → Type 0
    Directed d x = BeginsNoSession w (events.Directive d)
        → Same (events.Directive d) (world_after_directive w d (directive_outcome w.ground_node d x))
        (world_after_directive (opened_as w) d (directive_outcome w.ground_node d x))

    directed_same : (d : Directive) → Directed d (directive_step w.ground_node.fop d)
    directed_same = obeyed w.ground_node.fop Directed (record {
      refused = λ d fault on goes. (refl, none_more, tt);
      begins = λ d is off goes. closed_not w.ground_node.fop.state off (goes is);
      terminated = λ goes. (refl, none_more, tt);
      numbers = λ x is goes. (refl, none_more, refl);
      sets = λ d k n ticks plain most goes. rw plain
          (refl, none_more, refl);
    })

    resuming_same : (value : ℕ) (o : Option ℕ) → is_some o ≡ false
        → let answer = (resumed_from w.ground_node value o).answer in Same (events.Resume value)
        (world_after_resuming w value answer) (world_after_resuming (opened_as w) value answer)
    resuming_same value (Some whole) none = absurd (cc none)
    resuming_same value None none = (refl, none_more, tt)

    same_after : (e : Event) → BeginsNoSession w e → Same e (world_step w e) (world_step (opened_as w) e)
    same_after (events.Submit m octets) goes =
        let x = ground_step w.ground_node (ground.Submit m octets.now) in submitted_same m octets x.after x.answer
    same_after (events.Directive d) goes = directed_same d goes
    same_after (events.Resume value) goes = resuming_same value (known_at_end w.ground_node value) goes
    same_after events.Send goes =
        let x = ground_step w.ground_node ground.Pull in pulled_same x.after x.answer
    same_after events.UpDeliver goes =
        on_way events.UpDeliver up_deliver_step (refl, none_more, tt) (λ b bs. (refl, none_more, tt)) w.up
    same_after events.UpLose goes =
        on_way events.UpLose up_lose_step (refl, none_more, tt) (λ b bs. (refl, none_more, tt)) w.up
    same_after (events.UpDamage octets) goes =
        on_way (events.UpDamage octets) (λ v bs. up_damage_step v bs octets.now) (refl, none_more, tt)
        (λ b bs. on_result (events.UpDamage octets) (λ v. up_damage_outcome v bs) (λ x. (refl, none_more, tt))
        (λ x. (refl, none_more, tt)) (command.frame_at On octets.now)) w.up
    same_after events.DownDeliver goes =
        on_way events.DownDeliver down_deliver_step (refl, none_more, tt) (λ b bs. (refl, none_more, tt)) w.down
    same_after events.DownLose goes =
        on_way events.DownLose down_lose_step (refl, none_more, tt) (λ b bs. (refl, none_more, tt)) w.down
    same_after (events.DownDamage octets) goes =
        on_way (events.DownDamage octets) (λ v bs. down_damage_step v bs octets.now) (refl, none_more, tt)
        (λ b bs. on_result (events.DownDamage octets) (λ v. down_damage_outcome v bs) (λ x. (refl, none_more, tt))
        (λ x. (refl, none_more, tt))
        (telemetry_reading.frame_at w.ground_node.config.frame_length octets.now)) w.down
    same_after events.DownClcw goes =
        on_way events.DownClcw down_clcw_step (refl, none_more, tt)
        (λ b bs. on_result events.DownClcw (λ v. down_word_outcome v bs) (λ x. (refl, none_more, tt))
        (λ x. (refl, none_more, tt)) (telemetry_reading.frame_at w.ground_node.config.frame_length b)) w.down
    same_after _ goes = (refl, none_more, tt)

    goes_same : (e : Event) → BeginsNoSession w e → BeginsNoSession (opened_as w) e
    goes_same (events.Directive d) goes = goes
    goes_same (events.Resume value) goes = goes
    goes_same _ goes = tt

  session_on : (c : Config) (w : World) → Sound c w → (e : Event) → IsEvent e → BeginsNoSession w e
      → InSession c (opened_as w) → InSession c (opened_as (world_step w e).after)
  session_on c w sound e fits goes s =
      let v : World = opened_as w in
      let k : Sound c v = assumption sound in
      let goes_so = goes_same w e goes in
      subst (InSession c) (same_after w e goes).0 (record {
        directive = s.directive;
        base = s.base;
        session = elim s.session [
          | inl g ↦ early_step c s.directive s.base v k g e fits goes_so
          | inr g ↦ inr (run_to g (late_step c s.directive s.base v k g e fits goes_so))
        ];
      })

-- ---- prefixes of each session's submissions

push_prefix : (xs ys : List PacketOn) (parts : List Part) (part : Part) → ArePrefixes xs parts
    → IsBeginning ys (all_packets part.submissions) → ArePrefixes (xs ++ ys) (parts ++ part ∷ [])
push_prefix xs ys [] part all begins = (ys, [], ap (λ zs. zs ++ ys) all ∙ sym (append-nil ys), begins, refl)
push_prefix xs ys (p ∷ parts) part all begins = (
  all.0,
  all.1 ++ ys,
  ap (λ zs. zs ++ ys) all.2 ∙ append_assoc all.0 all.1 ys,
  all.3,
  push_prefix all.1 ys parts part all.4 begins,
)

all_parts : {X : Type 0} (P : X → Type 0) (xs : List X) (x : X) → AllByRecursion P (xs ++ x ∷ [])
    → AllByRecursion P xs × P x
all_parts P [] x all = (tt, all.0)
all_parts P (y ∷ ys) x all = let t = all_parts P ys x all.1 in ((all.0, t.0), t.1)

none_of : {X : Type 0} (xs : List X) → length xs ≡ 0 → xs ≡ []
none_of [] is = refl
none_of (x ∷ xs) is = absurd (omega (arith, is))

no_front : {X : Type 0} (xs ys : List X) → xs ++ ys ≡ [] → xs ≡ []
no_front [] ys is = refl
no_front (x ∷ xs) ys is = absurd cc

-- what follows the first ones of a list, once they are all that a part of it has delivered
pieces_on : (wanted parts : List PacketOn) (from n : ℕ) → n ≤ length parts → IsBeginning parts (drop from wanted)
    → take from wanted ++ take n parts ≡ take (from + n) wanted
pieces_on wanted parts from n le begins =
    ap (λ (xs : List PacketOn). take from wanted ++ xs)
    (sym (ap (take n) begins.1 ∙ take-append-le n parts begins.0 le))
    ∙ sym (take-add from n wanted)

-- without blocking each submission is one packet
all_one : (c : Config) → c.blocking ≢ 1 → (one : 1 ≤ c.part) → (ps : List PacketOn) → AllByRecursion (IsGiven c) ps
    → flat_map (packets_of c one) ps ≡ ps
all_one c without one [] h = refl
all_one c without one (p ∷ ps) h =
    let only : packets_in p.octets ≡ p.octets ∷ [] =
    (cuttable_from (limits_of c) p.octets h.0.cut).one (ne_eqb c.blocking 1 without) in
    ap (λ (qs : List (List ℕ)). put_on_map p.on_map qs ++ flat_map (packets_of c one) ps) only
    ∙ ap (λ (qs : List PacketOn). p ∷ qs) (all_one c without one ps h.1)

-- How submissions that are wanted are counted as packets. Without blocking each submission is one packet. In any run,
-- each may be one group.
pub record Counting (c : Config) (wanted : List PacketOn) : Type 0 where
  pub packets : List PacketOn → List PacketOn
  pub none : packets [] ≡ []
  pub append : (xs ys : List PacketOn) → packets (xs ++ ys) ≡ packets xs ++ packets ys
  pub are : (ps : List PacketOn) → AllByRecursion (IsGiven c) ps → all_packets ps ≡ packets ps
  pub single : (ps : List PacketOn) (from : ℕ) → AllByRecursion (IsGiven c) ps → IsBeginning ps (drop from wanted)
      → AllByRecursion (IsOneGroup c.part) ps

abbrev without_blocking : (c : Config) → c.blocking ≢ 1 → 1 ≤ c.part → (wanted : List PacketOn) → Counting c wanted
without_blocking c without one wanted = record {
  packets = λ ps. ps;
  none = refl;
  append = λ xs ys. refl;
  are = all_one c without one;
  single = λ ps from given begins. all_single c without ps given;
}

abbrev by_groups : (c : Config) (wanted : List PacketOn) → AllByRecursion (IsOneGroup c.part) wanted → Counting c wanted
by_groups c wanted single = record {
  packets = all_packets;
  none = refl;
  append = flat_map-append (λ (p : PacketOn). put_on_map p.on_map (packets_in p.octets));
  are = λ ps given. refl;
  single = λ ps from given begins. all_of_front (IsOneGroup c.part) ps begins.0
      (subst (AllByRecursion (IsOneGroup c.part)) begins.1 (behind-each (IsOneGroup c.part) from wanted single));
}

-- segments whose group continues after them yield nothing
made_none : (limits : Limits) (before segments : List SegmentView) → AllHaveMore segments
    → made limits before segments ≡ []
made_none limits before [] h = refl
made_none limits before (s ∷ segments) h =
    rw (step_none limits (open_part limits s.header.map before) s h.0)
    (made_none limits (before ++ s ∷ []) segments h.1)

-- ---- all sessions

abbrev passed : Config → World → List PacketOn
passed c w = made (limits_of c) (take w.session.before w.spacecraft.accepted)
    (drop w.session.before w.spacecraft.accepted)

abbrev Small : List PacketOn → Type 0
Small wanted = length wanted < 2 ^ 64

record Sessions (c : Config) (s : Seen) (w : World) : Type 0 where
  opening : Option Opening
  session : InSession c (opened_as opening w)
  submits : s.session.submissions ≡ w.session.submissions
  delivered : List PacketOn
  prefixes : ArePrefixes delivered s.before
  ready : s.taken ++ w.spacecraft.ready ≡ delivered ++ passed c w
  -- the ground knows what is on board only since the session began
  since : w.ground_node.fates.kept ≡ true → Began c w
  once : (wanted : List PacketOn) (k : Counting c wanted) → Small wanted → AllByRecursion (IsWanted wanted) s.before
      → s.resumed ≡ true → delivered ≡ k.packets (take s.session.from wanted)
  -- before the first session the sender is in S6, and nothing is submitted
  none_yet : s.before ≡ [] → (is_closed w.ground_node.fop.state ≡ true) × (s.session.submissions ≡ [])

record Tracks (c : Config) (s : Seen) (w : World) : Type 0 where
  holds : Holding c w
  counts : CountsAt c s w.up w.down (report_now w)
  sessions : s.idle ≡ true → Sessions c s w
  past : (p : HasAnyPast w) × (p.config ≡ c)

module _ (c : Config) where
  -- the packets of this session are first ones of its submissions
  module _ (w : World) (k : Sound c w) (o : Option Opening) where
    first_in : (early : Bool) (d : Directive) (base : ℕ) → In early c d base (opened_as o w)
        → IsBeginning (passed c w) (all_packets w.session.submissions)
    first_in early d base g =
        let p = g.plain in
        let was : List SegmentView = take w.session.before w.spacecraft.accepted in
        let one = k.ranges.part.0 in
        let lims : Limits = limits_of c in (
          made lims (was ++ take p.r p.units) (drop p.r p.units),
          sym (all_made c one was w.session.submissions g.linked.given)
              ∙ ap (made lims was) (sym g.linked.units_are ∙ sym (take-append-drop p.r p.units))
              ∙ made-append lims was (take p.r p.units) (drop p.r p.units)
              ∙ ap (λ xs. made lims was xs ++ made lims (was ++ take p.r p.units) (drop p.r p.units))
              (sym g.linked.accepted_is),
        )

  are_first : (s : Seen) (w : World) → Sound c w → (t : Sessions c s w)
      → IsBeginning (passed c w) (all_packets s.session.submissions)
  are_first s w k t =
      rw t.submits (in_session t.session (λ early g. first_in w k t.opening early t.session.directive t.session.base g))

  in_order : (s : Seen) (w : World) → Sound c w → Sessions c s w → IsSeenInOrder s
  in_order s w k t = (
    t.delivered ++ passed c w,
    push_prefix t.delivered (passed c w) s.before s.session t.prefixes (are_first s w k t),
    (w.spacecraft.ready, sym t.ready),
  )

module _ (c : Config) (wanted : List PacketOn) (k : Counting c wanted) where
  -- the packets are those of the submissions that are on board whole
  module _ (w : World) (sure : Sound c w) (o : Option Opening) where
    counted_in : (early : Bool) (d : Directive) (base : ℕ) → In early c d base (opened_as o w)
        → all_packets w.session.submissions ≡ k.packets w.session.submissions
    counted_in early d base g = k.are w.session.submissions g.linked.given

    whole_in : (from : ℕ) → IsBeginning w.session.submissions (drop from wanted) → (early : Bool) (d : Directive)
        (base : ℕ) → In early c d base (opened_as o w)
        → passed c w ≡ k.packets (take (on_board w) w.session.submissions)
    whole_in from begins early d base g =
        let v : World = opened_as o w in
        let sound : Sound c v = assumption sure in
        let t = cut early c d base v g sound in
        let ps : List PacketOn = take t.whole w.session.submissions in
        let was : List SegmentView = take w.session.before w.spacecraft.accepted in
        let one = sure.ranges.part.0 in
        let lims : Limits = limits_of c in
        let given = given_first c t.whole w.session.submissions g.linked.given in
        let more = t.more (k.single w.session.submissions from g.linked.given begins) in
        ap (made lims was) (g.linked.accepted_is ∙ ap (take g.plain.r) g.linked.units_are ∙ t.taken)
        ∙ made-append lims was (units_of_all c ps) t.part
        ∙ ap (λ xs. made lims was (units_of_all c ps) ++ xs) (made_none lims (was ++ units_of_all c ps) t.part more)
        ∙ append-nil (made lims was (units_of_all c ps))
        ∙ all_made c one was ps given
        ∙ k.are ps given
        ∙ ap (λ (n : ℕ). k.packets (take n w.session.submissions)) (sym (is_cut early c d base v g sound))

  are_counted : (s : Seen) (w : World) → Sound c w → (t : Sessions c s w)
      → all_packets s.session.submissions ≡ k.packets s.session.submissions
  are_counted s w sure t =
      rw t.submits (in_session t.session (λ early g. counted_in w sure t.opening early t.session.directive
      t.session.base g))

  are_whole : (s : Seen) (w : World) → Sound c w → (t : Sessions c s w) (from : ℕ)
      → IsBeginning w.session.submissions (drop from wanted)
      → passed c w ≡ k.packets (take (on_board w) w.session.submissions)
  are_whole s w sure t from begins =
      in_session t.session (λ early g. whole_in w sure t.opening from begins early t.session.directive t.session.base g)

  -- what was taken is first packets of what is wanted
  in_all : (s : Seen) (w : World) → Sound c w → Sessions c s w → Small wanted
      → AllByRecursion (IsWanted wanted) (s.before ++ s.session ∷ []) → s.resumed ≡ true
      → IsBeginning s.taken (k.packets wanted)
  in_all s w sure t small all so =
      let parts = all_parts (IsWanted wanted) s.before s.session all in
      let first : IsBeginning (passed c w) (k.packets s.session.submissions) =
      subst (IsBeginning (passed c w)) (are_counted s w sure t) (are_first c s w sure t) in
      let given = t.once wanted k small parts.0 so in
      let later : List PacketOn = k.packets parts.1.0 in
      let rest : List PacketOn = first.0 ++ later in (
        w.spacecraft.ready ++ rest,
        ap k.packets (sym (take-append-drop s.session.from wanted))
            ∙ k.append (take s.session.from wanted) (drop s.session.from wanted)
            ∙ ap (λ xs. xs ++ k.packets (drop s.session.from wanted)) (sym given)
            ∙ ap (λ xs. t.delivered ++ xs) (ap k.packets parts.1.1 ∙ k.append s.session.submissions parts.1.0
            ∙ ap (λ xs. xs ++ later) first.1 ∙ append_assoc (passed c w) first.0 later)
            ∙ sym (append_assoc t.delivered (passed c w) rest)
            ∙ ap (λ xs. xs ++ rest) (sym t.ready)
            ∙ append_assoc s.taken w.spacecraft.ready rest,
      )

-- ---- a session begins

checked_idle : (w : World) (d : Directive) → is_initiation d ≡ true → has_check d ≡ true → is_idle w ≡ true
    → begins_idle w d ≡ true
checked_idle w InitWithoutCheck is check idle = absurd cc
checked_idle w InitWithCheck is check idle = idle
checked_idle w InitUnlock is check idle = idle
checked_idle w (InitSetVr x) is check idle = idle
checked_idle w _ is check idle = absurd cc

module _ (w : World) where
  abbrev Answers : Directive → FopOutcome SegmentView (Result (Option Alert) CopFault) → Type 0
  Answers d o = is_initiation d ≡ true → is_closed w.ground_node.fop.state ≡ true
      → (world_after_directive w d (directive_outcome w.ground_node d o)).answer ≡ Ok Done

  begun_answer : (d : Directive) → Answers d (directive_step w.ground_node.fop d)
  begun_answer = obeyed w.ground_node.fop Answers (record {
    refused = λ d fault on is off. absurd (on is (closed_is w.ground_node.fop.state off));
    begins = λ d is off so closed. refl;
    terminated = λ is off. absurd cc;
    numbers = λ x same is off. absurd cc;
    sets = λ d k n ticks plain most is off. absurd (cc (plain, is));
  })

passed_grows : (limits : Limits) (n : ℕ) (old more : List SegmentView) → n ≤ length old
    → made limits (take n (old ++ more)) (drop n (old ++ more))
    ≡ made limits (take n old) (drop n old) ++ made limits old more
passed_grows limits n old more le =
    rw (take-append-le n old more le, drop-append-le n old more le)
    (made-append limits (take n old) (drop n old) more
    ∙ ap (λ xs. made limits (take n old) (drop n old) ++ made limits xs more) (take-append-drop n old))

passed_none : (limits : Limits) (n : ℕ) (old : List SegmentView) → n ≡ length old
    → made limits (take n old) (drop n old) ≡ []
passed_none limits n old is =
    ap (made limits (take n old)) (ap (λ (m : ℕ). drop m old) is ∙ drop-length old)

-- nothing is submitted in S6
none_submitted : (w : World) (e : Event) → is_closed w.ground_node.fop.state ≡ true
    → submitted_by e (world_step w e).answer ≡ []
none_submitted w (events.Submit m octets) off = rw off refl
none_submitted w _ off = refl

module _ (c : Config) (s : Seen) (w : World) (t : Tracks c s w) where
  -- no session begins
  goes_sessions : (e : Event) → IsEvent e → BeginsNoSession w e
      → (seen_step s e (world_step w e).answer).idle ≡ true
      → Sessions c (seen_step s e (world_step w e).answer) (world_step w e).after
  goes_sessions e fits goes idle =
      let new : World = (world_step w e).after in
      let x = same_after w.session.opening w e goes in
      let k = keeps s e (world_step w e).answer x.2 in
      let was = t.sessions (sym k.idle ∙ idle) in
      let p = passes w e in
      let out : List PacketOn = handed_out e (world_step w e).answer in
      let grown : passed c new ≡ passed c w ++ p.more =
      ap (λ (n : ℕ). made (limits_of c) (take n new.spacecraft.accepted) (drop n new.spacecraft.accepted))
      (ap (λ (o : Option Opening × ℕ). o.1) (session_stays w e goes))
      ∙ ap (λ (xs : List SegmentView). made (limits_of c) (take w.session.before xs) (drop w.session.before xs))
      p.accepted
      ∙ passed_grows (limits_of c) w.session.before w.spacecraft.accepted p.segments t.holds.sound.before
      ∙ ap (λ (x : Config). passed c w ++ made (limits_of x) w.spacecraft.accepted p.segments)
      (sym t.holds.sound.spacecraft.config)
      ∙ ap (λ (xs : List PacketOn). passed c w ++ xs) (sym p.made_is) in
      record {
        opening = was.opening;
        session = session_on was.opening c w t.holds.sound e fits goes was.session;
        submits = k.submissions ∙ ap (λ xs. xs ++ submitted_by e (world_step w e).answer) was.submits
            ∙ sym x.1;
        delivered = was.delivered;
        prefixes = subst (ArePrefixes was.delivered) (sym k.before) was.prefixes;
        ready = ap (λ (xs : List PacketOn). xs ++ new.spacecraft.ready) k.taken
            ∙ append_assoc s.taken out new.spacecraft.ready
            ∙ ap (λ (xs : List PacketOn). s.taken ++ xs) p.ready
            ∙ sym (append_assoc s.taken w.spacecraft.ready p.more)
            ∙ ap (λ (xs : List PacketOn). xs ++ p.more) was.ready
            ∙ append_assoc was.delivered (passed c w) p.more
            ∙ ap (λ (xs : List PacketOn). was.delivered ++ xs) (sym grown);
        since = λ kept.
            began_on c w (was.since (kept_stays w e goes kept)) (Happens e) goes (sets_none w e kept) fits;
        once = λ wanted counting small all so.
            was.once wanted counting small (subst (AllByRecursion (IsWanted wanted)) k.before all) (sym k.resumed ∙ so)
            ∙ ap (λ (n : ℕ). counting.packets (take n wanted)) (sym k.from);
        none_yet = λ none.
            let off = was.none_yet (sym k.before ∙ none) in (
              off_stays w off.0 e goes,
              k.submissions ∙ ap (λ xs. xs ++ submitted_by e (world_step w e).answer) off.1
                  ∙ none_submitted w e off.0,
            );
      }

  abbrev NowOnce : ℕ → Bool → Sessions c s w → Type 0
  NowOnce from resumed was = (wanted : List PacketOn) (k : Counting c wanted) → Small wanted
      → AllByRecursion (IsWanted wanted) (s.before ++ s.session ∷ []) → s.resumed && resumed ≡ true
      → was.delivered ++ passed c w ≡ k.packets (take from wanted)

  -- a session begins at this world, with the receiver as it was
  begun_sessions : (v : World) (d : Directive) (from : ℕ) (idle resumed : Bool) → v.spacecraft ≡ w.spacecraft
      → Holding c (directed v d) → is_initiation d ≡ true → is_closed v.ground_node.fop.state ≡ true
      → has_check d ≡ true → is_idle v ≡ true → s.idle ≡ true → (IsIdle (directed v d) → Began c (directed v d))
      → ((was : Sessions c s w) → NowOnce from resumed was)
      → Sessions c (begins s from idle resumed) (directed v d)
  begun_sessions v d from idle resumed board h is off check quiet so began once =
      let was = t.sessions so in
      let new : World = directed v d in
      let begun = begun_is v d is off in
      let starts : IsIdle new = ap (λ (s : Session). option_map (λ (o : Opening). o.idle) s.opening) begun
      ∙ ap Some (checked_idle v d is check quiet) in
      let first : new.session.before ≡ length new.spacecraft.accepted = ap (λ (s : Session). s.before) begun in
      record {
        opening = new.session.opening;
        session = h.session starts;
        submits = sym (ap (λ (s : Session). s.submissions) begun);
        delivered = was.delivered ++ passed c w;
        prefixes = push_prefix was.delivered (passed c w) s.before s.session was.prefixes
            (are_first c s w t.holds.sound was);
        ready = ap (λ (x : SpacecraftState). s.taken ++ x.ready) board ∙ was.ready
            ∙ sym (append-nil (was.delivered ++ passed c w))
            ∙ ap (λ (xs : List PacketOn). (was.delivered ++ passed c w) ++ xs)
            (sym (passed_none (limits_of c) new.session.before new.spacecraft.accepted first));
        since = λ kept. began starts;
        once = once was;
        none_yet = λ none. absurd (omega (arith, ap length none, length-append s.before (s.session ∷ [])));
      }

  -- a silent link is idle
  idle_there : (idle : Bool) → s.idle && (idle && is_silent s) ≡ true
      → (s.idle ≡ true) × (idle ≡ true) × (is_idle w ≡ true)
  idle_there idle all =
      let both = and_parts s.idle (idle && is_silent s) all in
      let rest = and_parts idle (is_silent s) both.1 in
      let none = and_parts (s.up == 0) (s.old == 0) rest.1 in
      (both.0, rest.0, idle_seen c s w t.holds t.counts (eqb-true s.up 0 none.0) (eqb-true s.old 0 none.1))

  -- before the first session nothing was delivered
  first_once : (was : Sessions c s w) → NowOnce 0 (is_first s) was
  first_once was wanted k small all so =
      let first = and_parts s.resumed (is_first s) so in
      let none : s.before ≡ [] = none_of s.before (eqb-true (length s.before) 0 first.1) in
      let gone : was.delivered ≡ [] = subst (ArePrefixes was.delivered) none was.prefixes in
      let front = are_first c s w t.holds.sound was in
      let nothing : passed c w ≡ [] =
      no_front (passed c w) front.0 (sym front.1 ∙ ap all_packets (was.none_yet none).1) in
      ap (λ xs. xs ++ passed c w) gone ∙ nothing ∙ sym k.none

  directed_sessions : (d : Directive) → IsEvent (events.Directive d)
      → (seen_step s (events.Directive d) (world_step w (events.Directive d)).answer).idle ≡ true
      → Sessions c (seen_step s (events.Directive d) (world_step w (events.Directive d)).answer) (directed w d)
  directed_sessions d fits = elim (cases_Bool (is_initiation d)) [
    | inl is ↦ (elim (cases_Bool (is_closed w.ground_node.fop.state)) [
      | inl off ↦
          rw (begun_answer w d is off, is) (λ idle.
          let at = idle_there (has_check d) idle in
          begun_sessions w d 0 (has_check d) (is_first s) refl (step_holds c w t.holds (events.Directive d) fits) is off
          at.1 at.2 at.0 (λ starts. began_first c w t.past.0 t.past.1 (events.Directive d) (is, off) fits starts)
          first_once)
      | inr on ↦ goes_sessions (events.Directive d) fits (λ same. on)
    ])
    | inr other ↦ goes_sessions (events.Directive d) fits (λ same. absurd (cc (same, other)))
  ]

  made_value : (o : Option ℕ) (value : ℕ) → is_made o value ≡ true → o ≡ Some value
  made_value None value is = absurd cc
  made_value (Some v) value is = ap Some (eqb-true v value is)

  module _ (value : ℕ) (fits : value < 256) (whole : ℕ) (known : known_at_end w.ground_node value ≡ Some whole)
    where
      can : can_resume w.ground_node value ≡ true
      can = ap is_some known

      kept_now : w.ground_node.fates.kept ≡ true
      kept_now = known_kept w.ground_node value whole (known_now w.ground_node value whole known)

      resumed_once : (was : Sessions c s w) → NowOnce (s.session.from + whole) (is_made s.made value) was
      resumed_once was wanted k small all so =
          let both = and_parts s.resumed (is_made s.made value) so in
          let parts = all_parts (IsWanted wanted) s.before s.session all in
          let now = (t.counts.made_is value (made_value s.made value both.1)).1 in
          let next : IsBeginning w.session.submissions (drop s.session.from wanted) =
          subst (λ (ps : List PacketOn). IsBeginning ps (drop s.session.from wanted)) was.submits parts.1 in
          let l : Leads c wanted w s.session.from = record { began = was.since kept_now; submits = next } in
          let counted = more_is c wanted w s.session.from l small value whole now
          (ap (λ (o : Option ℕ). (resumed_from w.ground_node value o).answer) known) in
          ap (λ xs. xs ++ passed c w) (was.once wanted k small parts.0 both.0)
          ∙ ap (λ xs. k.packets (take s.session.from wanted) ++ xs)
          (are_whole c wanted k s w t.holds.sound was s.session.from next)
          ∙ sym (k.append (take s.session.from wanted) (take (on_board w) w.session.submissions))
          ∙ ap k.packets (pieces_on wanted w.session.submissions s.session.from (on_board w)
          (board_most c wanted w s.session.from l small) next
          ∙ ap (λ (n : ℕ). take (s.session.from + n) wanted) (sym counted))

      resumed_sessions : s.idle && (true && is_silent s) ≡ true
          → Sessions c (begins s (s.session.from + whole) true (is_made s.made value)) (resumed w value)
      resumed_sessions idle =
          let at = idle_there true idle in
          let set : World = directed w (SetVs value) in
          let h = step_holds c w t.holds (events.Directive (SetVs value)) fits in
          let off : is_closed set.ground_node.fop.state ≡ true =
          let so = can_off w.ground_node value can in rw so refl in
          let same : (world_step w (events.Resume value)).after ≡ resumed w value = resumed_after w value can in
          begun_sessions set InitUnlock (s.session.from + whole) true (is_made s.made value) refl
          (step_holds c set h (events.Directive InitUnlock) tt) refl off refl
          (set_idle c w t.holds value fits at.2) at.0
          (λ starts. subst (Began c) same
          (began_first c w t.past.0 t.past.1 (events.Resume value) can fits (subst IsIdle (sym same) starts)))
          resumed_once

  abbrev Resumes : ℕ → WorldOutcome → Type 0
  Resumes value o = (seen_step s (events.Resume value) o.answer).idle ≡ true
      → Sessions c (seen_step s (events.Resume value) o.answer) o.after

  resume_sessions : (value : ℕ) → value < 256 → Resumes value (world_step w (events.Resume value))
  resume_sessions value fits =
      resumes w value (Resumes value) t.sessions (λ whole known can. resumed_sessions value fits whole known)

  sessions_step : (e : Event) → IsEvent e → (seen_step s e (world_step w e).answer).idle ≡ true
      → Sessions c (seen_step s e (world_step w e).answer) (world_step w e).after
  sessions_step (events.Directive d) fits = directed_sessions d fits
  sessions_step (events.Resume value) fits = resume_sessions value fits
  sessions_step e fits = goes_sessions e fits tt

  step_tracks : (e : Event) → IsEvent e → Tracks c (seen_step s e (world_step w e).answer) (world_step w e).after
  step_tracks e fits = record {
    holds = step_holds c w t.holds e fits;
    counts = counts_step c s w t.holds t.counts e;
    sessions = sessions_step e fits;
    past = past_push c w t.past.0 t.past.1 (Happens e) fits;
  }

-- ---- a run

new_session : (c : Config) → IsConfig c → Sessions c nothing_seen (new_world c)
new_session c ranges =
    let octet : 0 < 256 = omega arith in
    let least : 0 ≤ 0 = omega arith in
    let most : 0 ≤ 0 + c.width / 2 = omega arith in
    let kept : Kept 0 0 0 0 0 = inr refl in
    record {
      opening = Some (record { directive = InitWithoutCheck; clean = false; idle = true });
      session = record {
        directive = InitWithoutCheck;
        base = 0;
        session = inr (record {
          plain = new_link;
          ran = zeros_run [];
          front = false;
          frames = [];
          reports = [];
          linked = assumption (octet, least, most, kept);
          stage = record {
            late = tt;
            confirmed_is = λ checked. absurd (checked.1 refl);
            confirmed_so = λ e. cc;
            vr_is = refl;
            first = λ e. cc;
            down_is = tt;
            calm = λ checked. absurd (checked.1 refl);
          };
        });
      };
      submits = refl;
      delivered = [];
      prefixes = refl;
      ready = refl;
      since = λ kept. cc kept;
      once = λ wanted k small all so. sym k.none;
      none_yet = λ none. (refl, refl);
    }

new_tracks : (c : Config) → IsConfig c → Tracks c nothing_seen (new_world c)
new_tracks c ranges = record {
  holds = new_holds c ranges;
  counts = record { up_is = refl; down_is = refl; later = λ none. tt; made_is = λ v made. cc made };
  sessions = λ idle. new_session c ranges;
  past = (record { config = c; ranges = ranges; steps = []; numbers = tt; led = refl }, refl);
}

run_tracks : (c : Config) (es : List Event) (s : Seen) (w : World) → AllByRecursion IsEvent es → Tracks c s w
    → Tracks c (seen_from s es (run_answers w es)) (world_run w es)
run_tracks c [] s w fits t = t
run_tracks c (e ∷ es) s w fits t =
    run_tracks c es (seen_step s e (world_step w e).answer) (world_step w e).after fits.1
    (step_tracks c s w t e fits.0)

-- of any run
module _ (c : Config) (events : List Event) (ranges : IsConfig c) (all : AllByRecursion IsEvent events) where
  abbrev was_seen : Seen
  was_seen = seen events (run_answers (new_world c) events)

  abbrev led : World
  led = world_run (new_world c) events

  tracked : Tracks c was_seen led
  tracked = run_tracks c events nothing_seen (new_world c) all (new_tracks c ranges)

  seen_once : (wanted : List PacketOn) (k : Counting c wanted) → was_seen.idle ≡ true → Small wanted
      → AllByRecursion (IsWanted wanted) (was_seen.before ++ was_seen.session ∷ []) → was_seen.resumed ≡ true
      → IsBeginning was_seen.taken (k.packets wanted)
  seen_once wanted k idle = in_all c wanted k was_seen led tracked.holds.sound (tracked.sessions idle)

pub each_is_seen : EachIsSeen
each_is_seen c events ranges all idle =
    let t = tracked c events ranges all in (
      in_order c (was_seen c events ranges all) (led c events ranges all) t.holds.sound (t.sessions idle),
      λ without wanted. seen_once c events ranges all wanted (without_blocking c without ranges.part.0 wanted) idle,
    )

pub each_block_is_seen : EachBlockIsSeen
each_block_is_seen c events ranges all idle wanted small single =
    seen_once c events ranges all wanted (by_groups c wanted single) idle small
