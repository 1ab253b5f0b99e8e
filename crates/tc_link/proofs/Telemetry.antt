-- Telemetry over a run: what each event does to it, what holds at every moment, and how the promises follow.
use Rattle.tc_link.proofs.Common.{◌≡◌, ℕ, Bool, true, false, if◌then◌else◌, not, List, [], ◌∷◌, ◌++◌, length, drop}
use Rattle.tc_link.proofs.Common.{refl, sym, ap, subst, ◌∙◌, arith, append_assoc, AllByRecursion, append-nil, ◌≢◌}
use Rattle.tc_link.proofs.Common.{all_extracted, state_after, ExtractorState, without_idle, extract_step, choice}
use Rattle.tc_link.proofs.Common.{AreSomeOf, Option, Result, Ok, Err, ◌+◌, ◌==◌, cond_both, and_parts, eqb-true, Clcw}
use Rattle.tc_link.proofs.Common.{ClcwFault, SegmentView, CopFault, Alert, clcw_step, FopState, BuilderState}
use Rattle.tc_link.proofs.Common.{is_to_send, after_queue, idle_tail, Extracted, held_by, IsLaidOutBy, SpacecraftState}
use Rattle.tc_link.proofs.Common.{GroundState, GroundOutcome, with_fop, after_extraction, own_frame_outcome, Directive}
use Rattle.tc_link.proofs.Common.{obeying, submitting, acknowledging, ◌<◌, ◌≤◌, map, length-append, eq-eqb, map-append}
use Rattle.tc_link.proofs.Common.{directive_step, pull_step, tick_step, TmFault, data_size, Config, telemetry_outcome}
use Rattle.tc_link.proofs.Common.{ground_telemetry, Heard, SpacecraftOutcome, report_octets, IsConfig, Event}
use Rattle.tc_link.proofs.Common.{NotDetectable, Down, World, WorldOutcome, world_step, world_run, new_world}
use Rattle.tc_link.proofs.Common.{down_deliver_step, down_lose_step, down_damage_step, down_damage_outcome}
use Rattle.tc_link.proofs.Common.{world_refusal, world_reply, world_after_queueing, SetVs, InitUnlock}
use Rattle.std.specs.List.{concat}
use Rattle.std.proofs.lemmas.List.{drop_at}
use Rattle.octets.specs.Records.{IsRecord}
use Rattle.octets.proofs.Streams.{split_of}
use Rattle.space_packet.specs.Laws.{extent_has_header}
use Rattle.space_packet.specs.Packets.{is_packet, packets_in, rest_in}
use Rattle.space_packet.specs.Decoding.{extent_at}
use Rattle.clcw.specs.Decoding.{clcw_at}
use Rattle.tm_link.specs.Extractor.{is_idle, new_extractor}
use Rattle.tm_link.specs.Layout.{FrameView}
use Rattle.tm_link.specs.Stream.{are_received, complete_packets, carried_octets, IsLaidOut, IsClose, marks_of}
use Rattle.tm_link.specs.Stream.{arrived_packets}
use Rattle.tm_link.specs.Arrivals.{IsInRange}
use Rattle.tm_link.specs.Builder.{build_step}
use Rattle.tm_link.specs.Decoding.{frame_at}
use Rattle.tm_link.specs.Encoding.{spelling}
use Rattle.tm_link.proofs.Laid.{packet_after, laid_again, new_laid}
use Rattle.tm_link.proofs.Passed.{cut_more}
use Rattle.tm_link.proofs.Choices.{all_handed_out, extraction_exact}
use Rattle.tm_link.proofs.BuiltFrames.{build_laid}
use Rattle.nodes.proofs.Arrivals.{octets_come}
use Rattle.nodes.specs.Spacecraft.{spacecraft_receive}
use Rattle.nodes.specs.Ground.{after_directive, report_outcome, ground_take_telemetry}
use Rattle.nodes.specs.declared.heard.Heard.TheVariants as heard_cases
use Rattle.nodes.specs.declared.event.Event.TheVariants as events
use Rattle.simulated_link.specs.World.{directed, down_word_outcome, down_clcw_step}
use Rattle.simulated_link.proofs.Counted.{report_seen}
use Rattle.simulated_link.proofs.Unchanged.{first_on, down_arrives, BringsReport, TakesDown, board_after, down_after}
use Rattle.simulated_link.proofs.Unchanged.{ground_after}
use Rattle.tc_link.specs.Telemetry.{none, one, without, Downlink, DownlinkStep, Happens, TakeTelemetry, IsDownlinkStep}
use Rattle.tc_link.specs.Telemetry.{new_downlink, after_event, after_taking, downlink_step, downlink_run, packets_down}
use Rattle.tc_link.specs.Telemetry.{IsTelemetryInOrder, downlink_of}
use Rattle.tc_link.proofs.Refilled.{refilled_keeps}
use Rattle.tc_link.proofs.Sound.{all_push, step_sound, new_sound, Sound}
use Rattle.tc_link.proofs.IdleStart.{data_length, reads_now}
use Rattle.std.specs.Borrow.{Bor}

-- Frames that are sent and arrive one by one: those that arrived, and what an extractor makes of
-- them.

-- ---- the frames that arrived, of those that are no longer in transit

pub choice_none : (frames : List FrameView) → choice frames [] ≡ []
choice_none [] = refl
choice_none (f ∷ frames) = refl

pub choice_front : (gone going : List FrameView) (came : List Bool) → length came ≡ length gone
    → choice (gone ++ going) came ≡ choice gone came
choice_front [] going [] e = choice_none going
choice_front (f ∷ gone) going (true ∷ came) e =
    ap (λ (fs : List FrameView). f ∷ fs) (choice_front gone going came (omega arith))
choice_front (f ∷ gone) going (false ∷ came) e = choice_front gone going came (omega arith)
choice_front _ going _ e = absurd (omega arith)

pub choice_more : (gone : List FrameView) (f : FrameView) (came : List Bool) (b : Bool) → length came ≡ length gone
    → choice (gone ++ f ∷ []) (came ++ b ∷ []) ≡ choice gone came ++ choice (f ∷ []) (b ∷ [])
choice_more [] f [] b e = refl
choice_more (g ∷ gone) f (true ∷ came) b e =
    ap (λ (fs : List FrameView). g ∷ fs) (choice_more gone f came b (omega arith))
choice_more (g ∷ gone) f (false ∷ came) b e = choice_more gone f came b (omega arith)
choice_more _ f _ b e = absurd (omega arith)

pub choice_whole : (frames : List FrameView) (came : List Bool) → length came ≡ length frames
    → AllByRecursion (λ (c : Bool). c ≡ true) came → choice frames came ≡ frames
choice_whole (f ∷ frames) [] e all = absurd (omega arith)
choice_whole (f ∷ frames) (c ∷ came) e all =
    rw all.0 (ap (λ (fs : List FrameView). f ∷ fs) (choice_whole frames came (omega arith) all.1))
choice_whole _ _ e all = refl

-- ---- one more frame

pub extracted_more : (s : ExtractorState) (frames : List FrameView) (f : FrameView)
    → all_extracted s (frames ++ f ∷ []) ≡ all_extracted s frames ++ (extract_step (state_after s frames) f).packets
extracted_more s [] f = append-nil (extract_step s f).packets
extracted_more s (g ∷ frames) f =
    let next : ExtractorState = (extract_step s g).after in
    ap (λ (ps : List (List ℕ)). (extract_step s g).packets ++ ps) (extracted_more next frames f)
    ∙ sym (append_assoc (extract_step s g).packets (all_extracted next frames)
    (extract_step (state_after next frames) f).packets)

pub state_more : (s : ExtractorState) (frames : List FrameView) (f : FrameView)
    → state_after s (frames ++ f ∷ []) ≡ (extract_step (state_after s frames) f).after
state_more s [] f = refl
state_more s (g ∷ frames) f = state_more (extract_step s g).after frames f

-- ---- what arrived is some of what was queued

some_kept : (b : Bool) (p : List ℕ) (some all : List (List ℕ)) → AreSomeOf some all
    → AreSomeOf (if b then p ∷ some else some) (p ∷ all)
some_kept true p some all h = one h
some_kept false p some all h = without h

complete_some : (all : List (List ℕ)) (marks : List Bool) → AreSomeOf (complete_packets all marks) all
complete_some [] marks = none
complete_some (p ∷ ps) marks =
    some_kept (are_received (length p) marks) p (complete_packets ps (drop (length p) marks)) ps
    (complete_some ps (drop (length p) marks))

some_without : (b : Bool) (p : List ℕ) (some all : List (List ℕ)) → AreSomeOf some all
    → AreSomeOf (if b then p ∷ some else some) (if b then p ∷ all else all)
some_without true p some all h = one h
some_without false p some all h = h

some_left : (b : Bool) (p : List ℕ) (some all : List (List ℕ)) → AreSomeOf some all
    → AreSomeOf some (if b then p ∷ all else all)
some_left true p some all h = without h
some_left false p some all h = h

idle_some : {some all : List (List ℕ)} → AreSomeOf some all → AreSomeOf (without_idle some) (without_idle all)
idle_some none = none
idle_some (one {p} {some} {all} h) =
    some_without (not (is_idle p)) p (without_idle some) (without_idle all) (idle_some h)
idle_some (without {p} {some} {all} h) =
    some_left (not (is_idle p)) p (without_idle some) (without_idle all) (idle_some h)

pub arrived_some : (all queued : List (List ℕ)) (marks : List Bool) → without_idle all ≡ queued
    → AreSomeOf (without_idle (complete_packets all marks)) queued
arrived_some all queued marks sent =
    subst (AreSomeOf (without_idle (complete_packets all marks))) sent (idle_some (complete_some all marks))

-- What each event does to the builder on board, to the extractor and to the packets on the ground.

-- ---- a packet is queued

lone_record : (octets : List ℕ) (ps : List (List ℕ)) (rest : List ℕ) → octets ≡ concat ps ++ rest
    → AllByRecursion (IsRecord 6 extent_at) ps → length ps ≡ 1 → length rest ≡ 0 → IsRecord 6 extent_at octets
lone_record octets (p ∷ []) [] e each single over =
    subst (IsRecord 6 extent_at) (sym (e ∙ append-nil (p ++ []) ∙ append-nil p)) each.0
lone_record octets _ _ e each single over = absurd (omega arith)

packet_record : (octets : List ℕ) → is_packet octets ≡ true → IsRecord 6 extent_at octets
packet_record octets h =
    let both = and_parts (length (packets_in octets) == 1) (length (rest_in octets) == 0) h in
    let split = split_of 6 extent_at (omega arith) extent_has_header octets in
    lone_record octets (packets_in octets) (rest_in octets) split.whole split.each (eqb-true _ _ both.0)
    (eqb-true _ _ both.1)

pub queued_laid : (s : BuilderState) (octets : List ℕ) (packets : List (List ℕ)) (frames : List FrameView)
    → is_to_send octets ≡ true → IsLaidOutBy s packets frames
    → IsLaidOutBy (after_queue s octets) (packets ++ octets ∷ []) frames
queued_laid s octets packets frames sends h =
    let both = and_parts (is_packet octets) (not (is_idle octets)) sends in
    let handed : without_idle (octets ∷ []) ≡ octets ∷ [] = rw both.1 refl in
    let x = packet_after packets (packets ++ octets ∷ []) frames (held_by s) octets h.laid
    (packet_record octets both.0) (ap (λ (ps : List (List ℕ)). packets ++ ps) handed) in
    let held : held_by s ++ octets ≡ held_by (after_queue s octets) =
    append_assoc (idle_tail s.idle_left) s.pending octets in
    let cut = cut_more h.laid.all (length (carried_octets frames)) (s.idle_left + s.begun) s.sizes octets h.cut in
    laid_again (after_queue s octets) (packets ++ octets ∷ []) frames (held_by s ++ octets) (h.laid.all ++ octets ∷ [])
    x.0 x.1 held h.next cut

-- ---- the builder stays

pub arrived_builds : (s : SpacecraftState) (octets : List ℕ)
    → (spacecraft_receive s octets).after.builder ≡ s.builder
arrived_builds s = octets_come s (λ o t. t.builder ≡ s.builder) assumption

-- ---- the extractor and the packets stay

module _ (s : GroundState) where
  abbrev pub Extracts : GroundState → Type 0
  Extracts t = (t.extractor ≡ s.extractor) × (t.telemetry ≡ s.telemetry)

pub with_extracts : (s : GroundState) (f : FopState SegmentView) → Extracts s (with_fop s f)
with_extracts s f = refilled_keeps (Extracts s) (record s { fop = f }) (λ waiting pending on off. (refl, refl))

pub directed_extracts : (s : GroundState) (d : Directive) (r : Result (Option Alert) CopFault)
    (fop : FopState SegmentView) → Extracts s (after_directive s d r fop)
directed_extracts s d (Ok alert) fop = with_extracts (obeying s d) fop
directed_extracts s d (Err fault) fop = (refl, refl)

-- ---- a CLCW is heard, with a frame or by itself

pub report_extracts : (s : GroundState) (r : Result Clcw ClcwFault) → Extracts s (report_outcome s r).after
report_extracts s = report_seen s (Extracts s) (refl, refl) (λ report.
    let o = clcw_step s.fop report in with_extracts (acknowledging s o) o.after)

-- Telemetry over a run: what holds at every moment, and how the promises follow.

-- a frame that was sent is of the link's channel, and is read as it was sent
pub record IsSentBy (c : Config) (f : FrameView) : Type 0 where
  pub range : IsInRange f
  pub reads : frame_at c.frame_length (spelling f) ≡ Ok f
  pub scid : f.scid ≡ c.scid
  pub vcid : f.vcid ≡ c.tm_vcid

-- The first of the frames that were sent are no longer in transit, and the others are. Those that
-- arrived led a new extractor to its present state, and yielded the packets on the ground.
pub record Came (sent : List FrameView) (came : List Bool) (down : List (List ℕ)) (extractor : ExtractorState)
    (packets : List (List ℕ)) : Type 0 where
  pub gone : List FrameView
  pub going : List FrameView
  pub parts : sent ≡ gone ++ going
  pub counted : length came ≡ length gone
  pub down_is : map spelling going ≡ down
  pub state : extractor ≡ state_after new_extractor (choice gone came)
  pub given : packets ≡ all_extracted new_extractor (choice gone came)

pub record Laid (c : Config) (d : Downlink) : Type 0 where
  pub sound : Sound c d.world
  pub laid : IsLaidOutBy d.world.spacecraft.builder d.queued d.sent
  pub count : d.world.spacecraft.builder.vc_count < 256
  pub each : AllByRecursion (IsSentBy c) d.sent
  pub way : Came d.sent d.came d.world.down d.world.ground_node.extractor (packets_down d)

pub new_downlink_laid : (c : Config) → IsConfig c → Laid c (new_downlink c)
new_downlink_laid c ranges = record {
  sound = new_sound c ranges;
  laid = new_laid c.scid c.tm_vcid c.frame_length 0 0;
  count = omega arith;
  each = tt;
  way = record { gone = []; going = []; parts = refl; counted = refl; down_is = refl; state = refl; given = refl };
}

-- ---- what each event adds

-- The first frame in transit, if its octets are these.
pub record First (c : Config) (d : Downlink) (gone : List FrameView) (b : List ℕ) (bs : List (List ℕ)) : Type 0 where
  pub frame : FrameView
  pub after : List FrameView
  pub parts : d.sent ≡ (gone ++ frame ∷ []) ++ after
  pub is : spelling frame ≡ b
  pub rest : map spelling after ≡ bs
  pub sent : IsSentBy c frame

each_at : (c : Config) (gone after : List FrameView) (f : FrameView) → AllByRecursion (IsSentBy c) (gone ++ f ∷ after)
    → IsSentBy c f
each_at c [] after f each = each.0
each_at c (x ∷ gone) after f each = each_at c gone after f each.1

parts_of : (x y : List ℕ) (xs ys : List (List ℕ)) → x ∷ xs ≡ y ∷ ys → (x ≡ y) × (xs ≡ ys)
parts_of x y xs ys e = (cc, cc)

pub first_of : (c : Config) (d : Downlink) (gone going : List FrameView) (b : List ℕ) (bs : List (List ℕ))
    → AllByRecursion (IsSentBy c) d.sent → d.sent ≡ gone ++ going → map spelling going ≡ b ∷ bs → First c d gone b bs
first_of c d gone [] b bs each parts e = absurd cc
first_of c d gone (f ∷ after) b bs each parts e =
    let both = parts_of (spelling f) b (map spelling after) bs e in
    record {
      frame = f;
      after = after;
      parts = parts ∙ sym (append_assoc gone (f ∷ []) after);
      is = both.0;
      rest = both.1;
      sent = each_at c gone after f (subst (AllByRecursion (IsSentBy c)) parts each);
    }

module _ (c : Config) (d : Downlink) (g : Laid c d) where
  -- another world, after these packets were queued too, these frames sent and these arrivals noted
  abbrev Grown : World → List (List ℕ) → List FrameView → List Bool → Type 0
  Grown new queued sent came = Laid c (record {
    world = new;
    queued = d.queued ++ queued;
    sent = d.sent ++ sent;
    came = d.came ++ came;
    taken = d.taken;
  })

  -- nothing of telemetry changes
  stays : (new : World) → Sound c new → new.spacecraft.builder ≡ d.world.spacecraft.builder → new.down ≡ d.world.down
      → Extracts d.world.ground_node new.ground_node → Grown new [] [] []
  stays new sound builder down ground =
      rw (append-nil d.queued, append-nil d.sent, append-nil d.came) (record {
        sound = sound;
        laid = rw builder g.laid;
        count = rw builder g.count;
        each = g.each;
        way = rw (down, ground.0, ground.1) g.way;
      })

  -- ---- on board

  abbrev queues : List ℕ → World
  queues octets = record d.world {
    spacecraft = record d.world.spacecraft { builder = after_queue d.world.spacecraft.builder octets };
  }

  queued : (octets : List ℕ) → is_to_send octets ≡ true → Sound c (queues octets)
      → Grown (queues octets) (octets ∷ []) [] []
  queued octets sends sound =
      rw (append-nil d.sent, append-nil d.came) (record {
        sound = sound;
        laid = queued_laid d.world.spacecraft.builder octets d.queued d.sent sends g.laid;
        count = g.count;
        each = g.each;
        way = g.way;
      })

  reported : Sound c (world_step d.world events.Report).after → Laid c (downlink_step d (Happens events.Report))
  reported sound =
      let b : BuilderState = d.world.spacecraft.builder in
      let ocf : List ℕ = report_octets d.world.spacecraft in
      let f : FrameView = (build_step b ocf).0 in
      let k = g.sound.spacecraft in
      let v = g.way in
      let total : b.total ≡ c.frame_length = k.builder.total in
      let most : b.total ≤ 2048 = omega (arith, total, g.sound.ranges.frame_length) in
      let size : length f.payload ≡ data_size b = data_length b k.idle_left in
      let some : 0 < length f.payload = omega (arith, size, total, g.sound.ranges.frame_length) in
      rw (append-nil d.queued, append-nil d.came) (record {
        sound = sound;
        laid = build_laid b ocf d.queued d.sent k.idle_left most g.laid;
        count = omega arith;
        each = all_push (IsSentBy c) d.sent f g.each (record {
          range = record { count = g.count; some = some };
          reads = reads_now c d.world g.sound;
          scid = k.builder.scid;
          vcid = k.builder.vcid;
        });
        way = record {
          gone = v.gone;
          going = v.going ++ f ∷ [];
          parts = ap (λ (fs : List FrameView). fs ++ f ∷ []) v.parts ∙ append_assoc v.gone v.going (f ∷ []);
          counted = v.counted;
          down_is = map-append spelling v.going (f ∷ [])
              ∙ ap (λ (bs : List (List ℕ)). bs ++ spelling f ∷ []) v.down_is;
          state = v.state;
          given = v.given;
        };
      })

  abbrev Keeps : Event → WorldOutcome → Type 0
  Keeps e o = Sound c o.after → Laid c (after_event d e o)

  -- ---- the first frame in transit on the downlink leaves it

  module _ (b : List ℕ) (bs : List (List ℕ)) (is : d.world.down ≡ b ∷ bs) where
    first : First c d g.way.gone b bs
    first = first_of c d g.way.gone g.way.going b bs g.each g.way.parts (g.way.down_is ∙ is)

    -- the frames that arrived, with this one or without it
    abbrev came_with : Bool → List FrameView
    came_with came = choice (g.way.gone ++ first.frame ∷ []) (d.came ++ came ∷ [])

    gone : (came : Bool) (new : World) → Sound c new → new.spacecraft.builder ≡ d.world.spacecraft.builder
        → new.down ≡ bs → new.ground_node.extractor ≡ state_after new_extractor (came_with came)
        → d.taken ++ new.ground_node.telemetry ≡ all_extracted new_extractor (came_with came)
        → Grown new [] [] (came ∷ [])
    gone came new sound builder down state given =
        rw (append-nil d.queued, append-nil d.sent) (record {
          sound = sound;
          laid = rw builder g.laid;
          count = rw builder g.count;
          each = g.each;
          way = record {
            gone = g.way.gone ++ first.frame ∷ [];
            going = first.after;
            parts = first.parts;
            counted = omega (arith, length-append {A = Bool}, length-append {A = FrameView}, g.way.counted);
            down_is = first.rest ∙ sym down;
            state = state;
            given = given;
          };
        })

    -- the frame is lost, or only its CLCW reaches the ground
    unseen : (new : World) → Sound c new → new.spacecraft.builder ≡ d.world.spacecraft.builder → new.down ≡ bs
        → Extracts d.world.ground_node new.ground_node → Grown new [] [] (false ∷ [])
    unseen new sound builder down ground =
        let v = g.way in
        let same : came_with false ≡ choice v.gone d.came =
        choice_more v.gone first.frame d.came false v.counted ∙ append-nil (choice v.gone d.came) in
        gone false new sound builder down (rw same (ground.0 ∙ v.state))
        (rw same (ap (λ (ps : List (List ℕ)). d.taken ++ ps) ground.1 ∙ v.given))

    lost : Sound c (record d.world { down = bs }) → Grown (record d.world { down = bs }) [] [] (false ∷ [])
    lost sound = unseen (record d.world { down = bs }) sound refl refl (refl, refl)

    word_seen : (r : Result FrameView TmFault) → Keeps events.DownClcw (down_word_outcome d.world bs r)
    word_seen (Ok frame) sound = unseen _ sound refl refl (report_extracts d.world.ground_node (clcw_at frame.ocf))
    word_seen (Err fault) sound = lost sound

    extracts : Extracts (after_extraction d.world.ground_node (extract_step d.world.ground_node.extractor first.frame))
        (down_deliver_step d.world (b ∷ bs)).after.ground_node
    extracts =
        let s : GroundState = d.world.ground_node in
        let f : FrameView = first.frame in
        let reads : frame_at s.config.frame_length b ≡ Ok f =
        ap (λ (x : Config). frame_at x.frame_length b) g.sound.ground_node.config
        ∙ ap (frame_at c.frame_length) (sym first.is) ∙ first.sent.reads in
        let scid : f.scid == s.config.scid ≡ true =
        eq-eqb f.scid s.config.scid (first.sent.scid ∙ sym (ap (λ (x : Config). x.scid) g.sound.ground_node.config)) in
        let vcid : f.vcid == s.config.tm_vcid ≡ true =
        eq-eqb f.vcid s.config.tm_vcid
        (first.sent.vcid ∙ sym (ap (λ (x : Config). x.tm_vcid) g.sound.ground_node.config)) in
        let x : Extracted = extract_step s.extractor f in
        let same : ground_telemetry s b ≡ own_frame_outcome s x (clcw_at f.ocf) =
        ap (telemetry_outcome s) reads ∙ rw (scid, vcid) refl in
        subst (λ (o : GroundOutcome Heard). Extracts (after_extraction s x) o.after) (sym same)
        (report_extracts (after_extraction s x) (clcw_at f.ocf))

    arrives : Sound c (down_deliver_step d.world (b ∷ bs)).after
        → Laid c (after_event d events.DownDeliver (down_deliver_step d.world (b ∷ bs)))
    arrives sound =
        let x = first in
        let v = g.way in
        let s : GroundState = d.world.ground_node in
        let t : List FrameView = choice v.gone d.came in
        let more : came_with true ≡ t ++ x.frame ∷ [] = choice_more v.gone x.frame d.came true v.counted in
        gone true (down_deliver_step d.world (b ∷ bs)).after sound refl refl
        (extracts.0 ∙ ap (λ e. (extract_step e x.frame).after) v.state ∙ sym (state_more new_extractor t x.frame)
        ∙ ap (state_after new_extractor) (sym more))
        (ap (λ (ps : List (List ℕ)). d.taken ++ ps) extracts.1
        ∙ sym (append_assoc d.taken s.telemetry (extract_step s.extractor x.frame).packets)
        ∙ ap (λ (ps : List (List ℕ)). ps ++ (extract_step s.extractor x.frame).packets) v.given
        ∙ ap (λ e. all_extracted new_extractor t ++ (extract_step e x.frame).packets) v.state
        ∙ sym (extracted_more new_extractor t x.frame) ∙ ap (all_extracted new_extractor) (sym more))

  -- ---- all events

  down_seen : (P : WorldOutcome → Type 0) (bs : List (List ℕ)) → P (world_refusal d.world NotDetectable)
      → ((fault : TmFault) → P (world_reply (Down (heard_cases.Invalid fault)) (record d.world { down = bs })))
      → (r : Result FrameView TmFault) → P (down_damage_outcome d.world bs r)
  down_seen P bs refused seen (Ok frame) = refused
  down_seen P bs refused seen (Err fault) = seen fault

  refused : Sound c d.world → Grown d.world [] [] []
  refused sound = stays d.world sound refl refl (refl, refl)

  -- nothing of telemetry is queued, sent or heard
  others : (e : Event) → ((octets : Bor (List ℕ)) → e ≢ events.Telemetry octets) → e ≢ events.Report
      → (TakesDown e → ⊥) → (BringsReport e → ⊥) → Sound c (world_step d.world e).after
      → Grown (world_step d.world e).after [] [] []
  others e not_queued not_made not_gone not_told sound =
      let w = d.world in
      let s : GroundState = w.ground_node in
      let directs : (x : Directive) → Extracts s (directed w x).ground_node =
      λ x. directed_extracts s x (directive_step s.fop x).answer (directive_step s.fop x).after in
      stays (world_step w e).after sound
      (board_after w (λ t. t.builder ≡ w.spacecraft.builder) e (record {
        same = refl;
        receives = λ is b bs first. arrived_builds w.spacecraft b;
        reports = λ is. absurd (not_made is);
        takes = λ is left kept. refl;
        releases = λ is left free. refl;
        passes = λ is left. refl;
        queues = λ octets is. absurd (not_queued octets is);
      }))
      (down_after w (λ way. way ≡ w.down) e not_made refl (λ gone. absurd (not_gone gone)))
      (ground_after w (λ t session. Extracts s t) e (record {
        same = (refl, refl);
        submits = λ m octets none. with_extracts (submitting s m octets) s.fop;
        bypasses = λ m octets is none. (refl, refl);
        directs = λ x is. directs x;
        restarts = λ value is can.
            let t : GroundState = (directed w (SetVs value)).ground_node in
            let set = directs (SetVs value) in
            let begun = directed_extracts t InitUnlock (directive_step t.fop InitUnlock).answer
            (directive_step t.fop InitUnlock).after in
            (begun.0 ∙ set.0, begun.1 ∙ set.1);
        ticks = λ is. with_extracts s (tick_step s.fop).after;
        sends = λ is sent. with_extracts s (pull_step s.fop).after;
        hears_none = λ told. absurd (not_told told);
        hears = λ told. absurd (not_told told);
      }))

  keeps : (e : Event) → Keeps e (world_step d.world e)
  keeps events.Report = reported
  keeps events.DownDeliver = down_arrives d.world (Keeps events.DownDeliver) refused (λ b bs is. arrives b bs is)
  keeps events.DownLose =
      first_on (Keeps events.DownLose) (down_lose_step d.world) d.world.down refused (λ b bs is. lost b bs is)
  keeps (events.DownDamage octets) =
      first_on (Keeps (events.DownDamage octets)) (λ bs. down_damage_step d.world bs octets.now) d.world.down refused
      (λ b bs is. down_seen (Keeps (events.DownDamage octets)) bs refused (λ fault. lost b bs is)
      (frame_at d.world.ground_node.config.frame_length octets.now))
  keeps events.DownClcw =
      first_on (Keeps events.DownClcw) (down_clcw_step d.world) d.world.down refused (λ b bs is.
      word_seen b bs is (frame_at d.world.ground_node.config.frame_length b))
  keeps (events.Telemetry octets) =
      cond_both (is_to_send octets.now) _ _
      (λ (o : SpacecraftOutcome (Result (Unit {0}) TmFault)).
      Keeps (events.Telemetry octets) (world_after_queueing d.world o))
      (λ sends. queued octets.now sends) (λ t. refused)
  keeps e = others e (λ octets is. cc is) (λ is. cc is) (λ gone. absurd gone) (λ told. absurd told)

  -- ---- a packet is taken on the ground

  taking : (ps : List (List ℕ)) → d.world.ground_node.telemetry ≡ ps
      → Laid c (after_taking d (ground_take_telemetry d.world.ground_node ps))
  taking [] is =
      let way : Came d.sent d.came d.world.down d.world.ground_node.extractor
      ((d.taken ++ []) ++ d.world.ground_node.telemetry) = rw (append-nil d.taken) g.way in assumption (way, g)
  taking (p ∷ left) is =
      let same : (d.taken ++ p ∷ []) ++ left ≡ packets_down d =
      append_assoc d.taken (p ∷ []) left ∙ ap (λ (ps : List (List ℕ)). d.taken ++ ps) (sym is) in
      let way = subst (Came d.sent d.came d.world.down d.world.ground_node.extractor) (sym same) g.way in
      assumption (way, g)

  step_laid : (step : DownlinkStep) → IsDownlinkStep step → Laid c (downlink_step d step)
  step_laid (Happens e) fits = keeps e (step_sound c d.world g.sound e fits)
  step_laid TakeTelemetry fits = taking d.world.ground_node.telemetry refl

-- ---- what is promised

all_came : (spelled : List FrameView) → map spelling spelled ≡ [] → spelled ≡ []
all_came [] e = refl
all_came (f ∷ fs) e = absurd cc

pub in_range : (c : Config) (frames : List FrameView) → AllByRecursion (IsSentBy c) frames
    → AllByRecursion IsInRange frames
in_range c [] each = tt
in_range c (f ∷ frames) each = (each.0.range, in_range c frames each.1)

module _ (c : Config) (d : Downlink) (g : Laid c d) where
  pub chosen : choice d.sent d.came ≡ choice g.way.gone d.came
  chosen = ap (λ fs. choice fs d.came) g.way.parts ∙ choice_front g.way.gone g.way.going d.came g.way.counted

  arrived : IsClose d.came → packets_down d ≡ arrived_packets g.laid.laid.all d.sent d.came
  arrived close =
      g.way.given ∙ ap (all_extracted new_extractor) (sym chosen)
      ∙ extraction_exact d.queued d.sent (held_by d.world.spacecraft.builder) g.laid.laid d.came
      (in_range c d.sent g.each) close

  whole : AllByRecursion (λ (came : Bool). came ≡ true) d.came → d.world.down ≡ []
      → held_by d.world.spacecraft.builder ≡ [] → packets_down d ≡ d.queued
  whole all down nothing =
      let none : g.way.going ≡ [] = all_came g.way.going (g.way.down_is ∙ down) in
      let sent : d.sent ≡ g.way.gone =
      g.way.parts ∙ ap (λ fs. g.way.gone ++ fs) none ∙ append-nil g.way.gone in
      let laid : IsLaidOut d.queued g.way.gone [] =
      subst (λ fs. IsLaidOut d.queued fs []) sent
      (subst (λ (rest : List ℕ). IsLaidOut d.queued d.sent rest) nothing g.laid.laid) in
      g.way.given ∙ ap (all_extracted new_extractor) (choice_whole g.way.gone d.came g.way.counted all)
      ∙ all_handed_out d.queued g.way.gone laid (subst (AllByRecursion IsInRange) sent (in_range c d.sent g.each))

  in_order : IsTelemetryInOrder d
  in_order = record {
    laid = g.laid.laid;
    down = ap (λ fs. map spelling (drop (length d.came) fs)) g.way.parts
        ∙ ap (map spelling) (drop_at g.way.gone g.way.going (length d.came) (sym g.way.counted)) ∙ g.way.down_is;
    counted = omega (arith, g.way.counted, ap length g.way.parts, length-append g.way.gone g.way.going);
    arrived = arrived;
    in_order = λ close. subst (λ (ps : List (List ℕ)). AreSomeOf ps d.queued) (sym (arrived close))
        (arrived_some g.laid.laid.all d.queued (marks_of d.sent d.came) g.laid.laid.sent);
    complete = whole;
  }

pub run_laid : (c : Config) (steps : List DownlinkStep) (d : Downlink) → AllByRecursion IsDownlinkStep steps → Laid c d
    → Laid c (downlink_run d steps)
run_laid c [] d all g = g
run_laid c (step ∷ steps) d all g = run_laid c steps (downlink_step d step) all.1 (step_laid c d g step all.0)

pub comes_down : (c : Config) (steps : List DownlinkStep) → IsConfig c → AllByRecursion IsDownlinkStep steps
    → IsTelemetryInOrder (downlink_run (new_downlink c) steps)
comes_down c steps ranges all =
    let d : Downlink = downlink_run (new_downlink c) steps in
    in_order c d (run_laid c steps (new_downlink c) all (new_downlink_laid c ranges))

-- ---- events alone

run_of : (d : Downlink) (es : List Event)
    → ((downlink_run d (map (λ e. Happens e) es)).world ≡ world_run d.world es)
    × ((downlink_run d (map (λ e. Happens e) es)).taken ≡ d.taken)
run_of d [] = (refl, refl)
run_of d (e ∷ es) = run_of (downlink_step d (Happens e)) es

pub runs_as_the_link : (c : Config) (es : List Event)
    → ((downlink_of c es).world ≡ world_run (new_world c) es) × ((downlink_of c es).taken ≡ [])
runs_as_the_link c es = run_of (new_downlink c) es
