-- What an exchange does to both nodes, from any moment: an alert is raised, or the link is ready.
use Rattle.tc_link.proofs.Common.{◌≡◌, ◌≢◌, ◌<◌, ◌≤◌, ℕ, ◌+◌, false, List, ◌∷◌, ◌++◌, length, refl, ap, ◌∙◌, arith}
use Rattle.tc_link.proofs.Common.{length-append, length-map, option_to_list, Clcw, SegmentView, ahead_by, FopState}
use Rattle.tc_link.proofs.Common.{IsActive, units_of, extract_step, GroundState, with_fop, is_closed, unsent_segments}
use Rattle.tc_link.proofs.Common.{World, world_step, down_deliver_step, inr, zero, suc, [], PacketOn}
use Rattle.tc_link.specs.Beside.{HasOctetPast}
use Rattle.tc_link.proofs.Common.{spacecraft_take, up_deliver_step, active_on, AllByRecursion, ◌⊎◌, Option, Some, None}
use Rattle.tc_link.proofs.Common.{Ok, Alert, Extracted, SpacecraftState, WorldOutcome, FopOutcome, subst, sym}
use Rattle.tc_link.proofs.Common.{replicate, not, inl, true, cond_both, marked_unit, S1, S2, clcw_step, locks, waits}
use Rattle.tc_link.proofs.Common.{asks, pull_step, tick_step, after_repeat, after_stop, Open, report_of}
use Rattle.tc_link.proofs.Common.{after_extraction, spacecraft_report, acknowledging, Bool, retransmits}
use Rattle.tc_link.proofs.Common.{after_new_value, heard_active, pulled_out, ticked, Event, goes_on, after_alert}
use Rattle.tc_link.proofs.Common.{report_while_active, if◌then◌else◌}
use Rattle.std.specs.Prelude.{IsSome}
use Rattle.std.proofs.lemmas.List.{nil_from_length}
use Rattle.std.proofs.lemmas.Bool.{false_from_ne_true, not-true, not-false, lt-ltb}
use Rattle.tm_link.specs.Encoding as telemetry_writing
use Rattle.cop1.specs.FopTick.{tick_with, timer_ended, while_below}
use Rattle.cop1.specs.Units.{is_none_sent}
use Rattle.nodes.specs.Ground.{outstanding}
use Rattle.nodes.specs.declared.event.Event.TheVariants as events
use Rattle.simulated_link.specs.World.{world_after_telemetry}
use Rattle.simulated_link.specs.Replies.{reply_to_alert}
use Rattle.simulated_link.proofs.Unchanged.{pulled, BringsReport}
use Rattle.simulated_link.proofs.Counted.{reported as report_cases}
use Rattle.tc_link.specs.FalseAlarms.{alert_in}
use Rattle.tc_link.specs.Progress.{ticks_left, followed_by, all_taken, next_arrived, all_arrived, awaits, most_sent}
use Rattle.tc_link.specs.Progress.{all_sent, reported, all_heard, are_marked, timer_run_out, round_trip, exchange}
use Rattle.tc_link.proofs.Downward.{used, used_is}
use Rattle.tc_link.proofs.Linked.{Tells}
use Rattle.tc_link.proofs.ProgressNumbers.{IsOctetReport, known, Ends, ends_then, ends_repeat, ends_times, ends_once}
use Rattle.tc_link.proofs.ProgressNumbers.{going_step, ends_trip, IsCalm, no_directive, no_resumption, or_on}
use Rattle.tc_link.proofs.ProgressSender.{Running, HoldsNoMore, tick_on, holds_more, Obeys, heard_fresh, pull_no_more}
use Rattle.tc_link.proofs.ProgressSender.{report_holds, active_report, tick_end, marked_all, step_kept}
use Rattle.tc_link.proofs.Refilled.{refilled_keeps}
use Rattle.tc_link.proofs.IdleStart.{tells_now, flags_are}

-- What the events of an exchange do to the ground, and the numbers that are known then.

-- ---- the wait queue is refilled

-- two senders are the same except for the wait queue
pub record IsAs (f g : FopState SegmentView) : Type 0 where
  pub state : f.state ≡ g.state
  pub vs : f.vs ≡ g.vs
  pub nn : f.nn ≡ g.nn
  pub sent : f.sent ≡ g.sent
  pub bypass : f.bypass ≡ g.bypass
  pub window : f.window ≡ g.window
  pub ticks : f.ticks ≡ g.ticks
  pub control : f.control ≡ g.control
  pub count : f.count ≡ g.count
  pub limit : f.limit ≡ g.limit

module _ (s : GroundState) (f : FopState SegmentView) where
  pub with_same : IsAs (with_fop s f).fop f
  with_same = refilled_keeps (λ (t : GroundState). IsAs t.fop f) (record s { fop = f })
      (λ waiting pending on off. assumption)

  pub with_config : (with_fop s f).config ≡ s.config
  with_config = refilled_keeps (λ (t : GroundState). t.config ≡ s.config) (record s { fop = f })
      (λ waiting pending on off. refl)

  pub with_unsent : is_closed f.state ≡ false
      → unsent_segments (with_fop s f) ≡ option_to_list f.waiting ++ s.pending
  with_unsent = refilled_keeps (λ (t : GroundState). is_closed f.state ≡ false
      → unsent_segments t ≡ option_to_list f.waiting ++ s.pending) (record s { fop = f })
      (λ waiting pending on off running. on running)

-- ---- how much the ground holds

abbrev pub size : GroundState → ℕ
size s = length (outstanding s)

pub size_is : (s : GroundState) → size s ≡ length s.fop.sent + length (unsent_segments s)
size_is s =
    let units : length (units_of s.fop.sent) ≡ length s.fop.sent = length-map s.fop.sent (λ u. u.unit) in
    omega (arith, units, length-append (units_of s.fop.sent) (unsent_segments s))

-- the ground is Active, and holds at most this many, with this window
pub record IsBounded (most k : ℕ) (s : GroundState) : Type 0 where
  pub active : IsActive s.fop.state
  pub holds : size s ≤ most
  pub window : s.fop.window ≡ k

pub bounded : (most k : ℕ) (s : GroundState) (f : FopState SegmentView) → IsBounded most k s
    → HoldsNoMore s.fop s.pending f → IsBounded most k (with_fop s f)
bounded most k s f b less =
    let same = with_same s f in
    let active : IsActive (with_fop s f).fop.state = rw same.state less.active in
    let unsent = with_unsent s f (active_on f.state less.active) in
    let sent : length (with_fop s f).fop.sent ≡ length f.sent = ap length same.sent in
    record {
      active = active;
      holds = omega (arith, size_is s, size_is (with_fop s f), ap length unsent, sent, less.size, b.holds);
      window = same.window ∙ less.window ∙ b.window;
    }

-- ---- the numbers, while the sender is Active

pub record HasNumbers (w : World) : Type 0 where
  pub numbered : ahead_by w.ground_node.fop.vs w.ground_node.fop.nn ≡ length w.ground_node.fop.sent
  pub most : length w.ground_node.fop.sent ≤ 127
  pub vs : w.ground_node.fop.vs < 256
  pub nn : w.ground_node.fop.nn < 256
  pub vr : w.spacecraft.farm.vr < 256

pub has_numbers : (w : World) → HasOctetPast w → IsActive w.ground_node.fop.state → HasNumbers w
has_numbers w g active =
    let k = (known w g).octets in
    let numbered = k.sender.numbered (active_on w.ground_node.fop.state active) in
    assumption (numbered, k.sender, k.receiver)

-- units are sent if the numbers differ
pub some_sent : (w : World) → HasNumbers w → w.ground_node.fop.nn ≢ w.ground_node.fop.vs
    → 1 ≤ length w.ground_node.fop.sent
some_sent w n apart = omega (arith, n.numbered, n.vs, n.nn, apart)

-- ---- a CLCW is heard

pub heard_is : (w : World) (b : List ℕ) (bs : List (List ℕ)) (r : Clcw) → w.down ≡ b ∷ bs
    → (t : Tells w.ground_node.config b r)
    → world_step w events.DownDeliver
    ≡ world_after_telemetry w bs (used w.ground_node (extract_step w.ground_node.extractor t.frame) r)
heard_is w b bs r is t =
    ap (down_deliver_step w) is
    ∙ ap (world_after_telemetry w bs) (used_is w.ground_node.config w.ground_node b r refl t)

-- whatever CLCW is the oldest in transit
pub oldest_heard : (P : WorldOutcome → Type 0) (w : World) → HasOctetPast w → (b : List ℕ) (bs : List (List ℕ))
    → w.down ≡ b ∷ bs
    → ((r : Clcw) (x : Extracted) → P (world_after_telemetry w bs (used w.ground_node x r)))
    → P (world_step w events.DownDeliver)
oldest_heard P w g b bs is each =
    let h = known w g in
    let first = subst (AllByRecursion (IsOctetReport g.config)) is h.octets.down in
    let r = first.0.0 in
    let tells : Tells w.ground_node.config b r =
    subst (λ c. Tells c b r) (sym h.holds.sound.ground_node.config) first.0.1 in
    subst P (sym (heard_is w b bs r is tells)) (each r (extract_step w.ground_node.extractor tells.frame))

pub alerted : (a : Option Alert) → IsSome a → IsSome (alert_in (Ok (reply_to_alert a)))
alerted None is = absurd cc
alerted (Some x) is = refl

-- ---- frames arrive on board, and packets are taken there

-- so much holds with so many frames in transit on the uplink, and so many packets are ready
abbrev pub Taken : (ℕ → World → Type 0) → ℕ → ℕ → World → Type 0
Taken P n m w = P n w × (length w.spacecraft.ready ≡ m)

one_taken : (m : ℕ) (s : SpacecraftState) (ps : List PacketOn) → length ps ≡ suc m
    → length (spacecraft_take s ps).after.ready ≡ m
one_taken m s ps is = grind (arith, is)

module _ (P : ℕ → World → Type 0) (taken : (n : ℕ) (w : World) → P n w → P n (world_step w events.Take).after) where
  pub takes : (n : ℕ) (w : World) → HasOctetPast w → P n w → Ends (Taken P n zero) w (all_taken w)
  takes n w g p =
      ends_repeat (Taken P n) events.Take tt
      (λ m v h q. inr (taken n v q.0, one_taken m v.spacecraft v.spacecraft.ready q.1)) (length w.spacecraft.ready) w g
      (p, refl)

  pub arrives : ((n : ℕ) (w : World) → HasOctetPast w → Taken P (suc n) zero w
      → P n (world_step w events.UpDeliver).after)
      → (w : World) → HasOctetPast w → P (length w.up) w → Ends (P zero) w (all_arrived w)
  arrives arrived w g p =
      ends_times P (followed_by all_taken next_arrived)
      (λ n v h q. ends_then (Taken P (suc n) zero) (P n) all_taken next_arrived v (takes (suc n) v h q)
      (λ u i t. ends_once (P n) u events.UpDeliver tt i (inr (arrived n u i t)))) (length w.up) w g p

-- what holds of the ground stays so
module _ (P : GroundState → Type 0) where
  abbrev pub Arrived : ℕ → World → Type 0
  Arrived n w = P w.ground_node × (length w.up ≡ n)

  up_first : (n : ℕ) (w : World) (bs : List (List ℕ)) → P w.ground_node → length bs ≡ suc n
      → Arrived n (up_deliver_step w bs).after
  up_first n w [] p is = absurd (omega (arith, is))
  up_first n w (b ∷ bs) p is = (p, omega (arith, is))

  pub ground_arrives : (w : World) → HasOctetPast w → P w.ground_node → Ends (Arrived zero) w (all_arrived w)
  ground_arrives w g p = arrives Arrived (λ n v q. q) (λ n v h q. up_first n v v.up q.0.0 q.0.1) w g (p, refl)

  pub ground_takes : (w : World) → HasOctetPast w → Arrived zero w → Ends (Taken Arrived zero zero) w (all_taken w)
  ground_takes = takes Arrived (λ n v q. q) zero

-- ---- the timer runs out

module _ (P Q : World → Type 0)
    (goes : (w : World) (left : ℕ) → P w
    → P (record w { ground_node = with_fop w.ground_node (record w.ground_node.fop { ticks = Some left }) }))
    (ends : (w : World) → P w → w.ground_node.fop.ticks ≡ Some 1
    → IsSome (alert_in (world_step w events.Tick).answer) ⊎ Q (world_step w events.Tick).after) where
  abbrev Runs : ℕ → World → Type 0
  Runs zero w = Q w
  Runs (suc n) w = P w × (w.ground_node.fop.ticks ≡ Some (suc n))

  runs_out : (n : ℕ) (w : World) → HasOctetPast w → Runs (suc n) w
      → IsSome (alert_in (world_step w events.Tick).answer) ⊎ Runs n (world_step w events.Tick).after
  runs_out zero w g p = ends w p.0 p.1
  runs_out (suc n) w g p =
      let same = with_same w.ground_node (record w.ground_node.fop { ticks = Some (suc n) }) in
      inr (subst (λ (o : FopOutcome SegmentView (Option Alert)). Runs (suc n)
      (record w { ground_node = with_fop w.ground_node o.after })) (sym (tick_on w.ground_node.fop n p.1))
      (goes w (suc n) p.0, same.ticks))

  pub ends_ticks : (w : World) → HasOctetPast w → P w → (ticks : Option ℕ) → w.ground_node.fop.ticks ≡ ticks
      → Running ticks → Ends Q w (replicate (ticks_left ticks) events.Tick)
  ends_ticks w g p None is on = elim on [ ]
  ends_ticks w g p (Some zero) is on = absurd (omega (arith, on))
  ends_ticks w g p (Some (suc n)) is on = ends_repeat Runs events.Tick tt runs_out (suc n) w g (p, is)

-- An exchange from any moment. An alert is raised, or the link is ready: nothing is in transit, NN(R) is V(R), and
-- all that is not acknowledged must be retransmitted.

-- nothing is in transit, and the receiver is open and expects the number NN(R)
pub record Quiet (w : World) : Type 0 where
  pub state : (w.ground_node.fop.state ≡ S1) ⊎ (w.ground_node.fop.state ≡ S2)
  pub asked : w.ground_node.fop.state ≡ S2 → 1 ≤ length w.ground_node.fop.sent
  pub up : w.up ≡ []
  pub down : w.down ≡ []
  pub opened : w.spacecraft.farm.state ≡ Open
  pub vr : w.spacecraft.farm.vr ≡ w.ground_node.fop.nn
  pub asks : w.spacecraft.farm.retransmit ≡ true → 1 ≤ length w.ground_node.fop.sent

-- what was sent and is not acknowledged must be retransmitted
pub record Ready (w : World) : Type 0 where
  pub quiet : Quiet w
  pub marked : are_marked w.ground_node.fop.sent ≡ true

-- in S1 and S2 the sender waits if not all units are marked
pub awaits_so : (w : World) → Quiet w
    → awaits w.ground_node.fop.state (are_marked w.ground_node.fop.sent) ≡ not (are_marked w.ground_node.fop.sent)
awaits_so w q = elim q.state [ inl one ↦ rw one refl | inr two ↦ rw two refl ]

module _ (most k : ℕ) where
  abbrev pub Bounded : World → Type 0
  Bounded w = IsBounded most k w.ground_node

  -- ---- all is sent

  sends : (w : World) → HasOctetPast w → Bounded w → Ends Bounded w (all_sent w)
  sends w g b =
      ends_repeat (λ n. Bounded) events.Send tt
      (λ n v h p. inr (pulled v (λ (o : WorldOutcome). Bounded o.after) (λ reply up sent silent.
      bounded most k v.ground_node (pull_step v.ground_node.fop).after p
      (pull_no_more v.ground_node.fop v.ground_node.pending p.active)))) (most_sent w) w g b

  -- ---- all arrives, and is taken

  abbrev Waits : World → Type 0
  Waits = Taken (Arrived (IsBounded most k)) zero zero

  -- ---- the spacecraft makes a CLCW, and does not wait

  -- CLCWs are in transit, so many of them before the one that was made last
  record ToHear (n : ℕ) (w : World) : Type 0 where
    bounds : Bounded w
    up : w.up ≡ []
    free : w.spacecraft.farm.wait ≡ false
    olds : List (List ℕ)
    last : List ℕ
    down : w.down ≡ olds ++ last ∷ []
    count : length olds ≡ n
    tells : Tells w.ground_node.config last (report_of w.spacecraft.farm w.spacecraft.config.vcid)

  abbrev Reports : World → Type 0
  Reports w = (n : ℕ) × ToHear n w

  is_free : (w : World) → HasOctetPast w → length w.spacecraft.ready ≡ 0 → w.spacecraft.farm.wait ≡ false
  is_free w g none = false_from_ne_true w.spacecraft.farm.wait (λ waits.
      let known = known w g in
      let slots : 1 ≤ w.spacecraft.config.ready_slots =
      rw known.holds.sound.spacecraft.config known.holds.sound.ranges.ready_slots.0 in
      let full = known.octets.receiver.full waits in
      let no : 1 ≤ 0 = omega (arith, slots, full, none) in
      absurd (omega (arith, no)))

  reports : (w : World) → HasOctetPast w → Waits w → Ends Reports w (reported w)
  reports w g p =
      let h = known w g in
      ends_once Reports w events.Report tt g (inr (
        length w.down,
        record {
          bounds = p.0.0;
          up = nil_from_length w.up p.0.1;
          free = is_free w g p.1;
          olds = w.down;
          last = telemetry_writing.spelling (spacecraft_report w.spacecraft).answer;
          down = refl;
          count = refl;
          tells = rw h.holds.sound.ground_node.config (tells_now g.config w h.holds.sound);
        },
      ))

  -- ---- the CLCWs are heard

  abbrev pub Heard : World → Type 0
  Heard w = Quiet w × Bounded w

  abbrev Hears : ℕ → World → Type 0
  Hears zero w = Heard w
  Hears (suc n) w = ToHear n w

  said : (w : World)
      → (locks (report_of w.spacecraft.farm w.spacecraft.config.vcid) ≡ w.spacecraft.farm.lockout)
      × (waits (report_of w.spacecraft.farm w.spacecraft.config.vcid) ≡ w.spacecraft.farm.wait)
      × (asks (report_of w.spacecraft.farm w.spacecraft.config.vcid) ≡ w.spacecraft.farm.retransmit)
  said w = flags_are w.spacecraft.farm w.spacecraft.config.vcid

  -- the last one
  abbrev Fresh : WorldOutcome → Type 0
  Fresh o = IsSome (alert_in o.answer) ⊎ Heard o.after

  obeys_last : (w : World) (t : ToHear zero w) (r : Clcw) → r ≡ report_of w.spacecraft.farm w.spacecraft.config.vcid
      → IsSome (clcw_step w.ground_node.fop r).answer
      ⊎ (Obeys w.ground_node.fop r (clcw_step w.ground_node.fop r).after
      × HoldsNoMore w.ground_node.fop w.ground_node.pending (clcw_step w.ground_node.fop r).after)
  obeys_last w t r same =
      let active = t.bounds.active in
      let free : waits r ≡ false = rw same ((said w).1 ∙ t.free) in
      rw (active_report w.ground_node.fop r active)
      (or_on (heard_fresh w.ground_node.fop r active free) (λ o.
      or_on (report_holds w.ground_node.fop w.ground_node.pending active r) (λ h. inr (o, h))))

  hears_last : (w : World) → HasOctetPast w → ToHear zero w → Fresh (world_step w events.DownDeliver)
  hears_last w g t =
      let r : Clcw = report_of w.spacecraft.farm w.spacecraft.config.vcid in
      let x = extract_step w.ground_node.extractor t.tells.frame in
      let f : FopState SegmentView = (clcw_step w.ground_node.fop r).after in
      let s : GroundState = acknowledging (after_extraction w.ground_node x) (clcw_step w.ground_node.fop r) in
      let only : w.down ≡ t.last ∷ [] = t.down ∙ ap (λ xs. xs ++ t.last ∷ []) (nil_from_length t.olds t.count) in
      let same = heard_is w t.last [] r only t.tells in
      let o : WorldOutcome = world_after_telemetry w [] (used w.ground_node x r) in
      let going : HasOctetPast o.after =
      subst (λ (o : WorldOutcome). HasOctetPast o.after) same (going_step w g events.DownDeliver tt) in
      subst Fresh (sym same) (or_on (obeys_last w t r refl) (λ p.
      let is = with_same s f in
      let bounds : IsBounded most k (with_fop s f) = bounded most k s f (assumption t.bounds) p.1 in
      let numbers : HasNumbers o.after = has_numbers o.after going bounds.active in
      let some : r.value ≢ f.vs → 1 ≤ length (with_fop s f).fop.sent =
      λ apart. some_sent o.after numbers (λ e. apart (sym p.0.nn ∙ sym is.nn ∙ e ∙ is.vs)) in
      let flags = (known w g).holds.sound.spacecraft.farm.flags in
      inr (
        record {
          state = rw is.state p.0.state;
          asked = λ e. some (p.0.asked (sym is.state ∙ e));
          up = t.up;
          down = refl;
          opened = flags.state ∙ rw (sym (said w).0 ∙ p.0.unlocked, t.free) refl;
          vr = sym (is.nn ∙ p.0.nn);
          asks = λ e. some (p.0.asking ((said w).2 ∙ e));
        },
        bounds,
      )))

  -- one before it
  module _ (n : ℕ) (w : World) (g : HasOctetPast w) (t : ToHear (suc n) w) where
    abbrev More : WorldOutcome → Type 0
    More o = IsSome (alert_in o.answer) ⊎ ToHear n o.after

    hears_one : (olds : List (List ℕ)) → t.olds ≡ olds → More (world_step w events.DownDeliver)
    hears_one [] is = absurd (omega (arith, ap length is, t.count))
    hears_one (b ∷ bs) is =
        let down : w.down ≡ b ∷ (bs ++ t.last ∷ []) = t.down ∙ ap (λ xs. xs ++ t.last ∷ []) is in
        oldest_heard More w g b (bs ++ t.last ∷ []) down (λ r x.
        or_on (holds_more w.ground_node.fop w.ground_node.pending r t.bounds.active) (λ less.
        let f : FopState SegmentView = (clcw_step w.ground_node.fop r).after in
        let s : GroundState = acknowledging (after_extraction w.ground_node x) (clcw_step w.ground_node.fop r) in
        inr (record {
          bounds = bounded most k s f (assumption t.bounds) less;
          up = t.up;
          free = t.free;
          olds = bs;
          last = t.last;
          down = refl;
          count = omega (arith, ap length is, t.count);
          tells = rw (with_config s f) t.tells;
        })))

  hears : (n : ℕ) (w : World) → HasOctetPast w → Hears (suc n) w
      → IsSome (alert_in (world_step w events.DownDeliver).answer) ⊎ Hears n (world_step w events.DownDeliver).after
  hears zero w g t = hears_last w g t
  hears (suc n) w g t = hears_one n w g t t.olds refl

  heard_all : (w : World) → HasOctetPast w → Reports w → Ends Heard w (all_heard w)
  heard_all w g p =
      let t = p.1 in
      let n : length w.down ≡ suc p.0 =
      omega (arith, ap length t.down, length-append t.olds (t.last ∷ []), t.count) in
      subst (λ m. Ends Heard w (replicate m events.DownDeliver)) (sym n)
      (ends_repeat Hears events.DownDeliver tt hears (suc p.0) w g t)

  -- ---- the timer runs out

  abbrev pub ReadyWith : World → Type 0
  ReadyWith w = Ready w × Bounded w

  -- the sender changes, with as many units sent
  quiet_with : (w : World) (f : FopState SegmentView) → Quiet w → f.state ≡ w.ground_node.fop.state
      → f.nn ≡ w.ground_node.fop.nn → length f.sent ≡ length w.ground_node.fop.sent
      → Quiet (record w { ground_node = with_fop w.ground_node f })
  quiet_with w f q state nn sent =
      let is = with_same w.ground_node f in
      let sent_is : length (with_fop w.ground_node f).fop.sent ≡ length w.ground_node.fop.sent =
      ap length is.sent ∙ sent in
      record {
        state = rw (is.state, state) q.state;
        asked = λ e. omega (arith, sent_is, q.asked (sym (is.state ∙ state) ∙ e));
        up = q.up;
        down = q.down;
        opened = q.opened;
        vr = q.vr ∙ sym (is.nn ∙ nn);
        asks = λ e. omega (arith, sent_is, q.asks e);
      }

  holds_same : (w : World) (f : FopState SegmentView) → Bounded w → f.state ≡ w.ground_node.fop.state
      → length f.sent ≡ length w.ground_node.fop.sent → f.waiting ≡ w.ground_node.fop.waiting
      → f.window ≡ w.ground_node.fop.window → IsBounded most k (with_fop w.ground_node f)
  holds_same w f b state sent waiting window =
      bounded most k w.ground_node f b (record {
        active = rw state b.active;
        size = rw waiting (omega (arith, sent));
        window = window;
      })

  ends : (w : World) → Heard w → w.ground_node.fop.ticks ≡ Some 1
      → IsSome (alert_in (world_step w events.Tick).answer) ⊎ ReadyWith (world_step w events.Tick).after
  ends w p is =
      let s = w.ground_node.fop in
      let f : FopState SegmentView = after_repeat (after_stop s) in
      let sent : length f.sent ≡ length s.sent = length-map s.sent marked_unit in
      elim (tick_end s is p.0.state) [
        | inl a ↦ inl (alerted (tick_step s).answer a)
        | inr is ↦ (
            let ready : ReadyWith (record w { ground_node = with_fop w.ground_node f }) = (
              record {
                quiet = quiet_with w f p.0 refl refl sent;
                marked = ap are_marked (with_same w.ground_node f).sent ∙ marked_all s.sent;
              },
              holds_same w f p.1 refl sent refl refl,
            ) in
            inr (subst (λ (o : FopOutcome SegmentView (Option Alert)). ReadyWith
            (record w { ground_node = with_fop w.ground_node o.after })) (sym is) ready))
      ]

  runs : (w : World) (left : ℕ) → Heard w
      → Heard (record w { ground_node = with_fop w.ground_node (record w.ground_node.fop { ticks = Some left }) })
  runs w left p =
      let f : FopState SegmentView = record w.ground_node.fop { ticks = Some left } in
      (quiet_with w f p.0 refl refl refl, holds_same w f p.1 refl refl refl refl)

  run_out : (w : World) → HasOctetPast w → Heard w → Ends ReadyWith w (timer_run_out w)
  run_out w g p =
      let marked = are_marked w.ground_node.fop.sent in
      let waits = awaits_so w p.0 in
      cond_both (awaits w.ground_node.fop.state marked)
      (replicate (ticks_left w.ground_node.fop.ticks) events.Tick) [] (λ es. Ends ReadyWith w es)
      (λ t. elim (known w g).sender.running [
        | inl none ↦ absurd
            (let no : marked ≡ false = not-true marked (sym waits ∙ t) in
            let all : marked ≡ true = rw none refl in cc (all, no))
        | inr on ↦ ends_ticks Heard ReadyWith runs ends w g p w.ground_node.fop.ticks refl on
      ])
      (λ t. inr (g, (record { quiet = p.0; marked = not-false marked (sym waits ∙ t) }, p.1)))

  -- ---- the whole exchange

  pub first_round_trip : (w : World) → HasOctetPast w → Bounded w → Ends Heard w (round_trip w)
  first_round_trip w g b =
      ends_trip Bounded (Arrived (IsBounded most k) zero) Waits Reports Heard w (sends w g b)
      (ground_arrives (IsBounded most k)) (ground_takes (IsBounded most k)) reports heard_all

  pub first_exchange : (w : World) → HasOctetPast w → Bounded w → Ends ReadyWith w (exchange w)
  first_exchange w g b = ends_then Heard ReadyWith round_trip timer_run_out w (first_round_trip w g b) run_out

-- The transmission count in an exchange, in any session.

-- ---- units may be retransmitted: the count is below the limit, or all units sent are due already

abbrev pub IsBelow : FopState SegmentView → Type 0
IsBelow s = s.count < s.limit

abbrev pub IsFine : FopState SegmentView → Type 0
IsFine s = IsBelow s ⊎ (are_marked s.sent ≡ true)

-- they may still be retransmitted, if they may be sent more than once; the limit stays, while no
-- directive sets it
module _ (s : FopState SegmentView) where
  abbrev Goes : (FopState SegmentView → Type 0) → {A : Type 0} → FopOutcome SegmentView A → Type 0
  Goes P o = (o.after.limit ≡ s.limit) × (2 ≤ s.limit → P s → P o.after)

  again_goes : (again : Bool) → Goes IsFine (goes_on (retransmits s again))
  again_goes true = (refl, λ two fine. inr (marked_all s.sent))
  again_goes false = (refl, λ two fine. fine)

  active_goes : (r : Clcw) → Goes IsFine (report_while_active s r)
  active_goes r =
      let left : FopState SegmentView = after_new_value s r.value in
      let over : 2 ≤ s.limit → IsFine s → IsFine (after_alert s) = λ two fine. inr refl in
      let later_over : 2 ≤ s.limit → IsFine s → IsFine (after_alert left) = λ two fine. inr refl in
      let moved : 2 ≤ s.limit → IsFine s → IsFine left = λ two fine. inl two in
      let again : 2 ≤ s.limit → IsFine s → IsFine (retransmits left true) = λ two fine. inr (marked_all left.sent) in
      heard_active s r (λ o. Goes IsFine o) (assumption (over, later_over, moved, again, again_goes))

  report_goes : (r : Clcw) → Goes IsFine (clcw_step s r)
  report_goes r =
      let over : 2 ≤ s.limit → IsFine s → IsFine (after_alert s) = λ two fine. inr refl in
      report_cases s r (λ o. Goes IsFine o) (assumption (active_goes r, over))

  pull_goes : Goes IsBelow (pull_step s)
  pull_goes =
      let first : 2 ≤ s.limit → IsBelow s → (if is_none_sent s.sent then 1 else s.count) < s.limit =
      λ two below. cond_both (is_none_sent s.sent) 1 s.count (λ n. n < s.limit) (λ t. two) (λ t. below) in
      pulled_out s (λ o. Goes IsBelow o) (assumption first)

pub limit_stays : (w : World) (e : Event) → IsCalm e
    → (world_step w e).after.ground_node.fop.limit ≡ w.ground_node.fop.limit
limit_stays w e calm =
    let s = w.ground_node.fop in
    step_kept (λ f. f.limit ≡ s.limit) (λ f waiting bypass is. is) w refl e
    (λ is. ticked s (λ o. o.after.limit ≡ s.limit) (assumption)) (λ is. (pull_goes s).0)
    (λ told r. (report_goes s r).0) (λ d is. no_directive e calm d is) (λ value is. no_resumption e calm value is)

-- until the CLCW is heard
abbrev pub IsBefore : Event → Type 0
IsBefore e = IsCalm e × (e ≢ events.Tick) × (e ≢ events.DownDeliver)

no_report : {A : Type 0} (e : Event) → IsBefore e → BringsReport e → A
no_report events.DownDeliver is told = absurd (is.2 refl)
no_report events.DownClcw is told = elim is.0 [ ]
no_report _ is told = elim told [ ]

module _ (w : World) (two : 2 ≤ w.ground_node.fop.limit) where
  pub step_below : IsBelow w.ground_node.fop → (e : Event) → IsBefore e
      → IsBelow (world_step w e).after.ground_node.fop
  step_below below e is =
      step_kept IsBelow (λ f waiting bypass is. is) w below e (λ t. absurd (is.1 t))
      (λ t. (pull_goes w.ground_node.fop).1 two below) (λ told. no_report e is told)
      (λ d same. no_directive e is.0 d same) (λ value same. no_resumption e is.0 value same)

  pub hears_fine : IsFine w.ground_node.fop → IsFine (world_step w events.DownDeliver).after.ground_node.fop
  hears_fine fine =
      step_kept IsFine (λ f waiting bypass is. is) w fine events.DownDeliver (λ is. absurd (cc is))
      (λ is. absurd (cc is)) (λ told r. (report_goes w.ground_node.fop r).1 two fine) (λ d is. absurd (cc is))
      (λ value is. absurd (cc is))

-- ---- the timer ends without an alert

pub ends_silent : (s : FopState SegmentView) → s.ticks ≡ Some 1 → (s.state ≡ S1) ⊎ (s.state ≡ S2) → IsBelow s
    → (tick_step s).answer ≡ None
ends_silent s is state below =
    let P : FopOutcome SegmentView (Option Alert) → Type 0 = λ o. o.answer ≡ None in
    let goes : P (while_below (after_stop s) (after_repeat (after_stop s))) = rw (lt-ltb s.count s.limit below) refl in
    subst P (sym (ap (tick_with s) is)) (elim state [
      | inl one ↦ subst (λ m. P (timer_ended (after_stop s) m)) (sym one) goes
      | inr two ↦ subst (λ m. P (timer_ended (after_stop s) m)) (sym two) goes
    ])
