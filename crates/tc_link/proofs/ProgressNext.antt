-- An exchange once the link is ready: what is sent is accepted and acknowledged, so that exchanges end with all
-- delivered.
use Rattle.tc_link.proofs.Common.{◌≡◌, ◌<◌, ◌≤◌, ◌⊎◌, inl, inr, ℕ, suc, ◌+◌, ◌%◌, Bool, true, false, not, List, [], ◌∷◌}
use Rattle.tc_link.proofs.Common.{◌++◌, length, Option, Some, None, Ok, refl, ap, sym, subst, ◌∙◌, arith, nat_lt, ◌==◌}
use Rattle.tc_link.proofs.Common.{cond_both, eqb-true, ltb-true, ltb-false, Clcw, On, SegmentView, Ad, Bd, ahead_by}
use Rattle.tc_link.proofs.Common.{FopState, FopOutcome, S1, S2, Alert, Idle, oldest_marked, without_oldest_mark}
use Rattle.tc_link.proofs.Common.{PulledUnit, pull_step, after_restart, report_while_active, locks, waits, asks}
use Rattle.tc_link.proofs.Common.{goes_on, alerts, NnR, Synch, FarmState, Open, Accepted, verdict_of, Config, frame_of}
use Rattle.tc_link.proofs.Common.{zero, ◌-◌, length-append, replicate, AllByRecursion, option_to_list, unmarked_unit}
use Rattle.tc_link.proofs.Common.{IsActive, clcw_step, after_verdict, report_of, IsConfig, FitsFrame, frame_to_send}
use Rattle.tc_link.proofs.Common.{PacketOn, GroundState, with_fop, unsent_segments, after_extraction, extract_step}
use Rattle.tc_link.proofs.Common.{SpacecraftState, SpacecraftOutcome, spacecraft_take, spacecraft_report, body_outcome}
use Rattle.tc_link.proofs.Common.{is_free, World, WorldOutcome, world_step, world_after_pull, up_deliver_step, BodyView}
use Rattle.tc_link.proofs.Common.{active_on, acknowledging, ◌*◌, world_run}
use Rattle.tc_link.specs.Beside.{HasOctetPast}
use Rattle.std.specs.Prelude.{◌&&◌}
use Rattle.std.proofs.lemmas.List.{drop_all, nil_from_length}
use Rattle.std.proofs.lemmas.Bool.{lt-ltb, false_from_ne_true}
use Rattle.tc_frame.specs.Decoding.{frame_at}
use Rattle.tc_frame.specs.Encoding.{spelling}
use Rattle.tm_link.specs.Encoding as telemetry_writing
use Rattle.cop1.specs.declared.vocabulary.Alert.TheVariants.{Lockout, Clcw as ClcwAlert}
use Rattle.cop1.specs.Farm.{after_type_b}
use Rattle.cop1.specs.FopPull.{NothingPulled, BypassPulled, SequencePulled, pulls, pull_control, pull_bypass, pull_in}
use Rattle.cop1.specs.FopPull.{pull_marked, pull_waiting, after_send_first}
use Rattle.cop1.specs.FopReport.{nothing_new, move_on}
use Rattle.cop1.specs.FopWords.{is_outside}
use Rattle.cop1.specs.Units.{oldest_of}
use Rattle.nodes.specs.declared.received.Received.{Received}
use Rattle.nodes.specs.declared.event.Event.TheVariants as events
use Rattle.nodes.specs.Ground.{outstanding}
use Rattle.tc_link.specs.Progress.{awaits, all_sent, reported, all_heard, are_marked, ticks_left, timer_run_out}
use Rattle.tc_link.specs.Progress.{round_trip, exchange, times, EachMakesProgress, EachAcknowledges}
use Rattle.tc_link.proofs.ProgressSender.{MarkedFrom, next_marked, open_flags, all_marked, marked_within, marked_push}
use Rattle.tc_link.proofs.ProgressSender.{HoldsNoMore, pull_no_more, without_length, active_report}
use Rattle.tc_link.proofs.Upward.{own_arrives}
use Rattle.tc_link.proofs.Readable.{moved, marked_fits, reads_back}
use Rattle.tc_link.proofs.Linked.{Tells}
use Rattle.tc_link.proofs.IdleStart.{tells_now, flags_are}
use Rattle.tc_link.proofs.Sound.{Commanded}
use Rattle.tc_link.proofs.ProgressFirst.{awaits_so, Ready, with_same, with_config, with_unsent, size, size_is}
use Rattle.tc_link.proofs.ProgressFirst.{IsBounded, bounded, has_numbers, heard_is, Taken, takes, arrives, ReadyWith}
use Rattle.tc_link.proofs.ProgressFirst.{first_exchange}
use Rattle.tc_link.proofs.ProgressNumbers.{known, Ends, ends_then, ends_repeat, ends_once, ends_so, ends_trip}
use Rattle.tc_link.proofs.ProgressNumbers.{idle_after, alerts_first, alerts_then, or_on, ends_times}
use Rattle.tc_link.proofs.Promised.{promised_so, run_append}

-- What is sent next in an exchange, and how the receiver accepts it, while what is not acknowledged must be
-- retransmitted. These are units with consecutive numbers from NN(R) on.

-- ---- a pull

pub data NextPull (s : FopState SegmentView) (j : ℕ) : Type 0 where
  bypasses : (u : SegmentView) (us : List SegmentView) → s.bypass ≡ u ∷ us
      → pull_step s ≡ pulls (record s { bypass = us }) (BypassPulled u) → NextPull s j
  again : s.bypass ≡ [] → (u : SegmentView) → oldest_marked 0 s.sent ≡ Some (j, u)
      → MarkedFrom (suc j) (without_oldest_mark s.sent)
      → pull_step s ≡ pulls (record (after_restart s) { sent = without_oldest_mark s.sent })
      (SequencePulled ((s.nn + j) % 256) u) → NextPull s j
  first : s.bypass ≡ [] → j ≡ length s.sent → (u : SegmentView) → s.waiting ≡ Some u
      → ahead_by s.vs s.nn < s.window → pull_step s ≡ pulls (after_send_first s u) (SequencePulled s.vs u)
      → NextPull s j
  none : s.bypass ≡ [] → j ≡ length s.sent → (s.waiting ≡ None) ⊎ (s.window ≤ ahead_by s.vs s.nn)
      → pull_step s ≡ pulls s NothingPulled → NextPull s j

module _ (s : FopState SegmentView) (j : ℕ) (state : (s.state ≡ S1) ⊎ (s.state ≡ S2)) (idle : s.control ≡ Idle)
    (marked : MarkedFrom j s.sent) where
  -- the sender continues with the units
  in_sequence : s.bypass ≡ [] → pull_step s ≡ pull_marked s (oldest_marked 0 s.sent)
  in_sequence nothing =
      ap (pull_control s) idle ∙ ap (λ us. pull_bypass s (oldest_of us)) nothing ∙ elim state [
        | inl one ↦ ap (pull_in s) one
        | inr two ↦ ap (pull_in s) two
      ]

  of_waiting : s.bypass ≡ [] → j ≡ length s.sent → oldest_marked 0 s.sent ≡ None → (o : Option SegmentView)
      → s.waiting ≡ o → NextPull s j
  of_waiting nothing at unmarked None is =
      none nothing at (inl is) (in_sequence nothing ∙ ap (pull_marked s) unmarked ∙ ap (pull_waiting s) is)
  of_waiting nothing at unmarked (Some u) is =
      let goes : pull_step s ≡ pull_waiting s (Some u) =
      in_sequence nothing ∙ ap (pull_marked s) unmarked ∙ ap (pull_waiting s) is in
      cond_both (nat_lt (ahead_by s.vs s.nn) s.window) (pulls (after_send_first s u) (SequencePulled s.vs u))
      (pulls s NothingPulled)
      (λ (o : FopOutcome SegmentView (PulledUnit SegmentView)). pull_step s ≡ o → NextPull s j)
      (λ t e. first nothing at u is (ltb-true (ahead_by s.vs s.nn) s.window t) e)
      (λ t e. none nothing at (inr (ltb-false (ahead_by s.vs s.nn) s.window t)) e) goes

  next_pull : (us : List SegmentView) → s.bypass ≡ us → NextPull s j
  next_pull (u ∷ us) is = bypasses u us is (ap (pull_control s) idle ∙ ap (λ us. pull_bypass s (oldest_of us)) is)
  next_pull [] is = elim (next_marked 0 j s.sent marked) [
    | inl unmarked ↦ of_waiting is unmarked.1 unmarked.0 s.waiting refl
    | inr some ↦ (
        let oldest : oldest_marked 0 s.sent ≡ Some (j, some.0) =
        some.1 ∙ ap (λ n. Some (n, some.0)) (omega arith) in
        again is some.0 oldest some.2 (in_sequence is ∙ ap (pull_marked s) oldest))
  ]

-- ---- frames in transit on the uplink: units with consecutive numbers, and bypass units

abbrev pub Consecutive : Config → ℕ → List (List ℕ) → ℕ → Type 0
Consecutive c v [] e = v ≡ e
Consecutive c v (b ∷ bs) e =
    ((u : SegmentView) × (frame_at On b ≡ Ok (frame_of c (Ad v u))) × Consecutive c ((v + 1) % 256) bs e)
    ⊎ ((u : SegmentView) × (frame_at On b ≡ Ok (frame_of c (Bd u))) × Consecutive c v bs e)

pub next_number : (c : Config) (v : ℕ) (bs : List (List ℕ)) (e : ℕ) (b : List ℕ) (u : SegmentView)
    → frame_at On b ≡ Ok (frame_of c (Ad e u)) → Consecutive c v bs e → Consecutive c v (bs ++ b ∷ []) ((e + 1) % 256)
next_number c v [] e b u reads is =
    inl (u, subst (λ n. frame_at On b ≡ Ok (frame_of c (Ad n u))) (sym is) reads, ap (λ n. (n + 1) % 256) is)
next_number c v (x ∷ bs) e b u reads is = elim is [
  | inl t ↦ inl (t.0, t.1, next_number c ((v + 1) % 256) bs e b u reads t.2)
  | inr t ↦ inr (t.0, t.1, next_number c v bs e b u reads t.2)
]

pub next_bypass : (c : Config) (v : ℕ) (bs : List (List ℕ)) (e : ℕ) (b : List ℕ) (u : SegmentView)
    → frame_at On b ≡ Ok (frame_of c (Bd u)) → Consecutive c v bs e → Consecutive c v (bs ++ b ∷ []) e
next_bypass c v [] e b u reads is = inr (u, reads, is)
next_bypass c v (x ∷ bs) e b u reads is = elim is [
  | inl t ↦ inl (t.0, t.1, next_bypass c ((v + 1) % 256) bs e b u reads t.2)
  | inr t ↦ inr (t.0, t.1, next_bypass c v bs e b u reads t.2)
]

-- ---- the receiver accepts the number that it expects

pub accepts_expected : (s : FarmState) (free : Bool) → s.vr < 256 → s.state ≡ Open → free ≡ true
    → verdict_of s s.vr free ≡ Accepted
accepts_expected s free octet opened is =
    let none : ahead_by s.vr s.vr ≡ 0 = omega (arith, octet) in rw (none, opened, is) refl

-- ---- a CLCW that shows that all was accepted

pub record Acknowledged (s : FopState SegmentView) (o : FopOutcome SegmentView (Option Alert)) : Type 0 where
  pub state : o.after.state ≡ S1
  pub sent : o.after.sent ≡ []
  pub vs : o.after.vs ≡ s.vs
  pub nn : o.after.nn ≡ s.vs
  pub waiting : o.after.waiting ≡ s.waiting
  pub window : o.after.window ≡ s.window

module _ (s : FopState SegmentView) (c : Clcw) (unlocked : locks c ≡ false) (free : waits c ≡ false)
    (none : asks c ≡ false) (all : c.value ≡ s.vs) (numbered : ahead_by s.vs s.nn ≡ length s.sent)
    (vs : s.vs < 256) (nn : s.nn < 256) where
  abbrev Acks : FopOutcome SegmentView (Option Alert) → Type 0
  Acks o = Acknowledged s o

  gone : s.sent ≡ [] → s.state ≡ S1 → Acks (goes_on s)
  gone empty is =
      let nn_is : s.nn ≡ s.vs = omega (arith, ap length empty, numbered, vs, nn) in assumption (is, empty, nn_is)

  pub all_acknowledged : (s.state ≡ S1) ⊎ (s.state ≡ S2) → (s.state ≡ S2 → 1 ≤ length s.sent)
      → Acks (report_while_active s c)
  all_acknowledged state asked =
      cond_both (locks c) (alerts s Lockout) _ Acks (λ t. absurd (cc (t, unlocked)))
      (λ t. cond_both (is_outside s c.value) (alerts s NnR) _ Acks
      (λ t. absurd (let out : ahead_by s.vs s.nn < ahead_by c.value s.nn = ltb-true _ _ t in
      omega (arith, out, ap (λ v. ahead_by v s.nn) all)))
      (λ t. cond_both (not (asks c) && waits c) (alerts s ClcwAlert) _ Acks
      (λ t. absurd (let it : (not false && false) ≡ true = rw (none, free) at t in cc it))
      (λ t. cond_both (asks c && (c.value == s.vs)) (alerts s Synch) _ Acks
      (λ t. absurd (let it : (false && (c.value == s.vs)) ≡ true = rw none at t in cc it))
      (λ t. cond_both (not (asks c) && (c.value == s.nn)) (nothing_new s s.state) _ Acks
      (λ t.
      let it : (not false && (c.value == s.nn)) ≡ true = rw none at t in
      let at : c.value ≡ s.nn = eqb-true c.value s.nn it in
      let empty : length s.sent ≡ 0 = omega (arith, numbered, all, at, vs, nn) in
      elim state [
        | inl one ↦ subst (λ m. Acks (nothing_new s m)) (sym one) (gone (nil_from_length s.sent empty) one)
        | inr two ↦ absurd (omega (arith, asked two, empty))
      ])
      (λ t. cond_both (not (asks c)) (move_on s c.value) _ Acks
      (λ t.
      let left = drop_all (ahead_by c.value s.nn) s.sent (omega (arith, numbered, ap (λ v. ahead_by v s.nn) all)) in
      assumption (left, all))
      (λ t. absurd (let it : not false ≡ false = rw none at t in cc it)))))))

-- An exchange once the link is ready: whatever is sent is accepted and acknowledged.

module _ (most k : ℕ) where
  -- ---- all is sent

  -- what is left to be sent: nothing, except what the window has no room for
  abbrev IsThrough : GroundState → ℕ → Type 0
  IsThrough g j = (g.fop.bypass ≡ []) × (j ≡ length g.fop.sent)
      × ((unsent_segments g ≡ []) ⊎ (k ≤ length g.fop.sent))

  -- at most so many frames are left to be sent
  record Sending (n : ℕ) (g : GroundState) (farm : FarmState) (ups downs : List (List ℕ)) : Type 0 where
    bounds : IsBounded most k g
    state : (g.fop.state ≡ S1) ⊎ (g.fop.state ≡ S2)
    asked : g.fop.state ≡ S2 → 1 ≤ length g.fop.sent
    asks : farm.retransmit ≡ true → 1 ≤ length g.fop.sent
    down : downs ≡ []
    opened : farm.state ≡ Open
    vr : farm.vr ≡ g.fop.nn
    j : ℕ
    marked : MarkedFrom j g.fop.sent
    up : Consecutive g.config farm.vr ups ((g.fop.nn + j) % 256)
    left : (length g.fop.bypass + (length g.fop.sent - j) + length (unsent_segments g) ≤ n) ⊎ IsThrough g j

  abbrev Sends : ℕ → World → Type 0
  Sends n w = Sending n w.ground_node w.spacecraft.farm w.up w.down

  module _ (n : ℕ) (w : World) (g : HasOctetPast w) (p : Sends (suc n) w) where
    abbrev s : FopState SegmentView
    s = w.ground_node.fop

    abbrev c : Config
    c = w.ground_node.config

    on : IsActive s.state
    on = p.bounds.active

    -- the sender changes, and so does what is in transit
    goes_on_with : (f : FopState SegmentView) (up : List (List ℕ)) (j : ℕ) → HoldsNoMore s w.ground_node.pending f
        → f.state ≡ s.state → f.nn ≡ s.nn → length s.sent ≤ length f.sent → MarkedFrom j f.sent
        → Consecutive c w.spacecraft.farm.vr up ((s.nn + j) % 256)
        → (length f.bypass + (length f.sent - j) + length (option_to_list f.waiting ++ w.ground_node.pending) ≤ n)
        ⊎ ((f.bypass ≡ []) × (j ≡ length f.sent)
        × ((option_to_list f.waiting ++ w.ground_node.pending ≡ []) ⊎ (k ≤ length f.sent)))
        → Sending n (with_fop w.ground_node f) w.spacecraft.farm up w.down
    goes_on_with f up j less state nn longer marked is left =
        let same = with_same w.ground_node f in
        let unsent = with_unsent w.ground_node f (active_on f.state less.active) in
        let sent : length (with_fop w.ground_node f).fop.sent ≡ length f.sent = ap length same.sent in
        record {
          bounds = bounded most k w.ground_node f p.bounds less;
          state = rw (same.state, state) p.state;
          asked = λ e. omega (arith, sent, longer, p.asked (sym (same.state ∙ state) ∙ e));
          asks = λ e. omega (arith, sent, longer, p.asks e);
          down = p.down;
          opened = p.opened;
          vr = p.vr ∙ sym (same.nn ∙ nn);
          j = j;
          marked = rw same.sent marked;
          up = rw (with_config w.ground_node f, same.nn, nn) is;
          left = elim left [
            | inl few ↦ inl (omega (arith, ap length same.bypass, sent, ap length unsent, few))
            | inr through ↦ inr (
              same.bypass ∙ through.0,
              through.1 ∙ sym sent,
              elim through.2 [
                | inl nothing ↦ inl (unsent ∙ nothing)
                | inr full ↦ inr (omega (arith, sent, full))
              ],
            )
          ];
        }

    abbrev Next : WorldOutcome → Type 0
    Next o = Sending n o.after.ground_node o.after.spacecraft.farm o.after.up o.after.down

    send_as : (o : FopOutcome SegmentView (PulledUnit SegmentView)) → pull_step s ≡ o
        → Next (world_after_pull w (with_fop w.ground_node o.after) (frame_to_send c o.answer))
        → Next (world_step w events.Send)
    send_as o is next =
        subst (λ (o : FopOutcome SegmentView (PulledUnit SegmentView)). Next
        (world_after_pull w (with_fop w.ground_node o.after) (frame_to_send c o.answer))) (sym is) next

    less_by : (o : FopOutcome SegmentView (PulledUnit SegmentView)) → pull_step s ≡ o
        → HoldsNoMore s w.ground_node.pending o.after
    less_by o is =
        subst (λ (o : FopOutcome SegmentView (PulledUnit SegmentView)). HoldsNoMore s w.ground_node.pending o.after) is
        (pull_no_more s w.ground_node.pending on)

    own : IsConfig c
    own = let h = known w g in subst IsConfig (sym h.holds.sound.ground_node.config) h.holds.sound.ranges

    sends_next : NextPull s p.j → Next (world_step w events.Send)
    sends_next (bypasses u us is e) =
        let o = pulls (record s { bypass = us }) (BypassPulled u) in
        let fit : AllByRecursion FitsFrame (u ∷ us) = rw is at (known w g).holds.sound.ground_node.fop.bypass_fits in
        let reads = reads_back c (Bd u) own fit.0 in
        send_as o e (goes_on_with (record s { bypass = us }) (w.up ++ spelling On (frame_of c (Bd u)) ∷ []) p.j
        (less_by o e) refl refl (omega arith) p.marked
        (next_bypass c w.spacecraft.farm.vr w.up ((s.nn + p.j) % 256) (spelling On (frame_of c (Bd u))) u reads p.up)
        (elim p.left [
          | inl few ↦ inl (omega (arith, ap length is, few))
          | inr through ↦ absurd (let no = through.0 in cc (no, is))
        ]))
    sends_next (again nothing u is marked e) =
        let f : FopState SegmentView = record (after_restart s) { sent = without_oldest_mark s.sent } in
        let number : ℕ = (s.nn + p.j) % 256 in
        let o = pulls f (SequencePulled number u) in
        let h = known w g in
        let fit : FitsFrame u =
        marked_fits s w.ground_node.pending h.holds.carried.fits (p.j, u) is (active_on s.state on) in
        let reads = reads_back c (Ad number u) own fit in
        let more = marked_within (suc p.j) (without_oldest_mark s.sent) marked in
        let same = without_length s.sent in
        let step : (number + 1) % 256 ≡ (s.nn + suc p.j) % 256 = omega arith in
        send_as o e (goes_on_with f (w.up ++ spelling On (frame_of c (Ad number u)) ∷ []) (suc p.j)
        (less_by o e) refl refl (omega (arith, same)) marked
        (subst (Consecutive c w.spacecraft.farm.vr (w.up ++ spelling On (frame_of c (Ad number u)) ∷ [])) step
        (next_number c w.spacecraft.farm.vr w.up number (spelling On (frame_of c (Ad number u))) u reads p.up))
        (elim p.left [
          | inl few ↦ inl (omega (arith, same, more, few))
          | inr through ↦ absurd (omega (arith, same, more, through.1))
        ]))
    sends_next (first nothing at u is room e) =
        let f : FopState SegmentView = after_send_first s u in
        let o = pulls f (SequencePulled s.vs u) in
        let h = known w g in
        let numbers = has_numbers w g on in
        let fit : FitsFrame u = (moved s w.ground_node.pending h.holds.carried.fits u is (active_on s.state on)).0 in
        let number : (s.nn + p.j) % 256 ≡ s.vs = omega (arith, numbers.numbered, at, numbers.vs, numbers.nn) in
        let reads = reads_back c (Ad s.vs u) own fit in
        let longer = length-append s.sent (unmarked_unit u ∷ []) in
        let step : (s.vs + 1) % 256 ≡ (s.nn + suc p.j) % 256 = omega (arith, number) in
        let waits : unsent_segments w.ground_node ≡ u ∷ w.ground_node.pending =
        ap (λ o. option_to_list o ++ w.ground_node.pending) is in
        send_as o e (goes_on_with f (w.up ++ spelling On (frame_of c (Ad s.vs u)) ∷ []) (suc p.j)
        (less_by o e) refl refl (omega (arith, longer)) (marked_push p.j s.sent u p.marked at)
        (subst (Consecutive c w.spacecraft.farm.vr (w.up ++ spelling On (frame_of c (Ad s.vs u)) ∷ [])) step
        (next_number c w.spacecraft.farm.vr w.up s.vs (spelling On (frame_of c (Ad s.vs u))) u reads
        (subst (Consecutive c w.spacecraft.farm.vr w.up) number p.up)))
        (elim p.left [
          | inl few ↦ inl (omega (arith, longer, at, ap length waits, few))
          | inr through ↦ absurd (elim through.2 [
            | inl gone ↦ (let no : u ∷ w.ground_node.pending ≡ [] = sym waits ∙ gone in cc no)
            | inr full ↦ omega (arith, full, room, numbers.numbered, p.bounds.window)
          ])
        ]))
    sends_next (none nothing at why e) =
        let o = pulls s NothingPulled in
        let numbers = has_numbers w g on in
        send_as o e (goes_on_with s w.up p.j (less_by o e) refl refl (omega arith) p.marked p.up
        (inr (
          nothing,
          at,
          elim why [
            | inl waits ↦ (
                let rest = (known w g).holds.sound.ground_node.moved waits in
                inl (rw (waits, rest) refl))
            | inr full ↦ inr (omega (arith, full, numbers.numbered, p.bounds.window))
          ],
        )))

    idle : s.control ≡ Idle
    idle =
        let it = (known w g).holds.sound.ground_node.fop.commanded in
        elim p.state [
          | inl one ↦ (let idle : Commanded S1 s.control = rw one at it in idle)
          | inr two ↦ (let idle : Commanded S2 s.control = rw two at it in idle)
        ]

    sends_on : Next (world_step w events.Send)
    sends_on = sends_next (next_pull s p.j p.state idle p.marked s.bypass refl)

  -- what the ground then holds is sent, as far as the window has room
  record Filled (g : GroundState) : Type 0 where
    bounds : IsBounded most k g
    state : (g.fop.state ≡ S1) ⊎ (g.fop.state ≡ S2)
    asked : g.fop.state ≡ S2 → 1 ≤ length g.fop.sent
    rest : (unsent_segments g ≡ []) ⊎ (k ≤ length g.fop.sent)

  -- so many frames are in transit on the uplink, with the numbers from V(R) to V(S)
  record Coming (n : ℕ) (w : World) : Type 0 where
    filled : Filled w.ground_node
    down : w.down ≡ []
    opened : w.spacecraft.farm.state ≡ Open
    up : Consecutive w.ground_node.config w.spacecraft.farm.vr w.up w.ground_node.fop.vs
    count : length w.up ≡ n
    clear : (w.spacecraft.farm.retransmit ≡ false) ⊎ ((w.spacecraft.farm.vr ≡ w.ground_node.fop.nn)
        × (w.spacecraft.farm.retransmit ≡ true → 1 ≤ length w.ground_node.fop.sent))

  all_sent_so : (w : World) → HasOctetPast w → Sends zero w → Coming (length w.up) w
  all_sent_so w g p =
      let s = w.ground_node.fop in
      let numbers = has_numbers w g p.bounds.active in
      let within = marked_within p.j s.sent p.marked in
      let through : (p.j ≡ length s.sent) × ((unsent_segments w.ground_node ≡ []) ⊎ (k ≤ length s.sent)) = elim p.left [
        | inl few ↦ (
          omega (arith, few, within),
          inl (nil_from_length (unsent_segments w.ground_node) (omega (arith, few))),
        )
        | inr t ↦ (t.1, t.2)
      ] in
      let last : (s.nn + p.j) % 256 ≡ s.vs = omega (arith, numbers.numbered, through.0, numbers.vs, numbers.nn) in
      record {
        filled = record { bounds = p.bounds; state = p.state; asked = p.asked; rest = through.1 };
        down = p.down;
        opened = p.opened;
        up = subst (Consecutive w.ground_node.config w.spacecraft.farm.vr w.up) last p.up;
        count = refl;
        clear = inr (p.vr, p.asks);
      }

  abbrev ComesAll : World → Type 0
  ComesAll w = Coming (length w.up) w

  sends_all : (w : World) → HasOctetPast w → Ready w → IsBounded most k w.ground_node → Ends ComesAll w (all_sent w)
  sends_all w g r b =
      let s = w.ground_node.fop in
      let q = r.quiet in
      let numbers = has_numbers w g b.active in
      let n : ℕ = suc (length s.bypass + size w.ground_node) in
      let start : Sends n w = record {
        bounds = b;
        state = q.state;
        asked = q.asked;
        asks = q.asks;
        down = q.down;
        opened = q.opened;
        vr = q.vr;
        j = 0;
        marked = all_marked s.sent r.marked;
        up = subst (λ bs. Consecutive w.ground_node.config w.spacecraft.farm.vr bs ((s.nn + 0) % 256)) (sym q.up)
            (omega (arith, q.vr, numbers.nn));
        left = inl (omega (arith, size_is w.ground_node));
      } in
      ends_so (Sends zero) ComesAll w (all_sent w)
      (ends_repeat Sends events.Send tt (λ n v h p. inr (sends_on n v h p)) n w g start) all_sent_so

  -- ---- all arrives, and is accepted

  taken_farm : (s : SpacecraftState) (ps : List PacketOn) → s.farm.state ≡ Open
      → (spacecraft_take s ps).after.farm ≡ s.farm
  taken_farm s ps opened = grind (arith, opened)

  -- the spacecraft changes, with the same receiver
  coming_as : (n : ℕ) (w : World) (s : SpacecraftState) → s.farm ≡ w.spacecraft.farm → Coming n w
      → Coming n (record w { spacecraft = s })
  coming_as n w s same p = record {
    filled = p.filled;
    down = p.down;
    opened = rw same p.opened;
    up = rw same p.up;
    count = p.count;
    clear = rw same p.clear;
  }

  abbrev Takes : ℕ → World → Type 0
  Takes n = Taken Coming n zero

  one_taken : (n : ℕ) (w : World) → Coming n w → Coming n (world_step w events.Take).after
  one_taken n w p =
      coming_as n w (spacecraft_take w.spacecraft w.spacecraft.ready).after
      (taken_farm w.spacecraft w.spacecraft.ready p.opened) p

  module _ (n : ℕ) (w : World) (g : HasOctetPast w) (p : Coming (suc n) w) (empty : length w.spacecraft.ready ≡ 0) where
    abbrev craft : SpacecraftState
    craft = w.spacecraft

    free : is_free craft ≡ true
    free =
        let h = known w g in
        let slots : 1 ≤ craft.config.ready_slots =
        rw h.holds.sound.spacecraft.config h.holds.sound.ranges.ready_slots.0 in
        lt-ltb (length craft.ready) craft.config.ready_slots (omega (arith, empty, slots))

    own_config : craft.config ≡ w.ground_node.config
    own_config = let h = known w g in h.holds.sound.spacecraft.config ∙ sym h.holds.sound.ground_node.config

    -- a frame of the ground's with this body
    arrived_as : (b : List ℕ) (bs : List (List ℕ)) (f : BodyView)
        → frame_at On b ≡ Ok (frame_of w.ground_node.config f)
        → Coming n (record w { up = bs; spacecraft = (body_outcome craft f).after })
        → Coming n (up_deliver_step w (b ∷ bs)).after
    arrived_as b bs f reads next =
        subst (λ (o : SpacecraftOutcome Received). Coming n (record w { up = bs; spacecraft = o.after }))
        (sym (own_arrives craft w.ground_node.config f (frame_at On b) own_config reads)) next

    accepted_next : (u : SegmentView) (bs : List (List ℕ)) → length bs ≡ n
        → Consecutive w.ground_node.config ((craft.farm.vr + 1) % 256) bs w.ground_node.fop.vs
        → Coming n (record w { up = bs; spacecraft = (body_outcome craft (Ad craft.farm.vr u)).after })
    accepted_next u bs count rest =
        let numbers = has_numbers w g p.filled.bounds.active in
        let verdict = accepts_expected craft.farm (is_free craft) numbers.vr p.opened free in
        let farm : (body_outcome craft (Ad craft.farm.vr u)).after.farm ≡ after_verdict craft.farm Accepted =
        rw verdict refl in
        record {
          filled = p.filled;
          down = p.down;
          opened = rw farm p.opened;
          up = rw farm rest;
          count = count;
          clear = inl (rw farm refl);
        }

    bypass_next : (u : SegmentView) (bs : List (List ℕ)) → length bs ≡ n
        → Consecutive w.ground_node.config craft.farm.vr bs w.ground_node.fop.vs
        → Coming n (record w { up = bs; spacecraft = (body_outcome craft (Bd u)).after })
    bypass_next u bs count rest =
        let farm : (body_outcome craft (Bd u)).after.farm ≡ after_type_b craft.farm = grind arith in
        record {
          filled = p.filled;
          down = p.down;
          opened = rw farm p.opened;
          up = rw farm rest;
          count = count;
          clear = rw farm p.clear;
        }

    arrives_first : (bs : List (List ℕ)) → w.up ≡ bs → Coming n (up_deliver_step w bs).after
    arrives_first [] is = absurd (omega (arith, p.count, ap length is))
    arrives_first (b ∷ bs) is =
        let up : Consecutive w.ground_node.config craft.farm.vr (b ∷ bs) w.ground_node.fop.vs =
        subst (λ bs. Consecutive w.ground_node.config craft.farm.vr bs w.ground_node.fop.vs) is p.up in
        let count : length bs ≡ n = omega (arith, p.count, ap length is) in
        elim up [
          | inl t ↦ arrived_as b bs (Ad craft.farm.vr t.0) t.1 (accepted_next t.0 bs count t.2)
          | inr t ↦ arrived_as b bs (Bd t.0) t.1 (bypass_next t.0 bs count t.2)
        ]

  -- ---- the spacecraft makes a CLCW that shows that all was accepted

  record Tells_all (w : World) : Type 0 where
    filled : Filled w.ground_node
    up : w.up ≡ []
    opened : w.spacecraft.farm.state ≡ Open
    vr : w.spacecraft.farm.vr ≡ w.ground_node.fop.vs
    clear : w.spacecraft.farm.retransmit ≡ false
    last : List ℕ
    down : w.down ≡ last ∷ []
    tells : Tells w.ground_node.config last (report_of w.spacecraft.farm w.spacecraft.config.vcid)

  reports_all : (w : World) → HasOctetPast w → Takes zero w → Ends Tells_all w (reported w)
  reports_all w g t =
      let h = known w g in
      let p = t.0 in
      let none = nil_from_length w.up (omega (arith, p.count)) in
      let vr : w.spacecraft.farm.vr ≡ w.ground_node.fop.vs =
      subst (λ bs. Consecutive w.ground_node.config w.spacecraft.farm.vr bs w.ground_node.fop.vs) none p.up in
      let numbers = has_numbers w g p.filled.bounds.active in
      let last : List ℕ = telemetry_writing.spelling (spacecraft_report w.spacecraft).answer in
      ends_once Tells_all w events.Report tt g (inr (record {
        filled = p.filled;
        up = none;
        opened = p.opened;
        vr = vr;
        clear = elim p.clear [
          | inl clear ↦ clear
          | inr t ↦ false_from_ne_true w.spacecraft.farm.retransmit
              (λ asks. omega (arith, t.1 asks, numbers.numbered, vr, t.0, numbers.vs, numbers.nn))
        ];
        last = last;
        down = ap (λ ds. ds ++ last ∷ []) p.down;
        tells = rw h.holds.sound.ground_node.config (tells_now g.config w h.holds.sound);
      }))

  -- ---- the CLCW is heard, and all is acknowledged

  -- nothing is in transit, and the ground holds so much less
  abbrev pub Advanced : World → Type 0
  Advanced w = Ready w × IsBounded (most - k) k w.ground_node

  acknowledges : (w : World) → HasOctetPast w → (t : Tells_all w) → Advanced (world_step w events.DownDeliver).after
  acknowledges w g t =
      let r : Clcw = report_of w.spacecraft.farm w.spacecraft.config.vcid in
      let s : FopState SegmentView = w.ground_node.fop in
      let x = extract_step w.ground_node.extractor t.tells.frame in
      let f : FopState SegmentView = (clcw_step s r).after in
      let ground : GroundState = acknowledging (after_extraction w.ground_node x) (clcw_step s r) in
      let flags = open_flags w.spacecraft.farm.lockout w.spacecraft.farm.wait
      (sym t.opened ∙ (known w g).holds.sound.spacecraft.farm.flags.state) in
      let said = flags_are w.spacecraft.farm w.spacecraft.config.vcid in
      let numbers = has_numbers w g t.filled.bounds.active in
      let ack : Acknowledged s (clcw_step s r) =
      subst (Acknowledged s) (sym (active_report s r t.filled.bounds.active))
      (all_acknowledged s r (said.0 ∙ flags.0) (said.1 ∙ flags.1) (said.2 ∙ t.clear) t.vr numbers.numbered numbers.vs
      numbers.nn t.filled.state t.filled.asked) in
      let same = with_same ground f in
      let on : IsActive f.state = rw ack.state tt in
      let unsent : unsent_segments (with_fop ground f) ≡ unsent_segments w.ground_node =
      with_unsent ground f (active_on f.state on) ∙ ap (λ o. option_to_list o ++ w.ground_node.pending) ack.waiting in
      let none : (with_fop ground f).fop.sent ≡ [] = same.sent ∙ ack.sent in
      let left : length (unsent_segments w.ground_node) ≤ most - k = elim t.filled.rest [
        | inl nothing ↦ omega (arith, ap length nothing)
        | inr full ↦ omega (arith, full, size_is w.ground_node, t.filled.bounds.holds)
      ] in
      subst (λ (o : WorldOutcome). Advanced o.after) (sym (heard_is w t.last [] r t.down t.tells)) (
        record {
          quiet = record {
            state = inl (same.state ∙ ack.state);
            asked = λ e. absurd (let one = same.state ∙ ack.state in cc (e, one));
            up = t.up;
            down = refl;
            opened = t.opened;
            vr = t.vr ∙ sym (same.nn ∙ ack.nn);
            asks = λ e. absurd (let no = t.clear in cc (e, no));
          };
          marked = ap are_marked none;
        },
        record {
          active = rw same.state on;
          holds = omega (arith, size_is (with_fop ground f), ap length none, ap length unsent, left);
          window = same.window ∙ ack.window ∙ t.filled.bounds.window;
        },
      )

  hears_all : (w : World) → HasOctetPast w → Tells_all w → Ends Advanced w (all_heard w)
  hears_all w g t =
      subst (λ m. Ends Advanced w (replicate m events.DownDeliver)) (sym (ap length t.down))
      (ends_once Advanced w events.DownDeliver tt g (inr (acknowledges w g t)))

  -- the sender does not wait
  no_ticks : (w : World) → HasOctetPast w → Advanced w → Ends Advanced w (timer_run_out w)
  no_ticks w g p =
      let marked = p.0.marked in
      cond_both (awaits w.ground_node.fop.state (are_marked w.ground_node.fop.sent))
      (replicate (ticks_left w.ground_node.fop.ticks) events.Tick) [] (λ es. Ends Advanced w es)
      (λ t. absurd (let no : not true ≡ true = rw marked at (sym (awaits_so w p.0.quiet) ∙ t) in cc no))
      (λ t. inr (g, p))

  -- ---- the whole exchange

  pub next_round_trip : (w : World) → HasOctetPast w → Ready w → IsBounded most k w.ground_node
      → Ends Advanced w (round_trip w)
  next_round_trip w g r b =
      ends_trip ComesAll (Coming zero) (Takes zero) Tells_all Advanced w (sends_all w g r b)
      (arrives Coming one_taken (λ n w g p. arrives_first n w g p.0 p.1 w.up refl)) (takes Coming one_taken zero)
      reports_all hears_all

  pub next_exchange : (w : World) → HasOctetPast w → Ready w → IsBounded most k w.ground_node
      → Ends Advanced w (exchange w)
  next_exchange w g r b = ends_then Advanced Advanced round_trip timer_run_out w (next_round_trip w g r b) no_ticks

-- Progress: exchanges end with an alert, or with all delivered.

module _ (k : ℕ) where
  -- the link is ready, and the ground holds at most so many windows of units
  abbrev Within : ℕ → World → Type 0
  Within n w = Ready w × IsBounded (n * k) k w.ground_node

  one_less : (n : ℕ) (w : World) → HasOctetPast w → Within (suc n) w → Ends (Within n) w (exchange w)
  one_less n w g p =
      ends_so (λ v. Ready v × IsBounded (suc n * k - k) k v.ground_node) (Within n) w (exchange w)
      (next_exchange (suc n * k) k w g p.0 p.1)
      (λ v h q. (q.0, record { active = q.1.active; holds = omega (arith, q.1.holds); window = q.1.window }))

  -- the ground is Active, and holds nothing
  abbrev AtRest : World → Type 0
  AtRest w = (w.ground_node.fop.state ≡ S1) × (outstanding w.ground_node ≡ [])

  at_rest : (w : World) → HasOctetPast w → Within zero w → AtRest w
  at_rest w g p =
      let none : size w.ground_node ≤ 0 = omega (arith, p.1.holds) in
      let active : w.ground_node.fop.state ≡ S1 = elim p.0.quiet.state [
        | inl one ↦ one
        | inr two ↦ absurd (omega (arith, p.0.quiet.asked two, size_is w.ground_node, none))
      ] in
      (active, nil_from_length (outstanding w.ground_node) (omega (arith, none)))

  makes_progress : (w : World) → HasOctetPast w → IsActive w.ground_node.fop.state → w.ground_node.fop.window ≡ k
      → (n : ℕ)
      → size w.ground_node ≤ n * k → Ends AtRest w (times (suc n) exchange w)
  makes_progress w g active window n most =
      ends_then (ReadyWith (n * k) k) AtRest exchange (times n exchange) w
      (first_exchange (n * k) k w g (record { active = active; holds = most; window = window }))
      (λ v h p. ends_so (Within zero) AtRest v (times n exchange v) (ends_times Within exchange one_less n v h p)
      at_rest)

pub each_makes_progress : EachMakesProgress
each_makes_progress w g active n most =
    or_on (makes_progress w.ground_node.fop.window w g active refl n most) (λ t. inr (record {
      active = t.1.0;
      nothing = t.1.1;
      delivered = λ idle.
          let v = world_run w (times (suc n) exchange w) in
          (promised_so t.0.config v (known v t.0).holds (idle_after (suc n) w idle)).in_order.complete t.1.0 t.1.1;
    }))

-- two exchanges, one after the other
pub each_acknowledges : EachAcknowledges
each_acknowledges w g active =
    let s = w.ground_node in
    let k = s.fop.window in
    elim (first_exchange (size s) k w g (record { active = active; holds = omega arith; window = refl })) [
      | inl a ↦ inl (alerts_first w (exchange w) (times 1 exchange (world_run w (exchange w))) a)
      | inr t ↦ (
          let v = world_run w (exchange w) in
          let most : ℕ = size v.ground_node in
          let b : IsBounded most k v.ground_node =
          record { active = t.1.1.active; holds = omega arith; window = t.1.1.window } in
          let once : world_run w (times 1 exchange w) ≡ v = run_append w (exchange w) [] in
          let twice : world_run w (times 2 exchange w) ≡ world_run v (exchange v) =
          run_append w (exchange w) (times 1 exchange v) ∙ run_append v (exchange v) [] in
          elim (next_exchange most k v t.0 t.1.0 b) [
            | inl a ↦ inl (alerts_then w (exchange w) (times 1 exchange v) (alerts_first v (exchange v) [] a))
            | inr u ↦ inr (subst
                (λ (x : World). size x.ground_node ≤ size (world_run w (times 1 exchange w)).ground_node - k)
                (sym twice) (subst (λ (x : World). size (world_run v (exchange v)).ground_node ≤ size x.ground_node - k)
                (sym once) u.1.1.holds))
          ])
    ]
