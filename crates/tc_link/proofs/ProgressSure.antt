-- Exchanges while a session is not confirmed yet, and exchanges in which no alert is raised.
use Rattle.tc_link.proofs.Common.{IsIdle, is_closed, ◌*◌, zero, S6, false, ◌≡◌, ◌<◌, ◌≤◌, ◌⊎◌, inl, inr, ℕ}
use Rattle.tc_link.specs.Beside.{HasOctetPast}
use Rattle.tc_link.proofs.Common.{suc, ◌+◌, ◌-◌, true, List, [], ◌∷◌, ◌++◌, length, Option, Some, None, refl, ap, sym}
use Rattle.tc_link.proofs.Common.{subst, ◌∙◌, arith, length-append, cond_both, replicate, nat_lt, not, ◌==◌, Clcw}
use Rattle.tc_link.proofs.Common.{SegmentView, Alert, NnR, Synch, Control, Idle, Due, Sent, FopState, FopOutcome}
use Rattle.tc_link.proofs.Common.{FopMode, S1, S2, S4, S5, IsActive, locks, waits, asks, confirms, clcw_step, report_in}
use Rattle.tc_link.proofs.Common.{pull_step, pulled_out, tick_step, ticked, after_stop, after_count, due_again, goes_on}
use Rattle.tc_link.proofs.Common.{alerts, GroundState, with_fop, after_extraction, World, WorldOutcome, world_step}
use Rattle.tc_link.proofs.Common.{world_run, is_initialising, acknowledging, IsSettled, Ok, AllByRecursion, Limit}
use Rattle.tc_link.proofs.Common.{Event, directive_of, IsChecking}
use Rattle.std.specs.Prelude.{IsSome}
use Rattle.std.proofs.lemmas.Bool.{ltb-true}
use Rattle.cop1.specs.declared.vocabulary.Alert.TheVariants.{Lockout, Clcw as ClcwAlert, Timer, Terminated}
use Rattle.cop1.specs.FopPull.{pull_control, pull_bypass, pull_in}
use Rattle.cop1.specs.FopTick.{tick_with, timer_ended, while_below}
use Rattle.cop1.specs.Units.{oldest_of}
use Rattle.nodes.specs.Ground.{outstanding}
use Rattle.nodes.specs.declared.event.Event.TheVariants as events
use Rattle.simulated_link.specs.Replies.{reply_to_alert}
use Rattle.simulated_link.proofs.Unchanged.{pulled}
use Rattle.tc_link.specs.FalseAlarms.{alert_in, IsUnderCheck, HasCause}
use Rattle.tc_link.specs.Progress.{times, most_sent, all_sent, reported, all_heard, are_marked, ticks_left, awaits}
use Rattle.tc_link.specs.Progress.{timer_run_out, round_trip, exchange, AlertsIn, EachBegins, EachEnds, IsDone}
use Rattle.tc_link.specs.Progress.{Schedule, followed_by, all_taken, all_arrived, EachIsDelivered}
use Rattle.tc_link.proofs.ProgressFirst.{Arrived, Taken, ground_takes, ground_arrives, ends_ticks, oldest_heard}
use Rattle.tc_link.proofs.ProgressFirst.{alerted, with_same, limit_stays, IsBelow, IsFine, IsBefore, step_below}
use Rattle.tc_link.proofs.ProgressFirst.{hears_fine, ends_silent, awaits_so, Quiet, Ready, ReadyWith, Heard}
use Rattle.tc_link.proofs.ProgressFirst.{first_round_trip, first_exchange, IsBounded}
use Rattle.tc_link.proofs.ProgressSender.{holds_more, IsDueNow, Running, tick_on}
use Rattle.tc_link.proofs.ProgressNext.{each_makes_progress, Advanced, next_round_trip, next_exchange}
use Rattle.tc_link.proofs.ProgressNumbers.{idle_run, exchange_calm, ends_trip, known, Ends, ends_then, ends_repeat}
use Rattle.tc_link.proofs.ProgressNumbers.{ends_once, alerts_first, alerts_then, or_on, ends_so, befores_are, IsTalk}
use Rattle.tc_link.proofs.ProgressNumbers.{talks_calm, trip_talks, timer_calm, going_step, IsCalm, calm_fits}
use Rattle.tc_link.proofs.ProgressNumbers.{directive_stays, idle_step, settled_step}
use Rattle.tc_link.proofs.Linked.{early_off}
use Rattle.tc_link.proofs.Promised.{promised_of_so, run_append}

-- Exchanges while a session is not confirmed yet, in S4 and S5. Each ends with an alert, or with the sender
-- Active, or with one transmission fewer left.

abbrev pub IsBeginning : FopMode → Type 0
IsBeginning m = (m ≡ S4) ⊎ (m ≡ S5)

-- ---- the sender

module _ (s : FopState SegmentView) (begins : IsBeginning s.state) where
  not_active : {A : Type 0} → IsActive s.state → A
  not_active active = elim begins [
    | inl four ↦ absurd (let no : IsActive S4 = rw four at active in no)
    | inr five ↦ absurd (let no : IsActive S5 = rw five at active in no)
  ]

  -- a pull leaves the sender in its state, with its count and its limit
  pub record Stays (t : FopState SegmentView) : Type 0 where
    pub state : t.state ≡ s.state
    pub count : t.count ≡ s.count
    pub limit : t.limit ≡ s.limit

  pub pull_stays : Stays (pull_step s).after
  pull_stays = pulled_out s (λ o. Stays o.after) (record {
    none = assumption;
    command = λ c is. assumption;
    bypass = λ u us is. assumption;
    again = λ active x is. not_active active;
    first = λ active u is room. not_active active;
  })

  in_control : (m : FopMode) → IsBeginning m → (pull_in s m).after.control ≡ s.control
  in_control S1 is = elim is [ inl four ↦ absurd (cc four) | inr five ↦ absurd (cc five) ]
  in_control S2 is = elim is [ inl four ↦ absurd (cc four) | inr five ↦ absurd (cc five) ]
  in_control _ is = refl

  bypass_control : (us : List SegmentView) → (pull_bypass s (oldest_of us)).after.control ≡ s.control
  bypass_control [] = in_control s.state begins
  bypass_control (u ∷ us) = refl

  -- no command is due then
  pub command_pulled : (control : Control) → s.control ≡ control → IsDueNow (pull_control s control).after.control → ⊥
  command_pulled (Due c) is due = due
  command_pulled Idle is due =
      let same : (pull_control s Idle).after.control ≡ Idle = bypass_control s.bypass ∙ is in
      let it : IsDueNow Idle = subst IsDueNow same due in it
  command_pulled (Sent c) is due =
      let same : (pull_control s (Sent c)).after.control ≡ Sent c = bypass_control s.bypass ∙ is in
      let it : IsDueNow (Sent c) = subst IsDueNow same due in it

  -- ---- a CLCW: in S4 an alert, or the sender is Active; in S5 the sender is Active, or no change
  abbrev LedBy : FopOutcome SegmentView (Option Alert) → Type 0
  LedBy o = IsSome o.answer ⊎ (IsActive o.after.state ⊎ ((s.state ≡ S5) × (o ≡ goes_on s)))

  in_S4 : (r : Clcw) → LedBy (report_in s r S4)
  in_S4 r =
      cond_both (locks r) (alerts s Lockout) _ LedBy (λ t. inl refl)
      (λ t. cond_both (not (r.value == s.vs)) (alerts s NnR) _ LedBy (λ t. inl refl)
      (λ t. cond_both (asks r) (alerts s Synch) _ LedBy (λ t. inl refl)
      (λ t. cond_both (waits r) (alerts s ClcwAlert) (goes_on (record s { state = S1; ticks = None })) LedBy
      (λ t. inl refl) (λ t. inr (inl tt)))))

  in_S5 : (r : Clcw) → s.state ≡ S5 → LedBy (report_in s r S5)
  in_S5 r is =
      cond_both (confirms s r) (goes_on (record s { state = S1; ticks = None; control = Idle })) (goes_on s) LedBy
      (λ t. inr (inl tt)) (λ t. inr (inr (is, refl)))

  report_leads : (r : Clcw) → LedBy (clcw_step s r)
  report_leads r = elim begins [
    | inl four ↦ subst (λ m. LedBy (report_in s r m)) (sym four) (in_S4 r)
    | inr five ↦ subst (λ m. LedBy (report_in s r m)) (sym five) (in_S5 r five)
  ]

-- the timer ends in S5: an alert is raised, or the command is due again, and counted
retried : (s : FopState SegmentView) → s.ticks ≡ Some 1 → s.state ≡ S5
    → IsSome (tick_step s).answer ⊎ ((s.count < s.limit)
    × (tick_step s ≡ goes_on (record (after_count (after_stop s)) { control = due_again s.control })))
retried s is five =
    let f : FopState SegmentView = record (after_count (after_stop s)) { control = due_again s.control } in
    let P : FopOutcome SegmentView (Option Alert) → Type 0 =
    λ o. IsSome o.answer ⊎ ((s.count < s.limit) × (o ≡ goes_on f)) in
    let below : P (while_below (after_stop s) f) =
    cond_both (nat_lt s.count s.limit) (goes_on f) (alerts (after_stop s) Timer) P
    (λ t. inr (ltb-true s.count s.limit t, refl)) (λ t. inl refl) in
    subst P (sym (ap (tick_with s) is)) (subst (λ m. P (timer_ended (after_stop s) m)) (sym five) below)

-- a tick while the sender is Active
tick_active : (s : FopState SegmentView) → IsActive s.state
    → IsSome (tick_step s).answer ⊎ IsActive (tick_step s).after.state
tick_active s active =
    let P : FopOutcome SegmentView (Option Alert) → Type 0 = λ o. IsSome o.answer ⊎ IsActive o.after.state in
    let on : P (goes_on s) = inr active in
    let over : P (alerts (after_stop s) Timer) = inl refl in
    ticked s P (assumption (on, over))

-- ---- the exchange

abbrev Active : World → Type 0
Active w = IsActive w.ground_node.fop.state

-- with this transmission count and this limit
module _ (count limit : ℕ) where
  record Begins (s : GroundState) : Type 0 where
    state : IsBeginning s.fop.state
    count_is : s.fop.count ≡ count
    limit_is : s.fop.limit ≡ limit

  begins_with : (s : GroundState) (f : FopState SegmentView) → (b : Begins s) → Stays s.fop b.state f
      → Begins (with_fop s f)
  begins_with s f b kept =
      let same = with_same s f in
      record {
        state = rw (same.state, kept.state) b.state;
        count_is = same.count ∙ kept.count ∙ b.count_is;
        limit_is = same.limit ∙ kept.limit ∙ b.limit_is;
      }

  -- no command is due
  abbrev Pulled : GroundState → Type 0
  Pulled s = IsDueNow s.fop.control → ⊥

  module _ (most : ℕ) where
    abbrev Sends : ℕ → World → Type 0
    Sends n w = Begins w.ground_node × (Pulled w.ground_node ⊎ (n ≡ suc most))

    sends_one : (n : ℕ) (w : World) → Sends (suc n) w → Sends n (world_step w events.Send).after
    sends_one n w p =
        let s = w.ground_node.fop in
        let f = (pull_step s).after in
        pulled w (λ (o : WorldOutcome). Sends n o.after) (λ reply up sent silent. (
          begins_with w.ground_node f p.0 (pull_stays s p.0.state),
          inl (λ due. command_pulled s p.0.state s.control refl
              (subst IsDueNow (with_same w.ground_node f).control due)),
        ))

  abbrev IsReady : GroundState → Type 0
  IsReady s = Begins s × Pulled s

  abbrev ReadyNow : World → Type 0
  ReadyNow w = IsReady w.ground_node

  sends : (w : World) → HasOctetPast w → Begins w.ground_node → Ends ReadyNow w (all_sent w)
  sends w g b =
      let most : ℕ = length w.ground_node.fop.bypass + length (outstanding w.ground_node) in
      ends_so (Sends most zero) ReadyNow w (all_sent w)
      (ends_repeat (Sends most) events.Send tt (λ n v h p. inr (sends_one most n v p)) (most_sent w) w g (b, inr refl))
      (λ v h p. (p.0, elim p.1 [ inl gone ↦ gone | inr more ↦ absurd (omega (arith, more)) ]))

  -- ---- the CLCWs are heard

  -- in S4 one CLCW is still to arrive
  abbrev Hears : ℕ → World → Type 0
  Hears n w = (length w.down ≡ n) × (Active w ⊎ (ReadyNow w × ((w.ground_node.fop.state ≡ S5) ⊎ (1 ≤ n))))

  reports : (w : World) → HasOctetPast w → ReadyNow w → Ends (λ v. (n : ℕ) × Hears (suc n) v) w (reported w)
  reports w g b =
      ends_once (λ v. (n : ℕ) × Hears (suc n) v) w events.Report tt g (inr (
        length w.down,
        (
          omega (arith, length-append {A = List ℕ}),
          inr (
            (record { state = b.0.state; count_is = b.0.count_is; limit_is = b.0.limit_is }, b.1),
            inr (omega arith),
          ),
        ),
      ))

  module _ (n : ℕ) (w : World) (g : HasOctetPast w) (p : Hears (suc n) w) where
    abbrev HeardOne : WorldOutcome → Type 0
    HeardOne o = IsSome (alert_in o.answer) ⊎ Hears n o.after

    hears_one : (ds : List (List ℕ)) → w.down ≡ ds → HeardOne (world_step w events.DownDeliver)
    hears_one [] is = absurd (omega (arith, ap length is, p.0))
    hears_one (b ∷ bs) is =
        let count : length bs ≡ n = omega (arith, ap length is, p.0) in
        oldest_heard HeardOne w g b bs is (λ r x.
        let f : FopState SegmentView = (clcw_step w.ground_node.fop r).after in
        let s : GroundState = acknowledging (after_extraction w.ground_node x) (clcw_step w.ground_node.fop r) in
        let same = with_same s f in
        elim p.1 [
          | inl active ↦ or_on (holds_more w.ground_node.fop w.ground_node.pending r active)
              (λ less. inr (count, inl (rw same.state less.active)))
          | inr begun ↦ or_on (report_leads w.ground_node.fop begun.0.0.state r) (λ led. elim led [
            | inl active ↦ inr (count, inl (rw same.state active))
            | inr ignored ↦ (
                let still : f ≡ w.ground_node.fop = ap (λ o. o.after) ignored.1 in
                let state : (with_fop s f).fop.state ≡ S5 =
                same.state ∙ ap (λ f. f.state) still ∙ ignored.0 in
                let kept : Begins (with_fop s f) = record {
                  state = inr state;
                  count_is = same.count ∙ ap (λ f. f.count) still ∙ begun.0.0.count_is;
                  limit_is = same.limit ∙ ap (λ f. f.limit) still ∙ begun.0.0.limit_is;
                } in
                let pulled : Pulled (with_fop s f) =
                λ due. begun.0.1 (subst IsDueNow (same.control ∙ ap (λ f. f.control) still) due) in
                inr (count, inr ((kept, pulled), inl state)))
          ])
        ])

  -- Active, or in S5 with the command in transit
  abbrev Asked : World → Type 0
  Asked w = Active w ⊎ (ReadyNow w × (w.ground_node.fop.state ≡ S5))

  heard_all : (w : World) → HasOctetPast w → (n : ℕ) × Hears (suc n) w → Ends Asked w (all_heard w)
  heard_all w g p =
      ends_so (Hears zero) Asked w (all_heard w)
      (ends_repeat Hears events.DownDeliver tt (λ n v h q. hears_one n v h q v.down refl) (length w.down) w g
      (subst (λ n. Hears n w) (sym p.1.0) p.1))
      (λ v h q. elim q.1 [
        | inl active ↦ inl active
        | inr t ↦ elim t.1 [ inl five ↦ inr (t.0, five) | inr more ↦ absurd (omega (arith, more)) ]
      ])

  -- ---- the timer runs out

  -- one transmission fewer is left
  record Again (w : World) : Type 0 where
    five : w.ground_node.fop.state ≡ S5
    less : suc (w.ground_node.fop.limit - w.ground_node.fop.count) ≤ limit - count

  abbrev Begun : World → Type 0
  Begun w = Active w ⊎ Again w

  active_ticks : (n : ℕ) (w : World) → HasOctetPast w → Active w → Ends Begun w (replicate n events.Tick)
  active_ticks n w g active =
      ends_so Active Begun w (replicate n events.Tick)
      (ends_repeat (λ n. Active) events.Tick tt (λ n v h on. elim (tick_active v.ground_node.fop on) [
        | inl a ↦ inl (alerted (tick_step v.ground_node.fop).answer a)
        | inr on ↦ inr (rw (with_same v.ground_node (tick_step v.ground_node.fop).after).state on)
      ]) n w g active) (λ v h on. inl on)

  abbrev Repeats : World → Type 0
  Repeats w = Begins w.ground_node × (w.ground_node.fop.state ≡ S5)

  ends : (w : World) → Repeats w → w.ground_node.fop.ticks ≡ Some 1
      → IsSome (alert_in (world_step w events.Tick).answer) ⊎ Begun (world_step w events.Tick).after
  ends w p is =
      let s = w.ground_node.fop in
      let f : FopState SegmentView = record (after_count (after_stop s)) { control = due_again s.control } in
      elim (retried s is p.1) [
        | inl a ↦ inl (alerted (tick_step s).answer a)
        | inr again ↦ (
            let same = with_same w.ground_node f in
            let next : Begun (record w { ground_node = with_fop w.ground_node f }) = inr (record {
              five = same.state ∙ p.1;
              less = omega (arith, same.limit, same.count, again.0, p.0.count_is, p.0.limit_is);
            }) in
            inr (subst (λ (o : FopOutcome SegmentView (Option Alert)). Begun
            (record w { ground_node = with_fop w.ground_node o.after })) (sym again.1) next))
      ]

  runs : (w : World) (left : ℕ) → Repeats w
      → Repeats (record w { ground_node = with_fop w.ground_node (record w.ground_node.fop { ticks = Some left }) })
  runs w left p =
      let f : FopState SegmentView = record w.ground_node.fop { ticks = Some left } in (
        begins_with w.ground_node f p.0 (assumption),
        (with_same w.ground_node f).state ∙ p.1,
      )

  run_out : (w : World) → HasOctetPast w → Asked w → Ends Begun w (timer_run_out w)
  run_out w g p =
      let s = w.ground_node.fop in
      let ticks : ℕ = ticks_left s.ticks in
      elim p [
        | inl active ↦ cond_both (awaits s.state (are_marked s.sent)) (replicate ticks events.Tick) []
            (λ es. Ends Begun w es) (λ t. active_ticks ticks w g active) (λ t. inr (g, inl active))
        | inr t ↦ (
            let waits : awaits s.state (are_marked s.sent) ≡ true = rw t.1 refl in
            let on : Running s.ticks = elim ((known w g).sender.command t.1) [
              | inl due ↦ absurd (t.0.1 due)
              | inr runs ↦ runs
            ] in
            cond_both (awaits s.state (are_marked s.sent)) (replicate ticks events.Tick) [] (λ es. Ends Begun w es)
            (λ e. ends_ticks Repeats Begun runs ends w g (t.0.0, t.1) s.ticks refl on) (λ e. absurd (cc (e, waits))))
      ]

  exchange_begins : (w : World) → HasOctetPast w → Begins w.ground_node → Ends Begun w (exchange w)
  exchange_begins w g b =
      ends_then Asked Begun round_trip timer_run_out w
      (ends_trip ReadyNow (Arrived IsReady zero) (Taken (Arrived IsReady) zero zero) (λ v. (n : ℕ) × Hears (suc n) v)
      Asked w (sends w g b) (ground_arrives IsReady) (ground_takes IsReady) (λ v h p. reports v h p.0.0) heard_all)
      run_out

-- ---- as many exchanges as transmissions are left, and one more

one_first : (Q : World → Type 0) (w : World) (m : ℕ)
    → AlertsIn (world_run w (exchange w)) (times m exchange (world_run w (exchange w)))
    ⊎ Q (world_run (world_run w (exchange w)) (times m exchange (world_run w (exchange w))))
    → AlertsIn w (times (suc m) exchange w) ⊎ Q (world_run w (times (suc m) exchange w))
one_first Q w m so =
    let v = world_run w (exchange w) in
    elim so [
      | inl a ↦ inl (alerts_then w (exchange w) (times m exchange v) a)
      | inr q ↦ inr (subst Q (sym (run_append w (exchange w) (times m exchange v))) q)
    ]

-- an alert is raised, or the sender is Active, or one transmission fewer is left and the next exchange
-- begins
module _ (Leads : ℕ → World → ℕ → Type 0)
    (alert : (most : ℕ) (w : World) → AlertsIn w (exchange w) → Leads (suc most) w 1)
    (active : (most : ℕ) (w : World) → HasOctetPast w → Active w → (m : ℕ) × Leads most w m)
    (later : (most : ℕ) (w : World) (m : ℕ) → Leads most (world_run w (exchange w)) m → Leads (suc most) w (suc m))
  where
    leads : (most : ℕ) (w : World) → HasOctetPast w → IsBeginning w.ground_node.fop.state
        → w.ground_node.fop.limit - w.ground_node.fop.count < most → (m : ℕ) × Leads most w m
    leads zero w g begins few = absurd (omega (arith, few))
    leads (suc most) w g begins few =
        let s = w.ground_node.fop in
        let v = world_run w (exchange w) in
        let on : (m : ℕ) × Leads most v m → (m : ℕ) × Leads (suc most) w m =
        λ x. (suc x.0, later most w x.0 x.1) in
        elim (exchange_begins s.count s.limit w g (record { state = begins; count_is = refl; limit_is = refl })) [
          | inl a ↦ (1, alert most w a)
          | inr t ↦ on (elim t.1 [
            | inl begun ↦ active most v t.0 begun
            | inr again ↦ leads most v t.0 (inr again.five) (omega (arith, again.less, few))
          ])
        ]

-- within so many exchanges
abbrev Within : ℕ → World → ℕ → Type 0
Within most w m = (m ≤ most) × (AlertsIn w (times m exchange w) ⊎ Active (world_run w (times m exchange w)))

pub beginning : (m : FopMode) → is_initialising m ≡ true → IsBeginning m
beginning S4 is = inl refl
beginning S5 is = inr refl
beginning _ is = absurd cc

pub each_begins : EachBegins
each_begins w reached begins =
    let most : ℕ = suc (w.ground_node.fop.limit - w.ground_node.fop.count) in
    let m =
    leads Within (λ most w a. (omega arith, inl (alerts_first w (exchange w) [] a)))
    (λ most w g on. (zero, (omega arith, inr on))) (λ most w m t. (omega (arith, t.0), one_first Active w m t.1)) most
    w reached (beginning w.ground_node.fop.state begins) (omega arith) in
    (m.0, m.1.0, m.1.1)

-- ---- and on to the end

-- after so many exchanges this holds, or an alert is raised
abbrev Done : World → ℕ → Type 0
Done w m = AlertsIn w (times m exchange w) ⊎ IsDone w (world_run w (times m exchange w))

-- the first exchange is made, in the same session
then_done : (w : World) (m : ℕ) → Done (world_run w (exchange w)) m → Done w (suc m)
then_done w m done =
    let v = world_run w (exchange w) in
    let idle : IsIdle w → IsIdle v = idle_run (exchange w) w (exchange_calm w) in
    one_first (IsDone w) w m (or_on done (λ d.
    inr (record { active = d.active; nothing = d.nothing; delivered = λ is. d.delivered (idle is) })))

no_less : (n k : ℕ) → 1 ≤ k → n ≤ n * k
no_less zero k one = omega arith
no_less (suc n) k one = omega (arith, no_less n k one, one)

-- while the sender is Active
ends_active : (w : World) → HasOctetPast w → Active w → (m : ℕ) × Done w m
ends_active w reached active =
    let n = length (outstanding w.ground_node) in
    let window = (known w reached).sender.window in
    (suc n, each_makes_progress w reached active n (no_less n w.ground_node.fop.window window))

pub each_ends : EachEnds
each_ends w reached on = in_mode w.ground_node.fop.state refl on
  where
    from_start : IsBeginning w.ground_node.fop.state → (m : ℕ) × Done w m
    from_start begins =
        leads (λ most. Done) (λ most w a. inl (alerts_first w (exchange w) [] a)) (λ most. ends_active)
        (λ most. then_done) (suc (w.ground_node.fop.limit - w.ground_node.fop.count)) w reached begins (omega arith)

    in_mode : (m : FopMode) → w.ground_node.fop.state ≡ m → is_closed m ≡ false → (m : ℕ) × Done w m
    in_mode S4 is on = from_start (inl is)
    in_mode S5 is on = from_start (inr is)
    in_mode S6 is on = absurd cc
    in_mode _ is on = ends_active w reached (rw is tt)

-- No alert is raised in exchanges, in a session begun by CLCW check, Unlock or Set V(R), if the count is below
-- the limit.

-- ---- alerts

pub alerts_parted : (es fs : List Event) (w : World) → AlertsIn w (es ++ fs)
    → AlertsIn w es ⊎ AlertsIn (world_run w es) fs
alerts_parted [] fs w a = inr a
alerts_parted (e ∷ es) fs w a = elim a [
  | inl now ↦ inl (inl now)
  | inr later ↦ elim (alerts_parted es fs (world_step w e).after later) [
    | inl before ↦ inl (inr before)
    | inr after ↦ inr after
  ]
]

-- a session that was confirmed, in which units may be sent more than once
record Steady (w : World) : Type 0 where
  going : HasOctetPast w
  idle : IsIdle w
  settled : IsSettled w
  checking : IsChecking (directive_of w)
  two : 2 ≤ w.ground_node.fop.limit

steady_step : (w : World) → Steady w → (e : Event) → IsCalm e → Steady (world_step w e).after
steady_step w k e calm =
    record {
      going = going_step w k.going e calm;
      idle = idle_step w e calm k.idle;
      settled = settled_step w k.going e calm k.idle k.settled;
      checking = subst IsChecking (sym (directive_stays w e calm)) k.checking;
      two = rw (limit_stays w e calm) k.two;
    }

steady_run : (es : List Event) (w : World) → Steady w → AllByRecursion IsCalm es → Steady (world_run w es)
steady_run [] w k all = k
steady_run (e ∷ es) w k all = steady_run es (world_step w e).after (steady_step w k e all.0) all.1

module _ (w : World) (k : Steady w) where
  not_under_check : IsUnderCheck w → ⊥
  not_under_check under = elim k.settled [
    | inl confirmed ↦ (let no = under.1 in cc)
    | inr without ↦ (let no = under.0 in cc)
  ]

  no_cause : (e : Event) → IsTalk e → (x : Alert) → HasCause w e x → ⊥
  no_cause e talk Lockout h = not_under_check h.0
  no_cause e talk NnR h = not_under_check h.0
  no_cause e talk ClcwAlert h = h
  no_cause e talk Synch h = not_under_check h.0
  no_cause e talk Limit h = omega (arith, k.two, h.2)
  no_cause e talk Timer h = talk.1 h
  no_cause e talk Terminated h = subst IsCalm h talk.0

  silent : (e : Event) → IsTalk e → (o : Option Alert) → alert_in (world_step w e).answer ≡ o → IsSome o → ⊥
  silent e talk None is some = cc
  silent e talk (Some x) is some =
      let g = k.going in
      let promises = promised_of_so g.config w (known w g).holds e (calm_fits e talk.0) k.idle in
      let none = promises.no_false_alarm k.checking in
      no_cause e talk x (none.alerts x is)

talk_silent : (es : List Event) (w : World) → Steady w → AllByRecursion IsTalk es → AlertsIn w es → ⊥
talk_silent [] w k all a = a
talk_silent (e ∷ es) w k all a = elim a [
  | inl now ↦ silent w k e all.0 (alert_in (world_step w e).answer) refl now
  | inr later ↦ talk_silent es (world_step w e).after (steady_step w k e all.0.0) all.1 later
]

trip_silent : (w : World) → Steady w → AlertsIn w (round_trip w) → ⊥
trip_silent w k = talk_silent (round_trip w) w k (trip_talks w)

-- ---- the timer

abbrev Ends_at : ℕ → World → Type 0
Ends_at zero w = Unit {0}
Ends_at (suc n) w = ((w.ground_node.fop.state ≡ S1) ⊎ (w.ground_node.fop.state ≡ S2))
    × (w.ground_node.fop.ticks ≡ Some (suc n)) × IsBelow w.ground_node.fop

answered : (a : Option Alert) → a ≡ None → IsSome (alert_in (Ok (reply_to_alert a))) → ⊥
answered None is some = cc
answered (Some x) is some = absurd cc

ticks_silent : (n : ℕ) (w : World) → Ends_at n w → AlertsIn w (replicate n events.Tick) → ⊥
ticks_silent zero w p a = a
ticks_silent (suc zero) w p a = elim a [
  | inl now ↦ answered (tick_step w.ground_node.fop).answer (ends_silent w.ground_node.fop p.1 p.0 p.2) now
  | inr later ↦ later
]
ticks_silent (suc (suc n)) w p a =
    let s = w.ground_node.fop in
    let f : FopState _ = record s { ticks = Some (suc n) } in
    let on = tick_on s n p.1 in
    elim a [
      | inl now ↦ answered (tick_step s).answer (ap (λ o. o.answer) on) now
      | inr later ↦ (
          let is = with_same w.ground_node f in
          let next : Ends_at (suc n) (record w { ground_node = with_fop w.ground_node f }) =
          (rw is.state p.0, is.ticks, rw (is.count, is.limit) p.2) in
          ticks_silent (suc n) (world_step w events.Tick).after
          (subst (λ (o : FopOutcome _ (Option Alert)). Ends_at (suc n)
          (record w { ground_node = with_fop w.ground_node o.after })) (sym on) next) later)
    ]

timer_silent : (w : World) → Quiet w → IsFine w.ground_node.fop → AlertsIn w (timer_run_out w) → ⊥
timer_silent w q fine =
    cond_both (awaits w.ground_node.fop.state (are_marked w.ground_node.fop.sent))
    (replicate (ticks_left w.ground_node.fop.ticks) events.Tick) [] (λ es. AlertsIn w es → ⊥)
    (λ t a. elim fine [
      | inl below ↦ runs w.ground_node.fop.ticks refl below a
      | inr marked ↦ absurd (let no : not true ≡ true = rw marked at (sym (awaits_so w q) ∙ t) in cc no)
    ])
    (λ t a. a)
  where
    runs : (o : Option ℕ) → w.ground_node.fop.ticks ≡ o → IsBelow w.ground_node.fop
        → AlertsIn w (replicate (ticks_left o) events.Tick) → ⊥
    runs None is below a = a
    runs (Some zero) is below a = a
    runs (Some (suc n)) is below a = ticks_silent (suc n) w (q.state, is, below) a

exchange_steady : (w : World) → Steady w → Steady (world_run w (exchange w))
exchange_steady w k =
    let v = world_run w (round_trip w) in
    subst Steady (sym (run_append w (round_trip w) (timer_run_out v)))
    (steady_run (timer_run_out v) v (steady_run (round_trip w) w k (talks_calm (round_trip w) (trip_talks w)))
    (timer_calm v))

-- ---- the count stays below the limit until the CLCW is heard

abbrev Below : World → Type 0
Below w = IsBelow w.ground_node.fop × (2 ≤ w.ground_node.fop.limit)

below_run : (es : List Event) (w : World) → AllByRecursion IsBefore es → Below w → Below (world_run w es)
below_run [] w all k = k
below_run (e ∷ es) w all k =
    below_run es (world_step w e).after all.1
    (step_below w k.1 k.0 e all.0, rw (limit_stays w e all.0.0) k.1)

fine_run : (n : ℕ) (w : World) → 2 ≤ w.ground_node.fop.limit → IsFine w.ground_node.fop
    → IsFine (world_run w (replicate n events.DownDeliver)).ground_node.fop
fine_run zero w two fine = fine
fine_run (suc n) w two fine =
    fine_run n (world_step w events.DownDeliver).after (rw (limit_stays w events.DownDeliver tt) two)
    (hears_fine w two fine)

module _ (P Q : World → Type 0) (first next : Schedule) where
  run_then : ((w : World) → P w → P (world_run w (first w))) → ((w : World) → P w → Q (world_run w (next w)))
      → (w : World) → P w → Q (world_run w (followed_by first next w))
  run_then is so w p =
      subst Q (sym (run_append w (first w) (next (world_run w (first w))))) (so (world_run w (first w)) (is w p))

abbrev Fine : World → Type 0
Fine w = IsFine w.ground_node.fop

pub before_all : (w : World) → AllByRecursion IsBefore (all_sent w) × AllByRecursion IsBefore (all_arrived w)
    × AllByRecursion IsBefore (all_taken w) × AllByRecursion IsBefore (reported w)
before_all w =
    befores_are IsBefore (tt, λ is. absurd (cc is), λ is. absurd (cc is))
    (tt, λ is. absurd (cc is), λ is. absurd (cc is)) (tt, λ is. absurd (cc is), λ is. absurd (cc is))
    (tt, λ is. absurd (cc is), λ is. absurd (cc is)) w

trip_fine : (w : World) → Below w → Fine (world_run w (round_trip w))
trip_fine =
    run_then Below Fine all_sent (followed_by all_arrived (followed_by all_taken (followed_by reported all_heard)))
    (λ w. below_run (all_sent w) w (before_all w).0)
    (run_then Below Fine all_arrived (followed_by all_taken (followed_by reported all_heard))
    (λ w. below_run (all_arrived w) w (before_all w).1)
    (run_then Below Fine all_taken (followed_by reported all_heard)
    (λ w. below_run (all_taken w) w (before_all w).2)
    (run_then Below Fine reported all_heard
    (λ w. below_run (reported w) w (before_all w).3)
    (λ w p. fine_run (length w.down) w p.1 (inl p.0)))))

-- ---- the exchanges

-- if no alert is raised, what holds then does
sure : (P : World → Type 0) (w : World) (es : List Event) → (AlertsIn w es → ⊥) → Ends P w es
    → HasOctetPast (world_run w es) × P (world_run w es)
sure P w es none ends = elim ends [ inl a ↦ absurd (none a) | inr t ↦ t ]

exchange_silent : (w : World) → Steady w
    → (AlertsIn (world_run w (round_trip w)) (timer_run_out (world_run w (round_trip w))) → ⊥)
    → AlertsIn w (exchange w) → ⊥
exchange_silent w k none a = elim (alerts_parted (round_trip w) (timer_run_out (world_run w (round_trip w))) w a) [
  | inl talk ↦ trip_silent w k talk
  | inr timer ↦ none timer
]

times_silent : (n most : ℕ) (w : World) → Steady w → Ready w → IsBounded most w.ground_node.fop.window w.ground_node
    → AlertsIn w (times n exchange w) → ⊥
times_silent zero most w k r b a = a
times_silent (suc n) most w k r b a =
    let window = w.ground_node.fop.window in
    let v = world_run w (round_trip w) in
    let u = world_run w (exchange w) in
    let heard = sure (Advanced most window) w (round_trip w) (trip_silent w k)
    (next_round_trip most window w k.going r b) in
    let no_timer : AlertsIn v (timer_run_out v) → ⊥ =
    timer_silent v heard.1.0.quiet (inr heard.1.0.marked) in
    let none : AlertsIn w (exchange w) → ⊥ = exchange_silent w k no_timer in
    let next = sure (Advanced most window) w (exchange w) none (next_exchange most window w k.going r b) in
    let bounds : IsBounded (most - window) u.ground_node.fop.window u.ground_node =
    rw next.1.1.window next.1.1 in
    elim (alerts_parted (exchange w) (times n exchange u) w a) [
      | inl now ↦ none now
      | inr later ↦ times_silent n (most - window) u (exchange_steady w k) next.1.0 bounds later
    ]

-- such a session is confirmed while the sender is Active
settled_of : (w : World) → HasOctetPast w → IsIdle w → IsActive w.ground_node.fop.state → IsChecking (directive_of w)
    → IsSettled w
settled_of w reached idle active checking =
    let s = (known w reached).holds.session idle in
    elim s.session [
      | inl g ↦ absurd (early_off s.directive w.ground_node.fop.state g.stage.early active)
      | inr g ↦ (
          let checked : IsChecking (Some s.directive) = subst IsChecking g.linked.opened checking in
          inl (g.stage.confirmed_is checked))
    ]

pub each_is_delivered : EachIsDelivered
each_is_delivered w g idle active checking below n most =
    let settled = settled_of w g idle active checking in
    let two : 2 ≤ w.ground_node.fop.limit = omega (arith, (known w g).sender.count, below) in
    let k : Steady w =
    record { going = g; idle = idle; settled = settled; checking = checking; two = two } in
    let window = w.ground_node.fop.window in
    let b : IsBounded (n * window) window w.ground_node = record { active = active; holds = most; window = refl } in
    let v = world_run w (round_trip w) in
    let u = world_run w (exchange w) in
    let heard = sure (Heard (n * window) window) w (round_trip w) (trip_silent w k)
    (first_round_trip (n * window) window w g b) in
    let no_first : AlertsIn w (exchange w) → ⊥ =
    exchange_silent w k (timer_silent v heard.1.0 (trip_fine w (below, two))) in
    let next = sure (ReadyWith (n * window) window) w (exchange w) no_first
    (first_exchange (n * window) window w g b) in
    let bounds : IsBounded (n * window) u.ground_node.fop.window u.ground_node = rw next.1.1.window next.1.1 in
    let none : AlertsIn w (times (suc n) exchange w) → ⊥ = λ a.
    elim (alerts_parted (exchange w) (times n exchange u) w a) [
      | inl now ↦ no_first now
      | inr later ↦ times_silent n (n * window) u (exchange_steady w k) next.1.0 bounds later
    ] in (
      none,
      elim (each_makes_progress w g active n most) [
        | inl alert ↦ absurd (none alert)
        | inr done ↦ done
      ],
    )
