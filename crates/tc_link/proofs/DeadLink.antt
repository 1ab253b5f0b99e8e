-- On a dead link each run of the timer uses up a transmission, until an alert is raised.
use Rattle.tc_link.proofs.Common.{◌≡◌, ◌<◌, ◌≤◌, ◌⊎◌, inl, inr, ℕ, zero, suc, ◌+◌, ◌-◌, false, List, [], ◌∷◌}
use Rattle.tc_link.proofs.Common.{length, Option, Some, refl, ap, sym, subst, ◌∙◌, arith, length-append, cond_both}
use Rattle.tc_link.proofs.Common.{nat_lt, SegmentView, Alert, FopState, FopOutcome, FopMode, S1, S2, S3, S4, S5, S6}
use Rattle.tc_link.proofs.Common.{IsActive, pull_step, pulled_out, tick_step, after_stop, after_repeat}
use Rattle.tc_link.proofs.Common.{after_count, due_again, goes_on, alerts, GroundState, with_fop, World, WorldOutcome}
use Rattle.tc_link.proofs.Common.{world_step, world_run, up_lose_step, unmarked_unit}
use Rattle.std.specs.Prelude.{IsSome}
use Rattle.std.proofs.lemmas.Bool.{ltb-true}
use Rattle.cop1.specs.declared.vocabulary.Alert.TheVariants.{Timer}
use Rattle.cop1.specs.FopTick.{tick_with, timer_ended, while_below}
use Rattle.cop1.specs.Units.{is_none_sent, SentUnit}
use Rattle.nodes.specs.Ground.{outstanding}
use Rattle.nodes.specs.declared.event.Event.TheVariants as events
use Rattle.simulated_link.proofs.Unchanged.{pulled}
use Rattle.tc_link.specs.Beside.{HasOctetPast}
use Rattle.tc_link.specs.DeadLink.{all_lost, timer_ends, dead, IsUnanswered, EachNoticesSilence}
use Rattle.tc_link.specs.FalseAlarms.{alert_in}
use Rattle.tc_link.specs.Progress.{followed_by, times, all_sent, most_sent}
use Rattle.tc_link.proofs.ProgressFirst.{with_same, ends_ticks, alerted}
use Rattle.tc_link.proofs.ProgressNumbers.{known, Ends, ends_then, ends_repeat, ends_times, ends_so, or_on}
use Rattle.tc_link.proofs.ProgressSender.{IsDueNow, Running, Timed, without_length, marked_length}
use Rattle.tc_link.proofs.ProgressSure.{IsBeginning, beginning, pull_stays, command_pulled}

-- ---- the sender

-- the sender waits for an answer
abbrev Unanswered : FopState SegmentView → Type 0
Unanswered f = IsBeginning f.state ⊎ (IsActive f.state × (1 ≤ length f.sent))

-- the sender waits, and fewer transmissions than this are left
record Fails (n : ℕ) (f : FopState SegmentView) : Type 0 where
  waits : Unanswered f
  left : f.limit < f.count + n

abbrev IsPulled : FopState SegmentView → Type 0
IsPulled f = f.state ≡ S5 → IsDueNow f.control → ⊥

module _ (s : FopState SegmentView) where
  pull_state : (pull_step s).after.state ≡ s.state
  pull_state = pulled_out s (λ o. o.after.state ≡ s.state) (assumption)

  pull_pulled : IsPulled (pull_step s).after
  pull_pulled five due = command_pulled s (inr (sym pull_state ∙ five)) s.control refl due

  module _ (n : ℕ) where
    -- the sender is Active, with as many units sent
    as_many : (f : FopState SegmentView) → IsActive f.state → 1 ≤ length f.sent → f.limit ≡ s.limit
        → f.count ≡ s.count → s.limit < s.count + n → Fails n f
    as_many f active sent limit count left =
        record { waits = inr (active, sent); left = omega (arith, limit, count, left) }

    held_count : (us : List (SentUnit SegmentView)) → 1 ≤ length us → is_none_sent us ≡ false
    held_count [] some = absurd (omega (arith, some))
    held_count (u ∷ us) some = refl

    pull_held : IsActive s.state → 1 ≤ length s.sent → s.limit < s.count + n → Fails n (pull_step s).after
    pull_held active some left = pulled_out s (λ o. Fails n o.after) (record {
      none = as_many s active some refl refl left;
      command = λ c is. as_many _ active some refl refl left;
      bypass = λ u us is. as_many _ active some refl refl left;
      again = λ on x is. as_many _ active (omega (arith, without_length s.sent, some)) refl refl left;
      first = λ on u is room. as_many _ active (omega (arith, length-append s.sent (unmarked_unit u ∷ []))) refl
          (rw (held_count s.sent some) refl) left;
    })

    pull_fails : Fails n s → Fails n (pull_step s).after
    pull_fails k = elim k.waits [
      | inl begins ↦
          let stays = pull_stays s begins in
          record {
            waits = inl (rw stays.state begins);
            left = omega (arith, stays.count, stays.limit, k.left);
          }
      | inr held ↦ pull_held held.0 held.1 k.left
    ]

-- the timer runs
timer_runs : (f : FopState SegmentView) → Timed f → Unanswered f → IsPulled f → Running f.ticks
timer_runs f k waits is_pulled = elim waits [
  | inl begins ↦ elim begins [
    | inl four ↦ k.check four
    | inr five ↦ elim (k.command five) [ inl due ↦ absurd (is_pulled five due) | inr runs ↦ runs ]
  ]
  | inr held ↦ elim k.running [ inl none ↦ absurd (omega (arith, ap length none, held.1)) | inr runs ↦ runs ]
]

-- so many rounds are left, and after the last one an alert is raised
abbrev Left : ℕ → FopState SegmentView → Type 0
Left zero f = ⊥
Left (suc n) f = Fails (suc n) f

-- the timer ends: an alert is raised, or one round fewer is left
module _ (n : ℕ) (s : FopState SegmentView) (k : Fails (suc n) s) where
  abbrev AlertsOr : FopOutcome SegmentView (Option Alert) → Type 0
  AlertsOr o = IsSome o.answer ⊎ Left n o.after

  counted : (n : ℕ) (f : FopState SegmentView) → s.limit < s.count + suc n → Unanswered f → f.limit ≡ s.limit
      → f.count ≡ s.count + 1 → s.count < s.limit → Left n f
  counted zero f left waits limit count below = absurd (omega (arith, left, below))
  counted (suc n) f left waits limit count below =
      record { waits = waits; left = omega (arith, limit, count, left) }

  below : (f : FopState SegmentView) → Unanswered f → f.limit ≡ s.limit → f.count ≡ s.count + 1
      → AlertsOr (while_below (after_stop s) f)
  below f waits limit count =
      cond_both (nat_lt s.count s.limit) (goes_on f) (alerts (after_stop s) Timer) AlertsOr
      (λ t. inr (counted n f k.left waits limit count (ltb-true s.count s.limit t))) (λ t. inl refl)

  held_in : (m : FopMode) → s.state ≡ m → IsActive m → 1 ≤ length s.sent
  held_in m is active = elim k.waits [
    | inl begins ↦ elim begins [
      | inl four ↦ absurd (let no : IsActive S4 = subst IsActive (sym is ∙ four) active in no)
      | inr five ↦ absurd (let no : IsActive S5 = subst IsActive (sym is ∙ five) active in no)
    ]
    | inr held ↦ held.1
  ]

  ended : (m : FopMode) → s.state ≡ m → AlertsOr (timer_ended (after_stop s) m)
  ended S1 is =
      below (after_repeat (after_stop s)) (inr (rw is tt, omega (arith, marked_length s.sent, held_in S1 is tt))) refl
      refl
  ended S2 is =
      below (after_repeat (after_stop s)) (inr (rw is tt, omega (arith, marked_length s.sent, held_in S2 is tt))) refl
      refl
  ended S3 is = below (after_count (after_stop s)) (inr (rw is tt, held_in S3 is tt)) refl refl
  ended S4 is = inl refl
  ended S5 is =
      below (record (after_count (after_stop s)) { control = due_again s.control }) (inl (inr is)) refl refl
  ended S6 is = elim k.waits [
    | inl begins ↦ elim begins [ inl four ↦ absurd (cc (is, four)) | inr five ↦ absurd (cc (is, five)) ]
    | inr held ↦ absurd (let no : IsActive S6 = rw is at held.0 in no)
  ]

  tick_fails : s.ticks ≡ Some 1 → AlertsOr (tick_step s)
  tick_fails is = subst AlertsOr (sym (ap (tick_with s) is)) (ended s.state refl)

-- ---- a round

module _ (n : ℕ) where
  abbrev FailsNow : World → Type 0
  FailsNow w = Fails (suc n) w.ground_node.fop

  same_fails : (s : GroundState) (f : FopState SegmentView) → Fails (suc n) f → Fails (suc n) (with_fop s f).fop
  same_fails s f k =
      let is = with_same s f in
      record {
        waits = rw (is.state, is.sent) k.waits;
        left = omega (arith, is.limit, is.count, k.left);
      }

  same_left : (n : ℕ) (s : GroundState) (f : FopState SegmentView) → Left n f → Left n (with_fop s f).fop
  same_left zero s f k = k
  same_left (suc n) s f k =
      let is = with_same s f in
      record {
        waits = rw (is.state, is.sent) k.waits;
        left = omega (arith, is.limit, is.count, k.left);
      }

  abbrev LeftNow : World → Type 0
  LeftNow w = Left n w.ground_node.fop

  -- all is lost: the ground stays as it was
  abbrev Waits : World → Type 0
  Waits w = FailsNow w × IsPulled w.ground_node.fop

  lose_one : (w : World) (way : List (List ℕ)) → (up_lose_step w way).after.ground_node ≡ w.ground_node
  lose_one w [] = refl
  lose_one w (b ∷ bs) = refl

  loses : (w : World) → HasOctetPast w → Waits w → Ends Waits w (all_lost w)
  loses w g k =
      ends_repeat (λ m. Waits) events.UpLose tt (λ m v h p. inr (rw (lose_one v v.up) p)) (length w.up) w g k

  ends : (w : World) → FailsNow w → w.ground_node.fop.ticks ≡ Some 1
      → IsSome (alert_in (world_step w events.Tick).answer) ⊎ LeftNow (world_step w events.Tick).after
  ends w k is =
      let s = w.ground_node.fop in
      elim (tick_fails n s k is) [
        | inl a ↦ inl (alerted (tick_step s).answer a)
        | inr left ↦ inr (same_left n w.ground_node (tick_step s).after left)
      ]

  runs : (w : World) (left : ℕ) → FailsNow w
      → FailsNow (record w { ground_node = with_fop w.ground_node (record w.ground_node.fop { ticks = Some left }) })
  runs w left k =
      same_fails w.ground_node (record w.ground_node.fop { ticks = Some left })
      (record { waits = k.waits; left = k.left })

  run_out : (w : World) → HasOctetPast w → Waits w → Ends LeftNow w (timer_ends w)
  run_out w g k =
      let f = w.ground_node.fop in
      ends_ticks FailsNow LeftNow runs ends w g k.0 f.ticks refl
      (timer_runs f (known w g).sender k.0.waits k.1)

  -- what follows once all is sent
  rest : (w : World) → HasOctetPast w → Waits w → Ends LeftNow w (followed_by all_lost timer_ends w)
  rest w g k = ends_then Waits LeftNow all_lost timer_ends w (loses w g k) run_out

-- once all is sent, a property holds if each pull keeps it and the first pull brings it about
module _ (P : FopState SegmentView → Type 0) (keeps : (s : FopState SegmentView) → P s → P (pull_step s).after)
    (same : (s : GroundState) (f : FopState SegmentView) → P f → P (with_fop s f).fop) where
  abbrev Sends : ℕ → ℕ → World → Type 0
  Sends most m w = P w.ground_node.fop × (IsPulled w.ground_node.fop ⊎ (m ≡ suc most))

  sends_one : (most m : ℕ) (w : World) → Sends most (suc m) w → Sends most m (world_step w events.Send).after
  sends_one most m w p =
      let s = w.ground_node in
      let f = (pull_step s.fop).after in
      let is = with_same s f in
      pulled w (λ (o : WorldOutcome). Sends most m o.after) (λ reply up sent silent. (
        same s f (keeps s.fop p.0),
        inl (rw (is.state, is.control) (pull_pulled s.fop)),
      ))

  sends : (w : World) → HasOctetPast w → P w.ground_node.fop
      → Ends (λ v. P v.ground_node.fop × IsPulled v.ground_node.fop) w (all_sent w)
  sends w g p =
      let most : ℕ = length w.ground_node.fop.bypass + length (outstanding w.ground_node) in
      ends_so (Sends most zero) (λ v. P v.ground_node.fop × IsPulled v.ground_node.fop) w (all_sent w)
      (ends_repeat (Sends most) events.Send tt (λ m v h q. inr (sends_one most m v q)) (most_sent w) w g (p, inr refl))
      (λ v h q. (q.0, elim q.1 [ inl gone ↦ gone | inr more ↦ absurd (omega (arith, more)) ]))

round : (n : ℕ) (w : World) → HasOctetPast w → FailsNow n w → Ends (LeftNow n) w (dead w)
round n w g k =
    ends_then (Waits n) (LeftNow n) all_sent (followed_by all_lost timer_ends) w
    (sends (Fails (suc n)) (λ s. pull_fails s (suc n)) (same_fails n) w g k) (rest n)

rounds : (n : ℕ) (w : World) → HasOctetPast w → LeftNow n w → Ends (LeftNow zero) w (times n dead w)
rounds = ends_times LeftNow dead round

-- ---- from any moment

pull_limit : (s : FopState SegmentView) → (pull_step s).after.limit ≡ s.limit
pull_limit s = pulled_out s (λ o. o.after.limit ≡ s.limit) (assumption)

waits_so : (w : World) → HasOctetPast w → IsUnanswered w.ground_node.fop → Unanswered w.ground_node.fop
waits_so w g unanswered = elim unanswered [
  | inl begins ↦ inl (beginning w.ground_node.fop.state begins)
  | inr some ↦ elim (known w g).sender.active [
    | inl active ↦ inr (active, some)
    | inr none ↦ absurd (omega (arith, ap length none, some))
  ]
]

pub each_notices_silence : EachNoticesSilence
each_notices_silence w g unanswered =
    let v = world_run w (all_sent w) in
    let s = w.ground_node.fop in
    let n : ℕ = s.limit - v.ground_node.fop.count in
    let sent = sends (λ f. f.limit ≡ s.limit) (λ f is. pull_limit f ∙ is) (λ t f is. (with_same t f).limit ∙ is) w g
    refl in
    let first : Ends (LeftNow n) w (dead w) =
    ends_then (λ u. (u ≡ v) × ((u.ground_node.fop.limit ≡ s.limit) × IsPulled u.ground_node.fop)) (LeftNow n) all_sent
    (followed_by all_lost timer_ends) w (or_on sent (λ t. inr (t.0, (refl, t.1)))) (λ u h p.
    let waits : Unanswered u.ground_node.fop =
    waits_so u h (subst (λ (x : World). IsUnanswered x.ground_node.fop) (sym p.0) unanswered) in
    let count : u.ground_node.fop.count ≡ v.ground_node.fop.count = ap (λ (x : World). x.ground_node.fop.count) p.0 in
    rest n u h (record { waits = waits; left = omega (arith, p.1.0, count) }, p.1.1)) in
    elim (ends_then (LeftNow n) (LeftNow zero) dead (times n dead) w first (rounds n)) [
      | inl a ↦ a
      | inr t ↦ absurd t.1
    ]
