-- What a CLCW, a tick, a directive or a pull may do to the sender, each with a record of its cases.
use Rattle.std.proofs.Common.{◌≡◌, Bool, true, false, refl, ◌⊎◌, inl, inr, not, ◌&&◌, Option, ℕ, ◌-◌, Some, None, ◌≢◌}
use Rattle.std.proofs.Common.{◌≤◌, Result, arith, ◌+◌, ◌%◌, List, [], ◌∷◌}
use Rattle.std.specs.Prelude.{if◌then◌else◌, nat_lt, ◌==◌, ◌||◌}
use Rattle.std.proofs.lemmas.Bool.{eqb-true, eqb-false, and_parts, not-true, not-false, ltb-false, or_parts, cond_both}
use Rattle.tc_frame.specs.declared.frame.Command.TheVariants.{Unlock, SetVr}
use Rattle.tc_frame.specs.declared.frame.Command.{Command}
use Rattle.clcw.specs.declared.word.Clcw.{Clcw}
use Rattle.cop1.specs.Modulo.{ahead_by}
use Rattle.cop1.specs.declared.vocabulary.Alert.{Alert}
use Rattle.cop1.specs.declared.vocabulary.Alert.TheVariants.{Lockout, NnR, Clcw as ClcwAlert, Synch, Limit, Timer}
use Rattle.cop1.specs.declared.vocabulary.FopMode.{FopMode}
use Rattle.cop1.specs.declared.vocabulary.FopMode.TheVariants.{S1, S2, S3, S4, S5, S6}
use Rattle.cop1.specs.FopReport.{locks, waits, asks, nothing_new, move_on, after_new_value, retransmits, ask_for_others}
use Rattle.cop1.specs.FopReport.{goes_back_again, ask_for_all, report_while_active}
use Rattle.cop1.specs.FopVariables.{Store, SenderOf, OutcomeOf, held_by, IsActive}
use Rattle.cop1.specs.Units.{FopState, FopOutcome, oldest_marked, without_oldest_mark, oldest_of}
use Rattle.cop1.specs.FopWords.{is_outside, alerts, goes_on, after_gone, after_repeat, after_stop, after_restart}
use Rattle.cop1.specs.FopTick.{tick_step, tick_with, timer_ended, while_below, after_count, due_again}
use Rattle.cop1.specs.declared.fault.CopFault.{CopFault}
use Rattle.cop1.specs.declared.fault.CopFault.TheVariants.{Window, WrongState}
use Rattle.cop1.specs.declared.fault.CopFault.TheVariants as refusals
use Rattle.cop1.specs.declared.vocabulary.Control.TheVariants.{Due, Idle, Sent}
use Rattle.cop1.specs.declared.vocabulary.Directive.{Directive}
use Rattle.cop1.specs.declared.vocabulary.Directive.TheVariants.{InitWithoutCheck, InitWithCheck, InitUnlock, InitSetVr}
use Rattle.cop1.specs.declared.vocabulary.Directive.TheVariants.{Terminate, SetVs, SetWindow, SetLimit, SetTimer}
use Rattle.cop1.specs.FopDirective.{is_initiation, obeys, refuses, terminates, from_S6, terminate_in, after_begin}
use Rattle.cop1.specs.FopDirective.{directive_step}
use Rattle.cop1.specs.declared.vocabulary.Control.{Control}
use Rattle.cop1.specs.FopPull.{PulledUnit, NothingPulled, ControlPulled, BypassPulled, SequencePulled, pulls, pull_step}
use Rattle.cop1.specs.FopPull.{pull_control, pull_bypass, pull_in, pull_marked, pull_waiting, after_send_first}

-- A choice between outcomes, at two senders alike.

module _ {A B : Type 0} (P : A → B → Type 0) where
  pub when : {x y : A} {x' y' : B} (b : Bool) → (b ≡ true → P x x') → (b ≡ false → P y y')
      → P (if b then x else y) (if b then x' else y')
  when true h k = h refl
  when false h k = k refl

-- What a CLCW may do to the sender in S1 to S3.

-- at a sender, and at another with the same numbers
pub record AtEachReport {H K : Store} (s : SenderOf H) (t : SenderOf K) (c : Clcw)
    (P : OutcomeOf H (Option Alert) → OutcomeOf K (Option Alert) → Type 0) : Type 0 where
  pub locked : locks c ≡ true → P (alerts s Lockout) (alerts t Lockout)
  pub outside : is_outside s c.value ≡ true → P (alerts s NnR) (alerts t NnR)
  pub wait_flag : asks c ≡ false → waits c ≡ true → P (alerts s ClcwAlert) (alerts t ClcwAlert)
  pub asks_none : asks c ≡ true → c.value ≡ s.vs → P (alerts s Synch) (alerts t Synch)
  -- nothing is acknowledged, and nothing changes, or units were asked for before and are no more
  pub same : P (goes_on s) (goes_on t)
  pub ceases : asks c ≡ false → c.value ≡ s.nn → (s.state ≡ S2) ⊎ (s.state ≡ S3) → P (alerts s Synch) (alerts t Synch)
  pub moves : is_outside s c.value ≡ false → P (move_on s c.value) (move_on t c.value)
  -- units are acknowledged, and retransmission of the others is requested
  pub others_over : is_outside s c.value ≡ false → asks c ≡ true → s.limit ≡ 1
      → P (after_gone (ahead_by c.value s.nn) (alerts (after_new_value s c.value) Limit))
      (after_gone (ahead_by c.value s.nn) (alerts (after_new_value t c.value) Limit))
  pub others_wait : is_outside s c.value ≡ false → asks c ≡ true
      → P (after_gone (ahead_by c.value s.nn) (goes_on (record (after_new_value s c.value) { state = S3 })))
      (after_gone (ahead_by c.value s.nn) (goes_on (record (after_new_value t c.value) { state = S3 })))
  pub others_again : is_outside s c.value ≡ false → asks c ≡ true
      → P (after_gone (ahead_by c.value s.nn) (goes_on (retransmits (after_new_value s c.value) true)))
      (after_gone (ahead_by c.value s.nn) (goes_on (retransmits (after_new_value t c.value) true)))
  -- all that was sent is asked for
  pub all_over : asks c ≡ true → s.limit ≡ 1 → P (alerts s Limit) (alerts t Limit)
  pub all_wait : asks c ≡ true → P (goes_on (record s { state = S3 })) (goes_on (record t { state = S3 }))
  pub all_again : asks c ≡ true → (again : Bool) → P (goes_on (retransmits s again)) (goes_on (retransmits t again))

module _ {H K : Store} (s : SenderOf H) (w : K.Waiting) (q : K.Sent) (b : K.Bypass) (c : Clcw)
    (P : OutcomeOf H (Option Alert) → OutcomeOf K (Option Alert) → Type 0)
    (each : AtEachReport s (held_by K s w q b) c P) where
  abbrev t : SenderOf K
  t = held_by K s w q b

  nothing : (m : FopMode) → s.state ≡ m → asks c ≡ false → c.value ≡ s.nn → P (nothing_new s m) (nothing_new t m)
  nothing S2 is none at = each.ceases none at (inl is)
  nothing S3 is none at = each.ceases none at (inr is)
  nothing _ is none at = each.same

  back_again : asks c ≡ true → (m : FopMode) → P (goes_on (goes_back_again s m)) (goes_on (goes_back_again t m))
  back_again asking S1 = each.all_again asking (nat_lt s.count s.limit)
  back_again asking S3 = each.all_again asking (nat_lt s.count s.limit)
  back_again asking _ = each.same

  all : asks c ≡ true → P (ask_for_all s (waits c)) (ask_for_all t (waits c))
  all asking =
      when P (s.limit == 1) (λ t. each.all_over asking (eqb-true s.limit 1 t))
      (λ t. when P (waits c) (λ t. each.all_wait asking) (λ t. back_again asking s.state))

  others : is_outside s c.value ≡ false → asks c ≡ true
      → P (ask_for_others s c.value (waits c)) (ask_for_others t c.value (waits c))
  others inside asking =
      let n = ahead_by c.value s.nn in
      let Q : OutcomeOf H (Option Alert) → OutcomeOf K (Option Alert) → Type 0 =
      λ o p. P (after_gone n o) (after_gone n p) in
      when Q (s.limit == 1) (λ t. each.others_over inside asking (eqb-true s.limit 1 t))
      (λ t. when Q (waits c) (λ t. each.others_wait inside asking) (λ t. each.others_again inside asking))

  pub heard_both : P (report_while_active s c) (report_while_active t c)
  heard_both =
      when P (locks c) each.locked (λ t. when P (is_outside s c.value) each.outside
      (λ inside. when P (not (asks c) && waits c)
      (λ t. let both = and_parts (not (asks c)) (waits c) t in each.wait_flag (not-true (asks c) both.0) both.1)
      (λ t. when P (asks c && (c.value == s.vs))
      (λ t. let both = and_parts (asks c) (c.value == s.vs) t in each.asks_none both.0 (eqb-true c.value s.vs both.1))
      (λ t. when P (not (asks c) && (c.value == s.nn))
      (λ t. let both = and_parts (not (asks c)) (c.value == s.nn) t in
      nothing s.state refl (not-true (asks c) both.0) (eqb-true c.value s.nn both.1))
      (λ t. when P (not (asks c)) (λ t. each.moves inside)
      (λ asking. when P (not (c.value == s.nn)) (λ t. others inside (not-false (asks c) asking))
      (λ t. all (not-false (asks c) asking))))))))

-- at one sender of units
pub heard_active : {U : Type 0} (s : FopState U) (c : Clcw) (P : FopOutcome U (Option Alert) → Type 0)
    → AtEachReport s s c (λ o p. P o) → P (report_while_active s c)
heard_active s c P each = heard_both s s.waiting s.sent s.bypass c (λ o p. P o) each

-- What a tick may do to the sender.

-- at a sender, and at another with the same numbers
pub record AtEachTick {H K : Store} (s : SenderOf H) (u : SenderOf K)
    (P : OutcomeOf H (Option Alert) → OutcomeOf K (Option Alert) → Type 0) : Type 0 where
  -- the timer is off, or does not expire
  pub off : P (goes_on s) (goes_on u)
  pub runs : (left : ℕ) → P (goes_on (record s { ticks = Some left })) (goes_on (record u { ticks = Some left }))
  -- it expires
  pub stops : P (goes_on (after_stop s)) (goes_on (after_stop u))
  pub repeats : IsActive s.state → P (goes_on (after_repeat (after_stop s))) (goes_on (after_repeat (after_stop u)))
  pub counts : P (goes_on (after_count (after_stop s))) (goes_on (after_count (after_stop u)))
  pub commands : s.state ≡ S5 → P (goes_on (record (after_count (after_stop s)) { control = due_again s.control }))
      (goes_on (record (after_count (after_stop u)) { control = due_again u.control }))
  pub gives_up : P (alerts (after_stop s) Timer) (alerts (after_stop u) Timer)

module _ {H K : Store} (s : SenderOf H) (w : K.Waiting) (q : K.Sent) (b : K.Bypass)
    (P : OutcomeOf H (Option Alert) → OutcomeOf K (Option Alert) → Type 0)
    (each : AtEachTick s (held_by K s w q b) P) where
  abbrev u : SenderOf K
  u = held_by K s w q b

  below : {s' : SenderOf H} {t' : SenderOf K} → P (goes_on s') (goes_on t')
      → P (while_below (after_stop s) s') (while_below (after_stop u) t')
  below goes = when P (nat_lt s.count s.limit) (λ u. goes) (λ u. each.gives_up)

  ended : (m : FopMode) → s.state ≡ m → P (timer_ended (after_stop s) m) (timer_ended (after_stop u) m)
  ended S1 is = below (each.repeats (rw is tt))
  ended S2 is = below (each.repeats (rw is tt))
  ended S3 is = below each.counts
  ended S4 is = each.gives_up
  ended S5 is = below (each.commands is)
  ended S6 is = each.stops

  ticked_with : (ticks : Option ℕ) → P (tick_with s ticks) (tick_with u ticks)
  ticked_with None = each.off
  ticked_with (Some left) = when P (left == 1) (λ u. ended s.state refl) (λ u. each.runs (left - 1))

  pub ticked_both : P (tick_step s) (tick_step u)
  ticked_both = ticked_with s.ticks

-- at one sender of units
pub ticked : {U : Type 0} (s : FopState U) (P : FopOutcome U (Option Alert) → Type 0) → AtEachTick s s (λ o p. P o)
    → P (tick_step s)
ticked s P each = ticked_both s s.waiting s.sent s.bypass (λ o p. P o) each

-- What a directive may do to the sender.

-- the sender after an initiation
abbrev pub begun : {H : Store} → SenderOf H → Directive → SenderOf H
begun s InitWithoutCheck = record (after_begin s) { nn = s.vs; state = S1 }
begun s InitWithCheck = record (after_restart (after_begin s)) { nn = s.vs; state = S4 }
begun s InitUnlock = record (after_begin s) { nn = s.vs; control = Due Unlock; state = S5 }
begun s (InitSetVr x) = record (after_begin s) { vs = x; nn = x; control = Due (SetVr x); state = S5 }
begun s _ = s

-- what a directive sets if it begins no session and sets no number: the window, the limit, the timer or nothing
pub record Sets {H : Store} (s : SenderOf H) (d : Directive) (k n ticks : ℕ) : Type 0 where
  pub window : (k ≡ s.window) ⊎ ((1 ≤ k) × (k ≤ s.room))
  pub limit : (n ≡ s.limit) ⊎ (d ≡ SetLimit n)
  pub timer : (ticks ≡ s.timer) ⊎ (1 ≤ ticks)
  pub plain : (x : ℕ) → d ≢ SetVs x

-- at a sender, and at another with the same numbers
pub record AtEachDirective {H K : Store} (Q : Directive → ℕ → ℕ → ℕ → Type 0) (s : SenderOf H) (v : SenderOf K)
    (P : Directive → OutcomeOf H (Result (Option Alert) CopFault) → OutcomeOf K (Result (Option Alert) CopFault)
    → Type 0) : Type 0
  where
    pub refused : (d : Directive) (fault : CopFault) → (is_initiation d ≡ true → s.state ≢ S6)
        → P d (refuses s fault) (refuses v fault)
    pub begins : (d : Directive) → is_initiation d ≡ true → s.state ≡ S6 → P d (obeys (begun s d)) (obeys (begun v d))
    pub terminated : P Terminate (terminates s) (terminates v)
    pub numbers : (x : ℕ) → s.state ≡ S6
        → P (SetVs x) (obeys (record s { vs = x; nn = x })) (obeys (record v { vs = x; nn = x }))
    -- the window, the limit and the timer are set, to values of which `Q` holds
    pub sets : (d : Directive) (k n ticks : ℕ) → is_initiation d ≡ false → Q d k n ticks
        → P d (obeys (record s { window = k; limit = n; timer = ticks }))
        (obeys (record v { window = k; limit = n; timer = ticks }))

module _ {H K : Store} (s : SenderOf H) (w : K.Waiting) (q : K.Sent) (b : K.Bypass) (P : Directive
    → OutcomeOf H (Result (Option Alert) CopFault) → OutcomeOf K (Result (Option Alert) CopFault) → Type 0)
    (each : AtEachDirective (Sets s) s (held_by K s w q b) P) where
  abbrev v : SenderOf K
  v = held_by K s w q b

  from : (d : Directive) {s' : SenderOf H} {t' : SenderOf K} (m : FopMode) → s.state ≡ m
      → (s.state ≡ S6 → P d (obeys s') (obeys t')) → P d (from_S6 s m s') (from_S6 v m t')
  from d S6 is so = so is
  from d _ is so = each.refused d WrongState (λ v off. absurd (cc (is, off)))

  terminated_in : (m : FopMode) → P Terminate (terminate_in s m) (terminate_in v m)
  terminated_in S6 = each.refused Terminate WrongState (λ v. absurd cc)
  terminated_in _ = each.terminated

  pub obeyed_both : (d : Directive) → P d (directive_step s d) (directive_step v d)
  obeyed_both InitWithoutCheck = from InitWithoutCheck s.state refl (each.begins InitWithoutCheck refl)
  obeyed_both InitWithCheck = from InitWithCheck s.state refl (each.begins InitWithCheck refl)
  obeyed_both InitUnlock = from InitUnlock s.state refl (each.begins InitUnlock refl)
  obeyed_both (InitSetVr x) = from (InitSetVr x) s.state refl (each.begins (InitSetVr x) refl)
  obeyed_both Terminate = terminated_in s.state
  obeyed_both (SetVs x) = from (SetVs x) s.state refl (each.numbers x)
  obeyed_both (SetWindow k) =
      when (P (SetWindow k)) ((k == 0) || nat_lt s.room k) (λ v. each.refused (SetWindow k) Window (λ v. absurd cc))
      (λ small.
      let is = or_parts (k == 0) (nat_lt s.room k) small in
      let fits : (1 ≤ k) × (k ≤ s.room) = omega (arith, eqb-false k 0 is.0, ltb-false s.room k is.1) in
      each.sets (SetWindow k) k s.limit s.timer refl
      (record { window = inr fits; limit = inl refl; timer = inl refl; plain = λ x e. cc e }))
  obeyed_both (SetLimit n) =
      when (P (SetLimit n)) (n == 0) (λ v. each.refused (SetLimit n) refusals.Limit (λ v. absurd cc))
      (λ v. each.sets (SetLimit n) s.window n s.timer refl
      (record { window = inl refl; limit = inr refl; timer = inl refl; plain = λ x e. cc e }))
  obeyed_both (SetTimer n) =
      when (P (SetTimer n)) (n == 0) (λ v. each.refused (SetTimer n) refusals.Timer (λ v. absurd cc))
      (λ some.
      let fits : 1 ≤ n = omega (arith, eqb-false n 0 some) in
      each.sets (SetTimer n) s.window s.limit n refl
      (record { window = inl refl; limit = inl refl; timer = inr fits; plain = λ x e. cc e }))

-- at one sender of units
module _ {U : Type 0} (s : FopState U) (P : Directive → FopOutcome U (Result (Option Alert) CopFault) → Type 0) where
  pub obeyed_set : AtEachDirective (Sets s) s s (λ d o p. P d o) → (d : Directive) → P d (directive_step s d)
  obeyed_set each = obeyed_both s s.waiting s.sent s.bypass (λ d o p. P d o) each

  -- the window is set to at most the larger of its old value and its room
  pub obeyed : AtEachDirective (λ d k n ticks. (most : ℕ) → s.window ≤ most → s.room ≤ most → k ≤ most) s s
      (λ d o p. P d o) → (d : Directive) → P d (directive_step s d)
  obeyed each = obeyed_set (record {
    refused = each.refused;
    begins = each.begins;
    terminated = each.terminated;
    numbers = each.numbers;
    sets = λ d k n ticks plain set. each.sets d k n ticks plain
        (λ most window room. omega (arith, set.window, window, room));
  })

-- What a pull may take from the sender.

pub record AtEachPull {U : Type 0} (s : FopState U) (P : FopOutcome U (PulledUnit U) → Type 0) : Type 0 where
  pub none : P (pulls s NothingPulled)
  pub command : (c : Command) → s.control ≡ Due c
      → P (pulls (record (after_restart s) { control = Sent c }) (ControlPulled c))
  pub bypass : (u : U) (us : List U) → s.bypass ≡ u ∷ us → P (pulls (record s { bypass = us }) (BypassPulled u))
  -- a unit is retransmitted, or sent for the first time
  pub again : IsActive s.state → (x : ℕ × U) → oldest_marked 0 s.sent ≡ Some x
      → P (pulls (record (after_restart s) { sent = without_oldest_mark s.sent })
      (SequencePulled ((s.nn + x.0) % 256) x.1))
  pub first : IsActive s.state → (u : U) → s.waiting ≡ Some u → nat_lt (ahead_by s.vs s.nn) s.window ≡ true
      → P (pulls (after_send_first s u) (SequencePulled s.vs u))

module _ {U : Type 0} (s : FopState U) (P : FopOutcome U (PulledUnit U) → Type 0) (each : AtEachPull s P) where
  in_waiting : IsActive s.state → (o : Option U) → s.waiting ≡ o → P (pull_waiting s o)
  in_waiting active None is = each.none
  in_waiting active (Some u) is =
      cond_both (nat_lt (ahead_by s.vs s.nn) s.window) (pulls (after_send_first s u) (SequencePulled s.vs u)) _ P
      (λ t. each.first active u is t) (λ t. each.none)

  in_sent : IsActive s.state → (o : Option (ℕ × U)) → oldest_marked 0 s.sent ≡ o → P (pull_marked s o)
  in_sent active None is = in_waiting active s.waiting refl
  in_sent active (Some x) is = each.again active x is

  in_state : (m : FopMode) → s.state ≡ m → P (pull_in s m)
  in_state S1 is = in_sent (rw is tt) (oldest_marked 0 s.sent) refl
  in_state S2 is = in_sent (rw is tt) (oldest_marked 0 s.sent) refl
  in_state _ is = each.none

  in_bypass : (us : List U) → s.bypass ≡ us → P (pull_bypass s (oldest_of us))
  in_bypass [] is = in_state s.state refl
  in_bypass (u ∷ us) is = each.bypass u us is

  in_control : (control : Control) → s.control ≡ control → P (pull_control s control)
  in_control Idle is = in_bypass s.bypass refl
  in_control (Sent c) is = in_bypass s.bypass refl
  in_control (Due c) is = each.command c is

  pub pulled_out : P (pull_step s)
  pulled_out = in_control s.control refl
