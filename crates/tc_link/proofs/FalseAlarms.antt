-- In a session that had an idle start by CLCW check, Unlock or Set V(R), no alert is a false one.
use Rattle.tc_link.proofs.Common.{◌≡◌, ℕ, ◌+◌, ◌/◌, inl, inr, true, false, List, []}
use Rattle.tc_link.proofs.Common.{◌∷◌, Some, refl, ap, sym, subst, ◌∙◌}
use Rattle.tc_link.proofs.Common.{Clcw, SegmentView}
use Rattle.tc_link.proofs.Common.{state_of, IsActive}
use Rattle.tc_link.proofs.Common.{Directive, Config, is_closed, World}
use Rattle.tc_link.proofs.Common.{Rises, ◌*◌, ◌⊎◌, Option, None, Result}
use Rattle.tc_link.proofs.Common.{Ok, Err, eqb-false, CopFault, Alert, NnR, Synch, Limit, InitWithCheck, FopMode, S4}
use Rattle.tc_link.proofs.Common.{S5, S6, directive_step, locks, waits, asks, clcw_step, report_in, report_while_active}
use Rattle.tc_link.proofs.Common.{FopState, FopOutcome, tick_step, Event, Heard, GroundOutcome, Down, SimFault}
use Rattle.tc_link.proofs.Common.{world_step, down_deliver_step, IsChecked, replied_alert, obeyed, ticked}
use Rattle.std.proofs.Common.{IfOk}
use Rattle.cop1.specs.declared.vocabulary.Alert.TheVariants as alarms
use Rattle.cop1.specs.declared.vocabulary.Alert.TheVariants.{Clcw as ClcwAlert, Timer, Terminated}
use Rattle.nodes.specs.declared.event.Event.TheVariants as events
use Rattle.simulated_link.specs.Replies.{ReplyView, reply_to_directive, reply_to_alert}
use Rattle.simulated_link.proofs.Counted.{IsCause, reported}
use Rattle.simulated_link.proofs.Unchanged.{silent}
use Rattle.tc_link.specs.FalseAlarms.{alert_in, IsUnderCheck, AsksAgain, FirstAsks, HasCause}
use Rattle.tc_link.proofs.IdleStart.{HasReports}
use Rattle.tc_link.proofs.Linked.{early_off, Begun, Late, Tells, Reporting}
use Rattle.tc_link.proofs.Linked.{DownIs, IsEarly, AllSame, IsLate, IsAllowed, active_led, asked, Ranks}
use Rattle.tc_link.proofs.Linked.{bit}
use Rattle.tc_link.proofs.Sound.{Sound}
use Rattle.tc_link.proofs.Downward.{used_is, Comes, coming, words_alert}
use Rattle.tc_link.proofs.InTransit.{report_told}

-- ---- answers without an alert

alert_replied : (o : Option Alert) → replied_alert (reply_to_alert o) ≡ o
alert_replied None = refl
alert_replied (Some alert) = refl

none_told : {P : Type 0} (r : Result ReplyView SimFault) (alert : Alert) → IfOk r (λ reply. replied_alert reply ≡ None)
    → alert_in r ≡ Some alert → P
none_told (Ok reply) alert none is = absurd (cc (none, is))
none_told (Err fault) alert none is = absurd cc

-- ---- a tick and a directive

-- each alert is this one
abbrev Only : Alert → Option Alert → Type 0
Only x o = (alert : Alert) → o ≡ Some alert → alert ≡ x

only_none : (x : Alert) → Only x None
only_none x alert is = absurd cc

only_some : (x : Alert) → Only x (Some x)
only_some x alert is = cc

module _ (s : FopState SegmentView) where
  tick_only : Only Timer (tick_step s).answer
  tick_only = ticked s (λ o. Only Timer o.answer) (assumption (only_none Timer, only_some Timer))

  abbrev Caused : World → Directive → FopOutcome SegmentView (Result (Option Alert) CopFault) → Type 0
  Caused w d o = (alert : Alert) → replied_alert (reply_to_directive o.answer) ≡ Some alert
      → HasCause w (events.Directive d) alert

  directive_cause : (w : World) (d : Directive) → Caused w d (directive_step s d)
  directive_cause w = obeyed s (Caused w) (record {
    refused = λ d fault on alert is. absurd cc;
    begins = λ d begins off alert is. absurd cc;
    terminated = λ alert is. let only : alert ≡ Terminated = only_some Terminated alert is in rw only refl;
    numbers = λ x off alert is. absurd cc;
    sets = λ d k n ticks plain most alert is. absurd cc;
  })

-- ---- a CLCW

allowed_cause : (w : World) (r : Clcw) (alert : Alert) → IsAllowed (asks r) w.ground_node.fop.limit (Some alert)
    → (asks r ≡ true → FirstAsks w.ground_node.config w.down) → HasCause w events.DownDeliver alert
allowed_cause w r Limit allowed first = (tt, first allowed.0, allowed.1)
allowed_cause w r _ allowed first = elim allowed [ ]

module _ (c : Config) (d : Directive) (base : ℕ) (w : World) (k : Sound c w) (checked : IsChecked d) where
  first_asks : (b : List ℕ) (bs : List (List ℕ)) (r : Clcw) → w.down ≡ b ∷ bs → Tells c b r → asks r ≡ true
      → FirstAsks w.ground_node.config w.down
  first_asks b bs r is tells asking =
      rw (is, k.ground_node.config) (subst AsksAgain (sym (report_told c b r tells)) asking)

  -- the alert in the answer to telemetry is the sender's answer to its CLCW
  heard_alert_is : (b : List ℕ) (bs : List (List ℕ)) (r : Clcw) → Tells c b r
      → alert_in (down_deliver_step w (b ∷ bs)).answer ≡ (clcw_step w.ground_node.fop r).answer
  heard_alert_is b bs r tells =
      ap (λ (o : GroundOutcome Heard). replied_alert (Down o.answer))
      (used_is c w.ground_node b r k.ground_node.config tells)

  module _ (g : Late c d base w) where
    active_cause : (r : Clcw) (v : ℕ) → Comes c d base w k g r v
        → (asks r ≡ true → FirstAsks w.ground_node.config w.down)
        → is_closed w.ground_node.fop.state ≡ false → IsActive w.ground_node.fop.state → (alert : Alert)
        → (report_while_active w.ground_node.fop r).answer ≡ Some alert → HasCause w events.DownDeliver alert
    active_cause r v comes first on runs alert is =
        let p = g.plain in
        let led = active_led base (c.width / 2) (IsChecked d) w.ground_node.fop p.a p.n r v (comes on) runs in
        let allowed : IsAllowed (asks r) w.ground_node.fop.limit (Some alert) =
        subst (IsAllowed (asks r) w.ground_node.fop.limit) is (led.2.allowed checked) in
        allowed_cause w r alert allowed first

    late_cause : (r : Clcw) (v : ℕ) → Comes c d base w k g r v
        → (asks r ≡ true → FirstAsks w.ground_node.config w.down) → (m : FopMode)
        → w.ground_node.fop.state ≡ m → (alert : Alert) → (report_in w.ground_node.fop r m).answer ≡ Some alert
        → HasCause w events.DownDeliver alert
    late_cause r v comes first S4 m alert is = absurd (let no : IsLate S4 = rw m at g.stage.late in no)
    late_cause r v comes first S5 m alert is = absurd (let no : IsLate S5 = rw m at g.stage.late in no)
    late_cause r v comes first S6 m alert is = absurd cc
    late_cause r v comes first _ m alert is = active_cause r v comes first (rw m refl) (rw m tt) alert is

    late_heard : (bs : List (List ℕ)) (rs : List Clcw) (vs : List ℕ) → w.down ≡ bs → g.reports ≡ rs → g.plain.down ≡ vs
        → Reporting c bs rs → DownIs base rs vs → Rises g.plain.a vs g.plain.r
        → (IsChecked d
        → Ranks (2 * g.plain.a + asked w.ground_node.fop.state) rs vs
        (2 * g.plain.r + bit w.spacecraft.farm.retransmit))
        → (alert : Alert) → alert_in (down_deliver_step w bs).answer ≡ Some alert → HasCause w events.DownDeliver alert
    late_heard [] rs vs is same also rest down_is up ranks alert e = absurd cc
    late_heard (b ∷ bs) [] vs is same also rest down_is up ranks alert e = elim rest [ ]
    late_heard (b ∷ bs) (r ∷ rs) [] is same also rest down_is up ranks alert e = elim down_is [ ]
    late_heard (b ∷ bs) (r ∷ rs) (v ∷ vs) is same also rest down_is up ranks alert e =
        late_cause r v (coming c d base w k g r rs v vs down_is up ranks) (first_asks b bs r is rest.0)
        w.ground_node.fop.state refl alert (sym (heard_alert_is b bs r rest.0) ∙ e)

  module _ (g : Begun c d base w) where
    under_check : d ≡ InitWithCheck → IsUnderCheck w
    under_check is = (g.linked.opened ∙ ap Some is, g.stage.confirmed_not)

    early_cause : (r : Clcw)
        → (locks r ≡ w.spacecraft.farm.lockout) × (asks r ≡ w.spacecraft.farm.retransmit)
        × (r.value ≡ w.spacecraft.farm.vr) × (waits r ≡ true → asks r ≡ true) → d ≡ InitWithCheck → (alert : Alert)
        → IsCause w.ground_node.fop r alert → HasCause w events.DownDeliver alert
    early_cause r same by_check alarms.Lockout cause = (
      under_check by_check,
      k.spacecraft.farm.flags.state ∙ ap (λ l. state_of l w.spacecraft.farm.wait) (sym same.0 ∙ cause),
    )
    early_cause r same by_check NnR cause =
        (under_check by_check, λ x. eqb-false r.value w.ground_node.fop.vs cause (same.2 ∙ x))
    early_cause r same by_check Synch cause = (under_check by_check, sym same.1 ∙ cause)
    early_cause r same by_check ClcwAlert cause = absurd (let yes : asks r ≡ true = same.3 cause.1 in cc (cause.0, yes))
    early_cause r same by_check _ cause = elim cause [ ]

    early_in : (r : Clcw) (rs : List Clcw)
        → (d ≡ InitWithCheck
        → AllSame (r ∷ rs) w.spacecraft.farm.lockout w.spacecraft.farm.retransmit w.spacecraft.farm.vr)
        → (alert : Alert) → (clcw_step w.ground_node.fop r).answer ≡ Some alert → HasCause w events.DownDeliver alert
    early_in r rs same alert =
        let s = w.ground_node.fop in
        reported s r (λ o. o.answer ≡ Some alert → HasCause w events.DownDeliver alert) (record {
          active = λ active. absurd (early_off d s.state g.stage.early active);
          alerted = λ is x cause e.
              let by_check : IsEarly d S4 = rw is at g.stage.early in
              let t = same by_check in
              let one : x ≡ alert = cc in
              subst (HasCause w events.DownDeliver) one (early_cause r (t.0, t.1, t.2, t.3) by_check x cause);
          checked = λ is confirms e. absurd cc;
          commanded = λ is confirms e. absurd cc;
          same = λ e. absurd cc;
        })

    early_heard : (bs : List (List ℕ)) (rs : List Clcw) → Reporting c bs rs
        → (d ≡ InitWithCheck → AllSame rs w.spacecraft.farm.lockout w.spacecraft.farm.retransmit w.spacecraft.farm.vr)
        → (alert : Alert) → alert_in (down_deliver_step w bs).answer ≡ Some alert → HasCause w events.DownDeliver alert
    early_heard [] rs rest same alert e = absurd cc
    early_heard (b ∷ bs) [] rest same alert e = elim rest [ ]
    early_heard (b ∷ bs) (r ∷ rs) rest same alert e = early_in r rs same alert (sym (heard_alert_is b bs r rest.0) ∙ e)

  cause_heard : Begun c d base w ⊎ Late c d base w → (alert : Alert)
      → alert_in (down_deliver_step w w.down).answer ≡ Some alert → HasCause w events.DownDeliver alert
  cause_heard s alert e = elim s [
    | inl g ↦ early_heard g w.down g.reports g.linked.reporting g.stage.same alert e
    | inr g ↦ late_heard g w.down g.reports g.plain.down refl refl refl g.linked.reporting g.stage.down_is
        g.linked.rises (λ t. (g.stage.calm t).ranks) alert e
  ]

  -- a CLCW by itself has the cause that its frame has
  word_cause : (alert : Alert) → HasCause w events.DownDeliver alert → HasCause w events.DownClcw alert
  word_cause Timer is = absurd (cc is)
  word_cause Terminated is = absurd (cc is)
  word_cause _ is = is

  cause_word : Begun c d base w ⊎ Late c d base w → (alert : Alert)
      → alert_in (world_step w events.DownClcw).answer ≡ Some alert → HasCause w events.DownClcw alert
  cause_word s alert is =
      let t : HasReports c w.down = elim s [
        | inl g ↦ record { reports = g.reports; reporting = g.linked.reporting }
        | inr g ↦ record { reports = g.reports; reporting = g.linked.reporting }
      ] in
      word_cause alert (cause_heard s alert (sym (words_alert c w k t) ∙ is))

  pub cause : Begun c d base w ⊎ Late c d base w → (e : Event) → (alert : Alert)
      → alert_in (world_step w e).answer ≡ Some alert → HasCause w e alert
  cause s (events.Directive e) alert is = directive_cause w.ground_node.fop w e alert is
  cause s events.DownDeliver alert is = cause_heard s alert is
  cause s events.DownClcw alert is = cause_word s alert is
  cause s events.Tick alert is =
      let only : alert ≡ Timer =
      tick_only w.ground_node.fop alert
      (sym (alert_replied (tick_step w.ground_node.fop).answer) ∙ is) in rw only refl
  cause s e alert is = none_told (world_step w e).answer alert (silent w e (λ may. may)) is
