-- In a session that had an idle start by CLCW check, Unlock or Set V(R), the receiver does not enter
-- Lockout, and a confirmation is exact.
use Rattle.tc_link.proofs.Common.{◌≡◌, ◌≢◌, ℕ, inl, inr, Bool, true, false, List, []}
use Rattle.tc_link.proofs.Common.{◌∷◌, Some, refl, sym, subst, ◌∙◌}
use Rattle.tc_link.proofs.Common.{On, BodyView}
use Rattle.tc_link.proofs.Common.{Ad, Bd, Bc, state_of, FarmState, FlagsAgree}
use Rattle.tc_link.proofs.Common.{Directive, Config, World, IsChecking}
use Rattle.tc_link.proofs.Common.{◌⊎◌, Option, Result}
use Rattle.tc_link.proofs.Common.{Ok, Err, CopFault, Alert}
use Rattle.tc_link.proofs.Common.{Event}
use Rattle.tc_link.proofs.Common.{world_step, IsChecked}
use Rattle.tc_link.proofs.Common.{cond_both, FarmMode, Open, after_release, is_kept, body_outcome}
use Rattle.tc_link.proofs.Common.{is_initiation, session_begun_by, session_after_directive, up_deliver_step}
use Rattle.tc_link.proofs.Common.{directive_of, ConfirmsExactly, HasNoFalseAlarm, IsEvent, SetVs, InitUnlock}
use Rattle.tc_frame.specs.Decoding.{frame_at}
use Rattle.cop1.specs.declared.farm.FarmMode.TheVariants.{Lockout}
use Rattle.nodes.specs.declared.event.Event.TheVariants as events
use Rattle.nodes.specs.Ground.{ground_directive}
use Rattle.simulated_link.specs.World.{directed}
use Rattle.simulated_link.proofs.Unchanged.{ground_after, BringsReport, board_after}
use Rattle.tc_link.proofs.IdleStart.{InSession}
use Rattle.tc_link.proofs.Linked.{Begun, Late, Carries, UpIs}
use Rattle.tc_link.proofs.Sound.{Sound, step_sound}
use Rattle.tc_link.proofs.Downward.{early_down_deliver, early_down_clcw}
use Rattle.tc_link.proofs.Upward.{own_arrives, bypass_eases, control_eases, early_up}
use Rattle.tc_link.proofs.Invariant.{late_step}
use Rattle.tc_link.proofs.InTransit.{state_by}
use Rattle.tc_link.proofs.FalseAlarms.{cause}

-- ---- what leaves the receiver as it is

released : (s : FarmState) (m : FarmMode) → (after_release s m).lockout ≡ s.lockout
released s Open = refl
released s _ = refl

-- ---- frames before the confirmation

-- a directive does not confirm a session
unconfirmed_by : (w : World) (e : Directive) (r : Result (Option Alert) CopFault) → w.session.confirmed ≡ false
    → (session_after_directive w e r).confirmed ≡ false
unconfirmed_by w e (Err fault) not_yet = not_yet
unconfirmed_by w e (Ok alert) not_yet =
    cond_both (is_initiation e) (session_begun_by w e) w.session (λ s. s.confirmed ≡ false) (λ t. refl) (λ t. not_yet)

module _ (c : Config) (d : Directive) (base : ℕ) (w : World) (k : Sound c w) where
  body_by : (f : BodyView) (fs : List BodyView) → UpIs d base true (f ∷ fs) [] → w.spacecraft.farm.lockout ≡ false
      → (body_outcome w.spacecraft f).after.farm.lockout ≡ false
  body_by (Ad n u) fs up is = elim up [ ]
  body_by (Bd u) fs up is =
      (bypass_eases d base true w.spacecraft u (is_kept w.spacecraft.config u)).lockout is
  body_by (Bc command) fs up is = (control_eases d base true w.spacecraft command up.0 up.1).lockout is

  delivered_by : (bs : List (List ℕ)) (fs : List BodyView) → Carries c bs fs → UpIs d base true fs []
      → w.spacecraft.farm.lockout ≡ false → (up_deliver_step w bs).after.spacecraft.farm.lockout ≡ false
  delivered_by [] fs carries up is = is
  delivered_by (b ∷ bs) [] carries up is = elim carries [ ]
  delivered_by (b ∷ bs) (f ∷ fs) carries up is =
      subst (λ o. o.after.farm.lockout ≡ false)
      (sym (own_arrives w.spacecraft c f (frame_at On b) k.spacecraft.config carries.0)) (body_by f fs up is)

  up_unlocked : IsChecked d → Begun c d base w ⊎ Late c d base w → w.spacecraft.farm.lockout ≡ false
      → (up_deliver_step w w.up).after.spacecraft.farm.lockout ≡ false
  up_unlocked checked s is = elim s [
    | inl g ↦ delivered_by w.up g.frames g.linked.carries (early_up c d base w g) is
    | inr g ↦ (let next = late_step c d base w k g events.UpDeliver tt tt in
        (next.stage.calm checked).unlocked)
  ]

  not_locked : IsChecked d → Begun c d base w ⊎ Late c d base w → (e : Event) → w.spacecraft.farm.lockout ≡ false
      → (world_step w e).after.spacecraft.farm.lockout ≡ false
  not_locked checked s events.UpDeliver is = up_unlocked checked s is
  not_locked checked s e is = board_after w (λ t. t.farm.lockout ≡ false) e (record {
    same = is;
    receives = λ come. absurd (cc come);
    reports = λ made. is;
    takes = λ taken left kept. is;
    releases = λ taken left free. released w.spacecraft.farm w.spacecraft.farm.state ∙ is;
    passes = λ taken left. is;
    queues = λ octets queued. is;
  })

  unlocked : IsChecked d → Begun c d base w ⊎ Late c d base w → w.session.confirmed ≡ true
      → w.spacecraft.farm.lockout ≡ false
  unlocked checked s confirmed = elim s [
    | inl g ↦ (absurd (let no : w.session.confirmed ≡ false = g.stage.confirmed_not in cc))
    | inr g ↦ (g.stage.calm checked).unlocked
  ]

  -- ---- the event that confirms

  -- only a CLCW confirms
  stays_unconfirmed : (e : Event) → (BringsReport e → ⊥) → w.session.confirmed ≡ false
      → (world_step w e).after.session.confirmed ≡ false
  stays_unconfirmed e not_told not_yet =
      let directs : (x : Directive) → (directed w x).session.confirmed ≡ false =
      λ x. unconfirmed_by w x (ground_directive w.ground_node x).answer not_yet in
      ground_after w (λ t session. session.confirmed ≡ false) e (record {
        same = not_yet;
        submits = λ m octets none. not_yet;
        bypasses = λ m octets is none. not_yet;
        directs = λ x is. directs x;
        restarts = λ value is can. unconfirmed_by (directed w (SetVs value)) InitUnlock
            (ground_directive (directed w (SetVs value)).ground_node InitUnlock).answer (directs (SetVs value));
        ticks = λ is. not_yet;
        sends = λ is sent. not_yet;
        hears_none = λ told. absurd (not_told told);
        hears = λ told. absurd (not_told told);
      })

  exactly : (g : Begun c d base w) (e : Event) → w.session.confirmed ≡ false
      → (world_step w e).after.session.confirmed ≡ true
      → ((world_step w e).after.spacecraft.farm.vr ≡ (world_step w e).after.ground_node.fop.vs)
      × ((world_step w e).after.ground_node.fop.nn ≡ (world_step w e).after.ground_node.fop.vs)
  exactly g events.DownDeliver not_yet now =
      elim (early_down_deliver c d base w k g)
      [ inl t ↦ absurd (let no = t.stage.confirmed_not in cc (no, now)) | inr t ↦ t.exact ]
  exactly g events.DownClcw not_yet now =
      elim (early_down_clcw c d base w k g)
      [ inl t ↦ absurd (let no = t.stage.confirmed_not in cc (no, now)) | inr t ↦ t.exact ]
  exactly g e not_yet now = absurd (cc (stays_unconfirmed e (λ told. absurd told) not_yet, now))

  confirms_so : IsChecked d → Begun c d base w ⊎ Late c d base w → (e : Event)
      → ConfirmsExactly w (world_step w e).after
  confirms_so checked s e not_yet now = elim s [
    | inl g ↦ exactly g e not_yet now
    | inr g ↦ absurd (let was : w.session.confirmed ≡ true = g.stage.confirmed_is checked in cc (was, not_yet))
  ]

-- ---- the state and the flag

locked_flag : (lockout wait : Bool) → state_of lockout wait ≢ Lockout → lockout ≡ false
locked_flag true wait other = absurd (other refl)
locked_flag false wait other = refl

flag_of : (s : FarmState) → FlagsAgree s → s.state ≢ Lockout → s.lockout ≡ false
flag_of s agree other = locked_flag s.lockout s.wait (λ e. other (agree.state ∙ e))

-- ---- the promises

opened_as : (c : Config) (w : World) (s : InSession c w) → directive_of w ≡ Some s.directive
opened_as c w s =
    elim s.session [
      | inl g ↦ g.linked.opened
      | inr g ↦ g.linked.opened
    ]

module _ (c : Config) (w : World) (k : Sound c w) (s : InSession c w) (checking : IsChecking (directive_of w)) where
  checked : IsChecked s.directive
  checked = let it : IsChecking (Some s.directive) = rw (opened_as c w s) at checking in it

  pub has_no_false_alarm : (e : Event) → IsEvent e → HasNoFalseAlarm w e
  has_no_false_alarm e fits = record {
    not_locked = λ other. state_by (world_step w e).after.spacecraft.farm
        (step_sound c w k e fits).spacecraft.farm.flags
        (not_locked c s.directive s.base w k checked s.session e
        (flag_of w.spacecraft.farm k.spacecraft.farm.flags other));
    unlocked = λ confirmed. state_by w.spacecraft.farm k.spacecraft.farm.flags
        (unlocked c s.directive s.base w k checked s.session confirmed);
    alerts = λ alert is. cause c s.directive s.base w k checked s.session e alert is;
  }

  pub confirms_exactly : (e : Event) → ConfirmsExactly w (world_step w e).after
  confirms_exactly e = confirms_so c s.directive s.base w k checked s.session e
