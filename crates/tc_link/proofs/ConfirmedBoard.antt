-- How a buffer release, a Type-BD frame and a control command change what a receiver would report.
use Rattle.tc_link.proofs.Common.{◌≡◌, ℕ, Bool, true, false, refl, ◌∙◌, SegmentView, FarmState, Open, Wait}
use Rattle.tc_link.proofs.Common.{FarmMode, state_of, after_unlock, after_set_vr, after_release, SpacecraftState}
use Rattle.tc_link.proofs.Common.{bypass_outcome, World, world_step}
use Rattle.cop1.specs.declared.farm.FarmMode.TheVariants.{Lockout}
use Rattle.nodes.specs.declared.event.Event.TheVariants as events
use Rattle.simulated_link.proofs.Unchanged.{board_after}
use Rattle.tc_link.proofs.Linked.{WouldConfirm}
use Rattle.tc_link.proofs.ProgressSender.{open_flags}

-- ---- the receiver

-- after a buffer release or a Type-BD frame, no further flag is set
pub record Keeps (s t : FarmState) : Type 0 where
  pub vr : t.vr ≡ s.vr
  pub lockout : t.lockout ≡ s.lockout
  pub retransmit : t.retransmit ≡ s.retransmit
  pub wait : s.wait ≡ false → t.wait ≡ false

release_keeps : (s : FarmState) (m : FarmMode) → Keeps s (after_release s m)
release_keeps s Open = record { vr = refl; lockout = refl; retransmit = refl; wait = λ e. e }
release_keeps s _ = record { vr = refl; lockout = refl; retransmit = refl; wait = λ e. refl }

pub bypass_keeps : (s : SpacecraftState) (u : SegmentView) (kept : Bool)
    → Keeps s.farm (bypass_outcome s u kept).after.farm
bypass_keeps s u true = record { vr = refl; lockout = refl; retransmit = refl; wait = λ e. e }
bypass_keeps s u false = record { vr = refl; lockout = refl; retransmit = refl; wait = λ e. e }

pub take_keeps : (w : World) → Keeps w.spacecraft.farm (world_step w events.Take).after.spacecraft.farm
take_keeps w =
    let same : Keeps w.spacecraft.farm w.spacecraft.farm =
    record { vr = refl; lockout = refl; retransmit = refl; wait = λ e. e } in
    board_after w (λ t. Keeps w.spacecraft.farm t.farm) events.Take (record {
      same = same;
      receives = λ is. absurd (cc is);
      reports = λ is. absurd (cc is);
      takes = λ is left kept. same;
      releases = λ is left free. release_keeps w.spacecraft.farm w.spacecraft.farm.state;
      passes = λ is left. same;
      queues = λ octets is. same;
    })

pub would_keep : (x : ℕ) (s t : FarmState) → Keeps s t → WouldConfirm x s → WouldConfirm x t
would_keep x s t k is = (k.lockout ∙ is.0, k.wait is.1, k.retransmit ∙ is.2, k.vr ∙ is.3)

-- ---- a command that arrives

-- no flag is set, if the state is this one
flags_off : (lockout wait : Bool) → Wait ≡ state_of lockout wait → lockout ≡ false
flags_off false wait e = refl
flags_off true wait e = absurd cc

pub unlock_confirms : (x : ℕ) (s : FarmState) → s.vr ≡ x → (m : FarmMode) → m ≡ state_of s.lockout s.wait
    → WouldConfirm x (after_unlock s m)
unlock_confirms x s vr Open is = let off = open_flags s.lockout s.wait is in (off.0, off.1, refl, vr)
unlock_confirms x s vr Wait is = (flags_off s.lockout s.wait is, refl, refl, vr)
unlock_confirms x s vr Lockout is = (refl, refl, refl, vr)

not_locked : (lockout wait : Bool) → lockout ≡ false → Lockout ≡ state_of lockout wait → ⊥
not_locked true wait off e = absurd (cc off)
not_locked false true off e = cc e
not_locked false false off e = cc e

pub set_confirms : (x : ℕ) (s : FarmState) → s.lockout ≡ false → (m : FarmMode) → m ≡ state_of s.lockout s.wait
    → WouldConfirm x (after_set_vr s x m)
set_confirms x s off Open is = (off, (open_flags s.lockout s.wait is).1, refl, refl)
set_confirms x s off Wait is = (off, refl, refl, refl)
set_confirms x s off Lockout is = absurd (not_locked s.lockout s.wait off is)

pub good_unlocked : (x : ℕ) (s : FarmState) → WouldConfirm x s → (m : FarmMode) → WouldConfirm x (after_unlock s m)
good_unlocked x s is Open = (is.0, is.1, refl, is.3)
good_unlocked x s is Wait = (is.0, refl, refl, is.3)
good_unlocked x s is Lockout = (refl, refl, refl, is.3)
