-- What confirms an initiation: one exchange in which nothing is lost.
use Rattle.std.specs.Prelude.{◌≡◌, ℕ, true, false, Ok}
use Rattle.cop1.specs.declared.vocabulary.Directive.{Directive}
use Rattle.cop1.specs.declared.vocabulary.Directive.TheVariants.{InitWithCheck, InitUnlock}
use Rattle.cop1.specs.declared.vocabulary.Directive.TheVariants.{InitSetVr}
use Rattle.cop1.specs.declared.vocabulary.FopMode.TheVariants.{S1}
use Rattle.nodes.specs.Ground.{is_closed}
use Rattle.nodes.specs.declared.event.Event.TheVariants as events
use Rattle.simulated_link.specs.Replies.{Resumed}
use Rattle.simulated_link.specs.World.{World, world_step, world_run, begins_idle}
use Rattle.tc_link.specs.Beside.{HasOctetPast}
use Rattle.tc_link.specs.Progress.{exchange, AlertsIn}
use Rattle.tc_link.specs.Reached.{IsEvent}
use Rattle.tc_link.specs.Resumed.{IsOfNow}

-- The receiver as it is lets this initiation be confirmed: Unlock if V(R) = V(S), Set V(R) outside
-- Lockout, and CLCW check if V(R) = V(S) and neither the lockout nor the retransmit flag is set.
abbrev pub MayConfirm : World → Directive → Type 0
MayConfirm w InitUnlock = w.spacecraft.farm.vr ≡ w.ground_node.fop.vs
MayConfirm w (InitSetVr value) = w.spacecraft.farm.lockout ≡ false
MayConfirm w InitWithCheck =
    (w.spacecraft.farm.vr ≡ w.ground_node.fop.vs) × (w.spacecraft.farm.lockout ≡ false)
    × (w.spacecraft.farm.retransmit ≡ false)
MayConfirm w _ = ⊥

-- after one exchange in which nothing is lost, the session is confirmed, without an alert
pub record IsConfirmedAtOnce (w : World) : Type 0 where
  pub active : (world_run w (exchange w)).ground_node.fop.state ≡ S1
  pub confirmed : (world_run w (exchange w)).session.confirmed ≡ true
  pub quiet : AlertsIn w (exchange w) → ⊥

-- an initiation by an idle start, whatever came before
abbrev pub EachIsConfirmed : Type 0
EachIsConfirmed =
    (w : World) (directive : Directive) → HasOctetPast w
    → is_closed w.ground_node.fop.state ≡ true → begins_idle w directive ≡ true
    → IsEvent (events.Directive directive) → MayConfirm w directive
    → IsConfirmedAtOnce (world_step w (events.Directive directive)).after

-- the same for a resumption by the value of a CLCW made now
abbrev pub EachResumptionIsConfirmed : Type 0
EachResumptionIsConfirmed =
    (w : World) (value more : ℕ) → HasOctetPast w → IsOfNow w value
    → (world_step w (events.Resume value)).answer ≡ Ok (Resumed more)
    → IsConfirmedAtOnce (world_step w (events.Resume value)).after
