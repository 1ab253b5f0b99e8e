-- No false alarm: the receiver does not enter Lockout, and each alert has its cause.
use Rattle.std.specs.Prelude.{◌≡◌, ◌≢◌, ℕ, List, [], ◌∷◌, true, false, Option, Some, None, Result}
use Rattle.std.specs.Prelude.{Ok, Err}
use Rattle.clcw.specs.declared.word.Clcw.{Clcw}
use Rattle.cop1.specs.declared.farm.FarmMode.TheVariants as farm
use Rattle.cop1.specs.declared.vocabulary.Alert.{Alert}
use Rattle.cop1.specs.declared.vocabulary.Alert.TheVariants.{Lockout, NnR, Clcw as ClcwAlert, Synch}
use Rattle.cop1.specs.declared.vocabulary.Alert.TheVariants.{Limit}
use Rattle.cop1.specs.declared.vocabulary.Alert.TheVariants.{Timer, Terminated}
use Rattle.cop1.specs.declared.vocabulary.Directive.TheVariants.{InitWithCheck, Terminate}
use Rattle.cop1.specs.FopReport.{asks}
use Rattle.nodes.specs.declared.config.Config.{Config}
use Rattle.nodes.specs.declared.event.Event.{Event}
use Rattle.nodes.specs.declared.event.Event.TheVariants as events
use Rattle.simulated_link.specs.declared.fault.SimFault.{SimFault}
use Rattle.tc_link.specs.InTransit.{report_carried}
use Rattle.simulated_link.specs.Replies.{ReplyView, replied_alert}
use Rattle.simulated_link.specs.World.{World, world_step, directive_of}

-- the alert in an answer
abbrev pub alert_in : Result ReplyView SimFault → Option Alert
alert_in (Ok reply) = replied_alert reply
alert_in (Err fault) = None

-- ---- its cause

-- begun by CLCW check, and not confirmed yet
abbrev pub IsUnderCheck : World → Type 0
IsUnderCheck w = (directive_of w ≡ Some InitWithCheck) × (w.session.confirmed ≡ false)

-- there is a CLCW, with the retransmit flag
abbrev pub AsksAgain : List Clcw → Type 0
AsksAgain [] = ⊥
AsksAgain (report ∷ more) = asks report ≡ true

-- the first frame in transit on the downlink carries such a CLCW
abbrev pub FirstAsks : Config → List (List ℕ) → Type 0
FirstAsks c [] = ⊥
FirstAsks c (octets ∷ more) = AsksAgain (report_carried c octets)

-- a CLCW arrives, in its telemetry frame or by itself
abbrev pub IsReport : Event → Type 0
IsReport events.DownDeliver = Unit {0}
IsReport events.DownClcw = Unit {0}
IsReport _ = ⊥

-- the one cause of each alert
abbrev pub HasCause : World → Event → Alert → Type 0
HasCause w event Lockout = IsUnderCheck w × (w.spacecraft.farm.state ≡ farm.Lockout)
HasCause w event NnR = IsUnderCheck w × (w.spacecraft.farm.vr ≢ w.ground_node.fop.vs)
HasCause w event ClcwAlert = ⊥
HasCause w event Synch = IsUnderCheck w × (w.spacecraft.farm.retransmit ≡ true)
HasCause w event Limit =
    IsReport event × FirstAsks w.ground_node.config w.down
    × (w.ground_node.fop.limit ≡ 1)
HasCause w event Timer = event ≡ events.Tick
HasCause w event Terminated = event ≡ events.Directive Terminate

pub record HasNoFalseAlarm (w : World) (event : Event) : Type 0 where
  -- the receiver does not enter Lockout
  pub not_locked : w.spacecraft.farm.state ≢ farm.Lockout
      → (world_step w event).after.spacecraft.farm.state ≢ farm.Lockout
  -- the receiver is not in Lockout once the session is confirmed
  pub unlocked : w.session.confirmed ≡ true → w.spacecraft.farm.state ≢ farm.Lockout
  -- each alert that the ground returns has its cause
  pub alerts : (alert : Alert) → alert_in (world_step w event).answer ≡ Some alert
      → HasCause w event alert
