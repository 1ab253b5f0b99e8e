-- Loss is never silent: until an alert is returned, what was submitted is acknowledged or
-- outstanding.
use Rattle.std.specs.Prelude.{◌≡◌, drop, true, false, Option, None, IsSome, Ok}
use Rattle.cop1.specs.declared.vocabulary.Alert.{Alert}
use Rattle.nodes.specs.Ground.{is_closed, outstanding, GroundState, GroundEvent, GroundAnswer}
use Rattle.nodes.specs.Ground.{Direct, Tick, Telemetry, ControlWord, ground_step}
use Rattle.nodes.specs.declared.event.Event.{Event}
use Rattle.simulated_link.specs.Replies.{heard_alert}
use Rattle.simulated_link.specs.World.{World, world_step, IsIdle}
use Rattle.tc_link.specs.AnyPast.{HasAnyPast}
use Rattle.tc_link.specs.FalseAlarms.{alert_in}
use Rattle.tc_link.specs.History.{units_submitted}

-- After any past, in a session that had an idle start: until the sender gives up, the ground holds
-- outstanding exactly what was submitted in the session and is not acknowledged.
abbrev pub HoldsWhatIsNotAcknowledged : Type 0
HoldsWhatIsNotAcknowledged =
    (w : World) → HasAnyPast w → IsIdle w → is_closed w.ground_node.fop.state ≡ false
    → outstanding w.ground_node ≡ drop w.session.acknowledged (units_submitted w)

-- the alert that a call of the ground returns
abbrev pub alert_of : (event : GroundEvent) → GroundAnswer event → Option Alert
alert_of (Direct directive) (Ok alert) = alert
alert_of Tick alert = alert
alert_of (Telemetry octets) heard = heard_alert heard
alert_of (ControlWord octets) heard = heard.alert
alert_of event answer = None

-- The sender gives up only with an alert that is returned. This holds of each ground, whatever
-- calls it has had, and so of each link.
pub record GivesUpAloud : Type 0 where
  pub ground : (s : GroundState) (event : GroundEvent) → is_closed s.fop.state ≡ false
      → is_closed (ground_step s event).after.fop.state ≡ true
      → IsSome (alert_of event (ground_step s event).answer)
  pub link : (w : World) (event : Event) → is_closed w.ground_node.fop.state ≡ false
      → is_closed (world_step w event).after.ground_node.fop.state ≡ true
      → IsSome (alert_in (world_step w event).answer)
