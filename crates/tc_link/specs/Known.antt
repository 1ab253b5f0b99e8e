-- V(S) and NN(R) change only with the records of the session, so an alert keeps what is known.
use Rattle.std.specs.Prelude.{◌≡◌, ℕ, ◌+◌, ◌%◌, length, false}
use Rattle.cop1.specs.declared.vocabulary.Directive.TheVariants.{SetVs}
use Rattle.nodes.specs.Ground.{is_closed}
use Rattle.nodes.specs.declared.event.Event.{Event}
use Rattle.nodes.specs.declared.event.Event.TheVariants as events
use Rattle.simulated_link.specs.World.{World}

-- no directive sets V(S): an event is not such a directive, or the sender is not in S6 then
abbrev pub SetsNoNumber : World → Event → Type 0
SetsNoNumber w event =
    (x : ℕ) → event ≡ events.Directive (SetVs x) → is_closed w.ground_node.fop.state ≡ false

-- From one world to another, V(S) increases by the number of segments sent for the first time,
-- modulo 256. NN(R) increases by the number of segments acknowledged, modulo 256. So both stay the
-- same if the records do.
pub record MovesWithRecords (old new : World) : Type 0 where
  pub vs : (new.ground_node.fop.vs + length old.session.sent) % 256
      ≡ (old.ground_node.fop.vs + length new.session.sent) % 256
  pub nn : (new.ground_node.fop.nn + old.session.acknowledged) % 256
      ≡ (old.ground_node.fop.nn + new.session.acknowledged) % 256
