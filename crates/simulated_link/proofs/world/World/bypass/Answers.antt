use Rattle.simulated_link.proofs.Common.{Result, Ok, Option, ap, sym, ◌∙◌, LinkFault, GroundState, GroundOutcome}
use Rattle.simulated_link.proofs.Common.{unless_refused, Event, World}
use Rattle.nodes.specs.declared.event.Event.TheVariants as events
use Rattle.nodes.specs.Ground.{bypass_fault, after_bypass}
use Rattle.simulated_link.specs.declared.reply.Reply.TheVariants as replies
use Rattle.simulated_link.specs.declared.reply.NodeFault.TheVariants.{Link}
use Rattle.simulated_link.specs.Events.{LetsHappen}
use Rattle.simulated_link.specs.Replies.{reply_to_submission}
use Rattle.simulated_link.specs.WorldFields.{world_of}
use Rattle.simulated_link.proofs.Unchanged.{refused, bypass_never}
use Rattle.simulated_link.proofs.Transit.{happens, lacks}
use Rattle.simulated_link.proofs.world.World.bypass.Goals.{in-Ok, in-Err}
use Rattle.simulated_link.proofs.world.World.bypass.Goals as goal

module _ (c : goal.Joined-bypass) where
  abbrev s : GroundState
  s = c.self.inside.ground_node

  abbrev event : Event
  event = events.Bypass c.args.map c.args.octets

  -- the ground's outcome, unless it refuses for this reason
  abbrev unless : Option LinkFault → GroundOutcome (Result (Unit {0}) LinkFault)
  unless reason = unless_refused reason s (after_bypass s c.args.map c.args.octets.now)

  abbrev with_ground : GroundState → World
  with_ground t = record (world_of c.self.inside) { ground_node = t }

  abbrev new : World
  new = with_ground c.bypass.new.self

  bypassed : LetsHappen event c.args.self.now new c.match-bypass.result
  bypassed =
      elim c.match-bypass.branch [
        | in-Ok w ↦ rw w.result-is (happens c.self.inside c.args.self.now c.self.view_is event replies.Done new
            (ap (λ r. Ok (reply_to_submission r)) w.in-Ok.ensures.taken) (ap with_ground w.in-Ok.ensures.after))
        | in-Err w ↦ refused (LetsHappen event c.args.self.now new) w.in-Err.fault
            (bypass_fault s c.args.map c.args.octets.now) c.bypass.result w.in-Err.is c.bypass.ensures.refused
            c.bypass.ensures.memory (bypass_never s c.args.map c.args.octets.now)
            (lacks c.self.inside c.args.self.now c.self.view_is event new
            (ap with_ground w.in-Err.ensures.err ∙ c.self.view_is) tt)
            (λ why. happens c.self.inside c.args.self.now c.self.view_is event
            (replies.Refused (Link w.in-Err.fault)) new
            (ap (λ reason. Ok (reply_to_submission (unless reason).answer)) why)
            (ap with_ground (w.in-Err.ensures.err ∙ sym (ap (λ reason. (unless reason).after) why))))
            c.match-bypass.result (w.result-is ∙ w.answer_to_refusal.ensures)
      ]

pub returns : goal.returns
returns c = bypassed c
