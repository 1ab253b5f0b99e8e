use Rattle.simulated_link.proofs.Common.{◌≡◌, ◌≤◌, ◌+◌, length, sym, subst, arith, ahead_by, GroundState, [], ℕ, List}
use Rattle.simulated_link.proofs.Common.{drop, refl, ap, ◌∙◌, octets_of, Ok, Down, World, down_deliver_step, FopMode}
use Rattle.std.proofs.Common.{rules}
use Rattle.std.specs.Prelude.{◌||◌}
use Rattle.tm_link.specs.Decoding.{frame_at}
use Rattle.nodes.specs.declared.event.Event.TheVariants.{DownDeliver}
use Rattle.simulated_link.specs.declared.reply.Reply.TheVariants as replies
use Rattle.simulated_link.specs.World.{is_confirmation, world_after_telemetry}
use Rattle.simulated_link.specs.WorldFields.{world_of, IsSound}
use Rattle.simulated_link.proofs.Transit.{IsFirst, none_there, first_there, happens, lacks}
use Rattle.simulated_link.proofs.Counted.{heard_less}
use Rattle.simulated_link.proofs.world.World.down_deliver.Goals.{then-self, else-self, After-deref}
use Rattle.simulated_link.proofs.world.World.down_deliver.Goals as goal

-- how far NN(R) has moved
moved : (c : goal.After-self-2-1)
    → c.from.result ≡ ahead_by c.telemetry.new.self.fop.nn c.self.inside.ground_node.fop.nn
moved c =
    c.from.ensures ∙ ap (λ (n : ℕ). ahead_by n c.nn-nn.result) c.nn.ensures
    ∙ ap (ahead_by c.telemetry.new.self.fop.nn) c.nn-nn.ensures

confirmed : (c : goal.After-self-2-1) → c.if-self.self
    ≡ (c.self.inside.session.confirmed
    || is_confirmation c.self.inside.ground_node.fop.state c.telemetry.new.self.fop.state)
confirmed c =
    elim c.if-self.branch [
      | then-self w ↦ rw (w.self-is, w.if-self.true) refl
      | else-self w ↦ rw w.if-self.false
          (w.self-is ∙ w.is_confirmation-self-inside.ensures
          ∙ ap (λ (m : FopMode). is_confirmation m w.state.result) c.state-mode.ensures.state
          ∙ ap (is_confirmation c.self.inside.ground_node.fop.state) w.state.ensures.state)
    ]

pub invariant_of-self-2 : goal.invariant_of-self-2
invariant_of-self-2 c =
    let s : GroundState = c.self.inside.ground_node in
    let t : GroundState = c.telemetry.new.self in
    let less : ahead_by t.fop.nn s.fop.nn + length t.fop.sent ≤ length s.fop.sent =
    subst (λ (x : GroundState). ahead_by x.fop.nn s.fop.nn + length x.fop.sent ≤ length s.fop.sent)
    (sym c.in-Ok.ensures.step.after)
    (heard_less s c.state-mode.ensures.holds (omega (arith, c.nn-nn.ensures, c.nn-nn.type_inv))
    (frame_at s.config.frame_length c.deref.result.now)) in
    let counted : c.self.inside.session.acknowledged + c.from.result + length t.fop.sent
    ≤ length c.self.inside.session.sent.items = omega (arith, c.self.invariant.counted, less, moved c) in
    assumption (counted, c.self.invariant)

-- the octets are those of the first frame in transit
came : (c : After-deref) → IsFirst c.deref.result.now c.self.inside.down.items
came c =
    first_there c.self.inside.down.items c.in-Some.octets.now c.deref.result.now c.in-Some.ensures.item.3.0
    c.in-Some.ensures.lookup c.deref.ensures.value

pub returns-in_default : goal.returns-in_default
returns-in_default c =
    let none : c.args.self.now.down ≡ [] =
    ap (λ (w : World). w.down) (sym c.self.view_is) ∙ none_there c.self.inside.down.items c.in_default.ensures.item.3 in
    rw none (search rules)

pub invariant_of-self : goal.invariant_of-self
invariant_of-self c =
    subst (λ (s : GroundState). IsSound (record c.self.inside { ground_node = s }))
    (sym c.in_default-telemetry.ensures.step.err) c.self.invariant

pub returns-in_default-telemetry : goal.returns-in_default-telemetry
returns-in_default-telemetry c =
    let w : World = world_of c.self.inside in
    let first = came (goal.at.returns-in_default-telemetry c).After-deref in
    lacks c.self.inside c.args.self.now c.self.view_is DownDeliver
    (record w { ground_node = c.telemetry.new.self })
    (ap (λ (s : GroundState). record w { ground_node = s }) c.in_default-telemetry.ensures.step.err ∙ c.self.view_is)
    (rw first tt)
    (rw first (λ none. cc (c.in_default-telemetry.ensures.none none)))

pub returns : goal.returns
returns c =
    let w : World = world_of c.self.inside in
    let down : List (List ℕ) = octets_of (drop 1 c.self.inside.down.items) in
    let first = came (goal.at.returns c).After-deref in
    happens c.self.inside c.args.self.now c.self.view_is DownDeliver (replies.Down c.in-Ok.heard)
    (record w {
      ground_node = c.telemetry.new.self;
      down = octets_of c.pop_front.new.self.items;
      session = record w.session {
        confirmed = c.if-self.self;
        acknowledged = c.self.inside.session.acknowledged + c.from.result;
      };
    })
    (ap (λ (way : List (List ℕ)). (down_deliver_step w way).answer) first
    ∙ ap (λ h. Ok (Down h)) (sym c.in-Ok.ensures.step.answer))
    (rw (c.pop_front.ensures.rest, confirmed c, moved c)
    (ap (λ (t : GroundState). (world_after_telemetry w down (record { answer = c.in-Ok.heard; after = t })).after)
    c.in-Ok.ensures.step.after ∙ ap (λ (way : List (List ℕ)). (down_deliver_step w way).after) (sym first)))
