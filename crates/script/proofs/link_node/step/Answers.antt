use Rattle.std.proofs.Common.{rules, ◌≡◌, ◌≢◌, Result, Ok, Err, IfOk, IfErr, OnOk, OnErr, IsOkUnless, refl, ap, sym}
use Rattle.std.proofs.Common.{◌∙◌}
use Rattle.simulated_link.proofs.Unchanged.{refused_keeps}
use Rattle.simulated_link.specs.Replies.{ReplyView}
use Rattle.simulated_link.specs.World.{World, WorldOutcome, world_step}
use Rattle.simulated_link.specs.declared.fault.SimFault.{SimFault}
use Rattle.simulated_link.specs.declared.fault.SimFault.TheVariants.{Memory}
use Rattle.simulated_link.specs.declared.reply.Reply.{Reply}
use Rattle.script.proofs.link_node.step.Goals as goal

-- a step that did not run out of memory leaves the world of its outcome, refused or not
left_so : (w new : World) (o : WorldOutcome) → IfErr o.answer (λ e. o.after ≡ w) → (r : Result Reply SimFault)
    → r ≢ Err Memory → OnOk r (new ≡ o.after) → OnErr r (new ≡ w) → (a : Result ReplyView SimFault) → o.answer ≡ a
    → IfOk a (λ x. IsOkUnless r Memory) → new ≡ o.after
left_so w new o keeps (Ok reply) lacks after err a is memory = after
left_so w new o keeps (Err fault) lacks after err (Ok x) is memory = absurd (lacks (ap Err memory))
left_so w new o keeps (Err fault) lacks after err (Err e) is memory =
    let kept : o.after ≡ w = rw is at keeps in err ∙ sym kept

pub returns-in_default-clause-world : goal.returns-in_default-clause-world
returns-in_default-clause-world c =
    let w : World = c.args.world.now in
    let o : WorldOutcome = world_step w c.args.event in
    let e = c.step.ensures in
    let lacks : c.step.result ≢ Err Memory = search rules in
    left_so w c.step.new.self o (refused_keeps w c.args.event) c.step.result lacks e.after e.err o.answer refl e.memory
