use Rattle.std.proofs.Common.{rules, ◌≡◌, ◌≢◌, List, [], ◌∷◌, ◌++◌, map, Result, Ok, Err, IfOk, IfErr, OnOk, OnErr}
use Rattle.std.proofs.Common.{IsOkUnless, refl, ap, sym, ◌∙◌}
use Rattle.octets.specs.Outcome.{map_ok}
use Rattle.simulated_link.proofs.Unchanged.{refused_keeps}
use Rattle.simulated_link.specs.Replies.{ReplyView, reply_view}
use Rattle.simulated_link.specs.declared.reply.Reply.{Reply}
use Rattle.simulated_link.specs.declared.fault.SimFault.TheVariants.{Memory}
use Rattle.tc_link.specs.Simulation.{SimState, record_step}
use Rattle.tc_link.proofs.Common.{World, WorldOutcome, world_step, SimFault, map-append}
use Rattle.tc_link.proofs.Promised.{reached_after}
use Rattle.tc_link.proofs.sim.Sim.record_step.Goals as goal

pub invariant_of-self-2 : goal.invariant_of-self-2
invariant_of-self-2 c =
    reached_after c.self.inside.world c.step-answer.new.self c.args.event c.step-answer.result c.self.invariant
    c.keeps_octets.ensures c.step-answer.ensures.after c.step-answer.ensures.err

-- a step that did not run out of memory, and its answer
module _ (w new : World) (answers : List (Result ReplyView SimFault)) where
  abbrev with : World → Result ReplyView SimFault → SimState
  with world answer = record { world = world; answers = answers ++ answer ∷ [] }

  recorded_as : (o : WorldOutcome) → IfErr o.answer (λ e. o.after ≡ w) → (r : Result Reply SimFault)
      → r ≢ Err Memory → IfOk r (λ reply. o.answer ≡ Ok (reply_view reply)) → OnOk r (new ≡ o.after)
      → OnErr r (new ≡ w) → (a : Result ReplyView SimFault) → o.answer ≡ a → IfErr a (λ e. r ≡ Err e)
      → IfOk a (λ x. IsOkUnless r Memory) → with new (map_ok reply_view r) ≡ with o.after o.answer
  recorded_as o keeps (Ok reply) lacks says after err a is refused memory =
      ap (λ x. with x (Ok (reply_view reply))) after ∙ ap (with o.after) (sym says)
  recorded_as o keeps (Err fault) lacks says after err (Ok x) is refused memory = absurd (lacks (ap Err memory))
  recorded_as o keeps (Err fault) lacks says after err (Err e) is refused memory =
      let kept : o.after ≡ w = rw is at keeps in
      let same : fault ≡ e = cc refused in
      ap (λ x. with x (Err fault)) (err ∙ sym kept) ∙ ap (λ e. with o.after (Err e)) same ∙ ap (with o.after) (sym is)

has_memory : (c : goal.After-push_reserved) → c.step-answer.result ≢ Err Memory
has_memory c = search rules

pub returns-clause-ok : goal.returns-clause-ok
returns-clause-ok c =
    let w : World = c.self.inside.world in
    let o : WorldOutcome = world_step w c.args.event in
    let e = c.step-answer.ensures in
    let was : List (Result Reply SimFault) = c.self.inside.answers.items in
    let r : Result Reply SimFault = c.step-answer.result in
    let items : map (λ a. map_ok reply_view a) c.push_reserved.new.self.items
    ≡ map (λ a. map_ok reply_view a) was ++ map_ok reply_view r ∷ [] =
    ap (map (λ a. map_ok reply_view a))
    (c.push_reserved.ensures.items ∙ ap (λ xs. xs ++ r ∷ []) c.try_reserve.ensures.items)
    ∙ map-append (λ a. map_ok reply_view a) was (r ∷ []) in
    ap (λ a. record { world = c.step-answer.new.self; answers = a }) items
    ∙ recorded_as w c.step-answer.new.self (map (λ a. map_ok reply_view a) was) o (refused_keeps w c.args.event) r
    (has_memory c) e.reply e.after e.err o.answer refl e.refused e.memory
    ∙ ap (λ (s : SimState). record_step s c.args.event) c.self.view_is
