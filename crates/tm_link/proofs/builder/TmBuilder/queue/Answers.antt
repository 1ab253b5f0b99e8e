use Rattle.std.proofs.Common.{ℕ, List, [], ◌∷◌, ◌++◌, rules, sym, subst, arith}
use Rattle.std.proofs.lemmas.Grind.{common_steps}
use Rattle.octets.specs.Number.{IsOctets}
use Rattle.tm_link.specs.Builder.{BuilderState}
use Rattle.tm_link.specs.Builder.{IsLaidOutBy}
use Rattle.tm_link.proofs.Laid.{queue_laid}
use Rattle.tm_link.proofs.builder.TmBuilder.queue.Goals as goal

pub returns-clause-ok : goal.returns-clause-ok
returns-clause-ok c = grind (arith, common_steps)

pub returns-clause-taken : goal.returns-clause-taken
returns-clause-taken c = search rules

pub returns-clause-laid : goal.returns-clause-laid
returns-clause-laid c = λ packets frames h.
    let octets : List ℕ = c.args.packet.now in
    let fits : IsOctets octets = λ i. omega (arith, c.type_inv.packet i) in
    subst (λ (b : BuilderState). IsLaidOutBy b (packets ++ octets ∷ []) frames) (sym (returns-clause-ok c))
    (queue_laid c.args.self.now octets packets frames fits (returns-clause-taken c) h)
