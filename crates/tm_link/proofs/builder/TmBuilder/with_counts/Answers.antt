use Rattle.std.proofs.Common.{[], rules, sym, subst}
use Rattle.tm_link.specs.Builder.{BuilderState}
use Rattle.tm_link.specs.Builder.{IsLaidOutBy}
use Rattle.tm_link.proofs.Laid.{new_laid}
use Rattle.tm_link.proofs.builder.TmBuilder.with_counts.Goals as goal

pub returns-clause-ok : goal.returns-clause-ok
returns-clause-ok c = search rules

pub returns-clause-laid : goal.returns-clause-laid
returns-clause-laid c =
    subst (λ (b : BuilderState). IsLaidOutBy b [] []) (sym (returns-clause-ok c))
    (new_laid c.args.scid c.args.vcid c.args.length c.args.mc_count c.args.vc_count)
