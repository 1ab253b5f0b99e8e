use Rattle.std.proofs.Common.{ap, ◌∙◌, arith, inl, inr}
use Rattle.command_log.specs.declared.status.Status.{Status}
use Rattle.command_log.specs.declared.status.Status.TheVariants.{Changes, Starts}
use Rattle.command_log.specs.Status.{status_octets}
use Rattle.commander.proofs.hearing.hear.Goals as goal

pub hear_record-requires : goal.hear_record-requires
hear_record-requires c = c.requires ∙ ap (λ (s : Status). status_octets s c.args.waiting) c.in-Says.is

pub hear_loss-requires : goal.hear_loss-requires
hear_loss-requires c = c.requires ∙ ap (λ (s : Status). status_octets s c.args.waiting) c.in-Lost.is

pub returns-in-Changes-clause-fault : goal.returns-in-Changes-clause-fault
returns-in-Changes-clause-fault c =
    let taken = c.hears.ensures.taken in
    elim c.in-Changes.is [
      | inl e ↦ (taken Changes c.args.waiting tt (omega arith)
          (c.requires ∙ ap (λ (s : Status). status_octets s c.args.waiting) e)).0
      | inr e ↦ (taken Starts c.args.waiting tt (omega arith)
          (c.requires ∙ ap (λ (s : Status). status_octets s c.args.waiting) e)).0
    ]
