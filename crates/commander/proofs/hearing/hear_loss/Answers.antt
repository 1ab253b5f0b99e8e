use Rattle.std.proofs.Common.{arith}
use Rattle.command_log.specs.declared.status.Status.TheVariants.{Lost}
use Rattle.commander.proofs.hearing.hear_loss.Goals as goal

pub returns : goal.returns
returns c =
    let taken = c.hears.ensures.taken (Lost c.args.mark) c.args.waiting (omega arith) (omega arith) c.requires in
    record { ok = taken.1; err = c.hears.ensures.err; fault = taken.0 }
