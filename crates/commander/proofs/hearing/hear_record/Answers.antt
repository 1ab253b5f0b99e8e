use Rattle.std.proofs.Common.{arith}
use Rattle.command_log.specs.declared.status.Status.TheVariants.{Says}
use Rattle.command_log.specs.Layout.{IsInRange}
use Rattle.commander.proofs.hearing.hear_record.Goals as goal

pub returns : goal.returns
returns c =
    let range : IsInRange c.args.kept =
    record { boot = omega arith; last = omega arith; known = omega arith; history = omega arith } in
    let taken = c.hears.ensures.taken (Says c.args.kept) c.args.waiting range (omega arith) c.requires in
    record { ok = taken.1; err = c.hears.ensures.err; fault = taken.0 }
