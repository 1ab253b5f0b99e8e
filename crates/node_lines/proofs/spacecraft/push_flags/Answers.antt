use Rattle.std.proofs.Common.{ap}
use Rattle.clcw.specs.declared.word.Clcw.{Clcw}
use Rattle.node_lines.proofs.spacecraft.push_flags.Goals as goal

pub returns : goal.returns
returns c =
    let word = c.control_word-word in
    let flags =
    c.flag_numbers-lockout.ensures c.args.node.now.farm c.args.node.now.config.vcid word.ensures.report in
    rw (← flags.0, ← flags.1, ← flags.2, ← ap (λ (w : Clcw). w.farm_b) word.ensures.report) c.write.ensures.bytes
