use Rattle.std.proofs.Common.{◌∙◌, arith}
use Rattle.command_log.proofs.Division.{check_from, takes_octet_at}
use Rattle.command_log.proofs.crc.check_after.Goals as goal

pub loop-octet-preserved : goal.loop-octet-preserved
loop-octet-preserved c =
    let next = c.after_octet-register in
    takes_octet_at c.loop-octet.register next.result c.loop-octet.octet-index c.args.octets.now (omega arith)
    c.loop-octet-test.true next.ensures.octet next.ensures.after
    ∙ c.loop-octet.invariant

pub returns : goal.returns
returns c = check_from c.loop-octet.register c.loop-octet.octet-index c.args.check c.args.octets.now c.args.octets.now
    (omega arith) c.loop-octet-test.false c.loop-octet.invariant
