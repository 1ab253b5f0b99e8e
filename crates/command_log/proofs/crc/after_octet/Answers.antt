use Rattle.std.proofs.Common.{arith, bit_xor}
use Rattle.command_log.specs.Check.{register_after}
use Rattle.command_log.proofs.Division.{one_bit_less}
use Rattle.command_log.proofs.crc.after_octet.Goals as goal

pub loop-bit-preserved : goal.loop-bit-preserved
loop-bit-preserved c = (
  omega arith,
  one_bit_less c.loop-bit._bit c.loop-bit.after c.after_bit-after.result
      (register_after 8 (bit_xor c.args.register c.args.octet)) (omega arith) c.after_bit-after.ensures
      c.loop-bit.invariant.1,
)
