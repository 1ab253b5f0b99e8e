use Rattle.std.proofs.Common.{◌≡◌, ◌≤◌, ◌-◌, bit_xor}
use Rattle.command_log.specs.Check.{register_after}
use Rattle.command_log.proofs.crc.after_octet.Given as goal

abbrev pub invariant-loop-bit : goal.invariant-loop-bit
invariant-loop-bit l = (l._bit ≤ 8) × (register_after (8 - l._bit) l.after ≡ register_after 8
    (bit_xor l.fn.register l.fn.octet))
