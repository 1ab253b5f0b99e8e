use Rattle.std.proofs.Common.{◌≡◌, ◌-◌, drop}
use Rattle.command_log.proofs.Division.{divided}
use Rattle.command_log.proofs.crc.check_after.Given as goal

abbrev pub invariant-loop-octet : goal.invariant-loop-octet
invariant-loop-octet l =
    divided l.register 0 (drop l.octet-index l.octets) ≡ divided (4294967295 - l.fn.check) 0 l.octets
