use Rattle.std.proofs.Common.{◌≡◌, ◌≤◌, ◌-◌, length, drop}
use Rattle.space_packet.specs.Packets.{packets_in}
use Rattle.tm_link.specs.Extractor.{without_idle}
use Rattle.sedgechisel.proofs.telemetry_extractor.packet_after.Given as goal

abbrev pub invariant-loop-len : goal.invariant-loop-len
invariant-loop-len l = record {
  within : l.from ≤ length l.octets;
  same : without_idle (packets_in (drop l.from l.octets)) ≡ without_idle (packets_in (drop l.fn.place l.octets));
}

abbrev pub decreases-loop-len : goal.decreases-loop-len
decreases-loop-len l = length l.octets - l.from
