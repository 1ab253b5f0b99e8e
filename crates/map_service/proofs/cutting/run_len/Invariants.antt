use Rattle.std.proofs.Common.{◌≡◌, ◌≤◌, ◌+◌, ◌-◌, length}
use Rattle.std.specs.List.{concat}
use Rattle.map_service.specs.Cutting.{longest_run}
use Rattle.map_service.specs.Packets.{packets_in}
use Rattle.map_service.proofs.cutting.run_len.Given as goal

abbrev pub invariant-packets : goal.invariant-packets
invariant-packets l = record {
  fits : l.len ≤ l.part;
  within : l.len + length l.rest ≡ length l.octets;
  run : l.len + length (concat (longest_run (l.part - l.len) (packets_in l.rest)))
      ≡ length (concat (longest_run l.part (packets_in l.octets)));
}

abbrev pub decreases-packets : goal.decreases-packets
decreases-packets l = length l.rest
