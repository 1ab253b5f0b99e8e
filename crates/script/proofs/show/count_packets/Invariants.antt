use Rattle.std.proofs.Common.{◌≡◌, ◌≤◌, ◌*◌, ◌^◌, ◌-◌}
use Rattle.simulated_link.specs.World.{submitted, delivered}
use Rattle.script.specs.Player.{count_below_map}
use Rattle.script.proofs.show.count_packets.Given as goal

-- the packets on the MAPs so far are counted
abbrev pub invariant-maps : goal.invariant-maps
invariant-maps l = record {
  submitted : l.of_submitted ≡ count_below_map (submitted l.world) l.map;
  delivered : l.of_delivered ≡ count_below_map (delivered l.world) l.map;
  submitted_bound : l.of_submitted ≤ l.map * 2 ^ 64;
  delivered_bound : l.of_delivered ≤ l.map * 2 ^ 64;
  maps : l.map ≤ 64;
}

abbrev pub decreases-maps : goal.decreases-maps
decreases-maps l = 64 - l.map
