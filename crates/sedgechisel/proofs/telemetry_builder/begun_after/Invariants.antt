use Rattle.std.proofs.Common.{◌≡◌, length, map}
use Rattle.space_packet.specs.Packets.{packets_in}
use Rattle.tm_link.specs.Builder.{left_after}
use Rattle.sedgechisel.proofs.telemetry_builder.begun_after.Given as goal

abbrev pub invariant-loop-left : goal.invariant-loop-left
invariant-loop-left l =
    (left_after l.room l.left (map length (packets_in l.rest))).0
    ≡ (left_after l.fn.count l.fn.begun (map length (packets_in l.fn.packets))).0

abbrev pub decreases-loop-left : goal.decreases-loop-left
decreases-loop-left l = length l.rest
