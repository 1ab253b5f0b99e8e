use Rattle.std.proofs.Common.{arith}
use Rattle.simulated_link.specs.World.{submitted, delivered}
use Rattle.script.proofs.Counts.{all_maps}
use Rattle.script.proofs.show.count_packets.Goals as goal

pub returns-clause-submitted : goal.returns-clause-submitted
returns-clause-submitted c =
    all_maps (submitted c.args.world.now) c.maps.of_submitted c.maps.map c.maps.invariant.submitted
    (omega (arith, c.maps.invariant.maps, c.maps-test.false))

pub returns-clause-delivered : goal.returns-clause-delivered
returns-clause-delivered c =
    all_maps (delivered c.args.world.now) c.maps.of_delivered c.maps.map c.maps.invariant.delivered
    (omega (arith, c.maps.invariant.maps, c.maps-test.false))
