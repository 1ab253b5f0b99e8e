use Rattle.std.proofs.Common.{◌∙◌, sym}
use Rattle.space_packet.proofs.WholePackets.{no_more}
use Rattle.tm_link.proofs.Records.{rest-next}
use Rattle.tm_link.proofs.ending.rest_after_packets.Goals as goal

pub loop-size-preserved : goal.loop-size-preserved
loop-size-preserved c =
    rest-next c.loop-size.rest.now c.in-Some.size c.in-Some.ensures.first c.in-Some.ensures.within.1
    ∙ c.loop-size.invariant

pub returns : goal.returns
returns c = sym (no_more c.loop-size.rest.now (sym c.in_default.ensures.first)).1 ∙ c.loop-size.invariant
