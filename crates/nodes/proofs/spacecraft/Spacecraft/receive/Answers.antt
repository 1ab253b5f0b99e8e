use Rattle.std.proofs.Common.{length, ap}
use Rattle.tc_frame.specs.declared.frame.Body.{Body}
use Rattle.tc_frame.specs.Layout.{body_octets, body_view, frame_view}
use Rattle.nodes.proofs.ShortData.{short_data}
use Rattle.nodes.proofs.spacecraft.Spacecraft.receive.Goals as goal

pub receive_sequence-requires : goal.receive_sequence-requires
receive_sequence-requires c =
    short_data (frame_view c.in-Ok.frame) c.args.octets.now c.in-Ad.segment.payload.now c.in-Ok.ensures.found
    (ap (λ (body : Body). length (body_octets (body_view body))) c.in-Ad.is)

pub receive_bypass-requires : goal.receive_bypass-requires
receive_bypass-requires c =
    short_data (frame_view c.in-Ok.frame) c.args.octets.now c.in-Bd.segment.payload.now c.in-Ok.ensures.found
    (ap (λ (body : Body). length (body_octets (body_view body))) c.in-Bd.is)
