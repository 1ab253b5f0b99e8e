-- What is known of packets to be submitted, before anything changes.
use Rattle.std.specs.Prelude.{◌≡◌, ℕ, List, [], ◌∷◌, Option, Some, None}
use denote.Bor.{Bor}
use Rattle.std.specs.declared.alloc.Global.{Global}
use Rattle.std.specs.declared.vec.Vec.{Vec}
use Rattle.tc_frame.specs.Layout.{SegmentView}
use Rattle.map_service.specs.Packets.{packets_in}
use Rattle.nodes.specs.declared.command_packets.Packets.{Packets}
use Rattle.nodes.specs.declared.ground_node.submission.Segments.{Segments}
use Rattle.nodes.specs.declared.ground_node.submission.Segments.TheVariants as segments
use Rattle.nodes.specs.declared.ground_node.submission.Submission.{Submission}
use Rattle.nodes.specs.CommandPackets.{slices_view}
use Rattle.nodes.specs.Ground.{GroundState, segments_on, submit_fault}

abbrev pub packets_of : Option (Vec (Bor (List ℕ)) Global) → List (Bor (List ℕ)) → List (List ℕ)
packets_of None whole = slices_view whole
packets_of (Some packets) whole = slices_view packets.items

abbrev pub packets_held : Packets → List (List ℕ)
packets_held p = packets_of p.several p.whole

abbrev pub segments_held : Segments → List SegmentView
segments_held (segments.One segment) = segment ∷ []
segments_held (segments.Several segments) = segments.items

-- A ground in this state does not refuse the submission's octets on its MAP. The submission holds
-- the packets and the segments of these octets.
pub record IsSubmissionAt (s : GroundState) (b : Submission) : Type 0 where
  pub fault : submit_fault s b.map b.octets.now ≡ None
  pub packets : packets_held b.packets ≡ packets_in b.octets.now
  pub segments : segments_held b.segments ≡ segments_on s b.map b.octets.now
