-- The effect that octets in transit on the uplink will have on a spacecraft.
use Rattle.std.specs.Prelude.{List, ℕ, if◌then◌else◌, Option, Some, None, Result, Ok, Err, ◌≡◌, ◌≤◌}
use Rattle.std.specs.Prelude.{length, true, option_map, IfSome}
use Rattle.tc_frame.specs.declared.frame.Check.TheVariants.{On}
use Rattle.tc_frame.specs.declared.fault.TcFault.{TcFault}
use Rattle.tc_frame.specs.Layout.{SegmentView, BodyView, Ad, Bd, Bc, FrameView, segment_view}
use Rattle.tc_frame.specs.Decoding.{frame_at}
use Rattle.cop1.specs.Farm.{verdict_of}
use Rattle.nodes.specs.Spacecraft.{SpacecraftState, is_free, is_own_frame, is_accepted}
use Rattle.nodes.specs.Spacecraft.{SpacecraftOutcome, after_segment, packets_kept}
use Rattle.nodes.specs.Spacecraft.{spacecraft_receive}
use Rattle.map_service.specs.declared.assembler.Prepared.{Prepared}
use Rattle.map_service.specs.Assembly.{open_part}
use Rattle.map_service.specs.Prepared.{IsPreparedBy}
use Rattle.map_service.specs.Views.{ready_view}
use Rattle.nodes.specs.declared.received.Received.{Received}
use Rattle.nodes.specs.declared.spacecraft.arrival.Arrival.{Arrival}
use Rattle.nodes.specs.Packets.{PacketOn}
use Rattle.nodes.specs.Parameters.{limits_of}

-- The segment that a spacecraft will accept from octets in transit.

abbrev pub segment_in_body : SpacecraftState → BodyView → Option SegmentView
segment_in_body s (Ad n segment) =
    if is_accepted (verdict_of s.farm n (is_free s)) then Some segment
    else None
segment_in_body s (Bd segment) = None
segment_in_body s (Bc command) = None

abbrev pub segment_in_frame : SpacecraftState → Result FrameView TcFault → Option SegmentView
segment_in_frame s (Err fault) = None
segment_in_frame s (Ok frame) =
    if is_own_frame s.config frame then segment_in_body s frame.body
    else None

-- the segment that will be accepted, if there is one
abbrev pub segment_to_accept : SpacecraftState → List ℕ → Option SegmentView
segment_to_accept s octets = segment_in_frame s (frame_at On octets)

-- The effect of octets that have arrived from the ground, determined before anything changes.

-- ---- the contents of an arrival

abbrev pub segment_accepted : Arrival → Option SegmentView
segment_accepted a = option_map (λ p. segment_view p.0) a.accepted

-- the accepted segment, with the packets that it makes ready
abbrev pub accepted_of : Arrival → Option (SegmentView × List (List ℕ))
accepted_of a = option_map (λ p. (segment_view p.0, ready_view p.1.packets)) a.accepted

-- ---- the state after it

abbrev pub after_accepting : SpacecraftState → Option SegmentView → SpacecraftState
after_accepting s None = s
after_accepting s (Some segment) = after_segment s segment

abbrev pub after_keeping : SpacecraftState → Option PacketOn → SpacecraftState
after_keeping s None = s
after_keeping s (Some packet) = record s { bypass = packets_kept s packet }

abbrev pub after_arrival : SpacecraftState → Arrival → SpacecraftState
after_arrival s a =
    record (after_keeping (after_accepting s (segment_accepted a)) a.kept) { farm = a.farm }

-- ---- how it was determined

-- The segment may be accepted with what was prepared from it: the buffer is free, and the segment
-- is short enough for a frame.
pub record IsAcceptable (s : SpacecraftState) (segment : SegmentView) (p : Prepared) : Type 0 where
  pub prepared :
      IsPreparedBy (limits_of s.config)
      (λ m. open_part (limits_of s.config) m s.accepted)
      segment p
  pub free : is_free s ≡ true
  pub short : length segment.payload ≤ 1016

-- the arrival has this outcome and accepts this segment; a packet that it keeps is not too long
pub record IsArrivalOf (s : SpacecraftState) (o : SpacecraftOutcome Received)
    (segment : Option SegmentView) (a : Arrival) : Type 0 where
  pub answer : a.received ≡ o.answer
  pub after : after_arrival s a ≡ o.after
  pub accepted : segment_accepted a ≡ segment
  pub acceptable : IfSome a.accepted (λ p. IsAcceptable s (segment_view p.0) p.1)
  pub within : IfSome a.kept (λ p. length p.octets ≤ s.config.max_packet)
  pub short : IfSome a.kept (λ p. length p.octets ≤ 1016)

-- the arrival is the effect of its octets on a spacecraft in this state
abbrev pub IsArrivalAt : SpacecraftState → Arrival → Type 0
IsArrivalAt s a =
    IsArrivalOf s (spacecraft_receive s a.octets.now) (segment_to_accept s a.octets.now) a
