-- What arriving octets may do on board: the case distinction, made once.
use Rattle.std.proofs.Common.{◌≡◌, refl, ℕ, Bool, true, false, List, Option, Some, None, Result, Ok, Err, if◌then◌else◌}
use Rattle.tc_frame.specs.Layout.{SegmentView, BodyView, Ad, Bd, Bc, FrameView}
use Rattle.tc_frame.specs.Decoding.{frame_at}
use Rattle.tc_frame.specs.declared.fault.TcFault.{TcFault}
use Rattle.tc_frame.specs.declared.frame.Check.TheVariants.{On}
use Rattle.cop1.specs.Farm.{FarmEvent, AdArrives, BdArrives, verdict_of}
use Rattle.cop1.specs.declared.farm.Verdict.{Verdict}
use Rattle.cop1.specs.declared.farm.Verdict.TheVariants.{Accepted}
use Rattle.nodes.specs.Arrival.{segment_in_body, segment_in_frame, segment_to_accept}
use Rattle.nodes.specs.BypassSegments.{is_kept}
use Rattle.nodes.specs.Packets.{PacketOn, packet_on}
use Rattle.nodes.specs.Spacecraft.{SpacecraftState, SpacecraftOutcome, is_free, is_own_frame, is_accepted, after_farm}
use Rattle.nodes.specs.Spacecraft.{after_segment, packets_kept, command_event, sequence_outcome, bypass_outcome}
use Rattle.nodes.specs.Spacecraft.{body_outcome, frame_outcome, spacecraft_receive}
use Rattle.nodes.specs.declared.received.Received.{Received}
use Rattle.nodes.specs.declared.received.Received.TheVariants.{Foreign}

-- P holds for the accepted segment, if there is one, and the state in each case
pub record AtEachArrival (s : SpacecraftState) (P : Option SegmentView → SpacecraftState → Type 0) : Type 0 where
  -- the octets form no valid frame of this channel, or the receiver takes a step and nothing else happens
  pub same : P None s
  pub steps : (e : FarmEvent) → P None (after_farm s e)
  -- a packet of a Type-BD frame is kept, or the segment of a Type-AD frame is accepted
  pub keeps : (packet : PacketOn) → P None (record (after_farm s BdArrives) { bypass = packets_kept s packet })
  pub accepts : (n : ℕ) (u : SegmentView) → P (Some u) (after_farm (after_segment s u) (AdArrives n (is_free s)))

-- a Type-BD frame does not change the accepted segments
pub bypass_same : (s : SpacecraftState) (u : SegmentView) (kept : Bool)
    → (bypass_outcome s u kept).after.accepted ≡ s.accepted
bypass_same s u true = refl
bypass_same s u false = refl

module _ (s : SpacecraftState) (P : Option SegmentView → SpacecraftState → Type 0) (each : AtEachArrival s P) where
  pub sequence_comes : (n : ℕ) (u : SegmentView) (v : Verdict)
      → P (if is_accepted v then Some u else None) (sequence_outcome s n u v).after
  sequence_comes n u Accepted = each.accepts n u
  sequence_comes n u _ = each.steps (AdArrives n (is_free s))

  pub bypass_comes : (u : SegmentView) (kept : Bool) → P None (bypass_outcome s u kept).after
  bypass_comes u true = each.keeps (packet_on u.header.map u.payload)
  bypass_comes u false = each.steps BdArrives

  pub body_comes : (f : BodyView) → P (segment_in_body s f) (body_outcome s f).after
  body_comes (Ad n u) = sequence_comes n u (verdict_of s.farm n (is_free s))
  body_comes (Bd u) = bypass_comes u (is_kept s.config u)
  body_comes (Bc command) = each.steps (command_event command)

  own_or_not : (frame : FrameView) (own : Bool) → let foreign : SpacecraftOutcome Received =
      record { answer = Foreign; after = s } in
      P (if own then segment_in_body s frame.body else None) (if own then body_outcome s frame.body else foreign).after
  own_or_not frame true = body_comes frame.body
  own_or_not frame false = each.same

  pub frame_comes : (r : Result FrameView TcFault) → P (segment_in_frame s r) (frame_outcome s r).after
  frame_comes (Err fault) = each.same
  frame_comes (Ok frame) = own_or_not frame (is_own_frame s.config frame)

  pub octets_come : (octets : List ℕ) → P (segment_to_accept s octets) (spacecraft_receive s octets).after
  octets_come octets = frame_comes (frame_at On octets)
