-- The lines of what is refused.
use Rattle.std.specs.Prelude.{ℕ, List, is_ok, [], Result, Ok, Err}
use Rattle.tc_frame.specs.declared.fault.TcFault.{TcFault}
use Rattle.space_packet.specs.declared.fault.PacketFault.{PacketFault}
use Rattle.tm_link.specs.declared.fault.TmFault.{TmFault}
use Rattle.listings.specs.Text.{invalid_line}
use Rattle.tc_frame.specs.declared.frame.Check.TheVariants.{On}
use Rattle.tc_frame.specs.Layout.{FrameView}
use Rattle.tc_frame.specs.Decoding.{frame_at}
use Rattle.listings.specs.Listing.{Lines}
use Rattle.tc_frame.specs.Faults as frames
use Rattle.space_packet.specs.Faults as packets
use Rattle.tm_link.specs.Faults as telemetry

-- The lines of refused octets: a refused record, or a rest.

abbrev pub frame_fault_line : ℕ → TcFault → List ℕ
frame_fault_line i e = invalid_line i (frames.fault_row e)

abbrev pub packet_fault_line : ℕ → PacketFault → List ℕ
packet_fault_line i e = invalid_line i (packets.fault_row e)

abbrev pub telemetry_fault_line : ℕ → TmFault → List ℕ
telemetry_fault_line i e = invalid_line i (telemetry.fault_row e)

-- The lines of refused frames.

-- a good frame has no line
abbrev pub refusal_line : ℕ → Result FrameView TcFault → List ℕ
refusal_line i (Ok f) = []
refusal_line i (Err e) = frame_fault_line i e

-- what is written for frames that end with their check
abbrev pub refusal_lines : Lines (Unit {0}) TcFault
refusal_lines = record {
  line_of = λ s i octets. refusal_line i (frame_at On octets);
  after = λ s octets. s;
  is_good = λ octets. is_ok (frame_at On octets);
  fault_line = frame_fault_line;
}
