-- Which records of a stream are listed: those of the requested spacecraft, virtual channel or
-- application process. A record belongs to those that its header names, even if the record is
-- refused.
use Rattle.std.specs.Prelude.{◌≡◌, ℕ, ◌/◌, ◌%◌, ◌==◌, Bool, true, ◌&&◌, List, [], take, drop}
use Rattle.std.specs.Prelude.{if◌then◌else◌, Option, Some, None}
use Rattle.octets.specs.Number.{number_of}
use Rattle.tc_frame.specs.declared.frame.Check.{Check}
use Rattle.tc_frame.specs.Layout.{FrameView, IsTcFrame}
use Rattle.clcw.specs.Layout.{IsClcw}
use Rattle.clcw.specs.declared.word.Clcw.{Clcw}
use Rattle.tm_link.specs.Layout as tm
use Rattle.tm_link.specs.Layout.{IsTmFrame}
use Rattle.space_packet.specs.Layout.{PacketView, IsPacket}
use Rattle.listings.specs.Listing.{Lines}

-- what is written for the records that are kept; any other record has no line, changes nothing, and
-- counts as good
abbrev pub only : {S F : Type 0} → (List ℕ → Bool) → Lines S F → Lines S F
only keeps lines = record {
  line_of = λ s i r. if keeps r then lines.line_of s i r else [];
  after = λ s r. if keeps r then lines.after s r else s;
  is_good = λ r. if keeps r then lines.is_good r else true;
  fault_line = lines.fault_line;
}

-- whether a number is the requested one; without a request each number is
abbrev pub is_asked : Option ℕ → ℕ → Bool
is_asked None n = true
is_asked (Some asked) n = n == asked

-- What a header names.

-- the spacecraft and the virtual channel of a telecommand frame (CCSDS 232.0-B-4, 4.1.2)
abbrev pub frame_scid : List ℕ → ℕ
frame_scid octets = number_of (take 2 octets) % 1024

abbrev pub frame_vcid : List ℕ → ℕ
frame_vcid octets = number_of (take 2 (drop 2 octets)) / 1024

-- the spacecraft and the virtual channel of a telemetry frame (CCSDS 132.0-B-3, 4.1.2)
abbrev pub telemetry_scid : List ℕ → ℕ
telemetry_scid octets = number_of (take 2 octets) / 16 % 1024

abbrev pub telemetry_vcid : List ℕ → ℕ
telemetry_vcid octets = number_of (take 2 octets) / 2 % 8

-- the virtual channel that a CLCW reports on (CCSDS 232.0-B-4, 4.2.1.6)
abbrev pub word_vcid : List ℕ → ℕ
word_vcid octets = number_of (take 2 octets) / 4 % 64

-- the application process of a space packet (CCSDS 133.0-B-2, 4.1.3)
abbrev pub packet_apid : List ℕ → ℕ
packet_apid octets = number_of (take 2 octets) % 2048

-- What is kept.

-- telecommand frames of this spacecraft and this virtual channel
abbrev pub keeps_frame : Option ℕ → Option ℕ → List ℕ → Bool
keeps_frame scid vcid octets =
    is_asked scid (frame_scid octets) && is_asked vcid (frame_vcid octets)

-- telemetry frames of this spacecraft and this virtual channel
abbrev pub keeps_telemetry : Option ℕ → Option ℕ → List ℕ → Bool
keeps_telemetry scid vcid octets =
    is_asked scid (telemetry_scid octets) && is_asked vcid (telemetry_vcid octets)

-- packets of this application process
abbrev pub keeps_packet : ℕ → List ℕ → Bool
keeps_packet apid octets = packet_apid octets == apid

-- CLCWs on this virtual channel
abbrev pub keeps_word : ℕ → List ℕ → Bool
keeps_word vcid octets = word_vcid octets == vcid

-- The octets that spell a frame, a CLCW or a packet by its layout name the identifiers in its
-- fields.
pub record NamesItsFields : Type 0 where
  pub frame : (check : Check) (f : FrameView) (octets : List ℕ) → IsTcFrame check f octets
      → (frame_scid octets ≡ f.scid) × (frame_vcid octets ≡ f.vcid)
  pub telemetry : (size : ℕ) (f : tm.FrameView) (octets : List ℕ) → IsTmFrame size f octets
      → (telemetry_scid octets ≡ f.scid) × (telemetry_vcid octets ≡ f.vcid)
  pub word : (w : Clcw) (octets : List ℕ) → IsClcw w octets → word_vcid octets ≡ w.vcid
  pub packet : (p : PacketView) (octets : List ℕ) → IsPacket p octets
      → packet_apid octets ≡ p.apid
