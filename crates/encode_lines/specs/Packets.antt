-- The space packet that the words of a line of `tctool packets` spell.
use Rattle.std.specs.Prelude.{ℕ, ◌==◌, ◌||◌, Bool, if◌then◌else◌, List, [], ◌∷◌, codes}
use Rattle.std.specs.Prelude.{Option, Some, None, option_map, option_and_then, is_some}
use Rattle.std.specs.Str.{bytes_eq}
use Rattle.space_packet.specs.declared.packet.PacketKind.{PacketKind}
use Rattle.space_packet.specs.declared.packet.PacketKind.TheVariants.{Telemetry, Telecommand}
use Rattle.space_packet.specs.Layout.{PacketView}
use Rattle.space_packet.specs.Encoding.{packet_fits, spelling}
use Rattle.encode_lines.specs.Fields.{number_after, octets_after, octets_of_digits}

abbrev pub kind_in : List ℕ → Option PacketKind
kind_in word =
    if bytes_eq word (codes "TC") then Some Telecommand
    else if bytes_eq word (codes "TM") then Some Telemetry
    else None

-- how many packets are missing, as a number or a dash; whether they are missing is not checked
abbrev pub is_gap : List ℕ → Bool
is_gap word = bytes_eq word (codes "gap=-") || is_some (number_after (codes "gap=") 16383 word)

abbrev pub packet_with : PacketKind → ℕ → ℕ → ℕ → ℕ → List ℕ → PacketView
packet_with kind secondary apid flags count octets = record {
  kind = kind;
  secondary = secondary == 1;
  apid = apid;
  flags = flags;
  count = count;
  payload = octets;
}

-- the packet of these fields; none if one of them is absent
abbrev pub packet_of : Option PacketKind → Option ℕ → Option ℕ → Option ℕ → Option ℕ
    → Option (List ℕ) → Option PacketView
packet_of kind secondary apid flags count payload =
    option_and_then (λ k. option_and_then (λ s. option_and_then (λ a. option_and_then
    (λ f. option_and_then (λ c. option_map (packet_with k s a f c) payload)
    count) flags) apid) secondary) kind

abbrev pub packet_line : List ℕ → List ℕ → List ℕ → List ℕ → List ℕ → List ℕ → List ℕ
    → Option PacketView
packet_line kind secondary apid flags count gap payload =
    if is_gap gap then packet_of (kind_in kind) (number_after (codes "secondary=") 1 secondary)
    (number_after (codes "apid=") 2047 apid) (number_after (codes "flags=") 3 flags)
    (number_after (codes "count=") 16383 count)
    (octets_after (codes "data=") payload)
    else None

abbrev pub packet_in : List (List ℕ) → Option PacketView
packet_in (kind ∷ secondary ∷ apid ∷ flags ∷ count ∷ gap ∷ payload ∷ []) =
    packet_line kind secondary apid flags count gap payload
packet_in words = None

-- the octets of a packet, if its fields are in range
abbrev pub packet_octets : PacketView → Option (List ℕ)
packet_octets p = if packet_fits p then Some (spelling p) else None

-- a packet as the code reads it has the digits of its data instead of octets
abbrev pub packet_decoded : PacketView → Option PacketView
packet_decoded p = option_map (λ octets. record p { payload = octets }) (octets_of_digits p.payload)
