-- What `tctool` lists for the octets of a line: that line.
use Rattle.std.specs.Prelude.{◌≡◌, ◌<◌, ◌≤◌, ◌^◌, ◌⊎◌, ℕ, List, ◌++◌, codes, decimal, Option, Some}
use Rattle.std.specs.Prelude.{None}
use Rattle.hex.specs.Hex.{IsBytes}
use Rattle.space_packet.specs.Layout.{PacketView, secondary_bit}
use Rattle.tc_frame.specs.declared.frame.Command.TheVariants.{Unlock, SetVr}
use Rattle.tc_frame.specs.Layout.{BodyView, Ad, Bd, Bc, FrameView}
use Rattle.listings.specs.FrameLines.{channel_text, body_line}
use Rattle.listings.specs.PacketLines.{kind_word, process_text, sequence_text, gap_text}
use Rattle.listings.specs.Text.{line_end, octets_line}

-- This line, with its line feed, is this text, or is a number and this text.
abbrev pub IsLineOf : List ℕ → List ℕ → Type 0
IsLineOf text line =
    (line ++ line_end ≡ text)
    ⊎ ((i : ℕ) × (i < 2 ^ 64) × (line ++ line_end ≡ decimal i ++ (codes " " ++ text)))

-- what `tctool tc` lists for a frame after its number
abbrev pub frame_text : FrameView → List ℕ
frame_text f = channel_text f ++ body_line f.body

-- what `tctool packets` lists for a packet after its number, if this many packets are missing
-- before it
abbrev pub packet_text : Option ℕ → PacketView → List ℕ
packet_text gap p =
    process_text (kind_word p.kind) (secondary_bit p.secondary) p.apid
    ++ (sequence_text p ++ (gap_text gap ++ octets_line p.payload))

-- ---- the numbers and the data of a frame are octets, as in each frame that is read

abbrev pub HasOctets : BodyView → Type 0
HasOctets (Ad n s) = (n < 256) × IsBytes s.payload
HasOctets (Bd s) = IsBytes s.payload
HasOctets (Bc Unlock) = Unit {0}
HasOctets (Bc (SetVr x)) = x < 256

abbrev pub IsGap : Option ℕ → Type 0
IsGap None = Unit {0}
IsGap (Some n) = n ≤ 16383
