-- The one spelling of a frame, and which frames have one.
use Rattle.std.specs.Prelude.{ℕ, ◌+◌, ◌*◌, List, ◌∷◌, ◌++◌, length, Bool, ◌&&◌, nat_lt, nat_le}
use Rattle.std.specs.Prelude.{Result}
use Rattle.byteorder.specs.Endian.{big_bytes}
use Rattle.octets.specs.Check.{check_of}
use Rattle.octets.specs.Outcome.{count_written}
use Rattle.tm_link.specs.declared.fault.TmFault.{TmFault}
use Rattle.tm_link.specs.declared.fault.TmFault.TheVariants as faults
use Rattle.tm_link.specs.Layout.{FrameView, pointer_number, pointer_fits}

-- the number of octets of the frame
abbrev pub total_of : FrameView → ℕ
total_of f = length f.payload + 12

-- the numbers of octets 0 and 1, and of octets 4 and 5 (CCSDS 132.0-B-3, 4.1.2)
abbrev pub first_number : FrameView → ℕ
first_number f = 16 * f.scid + 2 * f.vcid + 1

abbrev pub status_number : FrameView → ℕ
status_number f = 6144 + pointer_number f.pointer

abbrev pub header_octets : FrameView → List ℕ
header_octets f =
    big_bytes 2 (first_number f) ++ (f.mc_count ∷ f.vc_count ∷ big_bytes 2 (status_number f))

-- the octets before the check
abbrev pub front_octets : FrameView → List ℕ
front_octets f = header_octets f ++ (f.payload ++ f.ocf)

abbrev pub spelling : FrameView → List ℕ
spelling f = front_octets f ++ big_bytes 2 (check_of (front_octets f))

-- each field is in range, and the frame has 16 to 2,048 octets
abbrev pub frame_fits : FrameView → Bool
frame_fits f =
    nat_lt f.scid 1024 && nat_lt f.vcid 8 && nat_le 4 (length f.payload)
    && nat_le (length f.payload) 2036
    && pointer_fits f.pointer (length f.payload)

-- how many octets are written if there is room for this many, or why none are
abbrev pub encode_answer : FrameView → ℕ → Result ℕ TmFault
encode_answer f room =
    count_written (frame_fits f) (total_of f) room faults.FieldRange faults.Room
