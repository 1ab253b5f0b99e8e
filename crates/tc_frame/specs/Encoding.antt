-- The one spelling of a frame, and which frames have one.
use Rattle.std.specs.Prelude.{ℕ, ◌+◌, ◌-◌, ◌*◌, List, ◌++◌, length, Bool, ◌&&◌, nat_lt, nat_le}
use Rattle.std.specs.Prelude.{Result}
use Rattle.byteorder.specs.Endian.{big_bytes}
use Rattle.octets.specs.Check.{check_of}
use Rattle.octets.specs.Outcome.{count_written}
use Rattle.tc_frame.specs.declared.frame.Check.{Check}
use Rattle.tc_frame.specs.declared.frame.Check.TheVariants.{On, Off}
use Rattle.tc_frame.specs.declared.fault.TcFault.{TcFault}
use Rattle.tc_frame.specs.declared.fault.TcFault.TheVariants as faults
use Rattle.tc_frame.specs.Layout.{FrameView, bypass_flag, control_flag, body_octets, body_fits}
use Rattle.tc_frame.specs.Layout.{check_length}

-- all octets of the frame
abbrev pub total_of : Check → FrameView → ℕ
total_of check f = 4 + length (body_octets f.body) + check_length check

-- the numbers of the header's first two octets and of the two after them (CCSDS 232.0-B-4, 4.1.2)
abbrev pub first_number : FrameView → ℕ
first_number f = 8192 * bypass_flag f.body + 4096 * control_flag f.body + f.scid

abbrev pub second_number : Check → FrameView → ℕ
second_number check f = 1024 * f.vcid + total_of check f - 1

-- the octets before the check
abbrev pub front_octets : Check → FrameView → List ℕ
front_octets check f =
    big_bytes 2 (first_number f) ++ (big_bytes 2 (second_number check f) ++ body_octets f.body)

-- octets followed by their check, if it is on (4.1.4)
abbrev pub with_check : Check → List ℕ → List ℕ
with_check On octets = octets ++ big_bytes 2 (check_of octets)
with_check Off octets = octets

abbrev pub spelling : Check → FrameView → List ℕ
spelling check f = with_check check (front_octets check f)

-- each field is in range, and there are at most 1,024 octets
abbrev pub frame_fits : Check → FrameView → Bool
frame_fits check f =
    nat_lt f.scid 1024 && nat_lt f.vcid 64 && body_fits f.body && nat_le (total_of check f) 1024

-- the number of octets that are written if there is room for this many, or why none are written
abbrev pub encode_answer : Check → FrameView → ℕ → Result ℕ TcFault
encode_answer check f room =
    count_written (frame_fits check f) (total_of check f) room faults.FieldRange faults.Room
