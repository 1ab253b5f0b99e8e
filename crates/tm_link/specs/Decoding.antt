-- The frame that octets spell, or the first fault in the order of the faults' numbers.
use Rattle.std.specs.Prelude.{ℕ, ◌+◌, ◌-◌, ◌/◌, ◌%◌, List, [], ◌∷◌, length, slice_index, take, drop}
use Rattle.std.specs.Prelude.{Bool, not, ◌&&◌, ◌||◌, ◌==◌, nat_lt, nat_le, if◌then◌else◌, Result}
use Rattle.std.specs.Prelude.{Ok, Err}
use Rattle.octets.specs.Number.{number_of}
use Rattle.octets.specs.Check.{check_of}
use Rattle.tm_link.specs.declared.frame.Pointer.{Pointer}
use Rattle.tm_link.specs.declared.frame.Pointer.TheVariants.{At, NoStart, OnlyIdle}
use Rattle.tm_link.specs.declared.fault.TmFault.{TmFault}
use Rattle.tm_link.specs.declared.fault.TmFault.TheVariants as faults
use Rattle.tm_link.specs.Layout.{FrameView}

-- a frame of this length does not have this many octets, or no frame has this length
abbrev pub is_length_wrong : ℕ → ℕ → Bool
is_length_wrong total count = not (count == total) || nat_lt total 16 || nat_lt 2048 total

-- the last two octets are not the check of those before them (CCSDS 132.0-B-3, 4.1.6)
abbrev pub is_check_wrong : List ℕ → Bool
is_check_wrong b = not (number_of (drop (length b - 2) b) == check_of (take (length b - 2) b))

-- a pointer of this number is neither a place in a data field of this many octets nor 2046 nor 2047
-- (4.1.2.7.6)
abbrev pub is_pointer_outside : ℕ → ℕ → Bool
is_pointer_outside number size = nat_lt number 2046 && nat_le size number

abbrev pub pointer_at : ℕ → Pointer
pointer_at number =
    if number == 2046 then OnlyIdle else if number == 2047 then NoStart else At number

-- the four octets from a place on
abbrev pub four_at : List ℕ → ℕ → List ℕ
four_at b k =
    slice_index b k ∷ slice_index b (k + 1) ∷ slice_index b (k + 2) ∷ slice_index b (k + 3) ∷ []

-- the frame of this many octets, from the numbers of octets 0 and 1 and of octets 4 and 5
abbrev pub frame_with : ℕ → ℕ → ℕ → List ℕ → FrameView
frame_with total first status b = record {
  scid = first / 16;
  vcid = first / 2 % 8;
  mc_count = slice_index b 2;
  vc_count = slice_index b 3;
  pointer = pointer_at (status % 2048);
  payload = drop 6 (take (total - 6) b);
  ocf = four_at b (total - 6);
}

-- all octets as one frame of this length (4.1.2)
unfoldable pub frame_at : ℕ → List ℕ → Result FrameView TmFault
frame_at total b =
    let first : ℕ = number_of (take 2 b) in
    let status : ℕ = number_of (take 2 (drop 4 b)) in
    if is_length_wrong total (length b) then Err faults.Length
    else if not (first / 16384 == 0) then Err faults.Version
    else if is_check_wrong b then Err faults.Check
    else if not (status / 2048 == 3) then Err faults.Status
    else if is_pointer_outside (status % 2048) (total - 12) then Err faults.Pointer
    else if first % 2 == 0 then Err faults.NoOcf
    else Ok (frame_with total first status b)
