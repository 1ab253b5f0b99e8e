-- The frame that octets spell, or the first fault in the order of the faults' numbers.
use Rattle.std.specs.Prelude.{ℕ, ◌+◌, ◌-◌, ◌/◌, ◌%◌, List, [], ◌∷◌, length, slice_index, take, drop}
use Rattle.std.specs.Prelude.{Bool, false, not, ◌&&◌, ◌||◌, ◌==◌, nat_lt, if◌then◌else◌, Result, Ok}
use Rattle.std.specs.Prelude.{Err}
use Rattle.octets.specs.Number.{number_of}
use Rattle.octets.specs.Check.{check_of}
use Rattle.octets.specs.Outcome.{map_ok}
use Rattle.tc_frame.specs.declared.frame.Check.{Check}
use Rattle.tc_frame.specs.declared.frame.Check.TheVariants.{On, Off}
use Rattle.tc_frame.specs.declared.frame.SegmentFlags.{SegmentFlags}
use Rattle.tc_frame.specs.declared.frame.SegmentFlags.TheVariants.{First, Continuing, Last, Alone}
use Rattle.tc_frame.specs.declared.frame.Command.{Command}
use Rattle.tc_frame.specs.declared.frame.Command.TheVariants.{Unlock, SetVr}
use Rattle.tc_frame.specs.declared.fault.TcFault.{TcFault}
use Rattle.tc_frame.specs.declared.fault.TcFault.TheVariants as faults
use Rattle.tc_frame.specs.Layout.{SegmentView, BodyView, Ad, Bd, Bc, FrameView, check_length}
use Rattle.tc_frame.specs.Layout.{before_check}

-- the flags of a segment header (CCSDS 232.0-B-4, 4.1.3.2.2.2)
abbrev pub flags_at : ℕ → SegmentFlags
flags_at code =
    if code == 0 then Continuing else if code == 1 then First else if code == 2 then Last else Alone

-- a data field of a Type-D frame: a segment header and at least one octet
unfoldable pub segment_at : List ℕ → Result SegmentView TcFault
segment_at [] = Err faults.EmptyData
segment_at (header ∷ []) = Err faults.EmptyData
segment_at (header ∷ octet ∷ octets) =
    Ok (record {
      header =
          record { flags = flags_at (header / 64); map = header % 64 };
      payload = octet ∷ octets;
    })

-- a data field of a control frame: one of the two commands (4.1.3.3)
unfoldable pub command_at : List ℕ → Result Command TcFault
command_at [] = Err faults.EmptyData
command_at (a ∷ []) = if a == 0 then Ok Unlock else Err faults.Command
command_at (a ∷ b ∷ []) = Err faults.Command
command_at (a ∷ b ∷ x ∷ []) = if (a == 0x82) && (b == 0) then Ok (SetVr x) else Err faults.Command
command_at (a ∷ b ∷ x ∷ y ∷ octets) = Err faults.Command

-- a data field with these flags and this number
unfoldable pub body_at : Bool → Bool → ℕ → List ℕ → Result BodyView TcFault
body_at bypass control n field =
    if bypass && not (n == 0) then Err faults.BypassNumber
    else if control then map_ok Bc (command_at field)
    else if bypass then map_ok Bd (segment_at field)
    else map_ok (Ad n) (segment_at field)

-- the minimum total that a frame may declare: its header, and its check if this is on
abbrev pub least_total : Check → ℕ
least_total check = 5 + check_length check

-- the check is on, but the last two octets are not the check of the octets before them
abbrev pub is_check_wrong : Check → List ℕ → Bool
is_check_wrong Off b = false
is_check_wrong On b = not (number_of (drop (length b - 2) b) == check_of (take (length b - 2) b))

abbrev pub frame_with : ℕ → ℕ → BodyView → FrameView
frame_with scid vcid body = record { scid = scid; vcid = vcid; body = body }

-- all octets as one frame (4.1.2)
unfoldable pub frame_at : Check → List ℕ → Result FrameView TcFault
frame_at check b =
    let first : ℕ = number_of (take 2 b) in
    let second : ℕ = number_of (take 2 (drop 2 b)) in
    let bypass : Bool = first / 8192 % 2 == 1 in
    let control : Bool = first / 4096 % 2 == 1 in
    if nat_lt (length b) 5 then Err faults.Short
    else if not (first / 16384 == 0) then Err faults.Version
    else if first / 4096 % 4 == 1 then Err faults.ReservedType
    else if not (first / 1024 % 4 == 0) then Err faults.Spare
    else if not (second % 1024 + 1 == length b) || nat_lt (length b) (least_total check) then Err
    faults.Length
    else if is_check_wrong check b then Err faults.Check
    else map_ok (frame_with (first % 1024) (second / 1024))
    (body_at bypass control (slice_index b 4) (drop 5 (before_check check b)))
