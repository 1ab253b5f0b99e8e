-- Telecommand frames as C has them.
use Rattle.std.specs.Prelude.{◌≡◌, ℕ, zero, suc, ◌+◌, ◌/◌, ◌%◌, List, [], ◌∷◌, ◌++◌, length, take}
use Rattle.std.specs.Prelude.{drop, Bool, ◌==◌, nat_lt, if◌then◌else◌, Result, Ok, Err}
use Rattle.octets.specs.Outcome.{map_ok}
use Rattle.tc_frame.specs.declared.frame.Command.TheVariants.{Unlock, SetVr}
use Rattle.tc_frame.specs.Faults.{fault_row}
use Rattle.tc_frame.specs.Layout.{SegmentView, BodyView, Ad, Bd, Bc, FrameView, flags_code}
use Rattle.tc_frame.specs.Decoding.{flags_at, frame_with, frame_at}
use Rattle.tc_frame.specs.Splitter.{check_if, total_at}
use Rattle.tc_frame.specs.Encoding.{encode_answer}
use Rattle.sedgechisel.specs.declared.command_frame.CommandFrame.{CommandFrame}
use Rattle.sedgechisel.specs.declared.part.Part.{Part}
use Rattle.sedgechisel.specs.Answers.{damaged, numbered, and_then, if_ok, status_of, left_by}

-- ---- from fields and data to a frame

abbrev pub segment_described : CommandFrame → List ℕ → Result SegmentView ℕ
segment_described f payload =
    if nat_lt f.flags 4
    then Ok (record {
      header = record { flags = flags_at f.flags; map = f.map };
      payload = payload;
    })
    else Err damaged

abbrev pub command_described : CommandFrame → Result BodyView ℕ
command_described f =
    if f.command == 0 then Ok (Bc Unlock)
    else if f.command == 1 then Ok (Bc (SetVr f.vr))
    else Err damaged

-- kind 0 is Type-AD, 1 Type-BD, 2 Type-BC
abbrev pub body_described : CommandFrame → List ℕ → Result BodyView ℕ
body_described f payload =
    if f.kind == 0 then map_ok (Ad f.n) (segment_described f payload)
    else if f.kind == 1 then map_ok Bd (segment_described f payload)
    else if f.kind == 2 then command_described f
    else Err damaged

-- the frame that the fields and the data describe
abbrev pub frame_described : CommandFrame → List ℕ → Result FrameView ℕ
frame_described f payload = map_ok (frame_with f.scid f.vcid) (body_described f payload)

-- ---- from a frame to fields, with 0 for those that its kind lacks, and to the place of its data

abbrev pub unlock_fields : ℕ → ℕ → CommandFrame
unlock_fields scid vcid =
    record { scid = scid; vcid = vcid; kind = 2; n = 0; flags = 0; map = 0; command = 0; vr = 0 }

abbrev pub segment_fields : ℕ → ℕ → ℕ → ℕ → SegmentView → CommandFrame
segment_fields scid vcid kind n s = record (unlock_fields scid vcid) {
  kind = kind;
  n = n;
  flags = flags_code s.header.flags;
  map = s.header.map;
}

abbrev pub fields_with : ℕ → ℕ → BodyView → CommandFrame
fields_with scid vcid (Ad n s) = segment_fields scid vcid 0 n s
fields_with scid vcid (Bd s) = segment_fields scid vcid 1 0 s
fields_with scid vcid (Bc Unlock) = unlock_fields scid vcid
fields_with scid vcid (Bc (SetVr x)) = record (unlock_fields scid vcid) { command = 1; vr = x }

abbrev pub fields_of : FrameView → CommandFrame
fields_of f = fields_with f.scid f.vcid f.body

-- the place after the header and the segment header
abbrev pub part_with : BodyView → Part
part_with (Ad n s) = record { from = 6; count = length s.payload }
part_with (Bd s) = record { from = 6; count = length s.payload }
part_with (Bc c) = record { from = 0; count = 0 }

abbrev pub part_of : FrameView → Part
part_of f = part_with f.body

-- ---- the calls

abbrev pub frame_read : Bool → List ℕ → Result FrameView ℕ
frame_read checked octets = numbered fault_row (frame_at (check_if checked) octets)

-- the frame that is written to a buffer of this size
abbrev pub frame_taken : Bool → CommandFrame → List ℕ → ℕ → Result FrameView ℕ
frame_taken checked f payload room =
    and_then (frame_described f payload) (λ view. if_ok
    (numbered fault_row (encode_answer (check_if checked) view room)) view)

-- the declared length of the frame that begins with these octets; 1 Short for fewer than 5
abbrev pub total_declared : Bool → List ℕ → Result ℕ ℕ
total_declared checked octets =
    if nat_lt (length octets) 5 then Err 1
    else numbered fault_row (total_at (check_if checked) (take 5 octets))

-- what the fields and the octets at the place describe is the frame that was read
abbrev pub DescribesFrame : Bool → List ℕ → CommandFrame → Part → Type 0
DescribesFrame checked octets f part =
    (view : FrameView) → frame_read checked octets ≡ Ok view
    → frame_described f (take part.count (drop part.from octets)) ≡ Ok view

-- ---- many frames

-- the length of the whole frame at the beginning of octets, and 0 for none
abbrev pub len_within : Result ℕ ℕ → ℕ → ℕ
len_within (Ok total) count = if nat_lt count total then 0 else total
len_within (Err number) count = 0

abbrev pub whole_len : Bool → List ℕ → ℕ
whole_len checked octets = len_within (total_declared checked octets) (length octets)

abbrev pub no_fields : CommandFrame
no_fields =
    record { scid = 0; vcid = 0; kind = 0; n = 0; flags = 0; map = 0; command = 0; vr = 0 }

-- the record that is written for a frame with this many octets
abbrev pub record_with : ℕ → ℕ → CommandFrame → List ℕ
record_with count fault f =
    count % 256 ∷ count / 256 ∷ fault ∷ f.scid % 256 ∷ f.scid / 256 ∷ f.vcid ∷ f.kind
    ∷ f.n ∷ f.flags ∷ f.map ∷ f.command ∷ f.vr ∷ []

abbrev pub record_of : Bool → List ℕ → List ℕ
record_of checked octets =
    let read : Result FrameView ℕ = frame_read checked octets in
    record_with (length octets) (status_of read) (left_by fields_of read no_fields)

-- the records of the frames from a place on, one after another, at most this many
abbrev pub records_from : Bool → List ℕ → ℕ → ℕ → List ℕ
records_from checked octets from zero = []
records_from checked octets from (suc most) =
    let count : ℕ = whole_len checked (drop from octets) in
    if count == 0 then []
    else record_of checked (take count (drop from octets))
    ++ records_from checked octets (from + count) most

-- where these frames end
abbrev pub end_from : Bool → List ℕ → ℕ → ℕ → ℕ
end_from checked octets from zero = from
end_from checked octets from (suc most) =
    let count : ℕ = whole_len checked (drop from octets) in
    if count == 0 then from else end_from checked octets (from + count) most
