-- The telecommand frame that the words of a line of `tctool tc` spell.
use Rattle.std.specs.Prelude.{ℕ, ◌&&◌, if◌then◌else◌, List, [], ◌∷◌, codes, Option, Some, None}
use Rattle.std.specs.Prelude.{option_map, option_and_then}
use Rattle.std.specs.Str.{bytes_eq}
use Rattle.streams.specs.Words.{number_in_word}
use Rattle.tc_frame.specs.declared.frame.Check.{Check}
use Rattle.tc_frame.specs.declared.frame.Command.TheVariants.{Unlock, SetVr}
use Rattle.tc_frame.specs.Layout.{SegmentView, BodyView, Ad, Bd, Bc, FrameView}
use Rattle.tc_frame.specs.Decoding.{flags_at, frame_with}
use Rattle.tc_frame.specs.Encoding.{frame_fits, spelling}
use Rattle.encode_lines.specs.Fields.{number_after, octets_after, octets_of_digits}

-- the frame of this channel with this body
abbrev pub frame_of : List ℕ → List ℕ → Option BodyView → Option FrameView
frame_of scid vcid body =
    option_and_then (λ s. option_and_then (λ v. option_map (frame_with s v) body)
    (number_after (codes "vcid=") 63 vcid)) (number_after (codes "scid=") 1023 scid)

abbrev pub segment_with : ℕ → ℕ → List ℕ → SegmentView
segment_with flags map octets =
    record { header = record { flags = flags_at flags; map = map }; payload = octets }

abbrev pub segment_of : List ℕ → List ℕ → List ℕ → Option SegmentView
segment_of flags map payload =
    option_and_then (λ q. option_and_then (λ m. option_map (segment_with q m)
    (octets_after (codes "data=") payload)) (number_after (codes "map=") 63 map))
    (number_after (codes "seg=") 3 flags)

-- ---- the lines of each type of frame, by their words

abbrev pub sequence_line : List ℕ → List ℕ → List ℕ → List ℕ → List ℕ → List ℕ → List ℕ
    → Option FrameView
sequence_line kind scid vcid n flags map payload =
    if bytes_eq kind (codes "AD") then frame_of scid vcid
    (option_and_then (λ number. option_map (Ad number) (segment_of flags map payload))
    (number_after (codes "n=") 255 n))
    else None

abbrev pub bypass_line : List ℕ → List ℕ → List ℕ → List ℕ → List ℕ → List ℕ → Option FrameView
bypass_line kind scid vcid flags map payload =
    if bytes_eq kind (codes "BD") then frame_of scid vcid
    (option_map Bd (segment_of flags map payload))
    else None

abbrev pub unlock_line : List ℕ → List ℕ → List ℕ → List ℕ → Option FrameView
unlock_line kind scid vcid word =
    if bytes_eq kind (codes "BC") && bytes_eq word (codes "unlock") then frame_of scid vcid
    (Some (Bc Unlock))
    else None

abbrev pub set_line : List ℕ → List ℕ → List ℕ → List ℕ → List ℕ → Option FrameView
set_line kind scid vcid word number =
    if bytes_eq kind (codes "BC") && bytes_eq word (codes "set") then frame_of scid vcid
    (option_map (λ x. Bc (SetVr x)) (number_in_word 255 number))
    else None

abbrev pub frame_in : List (List ℕ) → Option FrameView
frame_in (kind ∷ scid ∷ vcid ∷ n ∷ flags ∷ map ∷ payload ∷ []) =
    sequence_line kind scid vcid n flags map payload
frame_in (kind ∷ scid ∷ vcid ∷ flags ∷ map ∷ payload ∷ []) =
    bypass_line kind scid vcid flags map payload
frame_in (kind ∷ scid ∷ vcid ∷ word ∷ []) = unlock_line kind scid vcid word
frame_in (kind ∷ scid ∷ vcid ∷ word ∷ number ∷ []) = set_line kind scid vcid word number
frame_in words = None

-- the octets of a frame, if its fields are in range
abbrev pub frame_octets : Check → FrameView → Option (List ℕ)
frame_octets check f = if frame_fits check f then Some (spelling check f) else None

-- ---- a frame as the code reads it, with the digits of its data instead of octets

abbrev pub segment_decoded : SegmentView → Option SegmentView
segment_decoded s =
    option_map (λ octets. record s { payload = octets }) (octets_of_digits s.payload)

abbrev pub body_decoded : BodyView → Option BodyView
body_decoded (Ad n s) = option_map (Ad n) (segment_decoded s)
body_decoded (Bd s) = option_map Bd (segment_decoded s)
body_decoded (Bc command) = Some (Bc command)

abbrev pub frame_decoded : FrameView → Option FrameView
frame_decoded f = option_map (frame_with f.scid f.vcid) (body_decoded f.body)

-- the digits that a body has instead of octets
abbrev pub digits_of : BodyView → List ℕ
digits_of (Ad n s) = s.payload
digits_of (Bd s) = s.payload
digits_of (Bc command) = []

-- a body with these octets instead of digits
abbrev pub with_octets : BodyView → List ℕ → BodyView
with_octets (Ad n s) octets = Ad n (record s { payload = octets })
with_octets (Bd s) octets = Bd (record s { payload = octets })
with_octets (Bc command) octets = Bc command
