-- The packets of one MAP. The receiver takes the frames of all MAPs: FARM-1 counts the Type-AD
-- frames of a virtual channel, whatever their MAP (CCSDS 232.1-B-2, 6.1).
use Rattle.std.specs.Prelude.{◌≡◌, ℕ, ◌+◌, is_ok, Bool, true, List, [], ◌∷◌, ◌++◌}
use Rattle.std.specs.Prelude.{if◌then◌else◌, Option, Result, Ok, Err}
use Rattle.tc_frame.specs.declared.frame.Check.{Check}
use Rattle.tc_frame.specs.declared.fault.TcFault.{TcFault}
use Rattle.tc_frame.specs.Layout.{BodyView, Ad, Bd, Bc, FrameView}
use Rattle.tc_frame.specs.Decoding.{frame_at}
use Rattle.listings.specs.FarmLines as farms
use Rattle.listings.specs.Filters.{is_asked}
use Rattle.listings.specs.FirstNumber.{farm_begun}
use Rattle.listings.specs.Listing.{Lines, record_lines}
use Rattle.listings.specs.MapLines.{MapState, map_opened, after_body, after_record, body_text}
use Rattle.listings.specs.MapLines.{record_text}
use Rattle.listings.specs.RefusalLines.{frame_fault_line}

-- the requested MAP, if there is one, and the receiver and the assembler
pub record OneMapState : Type 0 where
  pub map : Option ℕ
  pub packets : MapState

-- a frame has no segment of another MAP
abbrev pub is_on : Option ℕ → BodyView → Bool
is_on map (Ad n s) = is_asked map s.header.map
is_on map (Bd s) = is_asked map s.header.map
is_on map (Bc command) = true

-- after a frame that only the receiver takes
abbrev pub passed : MapState → BodyView → MapState
passed x body = record x { receiver = farms.after_body x.receiver body }

abbrev pub after_frame : OneMapState → Result FrameView TcFault → OneMapState
after_frame x (Ok f) = record x {
  packets = if is_on x.map f.body then after_body x.packets f.body else passed x.packets f.body;
}
after_frame x (Err e) = x

-- a frame with a segment of another MAP has no line
abbrev pub one_map_text : OneMapState → ℕ → Result FrameView TcFault → List ℕ
one_map_text x i (Ok f) = if is_on x.map f.body then body_text x.packets i f.body else []
one_map_text x i (Err e) = frame_fault_line i e

-- with a receiver that expects this number
abbrev pub one_map_begun : OneMapState → ℕ → OneMapState
one_map_begun x vr = record x {
  packets = record x.packets { receiver = farm_begun x.packets.receiver vr };
}

-- what is written for frames
abbrev pub one_map_lines : Check → Lines OneMapState TcFault
one_map_lines check = record {
  line_of = λ x i octets. one_map_text x i (frame_at check octets);
  after = λ x octets. after_frame x (frame_at check octets);
  is_good = λ octets. is_ok (frame_at check octets);
  fault_line = frame_fault_line;
}

-- a record is not a frame with a segment of another MAP
abbrev pub is_record_on : Option ℕ → Result FrameView TcFault → Bool
is_record_on map (Ok f) = is_on map f.body
is_record_on map (Err e) = true

-- the lines that a listing of all MAPs has for these records, without the frames that have a
-- segment of another MAP; the first record has this number
abbrev pub lines_on : Check → Option ℕ → MapState → ℕ → List (List ℕ) → List ℕ
lines_on check map x i [] = []
lines_on check map x i (o ∷ os) =
    (if is_record_on map (frame_at check o) then record_text x i (frame_at check o) else [])
    ++ lines_on check map (after_record check x o) (i + 1) os

-- the listing of a MAP has the lines that a listing of all MAPs has for it
abbrev pub ListsAsAll : Type 0
ListsAsAll =
    (check : Check) (map : Option ℕ) (width vr : ℕ) (blocking : Bool) (records : List (List ℕ))
    → record_lines (one_map_lines check)
    (record { map = map; packets = map_opened width vr blocking }) 1 records
    ≡ lines_on check map (map_opened width vr blocking) 1 records
