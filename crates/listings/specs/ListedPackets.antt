-- The packets that are listed on one MAP, and the segments that they are assembled from.
use Rattle.std.specs.Prelude.{ℕ, ◌==◌, List, [], ◌∷◌, ◌++◌, if◌then◌else◌, Option, Some, None}
use Rattle.std.specs.Prelude.{Result, Ok, Err}
use Rattle.tc_frame.specs.declared.frame.Check.{Check}
use Rattle.tc_frame.specs.declared.fault.TcFault.{TcFault}
use Rattle.tc_frame.specs.Layout.{SegmentView, FrameView}
use Rattle.tc_frame.specs.Decoding.{frame_at}
use Rattle.cop1.specs.Farm.{FarmState}
use Rattle.map_service.specs.Exactness.{AssemblerState, step_at}
use Rattle.listings.specs.FarmLines as farms
use Rattle.listings.specs.MapLines.{MapState, segment_of, after_record}

-- the segment that a record gives to the assembler, if the record is a frame that gives one
abbrev pub segment_in : FarmState → Result FrameView TcFault → Option SegmentView
segment_in r (Ok f) = segment_of r f.body
segment_in r (Err e) = None

abbrev pub as_list : Option SegmentView → List SegmentView
as_list None = []
as_list (Some s) = s ∷ []

-- the segments of these records that the receiver accepts, in their order
abbrev pub accepted_in : Check → FarmState → List (List ℕ) → List SegmentView
accepted_in check r [] = []
accepted_in check r (o ∷ os) =
    as_list (segment_in r (frame_at check o)) ++ accepted_in check (farms.after_record check r o) os

-- the packets whose lines a segment has, if it is a segment of MAP m
abbrev pub listed_at : ℕ → AssemblerState → Option SegmentView → List (List ℕ)
listed_at m a None = []
listed_at m a (Some s) = if s.header.map == m then (step_at a s).packets else []

-- the packets on MAP m whose lines these records have
abbrev pub listed_on : Check → ℕ → MapState → List (List ℕ) → List (List ℕ)
listed_on check m x [] = []
listed_on check m x (o ∷ os) =
    listed_at m x.assembler (segment_in x.receiver (frame_at check o))
    ++ listed_on check m (after_record check x o) os
