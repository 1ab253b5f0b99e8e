-- Cutting packets into segments as C requests it.
use Rattle.std.specs.Prelude.{◌≡◌, ℕ, List, length, take, drop, Bool, true, false, ◌&&◌, ◌==◌}
use Rattle.std.specs.Prelude.{nat_lt, if◌then◌else◌, Option, Some, None, Result, Ok, Err, slice_get}
use Rattle.std.specs.List.{concat}
use Rattle.tc_frame.specs.declared.frame.SegmentFlags.{SegmentFlags}
use Rattle.tc_frame.specs.declared.frame.SegmentFlags.TheVariants.{First, Continuing, Last, Alone}
use Rattle.tc_frame.specs.Layout.{SegmentView}
use Rattle.map_service.specs.declared.fault.MapFault.{MapFault}
use Rattle.map_service.specs.declared.limits.Limits.{Limits}
use Rattle.map_service.specs.Cutting.{segment_with, segments_of, payloads, cut_fault}
use Rattle.octets.specs.Outcome.{map_ok}
use Rattle.map_service.specs.Faults.{fault_row}
use Rattle.sedgechisel.specs.declared.cutting.CutLimits.{CutLimits}
use Rattle.sedgechisel.specs.declared.cutting.Place.{Place}
use Rattle.sedgechisel.specs.declared.part.Part.{Part}
use Rattle.sedgechisel.specs.Answers.{damaged, and_then, if_there}

-- the limits that the fields describe; the MAP does not matter, and is MAP 0 here
abbrev pub limits_described : CutLimits → Result Limits ℕ
limits_described l =
    if nat_lt 0 l.part && nat_lt l.blocking 2
    then Ok (record {
      part = l.part;
      max_packet = l.max_packet;
      maps = 0;
      blocking = l.blocking == 1;
    })
    else Err damaged

abbrev pub unless_fault : Option MapFault → List SegmentView → Result (List SegmentView) ℕ
unless_fault None segments = Ok segments
unless_fault (Some fault) segments = Err (fault_row fault).0

-- the segments of the octets
abbrev pub segments_described : CutLimits → List ℕ → Result (List SegmentView) ℕ
segments_described l octets =
    and_then (limits_described l) (λ limits. unless_fault (cut_fault limits octets)
    (segments_of limits.part 0 octets))

abbrev pub segment_described : CutLimits → List ℕ → ℕ → Result SegmentView ℕ
segment_described l octets k =
    and_then (segments_described l octets) (λ segments. if_there (slice_get segments k))

-- the number of octets in the first k segments
abbrev pub octets_before : List SegmentView → ℕ → ℕ
octets_before segments k = length (concat (payloads (take k segments)))

-- where the data of segment k are: after the data of all segments before it
abbrev pub part_at : List SegmentView → ℕ → SegmentView → Part
part_at segments k segment =
    record { from = octets_before segments k; count = length segment.payload }

abbrev pub part_described : CutLimits → List ℕ → ℕ → Result Part ℕ
part_described l octets k =
    and_then (segments_described l octets)
    (λ segments. map_ok (part_at segments k) (if_there (slice_get segments k)))

-- these are the segment's data, if there is one
abbrev pub DescribesSegment : Result SegmentView ℕ → List ℕ → Type 0
DescribesSegment (Ok segment) octets = octets ≡ segment.payload
DescribesSegment (Err number) octets = Unit {0}

-- ---- places

-- the flags of a part, by whether it is the first, and the last
abbrev pub flags_for : Bool → Bool → SegmentFlags
flags_for true true = Alone
flags_for true false = First
flags_for false true = Last
flags_for false false = Continuing

abbrev pub part_in : Place → Part
part_in p = record { from = p.from; count = p.count }

-- the segment at a place
abbrev pub segment_in : List ℕ → Place → SegmentView
segment_in octets p = segment_with p.flags 0 (take p.count (drop p.from octets))

abbrev pub segment_at : List ℕ → Option Place → Option SegmentView
segment_at octets None = None
segment_at octets (Some p) = Some (segment_in octets p)
