-- What an assembler keeps, and how it takes a segment after any list of segments.
use Rattle.std.specs.Prelude.{◌≡◌, ◌≢◌, ℕ, List, [], ◌∷◌, ◌++◌, Option, None, get_or, set}
use Rattle.tc_frame.specs.Layout.{SegmentView}
use Rattle.map_service.specs.declared.limits.Limits.{Limits}
use Rattle.map_service.specs.Assembly.{assembled, open_part}
use Rattle.map_service.specs.AssemblerTable.{lone_packet_at, TakeOutcome, take_step}

-- the limits, and the open part of each MAP
pub record AssemblerState : Type 0 where
  pub limits : Limits
  pub parts : List (Option (List ℕ))

abbrev pub part_on_map : AssemblerState → ℕ → Option (List ℕ)
part_on_map a m = get_or a.parts m None

-- the step at a segment
abbrev pub step_at : AssemblerState → SegmentView → TakeOutcome
step_at a s = take_step a.limits (part_on_map a s.header.map) s

-- the part of the segment's MAP is that of the step, and no other part changes
abbrev pub after_step : AssemblerState → SegmentView → AssemblerState
after_step a s = record a { parts = set a.parts s.header.map (step_at a s).part }

-- the packet that this segment forms, if taking the segment has no other effect
abbrev pub lone_packet : AssemblerState → SegmentView → Option (List ℕ)
lone_packet a s = lone_packet_at a.limits (part_on_map a s.header.map) s

-- the assembler keeps, for each MAP, the open part of these segments
abbrev pub HasPartsOf : AssemblerState → List SegmentView → Type 0
HasPartsOf a segments = (m : ℕ) → part_on_map a m ≡ open_part a.limits m segments

-- After these segments, one more delivers these packets and leaves the assembler in this state.
pub record IsTakenExactly (a : AssemblerState) (segments : List SegmentView) (s : SegmentView)
    (packets : List (List ℕ)) : Type 0 where
  pub given : assembled a.limits s.header.map (segments ++ s ∷ [])
      ≡ assembled a.limits s.header.map segments ++ packets
  pub others : (m : ℕ) → m ≢ s.header.map
      → assembled a.limits m (segments ++ s ∷ []) ≡ assembled a.limits m segments
  pub kept : HasPartsOf a (segments ++ s ∷ [])
