-- Extracting packets from frames (this project's rule for CCSDS 132.0-B-3, 4.3.2).
use Rattle.std.specs.Prelude.{◌≡◌, ℕ, ◌+◌, ◌-◌, ◌%◌, List, [], ◌∷◌, ◌++◌, length, take, drop, map}
use Rattle.std.specs.Prelude.{Bool, false, not, ◌==◌, nat_lt, if◌then◌else◌, Option, Some, None}
use Rattle.std.specs.Prelude.{Result, Ok, Err, Vec}
use Rattle.std.specs.List.{filter}
use Rattle.std.specs.declared.alloc.Global.{Global}
use Rattle.octets.specs.Number.{number_of}
use Rattle.octets.specs.Records.{records_of, rest_of}
use Rattle.space_packet.specs.declared.fault.PacketFault.{PacketFault}
use Rattle.space_packet.specs.Layout.{is_idle_apid}
use Rattle.space_packet.specs.Decoding.{extent_at}
use Rattle.tm_link.specs.declared.frame.Pointer.{Pointer}
use Rattle.tm_link.specs.declared.frame.Pointer.TheVariants.{At, NoStart, OnlyIdle}
use Rattle.tm_link.specs.declared.gap.Gap.{Gap}
use Rattle.tm_link.specs.declared.gap.Gap.TheVariants.{First, Lost}
use Rattle.tm_link.specs.declared.ending.Ending.{Ending}
use Rattle.tm_link.specs.declared.ending.Ending.TheVariants.{Whole, Short, Wrong}
use Rattle.tm_link.specs.Layout.{FrameView}

-- What an extractor holds. No frame distinguishes an extractor that is searching from one that is
-- in step without octets, so the state of both is the one with no part.
pub record ExtractorState : Type 0 where
  -- the last frame's count on the virtual channel, if there was a frame
  pub last : Option ℕ
  -- the first octets of a packet that has not ended yet
  pub part : List ℕ

abbrev pub new_extractor : ExtractorState
new_extractor = record { last = None; part = [] }

-- ---- the gap

-- how many frames are missing before a frame with this count, modulo 256
abbrev pub gap_of : Option ℕ → ℕ → Gap
gap_of None count = First
gap_of (Some last) count = Lost ((count + (255 - last)) % 256)

abbrev pub is_any_lost : Gap → Bool
is_any_lost First = false
is_any_lost (Lost n) = not (n == 0)

-- the part, which is dropped if a frame is missing
abbrev pub part_over_gap : Gap → List ℕ → List ℕ
part_over_gap gap part = if is_any_lost gap then [] else part

-- ---- a packet's end

-- how this many octets from a packet's start on compare with its extent
abbrev pub ending_by : Result ℕ PacketFault → ℕ → Ending
ending_by (Ok n) count = if n == count then Whole else if nat_lt count n then Short else Wrong
ending_by (Err e) count = Wrong

abbrev pub ending_of : List ℕ → Ending
ending_of octets =
    if nat_lt (length octets) 6 then Short else ending_by (extent_at (take 6 octets))
    (length octets)

-- the packet that these octets complete, if any
abbrev pub finished_by : List ℕ → Ending → List (List ℕ)
finished_by octets Whole = octets ∷ []
finished_by octets Short = []
finished_by octets Wrong = []

-- the part that is left of these octets
abbrev pub part_by : List ℕ → Ending → List ℕ
part_by octets Whole = []
part_by octets Short = octets
part_by octets Wrong = []

-- ---- a frame's data, in step with a part or with none

-- the packet that the part and these octets after it form, if any
abbrev pub completed_packet : List ℕ → List ℕ → List (List ℕ)
completed_packet part octets =
    if length part == 0 then [] else finished_by (part ++ octets) (ending_of (part ++ octets))

abbrev pub continued_part : List ℕ → List ℕ → List ℕ
continued_part part octets =
    if length part == 0 then [] else part_by (part ++ octets) (ending_of (part ++ octets))

-- what follows the whole packets, unless it is refused
abbrev pub opened_part : List ℕ → List ℕ
opened_part rest = part_by rest (ending_of rest)

abbrev pub finished_packets : List ℕ → Pointer → List ℕ → List (List ℕ)
finished_packets part OnlyIdle payload = []
finished_packets part NoStart payload = completed_packet part payload
finished_packets part (At p) payload =
    completed_packet part (take p payload) ++ records_of 6 extent_at (drop p payload)

abbrev pub part_after : List ℕ → Pointer → List ℕ → List ℕ
part_after part OnlyIdle payload = []
part_after part NoStart payload = continued_part part payload
part_after part (At p) payload = opened_part (rest_of 6 extent_at (drop p payload))

-- ---- a frame

-- an idle packet
abbrev pub is_idle : List ℕ → Bool
is_idle packet = is_idle_apid (number_of (take 2 packet) % 2048)

-- all packets except idle ones
abbrev pub without_idle : List (List ℕ) → List (List ℕ)
without_idle packets = filter (λ packet. not (is_idle packet)) packets

pub record Extracted : Type 0 where
  pub gap : Gap
  pub packets : List (List ℕ)
  pub after : ExtractorState

abbrev pub extract_step : ExtractorState → FrameView → Extracted
extract_step s f =
    let gap : Gap = gap_of s.last f.vc_count in
    let part : List ℕ = part_over_gap gap s.part in
    record {
      gap = gap;
      packets = without_idle (finished_packets part f.pointer f.payload);
      after = record { last = Some f.vc_count; part = part_after part f.pointer f.payload };
    }

-- the octets of each
abbrev pub octets_of : List (Vec ℕ Global) → List (List ℕ)
octets_of packets = map (λ packet. packet.items) packets

-- these packets were appended to those that were there
abbrev pub GrowsBy : Vec (Vec ℕ Global) Global → Vec (Vec ℕ Global) Global → List (List ℕ) → Type 0
GrowsBy before after packets = octets_of after.items ≡ octets_of before.items ++ packets
