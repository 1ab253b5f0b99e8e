-- An extractor that holds a part of a packet delivers at most one packet more than an extractor that holds none.
use Rattle.std.proofs.Common.{◌≤◌, ℕ, Bool, true, false, List, [], ◌∷◌, ◌++◌, length, take, drop, Option, Some}
use Rattle.std.proofs.Common.{None, refl, ap, ◌∙◌, arith, append_assoc}
use Rattle.std.specs.Prelude.{if◌then◌else◌, ◌==◌, not}
use Rattle.std.specs.List.{AllByRecursion}
use Rattle.octets.specs.Records.{records_of}
use Rattle.space_packet.specs.Decoding.{extent_at}
use Rattle.tm_link.specs.declared.ending.Ending.{Ending}
use Rattle.tm_link.specs.declared.ending.Ending.TheVariants.{Whole, Short, Wrong}
use Rattle.tm_link.specs.declared.frame.Pointer.{Pointer}
use Rattle.tm_link.specs.declared.frame.Pointer.TheVariants.{At, NoStart, OnlyIdle}
use Rattle.tm_link.specs.Arrivals.{IsInRange, all_extracted}
use Rattle.tm_link.specs.Extractor.{ExtractorState, new_extractor, gap_of, is_any_lost, ending_of, finished_by}
use Rattle.tm_link.specs.Extractor.{part_by, completed_packet, finished_packets, part_after, is_idle, without_idle}
use Rattle.tm_link.specs.Layout.{FrameView}
use Rattle.tm_link.specs.Outage.{AreButForTheFirst}
use Rattle.tm_link.specs.Stream.{IsLaidOut, IsClose, choice, arrived_packets}
use Rattle.tm_link.proofs.Choices.{extraction_exact}
use Rattle.tm_link.proofs.Records.{without_idle-append}
use Rattle.tm_link.proofs.PlaceInStream.{Packets}

the_same : (given : Packets) → AreButForTheFirst given given
the_same given = record { first = []; most = omega arith; parts = refl }

-- octets complete at most one packet
one_kept : (b : Bool) (octets : List ℕ) → length (if b then octets ∷ [] else []) ≤ 1
one_kept true octets = omega arith
one_kept false octets = omega arith

one_finished : (octets : List ℕ) (ending : Ending) → length (without_idle (finished_by octets ending)) ≤ 1
one_finished octets Whole = one_kept (not (is_idle octets)) octets
one_finished octets Short = omega arith
one_finished octets Wrong = omega arith

one_completed : (b : Bool) (octets : List ℕ)
    → length (without_idle (if b then [] else finished_by octets (ending_of octets))) ≤ 1
one_completed true octets = omega arith
one_completed false octets = one_finished octets (ending_of octets)

module _ (count : ℕ) (frames : List FrameView) where
  -- what is delivered from the frames after a frame with this count
  abbrev from : List ℕ → Packets
  from part = all_extracted (record { last = Some count; part = part }) frames

  -- what is delivered from that frame, and from the frames after it
  abbrev handed : List ℕ → Pointer → List ℕ → Packets
  handed part pointer payload =
      without_idle (finished_packets part pointer payload) ++ from (part_after part pointer payload)

  module _ (later : (part : List ℕ) → AreButForTheFirst (from part) (from [])) where
    goes_on : (b : Bool) (octets : List ℕ) (ending : Ending)
        → AreButForTheFirst
        (without_idle (if b then [] else finished_by octets ending) ++ from (if b then [] else part_by octets ending))
        (from [])
    goes_on true octets ending = the_same (from [])
    goes_on false octets Whole = record {
      first = without_idle (octets ∷ []);
      most = one_kept (not (is_idle octets)) octets;
      parts = refl;
    }
    goes_on false octets Short = later octets
    goes_on false octets Wrong = the_same (from [])

    with_part : (part : List ℕ) (pointer : Pointer) (payload : List ℕ)
        → AreButForTheFirst (handed part pointer payload) (handed [] pointer payload)
    unfolding records_of
    with_part part OnlyIdle payload = the_same (from [])
    with_part part NoStart payload = goes_on (length part == 0) (part ++ payload) (ending_of (part ++ payload))
    with_part part (At p) payload =
        let octets : List ℕ = part ++ take p payload in
        let ended : Packets = completed_packet part (take p payload) in
        let found : Packets = records_of 6 extent_at (drop p payload) in
        let rest : Packets = from (part_after part (At p) payload) in
        record {
          first = without_idle ended;
          most = one_completed (length part == 0) octets;
          parts = ap (λ (ps : Packets). ps ++ rest) (without_idle-append ended found)
              ∙ append_assoc (without_idle ended) (without_idle found) rest;
        }

    over_gaps : (lost none : Bool) (part : List ℕ) (pointer : Pointer) (payload : List ℕ)
        → AreButForTheFirst (handed (if lost then [] else part) pointer payload)
        (handed (if none then [] else []) pointer payload)
    over_gaps true true part pointer payload = the_same (handed [] pointer payload)
    over_gaps true false part pointer payload = the_same (handed [] pointer payload)
    over_gaps false true part pointer payload = with_part part pointer payload
    over_gaps false false part pointer payload = with_part part pointer payload

one_more_than : (last : Option ℕ) (s : ExtractorState) (frames : List FrameView)
    → AreButForTheFirst (all_extracted s frames) (all_extracted (record { last = last; part = [] }) frames)
one_more_than last s [] = the_same []
one_more_than last s (f ∷ frames) =
    over_gaps f.vc_count frames
    (λ part. one_more_than (Some f.vc_count) (record { last = Some f.vc_count; part = part }) frames)
    (is_any_lost (gap_of s.last f.vc_count)) (is_any_lost (gap_of last f.vc_count)) s.part f.pointer f.payload

pub one_more : (s : ExtractorState) (frames : List FrameView)
    → AreButForTheFirst (all_extracted s frames) (all_extracted new_extractor frames)
one_more s frames = one_more_than None s frames

pub one_more_arrives : (s : ExtractorState) (packets : Packets) (frames : List FrameView) (rest : List ℕ)
    (laid : IsLaidOut packets frames rest) (chosen : List Bool) → AllByRecursion IsInRange frames → IsClose chosen
    → AreButForTheFirst (all_extracted s (choice frames chosen)) (arrived_packets laid.all frames chosen)
one_more_arrives s packets frames rest laid chosen each close =
    let more = one_more s (choice frames chosen) in
    record {
      first = more.first;
      most = more.most;
      parts = more.parts
          ∙ ap (λ (ps : Packets). more.first ++ ps) (extraction_exact packets frames rest laid chosen each close);
    }
