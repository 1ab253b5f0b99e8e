-- Packets as segments of a MAP (CCSDS 232.0-B-4, 4.1.3.2.2): long packets are cut, and short ones
-- are joined.
use Rattle.std.specs.Prelude.{◌≡◌, ◌≤◌, ◌<◌, ◌⊎◌, ℕ, zero, suc, ◌+◌, ◌-◌, List, [], ◌∷◌, length}
use Rattle.std.specs.Prelude.{take, drop, map, replicate, ◌++◌, not, nat_lt, nat_le}
use Rattle.std.specs.Prelude.{if◌then◌else◌, Option, None, Some, ◌==◌, true}
use Rattle.std.specs.List.{AllByRecursion, concat, flat_map}
use Rattle.tc_frame.specs.declared.frame.SegmentFlags.{SegmentFlags}
use Rattle.tc_frame.specs.declared.frame.SegmentFlags.TheVariants.{First, Continuing, Last, Alone}
use Rattle.tc_frame.specs.declared.frame.Segment.{Segment}
use Rattle.tc_frame.specs.Layout.{SegmentView, segment_view}
use Rattle.map_service.specs.declared.fault.MapFault.{MapFault}
use Rattle.map_service.specs.declared.fault.MapFault.TheVariants.{NotAPacket, TooLong}
use Rattle.map_service.specs.declared.limits.Limits.{Limits}
use Rattle.map_service.specs.Packets.{packets_in, are_taken, is_some_over}
use Rattle.map_service.specs.Assembly.{is_open}

-- segments without the place of their data in memory
abbrev pub segment_views : List Segment → List SegmentView
segment_views segments = map segment_view segments

-- ---- octets cut into parts

-- the pieces of octets: each has exactly `part` octets, except the last, which has the 1 to `part`
-- that are left
abbrev pub pieces_within : ℕ → ℕ → List ℕ → List (List ℕ)
pieces_within zero part octets = []
pieces_within (suc n) part octets =
    if nat_le (length octets) part then octets ∷ [] else take part octets
    ∷ pieces_within n part (drop part octets)

-- there are no more pieces than octets
unfoldable pub pieces_of : ℕ → List ℕ → List (List ℕ)
pieces_of part octets = pieces_within (length octets) part octets

abbrev pub segment_with : SegmentFlags → ℕ → List ℕ → SegmentView
segment_with flags m octets =
    record { header = record { flags = flags; map = m }; payload = octets }

-- at most `part` octets form one segment, flagged alone
abbrev pub alone_segment : ℕ → ℕ → List ℕ → Option SegmentView
alone_segment part m octets =
    if nat_lt part (length octets) then None else Some (segment_with Alone m octets)

-- Pieces as segments. A single piece has the flags `single`. Of several pieces, the first has the
-- flags `front`, the last is flagged last, and those between are continuing.
abbrev pub flagged_segments : SegmentFlags → SegmentFlags → ℕ → List (List ℕ) → List SegmentView
flagged_segments front single m [] = []
flagged_segments front single m (x ∷ []) = segment_with single m x ∷ []
flagged_segments front single m (x ∷ y ∷ ys) =
    segment_with front m x ∷ flagged_segments Continuing Last m (y ∷ ys)

-- the pieces after a first
abbrev pub later_segments : ℕ → List (List ℕ) → List SegmentView
later_segments = flagged_segments Continuing Last

-- all pieces; a single piece is flagged alone
abbrev pub segments_of_pieces : ℕ → List (List ℕ) → List SegmentView
segments_of_pieces = flagged_segments First Alone

-- the segments of a packet, or of packets that go into one segment, on MAP m
abbrev pub parts_of : ℕ → ℕ → List ℕ → List SegmentView
parts_of part m octets = segments_of_pieces m (pieces_of part octets)

-- ---- packets joined into groups

-- the longest run of the first packets that have at most `room` octets together
abbrev pub longest_run : ℕ → List (List ℕ) → List (List ℕ)
longest_run room [] = []
longest_run room (p ∷ ps) =
    if nat_lt room (length p) then [] else p ∷ longest_run (room - length p) ps

-- a packet of more than `part` octets is a group by itself; any other group is the longest run of
-- at most `part` octets
abbrev pub first_group : ℕ → List (List ℕ) → List (List ℕ)
first_group part [] = []
first_group part (p ∷ ps) = if nat_lt part (length p) then p ∷ [] else longest_run part (p ∷ ps)

-- the first n groups, from the left
abbrev pub groups_within : ℕ → ℕ → List (List ℕ) → List (List (List ℕ))
groups_within zero part packets = []
groups_within (suc n) part [] = []
groups_within (suc n) part (p ∷ ps) =
    first_group part (p ∷ ps)
    ∷ groups_within n part (drop (length (first_group part (p ∷ ps))) (p ∷ ps))

-- there are no more groups than packets
unfoldable pub groups_of : ℕ → List (List ℕ) → List (List (List ℕ))
groups_of part packets = groups_within (length packets) part packets

-- the segments, on MAP m, of the packets that octets form
abbrev pub segments_of : ℕ → ℕ → List ℕ → List SegmentView
segments_of part m octets =
    flat_map (λ group. parts_of part m (concat group)) (groups_of part (packets_in octets))

-- ---- which octets are cut

-- why octets are not cut, if they are not
abbrev pub cut_fault : Limits → List ℕ → Option MapFault
cut_fault limits octets =
    if not (are_taken limits.blocking octets) then Some NotAPacket
    else (if is_some_over limits.max_packet (packets_in octets) then Some TooLong
    else None)

-- ---- what segments contain

abbrev pub payloads : List SegmentView → List (List ℕ)
payloads segments = map (λ s. s.payload) segments

-- a segment on MAP m with 1 to `part` octets
pub record IsPart (part m : ℕ) (s : SegmentView) : Type 0 where
  pub on_map : s.header.map ≡ m
  pub least : 1 ≤ length s.payload
  pub most : length s.payload ≤ part

abbrev pub flags_of : List SegmentView → List SegmentFlags
flags_of segments = map (λ s. s.header.flags) segments

-- The segments are the octets in parts: a first, this many continuing ones, and a last. Each
-- segment except the last has exactly `part` octets, and the last has 1 to `part`.
pub record IsInParts (part m : ℕ) (octets : List ℕ) (segments : List SegmentView) : Type 0 where
  pub between : ℕ
  pub flags : flags_of segments ≡ First ∷ (replicate between Continuing ++ Last ∷ [])
  pub joined : concat (payloads segments) ≡ octets
  pub each : AllByRecursion (IsPart part m) segments
  pub full : AllByRecursion (λ s. length s.payload ≡ part) (take (suc between) segments)

-- ---- what groups contain

-- packets with at most `part` octets together, or one packet with more
pub record IsGroup (part : ℕ) (group : List (List ℕ)) : Type 0 where
  pub some : 1 ≤ length group
  pub size : (length (concat group) ≤ part) ⊎ (length group ≡ 1)

-- the first packet after each group would not have fitted into it
abbrev pub AreLongest : ℕ → List (List (List ℕ)) → Type 0
AreLongest part [] = Unit {0}
AreLongest part (g ∷ []) = Unit {0}
AreLongest part (g ∷ h ∷ gs) =
    (part < length (concat g) + length (concat (take 1 h))) × AreLongest part (h ∷ gs)

-- the groups are the packets in order
pub record IsGrouped (part : ℕ) (packets : List (List ℕ)) (groups : List (List (List ℕ))) : Type 0
  where
    pub joined : flat_map (λ g. g) groups ≡ packets
    pub each : AllByRecursion (IsGroup part) groups
    pub longest : AreLongest part groups

-- ---- what a sequence of calls puts on the link, and which packets it submits on each MAP

-- octets that one call submits on a MAP
pub record Submission : Type 0 where
  pub on_map : ℕ
  pub octets : List ℕ

-- the MAP is open, and the octets can be cut
pub record IsSubmitted (limits : Limits) (s : Submission) : Type 0 where
  pub opened : is_open limits s.on_map ≡ true
  pub cut : cut_fault limits s.octets ≡ None

-- the segments of the calls, in order
abbrev pub segments_of_all : ℕ → List Submission → List SegmentView
segments_of_all part submissions = flat_map (λ s. segments_of part s.on_map s.octets) submissions

-- the packets that were submitted on MAP m, in order
abbrev pub packets_on : ℕ → List Submission → List (List ℕ)
packets_on m submissions =
    flat_map (λ s. if s.on_map == m then packets_in s.octets else []) submissions
