-- Packets and frames that follow one another, and the parts of a packet.
use Rattle.std.proofs.Common.{◌≡◌, ◌≤◌, ℕ, ◌+◌, List, [], ◌∷◌, length, take, drop, Some, None, ap, ◌∙◌, ◌<◌, suc, ◌-◌}
use Rattle.std.proofs.Common.{Bool, true, false, ◌++◌, refl, sym, arith, length-take, zero, ◌*◌, ◌/◌, min}
use Rattle.std.proofs.Common.{length-append, length-drop, inl, inr}
use Rattle.std.proofs.lemmas.List.{drop_all, drop-drop, append-nil, take-append-drop, take_rest, drop-take, map-append}
use Rattle.std.proofs.lemmas.List.{take_all, take_min, take-append-le, take-take}
use Rattle.std.specs.Prelude.{◌&&◌, ◌==◌, nat_le, slice_get}
use Rattle.std.proofs.lemmas.Bool.{ne_eqb, and_right, cases_lt, le-leb, lt-leb}
use Rattle.std.proofs.lemmas.List.Folds.{concat-append}
use Rattle.std.proofs.lemmas.Grind.{common_steps}
use Rattle.std.proofs.Math.Bool.{and-true}
use Rattle.std.proofs.Math.Nat.{le-div_iff_mul-le}
use Rattle.std.proofs.Math.Seq.{take-append-add}
use Rattle.std.specs.List.{concat}
use Rattle.space_packet.proofs.WholePackets.{one_more-by_len, no_more}
use Rattle.tc_frame.specs.Layout.{SegmentView}
use Rattle.map_service.specs.Packets.{first_packet, packets_in, rest_in}
use Rattle.map_service.specs.Cutting.{pieces_of, segment_with, later_segments, parts_of, first_group, segments_of}
use Rattle.map_service.specs.Cutting.{payloads}
use Rattle.map_service.proofs.Parts.{parts-count, parts-joined, later_segments-last, later_segments-more, parts-fit}
use Rattle.map_service.proofs.Parts.{parts-more}
use Rattle.map_service.proofs.Groups.{groups-cut}
use Rattle.sedgechisel.specs.CommandFrames.{whole_len, record_of, records_from, end_from}
use Rattle.sedgechisel.specs.declared.cutting.Place.{Place}
use Rattle.sedgechisel.specs.Cuttings.{flags_for, octets_before, part_at, part_in, segment_in}

-- Packets one after another.

pub stands_at : (octets : List ℕ) (place n : ℕ) → Some (take n (drop place octets)) ≡ first_packet (drop place octets)
    → n ≤ length (drop place octets)
    → packets_in (drop place octets) ≡ take n (drop place octets) ∷ packets_in (drop (place + n) octets)
stands_at octets place n first within =
    (one_more-by_len (drop place octets) n first within).0
    ∙ ap (λ (xs : List ℕ). take n (drop place octets) ∷ packets_in xs) (drop-drop n place octets)

pub none_at : (octets : List ℕ) (place : ℕ) → first_packet (drop place octets) ≡ None
    → packets_in (drop place octets) ≡ []
none_at octets place none = (no_more (drop place octets) none).0

pub none_past : (octets : List ℕ) (place : ℕ) → length octets ≤ place → packets_in (drop place octets) ≡ []
none_past octets place past = none_at octets place (ap first_packet (drop_all place octets past))

-- Frames one after another.

-- ---- the octets of a frame

-- a frame has at most 1,024
pub few_octets : (checked : Bool) (octets : List ℕ) → whole_len checked octets ≤ 1024
few_octets checked octets = grind (arith, common_steps)

len_is : (checked : Bool) (octets : List ℕ) (from count : ℕ)
    → count ≡ whole_len checked (take (length octets - from) (drop from octets))
    → whole_len checked (drop from octets) ≡ count
len_is checked octets from count is = ap (whole_len checked) (sym (take_rest octets from)) ∙ sym is

pub record_octets : (checked : Bool) (octets : List ℕ) → length (record_of checked octets) ≡ 12
record_octets checked octets = refl

-- the octets from a place on, as a slice
pub piece_is : (octets : List ℕ) (from count : ℕ)
    → take (from + count - from) (drop from octets) ≡ take count (drop from octets)
piece_is octets from count =
    let same : from + count - from ≡ count = omega arith in
    ap (λ (n : ℕ). take n (drop from octets)) same

-- ---- the next frame

pub frames_next : (checked : Bool) (octets : List ℕ) (from count k n : ℕ) → k < n
    → count ≡ whole_len checked (take (length octets - from) (drop from octets)) → 0 < count
    → (records_from checked octets from (n - k)
    ≡ record_of checked (take count (drop from octets)) ++ records_from checked octets (from + count) (n - (k + 1)))
    × (end_from checked octets from (n - k) ≡ end_from checked octets (from + count) (n - (k + 1)))
frames_next checked octets from count k n lt is some =
    let more : n - k ≡ suc (n - (k + 1)) = omega arith in
    let len = len_is checked octets from count is in
    let not_none = ne_eqb count 0 (λ (e : count ≡ 0). omega arith) in
    (rw (more, len, not_none) refl, rw (more, len, not_none) refl)

pub frames_none : (checked : Bool) (octets : List ℕ) (from k n : ℕ) → k < n
    → 0 ≡ whole_len checked (take (length octets - from) (drop from octets))
    → (records_from checked octets from (n - k) ≡ []) × (end_from checked octets from (n - k) ≡ from)
frames_none checked octets from k n lt is =
    let more : n - k ≡ suc (n - (k + 1)) = omega arith in
    let len = len_is checked octets from 0 is in
    (rw (more, len) refl, rw (more, len) refl)

-- ---- what is written

-- if the same follows a place, the same follows a later place
pub later : (xs ys : List ℕ) (m n : ℕ) → m ≤ n → drop m xs ≡ drop m ys → drop n xs ≡ drop n ys
later xs ys m n le is =
    let more : m + (n - m) ≡ n = omega arith in
    rw (← more, ← drop-drop (n - m) m xs, ← drop-drop (n - m) m ys, is) refl

-- what is done, and what was there after it
pub all_done : (xs ys done : List ℕ) (k : ℕ) → k ≤ length xs → take k xs ++ [] ≡ done
    → drop k xs ≡ drop k ys → (k ≡ length done) × (xs ≡ done ++ drop (length done) ys)
all_done xs ys done k le is rest =
    let front : take k xs ≡ done = sym (append-nil (take k xs)) ∙ is in
    let long : k ≡ length done = omega (arith, length-take k xs, ap length front) in
    (long, rw (← long, ← rest, ← front) (sym (take-append-drop k xs)))

-- Part k of a packet is at place k times the size of a part.

-- the segments of what a packet has from its first segment on, or from a later one
abbrev segments_from : Bool → ℕ → ℕ → List ℕ → List SegmentView
segments_from true part m xs = parts_of part m xs
segments_from false part m xs = later_segments m (pieces_of part xs)

-- octets in one segment, and in several
from-fit : (first : Bool) (m part : ℕ) (xs : List ℕ) → 1 ≤ length xs → length xs ≤ part
    → segments_from first part m xs ≡ segment_with (flags_for first true) m xs ∷ []
from-fit true m part xs some le = parts-fit m part xs some le
from-fit false m part xs some le = later_segments-last m part xs some le

from-more : (first : Bool) (m part : ℕ) (xs : List ℕ) → 1 ≤ part → part < length xs
    → segments_from first part m xs
    ≡ segment_with (flags_for first false) m (take part xs) ∷ segments_from false part m (drop part xs)
from-more true m part xs one lt = parts-more m part xs one lt
from-more false m part xs one lt = later_segments-more m part xs one lt

part_at_place : (first : Bool) (k part m : ℕ) (xs : List ℕ) → 1 ≤ part → k * part < length xs
    → slice_get (segments_from first part m xs) k
    ≡ Some (segment_with (flags_for (first && (k == 0)) (nat_le (length xs - k * part) part)) m
    (take part (drop (k * part) xs)))
part_at_place first zero part m xs one there =
    let start : zero * part ≡ 0 = omega arith in
    let all : length xs - 0 ≡ length xs = omega arith in
    let is : (first && (zero == 0)) ≡ first = and-true first in
    elim (cases_lt part (length xs)) [
      | inl lt ↦ rw (start, all, is, from-more first m part xs one lt, lt-leb (length xs) part lt) refl
      | inr ge ↦ rw (start, all, is, from-fit first m part xs (omega arith) ge, le-leb (length xs) part ge)
          (ap (λ (p : List ℕ). Some (segment_with (flags_for first true) m p)) (sym (take_all part xs ge)))
    ]
part_at_place first (suc k) part m xs one there =
    let size = length-drop part xs in
    let step : suc k * part ≡ part + k * part = omega arith in
    let left : length xs - (part + k * part) ≡ length (drop part xs) - k * part = omega arith in
    let later : (first && (suc k == 0)) ≡ false =
    and_right first (suc k == 0) (ne_eqb (suc k) 0 (λ (e : suc k ≡ 0). omega arith)) in
    rw (from-more first m part xs one (omega arith), later, step, left, sym (drop-drop (k * part) part xs))
    (part_at_place false k part m (drop part xs) one (omega arith))

-- ---- parts of a packet among octets: from a place on, as many as the packet has

-- the packet
abbrev pub packet_at : List ℕ → ℕ → ℕ → List ℕ
packet_at octets from len = take len (drop from octets)

packet-length : (octets : List ℕ) (from len : ℕ) → from + len ≤ length octets → length (packet_at octets from len) ≡ len
packet-length octets from len fits = omega (arith, length-take len (drop from octets), length-drop from octets)

-- what follows a place in the packet
behind_place : (octets : List ℕ) (from len start : ℕ) → start ≤ len
    → drop start (packet_at octets from len) ≡ take (len - start) (drop (from + start) octets)
behind_place octets from len start within =
    let whole : start + (len - start) ≡ len = omega arith in
    rw (← drop-drop start from octets, ← drop-take start (len - start) (drop from octets), whole) refl

pub part_stands : (octets : List ℕ) (from len part m k count : ℕ) → from + len ≤ length octets → 1 ≤ part
    → k * part < len → count ≡ min (len - k * part) part
    → slice_get (parts_of part m (packet_at octets from len)) k
    ≡ Some (segment_with (flags_for (k == 0) (nat_le (len - k * part) part)) m
    (take count (drop (from + k * part) octets)))
part_stands octets from len part m k count fits one there is =
    let start : ℕ = k * part in
    let xs : List ℕ = packet_at octets from len in
    let ys : List ℕ = drop (from + start) octets in
    let size = packet-length octets from len fits in
    let all : length (take (len - start) ys) ≡ len - start =
    omega (arith, length-take (len - start) ys, length-drop (from + start) octets) in
    let few : min part (length (take (len - start) ys)) ≡ count = omega (arith, all, is) in
    let held : take part (drop start xs) ≡ take count ys =
    rw (behind_place octets from len start (omega arith), ← take_min part (take (len - start) ys), few)
    (take-take count (len - start) ys (omega (arith, is))) in
    part_at_place true k part m xs one (omega arith)
    ∙ rw (size, held) refl

-- ---- the octets before a part

octets-append : (xs ys : List SegmentView)
    → length (concat (payloads (xs ++ ys))) ≡ length (concat (payloads xs)) + length (concat (payloads ys))
octets-append xs ys =
    rw (map-append (λ (s : SegmentView). s.payload) xs ys, concat-append (payloads xs) (payloads ys))
    (length-append (concat (payloads xs)) (concat (payloads ys)))

-- each part before the last has as many octets as a part may have
before_part : (first : Bool) (k part m : ℕ) (xs : List ℕ) → 1 ≤ part → k * part < length xs
    → octets_before (segments_from first part m xs) k ≡ k * part
before_part first zero part m xs one there = omega arith
before_part first (suc k) part m xs one there =
    let rest : List SegmentView = segments_from false part m (drop part xs) in
    let step : suc k * part ≡ part + k * part = omega arith in
    let behind = before_part false k part m (drop part xs) one (omega (arith, length-drop part xs)) in
    rw (from-more first m part xs one (omega arith), step)
    (length-append (take part xs) (concat (payloads (take k rest))) ∙ omega (arith, behind, length-take part xs))

-- a place that is within the octets, after the segments before it
pub placed : (octets : List ℕ) (segments : List SegmentView) (k : ℕ) (p : Place) → p.from ≡ octets_before segments k
    → p.from + p.count ≤ length octets
    → part_in p ≡ part_at segments k (segment_in octets p)
placed octets segments k p place within =
    rw (packet-length octets p.from p.count within, place) refl

-- ---- one group of packets after another

get_front : {X : Type 0} (xs ys : List X) (k : ℕ) → k < length xs → slice_get (xs ++ ys) k ≡ slice_get xs k
get_front [] ys k lt = absurd (omega arith)
get_front (x ∷ xs) ys k lt = grind (arith, lt, get_front xs ys (k - 1))

get_behind : {X : Type 0} (xs ys : List X) (k : ℕ) → slice_get (xs ++ ys) (length xs + k) ≡ slice_get ys k
get_behind [] ys k = ap (slice_get ys) (omega arith)
get_behind (x ∷ xs) ys k = grind (arith, get_behind xs ys k)

module _ (part n : ℕ) (rest : List ℕ) (none : rest_in rest ≡ []) (one : 1 ≤ part) (some : 1 ≤ n)
    (within : n ≤ length rest)
    (group : n ≡ length (concat (first_group part (packets_in rest)))) where
  cut_here : segments_of part 0 rest ≡ parts_of part 0 (take n rest) ++ segments_of part 0 (drop n rest)
  cut_here = (groups-cut part 0 n rest (take n rest) (drop n rest) none (omega arith) group refl refl).0

  parts_here : length (parts_of part 0 (take n rest)) ≡ (n - 1) / part + 1
  parts_here =
      let size : length (take n rest) ≡ n = omega (arith, length-take n rest) in
      parts-count part 0 (take n rest) one (omega arith) ∙ ap (λ (k : ℕ). (k - 1) / part + 1) size

  pub found_here : (k : ℕ) → k < (n - 1) / part + 1
      → slice_get (segments_of part 0 rest) k ≡ slice_get (parts_of part 0 (take n rest)) k
  found_here k lt =
      let size = parts_here in
      rw cut_here (get_front (parts_of part 0 (take n rest)) (segments_of part 0 (drop n rest)) k (omega arith))

  pub found_later : (k : ℕ) → (n - 1) / part + 1 ≤ k
      → slice_get (segments_of part 0 rest) k ≡ slice_get (segments_of part 0 (drop n rest)) (k - ((n - 1) / part + 1))
  found_later k ge =
      let size = parts_here in
      let place : k ≡ length (parts_of part 0 (take n rest)) + (k - ((n - 1) / part + 1)) = omega arith in
      ap (λ (l : List SegmentView). slice_get l k) cut_here
      ∙ ap (slice_get (parts_of part 0 (take n rest) ++ segments_of part 0 (drop n rest))) place
      ∙ get_behind (parts_of part 0 (take n rest)) (segments_of part 0 (drop n rest)) (k - ((n - 1) / part + 1))

  pub before_here : (k : ℕ) → k < (n - 1) / part + 1 → octets_before (segments_of part 0 rest) k ≡ k * part
  before_here k lt =
      let size = parts_here in
      let parts : List SegmentView = parts_of part 0 (take n rest) in
      let later : List SegmentView = segments_of part 0 (drop n rest) in
      let least : k * part ≤ n - 1 = (le-div_iff_mul-le one).0 (omega arith) in
      rw (cut_here, take-append-le k parts later (omega arith))
      (before_part true k part 0 (take n rest) one (omega (arith, length-take n rest)))

  pub before_behind : (k : ℕ) → (n - 1) / part + 1 ≤ k
      → octets_before (segments_of part 0 rest) k
      ≡ n + octets_before (segments_of part 0 (drop n rest)) (k - ((n - 1) / part + 1))
  before_behind k ge =
      let size = parts_here in
      let parts : List SegmentView = parts_of part 0 (take n rest) in
      let later : List SegmentView = segments_of part 0 (drop n rest) in
      let left : ℕ = k - ((n - 1) / part + 1) in
      let place : k ≡ length parts + left = omega arith in
      let all : length (concat (payloads parts)) ≡ n =
      ap length (parts-joined part 0 (take n rest) one) ∙ omega (arith, length-take n rest) in
      ap (λ (l : List SegmentView). octets_before l k) cut_here
      ∙ ap (octets_before (parts ++ later)) place
      ∙ ap (λ (l : List SegmentView). length (concat (payloads l))) (take-append-add parts later left)
      ∙ octets-append parts (take left later)
      ∙ ap (λ (count : ℕ). count + octets_before later left) all
