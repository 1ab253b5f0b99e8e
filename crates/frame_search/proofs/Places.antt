-- What the first octets from a place on determine about it.
use Rattle.std.proofs.Common.{◌≡◌, ◌≤◌, ◌<◌, ℕ, ◌+◌, ◌/◌, ◌%◌, Bool, true, false, not, cond, eqb, ltb, Result, Ok, Err}
use Rattle.std.proofs.Common.{List, ◌++◌, length, take, drop, Option, Some, None, refl, sym, ap, ◌∙◌}
use Rattle.std.proofs.Common.{append_assoc, arith, length-append, length-take}
use Rattle.std.proofs.lemmas.Bool.{lt-ltb, le-ltb}
use Rattle.std.proofs.lemmas.List.{take-append-le, take-append-drop, take-take, drop-take}
use Rattle.octets.specs.Number.{number_of}
use Rattle.octets.specs.Records.{first_record, IsRecord}
use Rattle.octets.proofs.Streams.{passed, mapped, ok_is, is_first, record_is}
use Rattle.tc_frame.specs.declared.frame.Check.TheVariants.{On}
use Rattle.tc_frame.specs.declared.fault.TcFault.{TcFault}
use Rattle.tc_frame.specs.declared.fault.TcFault.TheVariants as faults
use Rattle.tc_frame.specs.Layout.{FrameView}
use Rattle.tc_frame.specs.Decoding.{frame_at, frame_with, is_check_wrong, least_total}
use Rattle.tc_frame.specs.Laws.{total_has_head}
use Rattle.tc_frame.specs.Splitter.{total_at}
use Rattle.frame_search.specs.Search.{names, if_good, good_frame, header_names}

-- ---- the octets before a record's end

-- a whole record is the first, whatever follows
pub whole_first : (octets more : List ℕ) (n : ℕ) → total_at On (take 5 octets) ≡ Ok n → n ≤ length octets
    → (5 ≤ n) × (first_record 5 (total_at On) (octets ++ more) ≡ Some (Ok (take n octets)))
whole_first octets more n e enough =
    let five : 5 ≤ n = total_has_head On (take 5 octets) n e in
    let len : length (take n octets) ≡ n = omega (arith, length-take n octets) in
    let front : take 5 (take n octets) ≡ take 5 octets = take-take 5 n octets five in
    let is : IsRecord 5 (total_at On) (take n octets) =
    record { has_head = omega arith; extent_is = ap (total_at On) front ∙ e ∙ ap (λ (k : ℕ). Ok k) (sym len) } in
    let parts : octets ++ more ≡ take n octets ++ (drop n octets ++ more) =
    ap (λ (x : List ℕ). x ++ more) (sym (take-append-drop n octets))
    ∙ append_assoc (take n octets) (drop n octets) more in (
      five,
      ap (first_record 5 (total_at On)) parts
          ∙ is_first 5 (total_at On) (take n octets) (drop n octets ++ more) is,
    )

-- a refused length stays refused, whatever follows
pub refused_first : (octets more : List ℕ) (e : TcFault) → total_at On (take 5 octets) ≡ Err e → 5 ≤ length octets
    → first_record 5 (total_at On) (octets ++ more) ≡ Some (Err e)
refused_first octets more e is enough =
    let long : ltb (length (octets ++ more)) 5 ≡ false = le-ltb _ _ (omega (arith, length-append octets more)) in
    rw (long, take-append-le 5 octets more enough, is) refl

-- fewer octets than the header has, or than it declares, do not form a record
pub short_first : (octets : List ℕ) → length octets < 5 → first_record 5 (total_at On) octets ≡ None
short_first octets lt = rw (lt-ltb _ _ lt) refl

pub open_first : (octets : List ℕ) (n : ℕ) → total_at On (take 5 octets) ≡ Ok n → 5 ≤ length octets → length octets < n
    → first_record 5 (total_at On) octets ≡ None
open_first octets n e enough lt = rw (le-ltb (length octets) 5 enough, e, lt-ltb _ _ lt) refl

-- a total has ten bits
pub total_most : (head : List ℕ) (n : ℕ) → total_at On head ≡ Ok n → n ≤ 1024
total_most head n h =
    let total : ℕ = number_of (take 2 (drop 2 head)) % 1024 + 1 in
    let enough = passed (ltb total (least_total On)) faults.Length (Ok total) n h in
    let is : total ≡ n = ok_is {F = TcFault} total n enough.1 in
    omega (arith, is)

-- ---- what the header names

-- a frame has the numbers of its header
header_of : (b : List ℕ) (f : FrameView) → frame_at On b ≡ Ok f
    → (number_of (take 2 b) % 1024 ≡ f.scid) × (number_of (take 2 (drop 2 b)) / 1024 ≡ f.vcid)
unfolding frame_at
header_of b f h =
    let one : ℕ = number_of (take 2 b) in
    let two : ℕ = number_of (take 2 (drop 2 b)) in
    let short = passed (ltb (length b) 5) faults.Short _ f h in
    let version = passed (not (eqb (one / 16384) 0)) faults.Version _ f short.1 in
    let kind = passed (eqb (one / 4096 % 4) 1) faults.ReservedType _ f version.1 in
    let spare = passed (not (eqb (one / 1024 % 4) 0)) faults.Spare _ f kind.1 in
    let total = passed _ faults.Length _ f spare.1 in
    let checked = passed (is_check_wrong On b) faults.Check _ f total.1 in
    let read = mapped (frame_with (one % 1024) (two / 1024)) _ f checked.1 in
    (ap (λ (v : FrameView). v.scid) read.2, ap (λ (v : FrameView). v.vcid) read.2)

named_by : (scid vcid : ℕ) (b : List ℕ) (r : Result FrameView TcFault) → frame_at On b ≡ r → names scid vcid r ≡ true
    → header_names scid vcid b ≡ true
named_by scid vcid b (Ok f) e h =
    let has = header_of b f e in
    rw (has.0, has.1) h
named_by scid vcid b (Err x) e h = absurd cc

-- octets have the header of the record that they begin with
header_in_front : (scid vcid : ℕ) (r more : List ℕ) → 5 ≤ length r
    → header_names scid vcid (r ++ more) ≡ header_names scid vcid r
header_in_front scid vcid r more long =
    let one : take 2 (r ++ more) ≡ take 2 r = take-append-le 2 r more (omega arith) in
    let two : take 2 (drop 2 (r ++ more)) ≡ take 2 (drop 2 r) =
    sym (drop-take 2 2 (r ++ more)) ∙ ap (drop 2) (take-append-le 4 r more (omega arith)) ∙ drop-take 2 2 r in
    rw (one, two) refl

not_both : (b : Bool) → b ≡ true → b ≡ false → ⊥
not_both b t f = cc

-- a record whose header names another channel is not a good frame
unnamed_record : (scid vcid : ℕ) (r : List ℕ) (b : Bool) → names scid vcid (frame_at On r) ≡ b
    → header_names scid vcid r ≡ false → if_good scid vcid (Some (Ok r)) ≡ None
unnamed_record scid vcid r true is other =
    absurd (not_both _ (named_by scid vcid r (frame_at On r) refl is) other)
unnamed_record scid vcid r false is other = rw is refl

-- if the header names another channel there is no good frame
unnamed : (scid vcid : ℕ) (w : List ℕ) (o : Option (Result (List ℕ) TcFault)) → first_record 5 (total_at On) w ≡ o
    → header_names scid vcid w ≡ false → if_good scid vcid o ≡ None
unnamed scid vcid w None e h = refl
unnamed scid vcid w (Some (Err x)) e h = refl
unnamed scid vcid w (Some (Ok r)) e h =
    let is = record_is 5 (total_at On) (omega arith) (total_has_head On) w r e in
    let same : header_names scid vcid w ≡ header_names scid vcid r =
    ap (header_names scid vcid) is.1 ∙ header_in_front scid vcid r (drop (length r) w) is.0.has_head in
    unnamed_record scid vcid r (names scid vcid (frame_at On r)) refl (sym same ∙ h)

pub no_header : (scid vcid : ℕ) (octets more : List ℕ) → 5 ≤ length octets → header_names scid vcid octets ≡ false
    → good_frame scid vcid (octets ++ more) ≡ None
no_header scid vcid octets more long h =
    unnamed scid vcid (octets ++ more) (first_record 5 (total_at On) (octets ++ more)) refl
    (header_in_front scid vcid octets more long ∙ h)

-- ---- a good frame

pub good_first : (scid vcid : ℕ) (octets more : List ℕ) (n : ℕ) → total_at On (take 5 octets) ≡ Ok n → n ≤ length octets
    → names scid vcid (frame_at On (take n octets)) ≡ true
    → (5 ≤ n) × (good_frame scid vcid (octets ++ more) ≡ Some (take n octets))
good_first scid vcid octets more n e enough good =
    let is = whole_first octets more n e enough in
    (is.0, ap (if_good scid vcid) is.1 ∙ rw good refl)

pub bad_first : (scid vcid : ℕ) (octets more : List ℕ) (n : ℕ) → total_at On (take 5 octets) ≡ Ok n → n ≤ length octets
    → names scid vcid (frame_at On (take n octets)) ≡ false
    → good_frame scid vcid (octets ++ more) ≡ None
bad_first scid vcid octets more n e enough bad =
    let is = whole_first octets more n e enough in
    ap (if_good scid vcid) is.1 ∙ rw bad refl

-- a good frame is in front of the octets, and has its header
abbrev whole : List ℕ → Option (Result (List ℕ) TcFault)
whole r = Some (Ok r)

good_record : (r f : List ℕ) (b : Bool) → cond b (Some r) None ≡ Some f → whole r ≡ whole f
good_record r f true k = cc
good_record r f false k = absurd cc

record_of_good : (scid vcid : ℕ) (f : List ℕ) (o : Option (Result (List ℕ) TcFault)) → if_good scid vcid o ≡ Some f
    → o ≡ whole f
record_of_good scid vcid f None h = absurd cc
record_of_good scid vcid f (Some (Err x)) h = absurd cc
record_of_good scid vcid f (Some (Ok r)) h = good_record r f (names scid vcid (frame_at On r)) h

pub good_is : (scid vcid : ℕ) (w f : List ℕ) → good_frame scid vcid w ≡ Some f
    → (5 ≤ length f) × (w ≡ f ++ drop (length f) w)
good_is scid vcid w f h =
    let is = record_is 5 (total_at On) (omega arith) (total_has_head On) w f
    (record_of_good scid vcid f (first_record 5 (total_at On) w) h) in
    (is.0.has_head, is.1)
