-- How whole packets and beginnings of packets end.
use Rattle.std.proofs.Common.{◌≡◌, ◌≤◌, ◌<◌, ◌⊎◌, ℕ, Bool, true, false, cond, eqb, ltb, List, []}
use Rattle.std.proofs.Common.{◌∷◌, ◌++◌, length, take, drop, Result, Ok, refl, sym, ap, subst, ◌∙◌}
use Rattle.std.proofs.Common.{arith, inl, inr, ◌+◌, ◌-◌, append_assoc, length-append, replicate}
use Rattle.std.proofs.Common.{length-take}
use Rattle.std.specs.List.{concat}
use Rattle.std.proofs.lemmas.Bool.{cases_lt, eq-eqb, ne_eqb, lt-ltb, le-ltb}
use Rattle.std.proofs.lemmas.List.{take_at, take-append-le, take-append-drop, append-nil}
use Rattle.std.proofs.lemmas.List.{nil_from_length, append_cancel_left}
use Rattle.octets.specs.Records.{IsRecord, IsCutShort, IsSplit, records_of, rest_of}
use Rattle.octets.proofs.Streams.{only_split}
use Rattle.space_packet.specs.declared.fault.PacketFault.{PacketFault}
use Rattle.space_packet.specs.Laws.{extent_has_header}
use Rattle.space_packet.specs.Decoding.{extent_at}
use Rattle.tm_link.specs.declared.ending.Ending.{Ending}
use Rattle.tm_link.specs.declared.ending.Ending.TheVariants.{Whole, Short}
use Rattle.tm_link.specs.Extractor.{ending_of, finished_by, part_by, completed_packet}
use Rattle.tm_link.specs.Extractor.{continued_part, opened_part, finished_packets, part_after}
use Rattle.tm_link.proofs.PlaceInStream.{Packets, AreRecords, Opens, Stood, within, are_set}
use Rattle.tm_link.proofs.PlaceInStream.{all_set, Moved, moved_within, moved_to_end, moved_from_end}
use Rattle.tm_link.proofs.PlaceInStream.{moved_both, cut_of, both_set, records-before}
use Rattle.tm_link.proofs.PlaceInStream.{records-behind}
use Rattle.std.proofs.lemmas.List.Folds.{concat-append}
use Rattle.tm_link.specs.Stream.{IsStart, IsEnd, HasNoStart, IsPointed, carried_by}
use Rattle.std.specs.Prelude.{◌&&◌}
use Rattle.tm_link.specs.declared.frame.Pointer.{Pointer}
use Rattle.tm_link.specs.declared.frame.Pointer.TheVariants.{At, NoStart, OnlyIdle}

pub ending-whole : (p : List ℕ) → IsRecord 6 extent_at p → ending_of p ≡ Whole
ending-whole p is =
    let long : ltb (length p) 6 ≡ false = le-ltb _ _ is.has_head in
    let same : eqb (length p) (length p) ≡ true = eq-eqb _ _ refl in
    rw (long, is.extent_is, same) refl

extent_of_beginning : (x y p : List ℕ) → IsRecord 6 extent_at p → p ≡ x ++ y → 6 ≤ length x
    → extent_at (take 6 x) ≡ Ok (length p)
extent_of_beginning x y p is parts long =
    ap extent_at (sym (take-append-le 6 x y long) ∙ ap (take 6) (sym parts)) ∙ is.extent_is

ending_by_length : (x y p : List ℕ) → IsRecord 6 extent_at p → p ≡ x ++ y → length x < length p
    → (length x < 6) ⊎ (6 ≤ length x) → ending_of x ≡ Short
ending_by_length x y p is parts short (inl lt) = let t : ltb (length x) 6 ≡ true = lt-ltb _ _ lt in rw t refl
ending_by_length x y p is parts short (inr le) =
    let long : ltb (length x) 6 ≡ false = le-ltb _ _ le in
    let extent : extent_at (take 6 x) ≡ Ok (length p) = extent_of_beginning x y p is parts le in
    let other : eqb (length p) (length x) ≡ false = ne_eqb _ _ (λ (e : length p ≡ length x). omega arith) in
    let less : ltb (length x) (length p) ≡ true = lt-ltb _ _ short in
    rw (long, extent, other, less) refl

pub ending-short : (x y p : List ℕ) → IsRecord 6 extent_at p → p ≡ x ++ y → length x < length p → ending_of x ≡ Short
ending-short x y p is parts short = ending_by_length x y p is parts short (cases_lt (length x) 6)

-- ---- the part, and octets after it

closed_by : (part x : List ℕ) (e : Ending) → 0 < length part → ending_of (part ++ x) ≡ e
    → completed_packet part x ≡ finished_by (part ++ x) e
closed_by part x e some is =
    let t : eqb (length part) 0 ≡ false = ne_eqb _ _ (λ (h : length part ≡ 0). omega arith) in rw (t, is) refl

continued_by : (part x : List ℕ) (e : Ending) → 0 < length part → ending_of (part ++ x) ≡ e
    → continued_part part x ≡ part_by (part ++ x) e
continued_by part x e some is =
    let t : eqb (length part) 0 ≡ false = ne_eqb _ _ (λ (h : length part ≡ 0). omega arith) in rw (t, is) refl

pub completed_packet-whole : (b : Bool) (tail x p : List ℕ) → 0 < length tail → IsRecord 6 extent_at p → tail ++ x ≡ p
    → completed_packet (cond b tail []) x ≡ cond b (p ∷ []) []
completed_packet-whole true tail x p some is whole =
    closed_by tail x Whole some (ap ending_of whole ∙ ending-whole p is) ∙ ap (λ (xs : List ℕ). xs ∷ []) whole
completed_packet-whole false tail x p some is whole = refl

pub continued_part-whole : (b : Bool) (tail x p : List ℕ) → 0 < length tail → IsRecord 6 extent_at p → tail ++ x ≡ p
    → continued_part (cond b tail []) x ≡ []
continued_part-whole true tail x p some is whole =
    continued_by tail x Whole some (ap ending_of whole ∙ ending-whole p is)
continued_part-whole false tail x p some is whole = refl

pub completed_packet-short : (b : Bool) (tail x : List ℕ) → 0 < length tail → ending_of (tail ++ x) ≡ Short
    → completed_packet (cond b tail []) x ≡ []
completed_packet-short true tail x some is = closed_by tail x Short some is
completed_packet-short false tail x some is = refl

pub continued_part-short : (b : Bool) (tail x : List ℕ) → 0 < length tail → ending_of (tail ++ x) ≡ Short
    → continued_part (cond b tail []) x ≡ cond b (tail ++ x) []
continued_part-short true tail x some is = continued_by tail x Short some is
continued_part-short false tail x some is = refl

-- ---- whole packets and the beginning of the next

-- octets that end before a packet's end are the beginning of the packet
pub begins : (x others p rest : List ℕ) → x ++ others ≡ p ++ rest → length x < length p → p ≡ x ++ drop (length x) p
begins x others p rest e short =
    let front : take (length x) p ≡ x =
    sym (take-append-le (length x) p rest (omega arith)) ∙ ap (take (length x)) (sym e)
    ∙ take_at x others (length x) refl in
    sym (take-append-drop (length x) p) ∙ ap (λ (xs : List ℕ). xs ++ drop (length x) p) front

left_by_length : (x y p : List ℕ) → IsRecord 6 extent_at p → p ≡ x ++ y → length x < length p
    → (length x < 6) ⊎ (6 ≤ length x)
    → (length x < 6) ⊎ IsCutShort 6 extent_at x (extent_at (take 6 x))
left_by_length x y p is parts short (inl lt) = inl lt
left_by_length x y p is parts short (inr le) =
    inr (subst (λ (r : Result ℕ PacketFault). IsCutShort 6 extent_at x r) (sym (extent_of_beginning x y p is parts le))
    short)

left_in : (begun others : List ℕ) (left : Packets) → AreRecords left → Opens begun left → begun ++ others ≡ concat left
    → (length begun < 6) ⊎ IsCutShort 6 extent_at begun (extent_at (take 6 begun))
left_in begun others [] each opens e = inl (omega (arith, ap length opens))
left_in begun others (p ∷ ps) each opens e =
    left_by_length begun (drop (length begun) p) p each.0 (begins begun others p (concat ps) e opens) opens
    (cases_lt (length begun) 6)

split_in : (octets begun others : List ℕ) (whole left : Packets) → AreRecords whole → AreRecords left
    → octets ≡ concat whole ++ begun → Opens begun left → begun ++ others ≡ concat left
    → IsSplit 6 extent_at octets whole begun
split_in octets begun others whole left each ahead cut opens e =
    record { whole = cut; each = each; left = left_in begun others left ahead opens e }

pub records-cut : (octets begun others : List ℕ) (whole left : Packets) → AreRecords whole → AreRecords left
    → octets ≡ concat whole ++ begun → Opens begun left → begun ++ others ≡ concat left
    → (records_of 6 extent_at octets ≡ whole) × (rest_of 6 extent_at octets ≡ begun)
records-cut octets begun others whole left each ahead cut opens e =
    let only = only_split 6 extent_at (omega arith) extent_has_header octets begun whole
    (split_in octets begun others whole left each ahead cut opens e) in
    (sym only.0, sym only.1)

opened_by : (begun : List ℕ) → ending_of begun ≡ Short → opened_part begun ≡ begun
opened_by begun is = ap (part_by begun) is

pub opened_part-cut : (begun others : List ℕ) (left : Packets) → AreRecords left → Opens begun left
    → begun ++ others ≡ concat left → opened_part begun ≡ begun
opened_part-cut begun others [] each opens e = ap opened_part opens ∙ sym opens
opened_part-cut begun others (p ∷ ps) each opens e =
    opened_by begun (ending-short begun (drop (length begun) p) p each.0 (begins begun others p (concat ps) e opens)
    opens)

-- What a frame's pointer shows of the place where its data begin.

-- no packet is open at a packet's end
pub none_open : (all : Packets) (place : ℕ) (tail : List ℕ) (ps : Packets) (others : List ℕ)
    → Stood all place tail ps others → IsEnd all place → tail ≡ []
none_open all place tail [] others s e = s.opens
none_open all place tail (p ∷ ps) others s e =
    let short : length tail < length p = s.opens in
    nil_from_length tail (elim (within e.0 e.1 s.passed ps p (sym e.2 ∙ s.parts)) [
      | inl le ↦ omega (arith, s.place_is, e.3)
      | inr le ↦ absurd (omega (arith, s.place_is, e.3))
    ])

-- after the last packet there are no octets
pub none_ahead : (all : Packets) (place : ℕ) (tail octets others : List ℕ) → Stood all place tail [] (octets ++ others)
    → length octets ≡ 0
none_ahead all place tail octets others s =
    omega (arith, ap length s.ahead, length-append tail (octets ++ others), length-append octets others)

-- if none is open, the next packet starts here
starts_here : (all : Packets) (place : ℕ) (tail : List ℕ) (p : List ℕ) (ps : Packets) (others : List ℕ)
    → Stood all place tail (p ∷ ps) others → length tail ≡ 0 → IsStart all (place + 0)
starts_here all place tail p ps others s none = (s.passed, ps, p, s.parts, omega (arith, s.place_is))

-- and otherwise it starts after the open packet
starts_after : (all : Packets) (place : ℕ) (tail : List ℕ) (p r : List ℕ) (ps : Packets) (others : List ℕ) (k : ℕ)
    → Stood all place tail (p ∷ r ∷ ps) others → length tail + k ≡ length p
    → IsStart all (place + k)
starts_after all place tail p r ps others k s is =
    let size : length (concat (s.passed ++ p ∷ [])) ≡ length (concat s.passed) + length p =
    ap length (concat-append s.passed (p ∷ [])) ∙ length-append (concat s.passed) (p ++ [])
    ∙ ap (λ (xs : List ℕ). length (concat s.passed) + length xs) (append-nil p) in
    (s.passed ++ p ∷ [], ps, r, s.parts ∙ sym (append_assoc s.passed (p ∷ []) (r ∷ ps)), omega (arith, s.place_is))

-- if no packet starts here, one is open
pub some_open : (all : Packets) (place : ℕ) (tail : List ℕ) (p : List ℕ) (ps : Packets) (others : List ℕ) (n : ℕ)
    → Stood all place tail (p ∷ ps) others → 0 < n → HasNoStart all place n
    → 0 < length tail
some_open all place tail p ps others n s some h =
    elim (cases_lt 0 (length tail)) [
      | inl lt ↦ lt
      | inr le ↦ absurd (h 0 some (starts_here all place tail p ps others s (omega arith)))
    ]

-- and it continues up to there
goes_on_by : (all : Packets) (place : ℕ) (tail octets others : List ℕ) (p : List ℕ) (ps : Packets) (n : ℕ)
    → Stood all place tail (p ∷ ps) (octets ++ others) → n ≤ length octets
    → HasNoStart all place n → length p < length tail + n → length tail + n ≤ length p
goes_on_by all place tail octets others p [] n s le h lt =
    omega (
      arith,
      ap length s.ahead,
      length-append tail (octets ++ others),
      length-append octets others,
      length-append p
          [],
    )
goes_on_by all place tail octets others p (r ∷ ps) n s le h lt =
    let short : length tail < length p = s.opens in
    absurd (h (length p - length tail) (omega arith)
    (starts_after all place tail p r ps (octets ++ others) (length p - length tail) s (omega arith)))

pub goes_on : (all : Packets) (place : ℕ) (tail octets others : List ℕ) (p : List ℕ) (ps : Packets) (n : ℕ)
    → Stood all place tail (p ∷ ps) (octets ++ others) → n ≤ length octets
    → HasNoStart all place n → length tail + n ≤ length p
goes_on all place tail octets others p ps n s le h =
    elim (cases_lt (length p) (length tail + n)) [
      | inl lt ↦ goes_on_by all place tail octets others p ps n s le h lt
      | inr ge ↦ ge
    ]

-- the first start after an open packet is its end
pub ends_there : (all : Packets) (place : ℕ) (tail octets others : List ℕ) (p : List ℕ) (ps : Packets) (q : ℕ)
    → Stood all place tail (p ∷ ps) (octets ++ others) → 0 < length tail → q < length octets
    → IsStart all (place + q) → HasNoStart all place q → length tail + q ≡ length p
ends_there all place tail octets others p ps q s some lt start h =
    let most : length tail + q ≤ length p = goes_on all place tail octets others p ps q s (omega arith) h in
    elim (within start.0 (start.2 ∷ start.1) s.passed ps p (sym start.3 ∙ s.parts)) [
      | inl le ↦ absurd (omega (arith, s.place_is, start.4))
      | inr le ↦ omega (arith, s.place_is, start.4)
    ]

-- and if none is open, the first start is here
pub starts_first : (all : Packets) (place : ℕ) (tail octets others : List ℕ) (ps : Packets) (q : ℕ)
    → Stood all place tail ps (octets ++ others) → length tail ≡ 0 → q < length octets
    → HasNoStart all place q → q ≡ 0
starts_first all place tail octets others [] q s none lt h =
    absurd (omega (arith, none_ahead all place tail octets others s))
starts_first all place tail octets others (p ∷ ps) q s none lt h =
    elim (cases_lt 0 q) [
      | inl some ↦ absurd (h 0 some (starts_here all place tail p ps (octets ++ others) s none))
      | inr le ↦ omega arith
    ]

-- What is delivered with one frame is what arrives with it.

-- what is kept of the octets of an open packet: all of them, or none if one has not arrived
abbrev pub kept : List ℕ → List Bool → List ℕ
kept tail marks = cond (are_set marks) tail []

-- With a frame that arrived, these packets are delivered and this part is kept; with a frame that did not, none.
abbrev pub Told : Bool → List ℕ → Pointer → List ℕ → Packets → List ℕ → Type 0
Told true part pointer payload added after =
    (finished_packets part pointer payload ≡ added) × (part_after part pointer payload ≡ after)
Told false part pointer payload added after = (added ≡ []) × (after ≡ [])

abbrev pub Stepped : Bool → Packets → List ℕ → List Bool → Pointer → List ℕ → Type 0
Stepped c ps tail marks pointer payload =
    (m : Moved c ps tail marks (carried_by pointer payload))
    × Told c (kept tail marks) pointer payload m.added (kept m.begun m.flags)

kept-set : (begun : List ℕ) (n : ℕ) → kept begun (replicate n true) ≡ begun
kept-set begun n = ap (λ (b : Bool). cond b begun []) (all_set n)

kept-lost : (begun : List ℕ) → kept begun (replicate (length begun) false) ≡ []
kept-lost [] = refl
kept-lost (x ∷ begun) = refl

kept-more : (tail payload : List ℕ) (marks : List Bool) (c : Bool) → 0 < length payload
    → kept (tail ++ payload) (marks ++ replicate (length payload) c) ≡ cond (c && are_set marks) (tail ++ payload) []
kept-more tail payload marks c some =
    ap (λ (b : Bool). cond b (tail ++ payload) []) (both_set c marks (length payload) some)

-- ---- only idle data

told_idle : (c : Bool) (payload : List ℕ) → Told c [] OnlyIdle payload [] []
told_idle true payload = (refl, refl)
told_idle false payload = (refl, refl)

step_idle : (c : Bool) (ps : Packets) (tail : List ℕ) (marks : List Bool) (payload : List ℕ) → Opens tail ps
    → length marks ≡ length tail → tail ≡ [] → Stepped c ps tail marks OnlyIdle payload
unfolding moved_within
step_idle c ps [] [] payload opens sized none = (moved_within c ps [] [] [] opens sized, told_idle c payload)
step_idle c ps [] (b ∷ marks) payload opens sized none = absurd (omega arith)
step_idle c ps (x ∷ tail) marks payload opens sized none = absurd (omega (arith, ap length none))

-- ---- no packet starts

told_within : (c : Bool) (tail payload y p : List ℕ) (marks : List Bool) → IsRecord 6 extent_at p
    → p ≡ (tail ++ payload) ++ y → length (tail ++ payload) < length p → 0 < length tail → 0 < length payload
    → Told c (kept tail marks) NoStart payload [] (kept (tail ++ payload) (marks ++ replicate (length payload) c))
told_within true tail payload y p marks is parts short some more =
    let end = ending-short (tail ++ payload) y p is parts short in (
      completed_packet-short (are_set marks) tail payload some end,
      continued_part-short (are_set marks) tail payload
          some end ∙ sym (kept-more tail payload marks true more),
    )
told_within false tail payload y p marks is parts short some more = (refl, kept-more tail payload marks false more)

told_end : (c : Bool) (tail payload p : List ℕ) (marks : List Bool) → IsRecord 6 extent_at p → tail ++ payload ≡ p
    → 0 < length tail
    → Told c (kept tail marks) NoStart payload (cond (c && are_set marks) (p ∷ []) []) []
told_end true tail payload p marks is whole some = (
  completed_packet-whole (are_set marks) tail payload p some is whole,
  continued_part-whole (are_set marks) tail
      payload p some is whole,
)
told_end false tail payload p marks is whole some = (refl, refl)

-- octets up to the end of the open packet
cut_at : (tail octets others p rest : List ℕ) (q : ℕ) → tail ++ (octets ++ others) ≡ p ++ rest
    → length tail + q ≡ length p → q ≤ length octets
    → (tail ++ take q octets ≡ p) × (drop q octets ++ others ≡ rest)
cut_at tail octets others p rest q e size le =
    let front : List ℕ = tail ++ take q octets in
    let behind : List ℕ = drop q octets ++ others in
    let parts : tail ++ (octets ++ others) ≡ front ++ behind =
    ap (λ (xs : List ℕ). tail ++ (xs ++ others)) (sym (take-append-drop q octets))
    ∙ ap (λ (xs : List ℕ). tail ++ xs) (append_assoc (take q octets) (drop q octets) others)
    ∙ sym (append_assoc tail (take q octets) behind) in
    let count : length front ≡ length p = omega (arith, length-append tail (take q octets), length-take q octets) in
    let is : front ≡ p =
    sym (take_at front behind (length p) count) ∙ ap (take (length p)) (sym parts ∙ e)
    ∙ take_at p rest (length p) refl in
    (is, append_cancel_left p _ _ (ap (λ (xs : List ℕ). xs ++ behind) (sym is) ∙ sym parts ∙ e))

step_on_by : (c : Bool) (all : Packets) (place : ℕ) (tail payload others p : List ℕ) (ps : Packets) (marks : List Bool)
    → Stood all place tail (p ∷ ps) (payload ++ others) → length marks ≡ length tail
    → 0 < length payload → 0 < length tail → length tail + length payload ≤ length p
    → (length (tail ++ payload) < length p) ⊎ (length p ≤ length (tail ++ payload))
    → Stepped c (p ∷ ps) tail marks NoStart payload
unfolding moved_within moved_to_end
step_on_by c all place tail payload others p ps marks s sized more some le (inl lt) =
    let stream : (tail ++ payload) ++ others ≡ p ++ concat ps = append_assoc tail payload others ∙ s.ahead in (
      moved_within c (p ∷ ps) tail payload marks lt sized,
      told_within c tail payload (drop (length (tail ++ payload)) p) p marks s.each.0
          (begins (tail ++ payload) others p (concat ps) stream lt) lt some more,
    )
step_on_by c all place tail payload others p ps marks s sized more some le (inr ge) =
    let count : length tail + length payload ≡ length p = omega (arith, length-append tail payload) in
    let cut = cut_at tail payload others p (concat ps) (length payload) s.ahead count (omega arith) in
    let front : take (length payload) payload ≡ payload =
    ap (take (length payload)) (sym (append-nil payload)) ∙ take_at payload [] (length payload) refl in
    let whole : tail ++ payload ≡ p = ap (λ (xs : List ℕ). tail ++ xs) (sym front) ∙ cut.0 in (
      moved_to_end c p ps tail payload marks s.each.1 whole s.opens sized,
      told_end c tail payload p marks s.each.0 whole
          some,
    )

step_on : (c : Bool) (all : Packets) (place : ℕ) (tail payload others : List ℕ) (ps : Packets) (marks : List Bool)
    → Stood all place tail ps (payload ++ others) → length marks ≡ length tail
    → 0 < length payload → HasNoStart all place (length payload) → Stepped c ps tail marks NoStart payload
step_on c all place tail payload others [] marks s sized more h =
    absurd (omega (arith, none_ahead all place tail payload others s))
step_on c all place tail payload others (p ∷ ps) marks s sized more h =
    step_on_by c all place tail payload others p ps marks s sized more
    (some_open all place tail p ps (payload ++ others) (length payload) s more h)
    (goes_on all place tail payload others p ps (length payload) s (omega arith) h)
    (cases_lt (length (tail ++ payload)) (length p))

-- ---- a packet starts

told_start : (c : Bool) (payload ys begun : List ℕ) (ws : Packets) (q : ℕ) → drop q payload ≡ ys
    → records_of 6 extent_at ys ≡ ws → rest_of 6 extent_at ys ≡ begun → opened_part begun ≡ begun
    → Told c [] (At q) payload (cond c ws []) (kept begun (replicate (length begun) c))
told_start true payload ys begun ws q behind records rest is = (
  ap (records_of 6 extent_at) behind ∙ records,
  ap (λ (xs : List ℕ). opened_part (rest_of 6 extent_at xs)) behind
      ∙ ap opened_part rest ∙ is ∙ sym (kept-set begun (length begun)),
)
told_start false payload ys begun ws q behind records rest is = (refl, kept-lost begun)

told_both : (c : Bool) (tail payload p begun : List ℕ) (marks : List Bool) (ws : Packets) (q : ℕ) → 0 < length tail
    → IsRecord 6 extent_at p → tail ++ take q payload ≡ p
    → records_of 6 extent_at (drop q payload) ≡ ws → rest_of 6 extent_at (drop q payload) ≡ begun
    → opened_part begun ≡ begun
    → Told c (kept tail marks) (At q) payload (cond (c && are_set marks) (p ∷ []) [] ++ cond c ws [])
    (kept begun (replicate (length begun) c))
told_both true tail payload p begun marks ws q some each whole records rest is = (
  ap (λ (xs : Packets). xs ++ records_of 6 extent_at (drop q payload))
      (completed_packet-whole (are_set marks) tail (take q payload) p some each whole)
      ∙ ap (λ (xs : Packets). cond (are_set marks) (p ∷ []) [] ++ xs) records,
  ap opened_part rest ∙ is ∙ sym (kept-set begun (length begun)),
)
told_both false tail payload p begun marks ws q some each whole records rest is = (refl, kept-lost begun)

begun_ahead : (ps whole left : Packets) (octets others begun : List ℕ) → octets ++ others ≡ concat ps
    → ps ≡ whole ++ left → octets ≡ concat whole ++ begun → begun ++ others ≡ concat left
begun_ahead ps whole left octets others begun e parts cut =
    append_cancel_left (concat whole) _ _
    (sym (append_assoc (concat whole) begun others) ∙ ap (λ (xs : List ℕ). xs ++ others) (sym cut) ∙ e ∙ ap concat parts
    ∙ concat-append whole left)

step_start : (c : Bool) (ps : Packets) (payload others : List ℕ) → AreRecords ps → payload ++ others ≡ concat ps
    → Stepped c ps [] [] (At 0) payload
unfolding moved_from_end
step_start c ps payload others each e =
    let k = cut_of ps payload others each e in
    let both : AreRecords (k.whole ++ k.left) = subst AreRecords k.parts each in
    let whole : AreRecords k.whole = records-before k.whole k.left both in
    let left : AreRecords k.left = records-behind k.whole k.left both in
    let ahead : k.begun ++ others ≡ concat k.left =
    begun_ahead ps k.whole k.left payload others k.begun e k.parts k.cut in
    let records = records-cut payload k.begun others k.whole k.left whole left k.cut k.opens ahead in (
      moved_from_end c ps k.whole k.left payload k.begun whole k.parts k.cut k.opens,
      told_start c payload payload k.begun k.whole 0 refl records.0 records.1
          (opened_part-cut k.begun others k.left left k.opens ahead),
    )

step_end : (c : Bool) (ps : Packets) (tail payload others p : List ℕ) (marks : List Bool) (q : ℕ) → AreRecords (p ∷ ps)
    → tail ++ (payload ++ others) ≡ p ++ concat ps → length tail < length p → length marks ≡ length tail
    → 0 < length tail → length tail + q ≡ length p → q ≤ length payload → Stepped c (p ∷ ps) tail marks (At q) payload
unfolding moved_to_end moved_from_end moved_both
step_end c ps tail payload others p marks q each e short sized some size le =
    let cut = cut_at tail payload others p (concat ps) q e size le in
    let ys : List ℕ = drop q payload in
    let k = cut_of ps ys others each.1 cut.1 in
    let both : AreRecords (k.whole ++ k.left) = subst AreRecords k.parts each.1 in
    let whole : AreRecords k.whole = records-before k.whole k.left both in
    let left : AreRecords k.left = records-behind k.whole k.left both in
    let ahead : k.begun ++ others ≡ concat k.left =
    begun_ahead ps k.whole k.left ys others k.begun cut.1 k.parts k.cut in
    let records = records-cut ys k.begun others k.whole k.left whole left k.cut k.opens ahead in (
      moved_both c (p ∷ ps) tail payload (take q payload) ys marks (sym (take-append-drop q payload))
          (moved_to_end c p ps tail (take q payload) marks each.1 cut.0 short sized)
          (moved_from_end c ps k.whole k.left ys k.begun whole k.parts k.cut k.opens),
      told_both c tail payload p k.begun marks k.whole q some each.0 cut.0 records.0 records.1
          (opened_part-cut k.begun others k.left left k.opens ahead),
    )

step_at : (c : Bool) (all : Packets) (place : ℕ) (tail payload others : List ℕ) (ps : Packets) (marks : List Bool)
    (q : ℕ) → Stood all place tail ps (payload ++ others) → length marks ≡ length tail
    → q < length payload → IsStart all (place + q) → HasNoStart all place q → Stepped c ps tail marks (At q) payload
step_at c all place [] payload others ps [] q s sized lt start h =
    let first : q ≡ 0 = starts_first all place [] payload others ps q s refl lt h in
    subst (λ (n : ℕ). Stepped c ps [] [] (At n) payload) (sym first) (step_start c ps payload others s.each s.ahead)
step_at c all place [] payload others ps (b ∷ marks) q s sized lt start h = absurd (omega arith)
step_at c all place (x ∷ tail) payload others [] marks q s sized lt start h = absurd (omega (arith, ap length s.opens))
step_at c all place (x ∷ tail) payload others (p ∷ ps) marks q s sized lt start h =
    let some : 0 < length (x ∷ tail) = omega arith in
    let size : length (x ∷ tail) + q ≡ length p =
    ends_there all place (x ∷ tail) payload others p ps q s some lt start h in
    step_end c ps (x ∷ tail) payload others p marks q s.each s.ahead s.opens sized some size (omega arith)

-- ---- any frame

pub step_of : (c : Bool) (all : Packets) (place : ℕ) (tail payload others : List ℕ) (ps : Packets) (marks : List Bool)
    (pointer : Pointer) → Stood all place tail ps (carried_by pointer payload ++ others)
    → length marks ≡ length tail → 0 < length payload → IsPointed all place pointer (length payload)
    → Stepped c ps tail marks pointer payload
step_of c all place tail payload others ps marks OnlyIdle s sized some h =
    step_idle c ps tail marks payload s.opens sized (none_open all place tail ps others s h)
step_of c all place tail payload others ps marks NoStart s sized some h =
    step_on c all place tail payload others ps marks s sized some h
step_of c all place tail payload others ps marks (At q) s sized some h =
    step_at c all place tail payload others ps marks q s sized h.0 h.1 h.2
