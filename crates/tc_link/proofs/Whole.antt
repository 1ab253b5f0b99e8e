-- How many submissions are whole, by lists of how many segments each has.
use Rattle.tc_link.proofs.Common.{◌≡◌, ◌≢◌, ℕ, ◌+◌, ◌-◌, ◌≤◌, inl, inr, Bool, true, false, eqb}
use Rattle.tc_link.proofs.Common.{List, [], ◌∷◌, ◌++◌, length, take, drop, map, Some, None, refl, ap, sym}
use Rattle.tc_link.proofs.Common.{subst, ◌∙◌, append_assoc, arith, length-append, AllByRecursion}
use Rattle.tc_link.proofs.Common.{eqb-true, eqb-false, cond_both, append-nil, take-append-drop, take_all}
use Rattle.tc_link.proofs.Common.{SegmentView, Limits, is_open, assembled}
use Rattle.tc_link.proofs.Common.{segments_of, assembled_begins, Directive}
use Rattle.tc_link.proofs.Common.{Config, PacketOn, limits_of}
use Rattle.tc_link.proofs.Common.{World, accepted, delivered, PlainLink}
use Rattle.tc_link.proofs.Common.{zero, suc, ◌<◌, Option, ne_eqb}
use Rattle.tc_link.proofs.Common.{take-append-le, assembled-push, assembled-other}
use Rattle.std.specs.List.{flat_map, concat}
use Rattle.std.proofs.lemmas.List.{append_cancel_left}
use Rattle.std.proofs.lemmas.Bool.{cases_lt}
use Rattle.std.proofs.Math.Seq.{take-append-add}
use Rattle.octets.specs.Beginning.{IsBeginning}
use Rattle.tc_frame.specs.declared.frame.SegmentFlags.{SegmentFlags}
use Rattle.tc_frame.specs.declared.frame.SegmentFlags.TheVariants.{First, Continuing, Last, Alone}
use Rattle.map_service.specs.Assembly.{open_part, is_too_long}
use Rattle.map_service.specs.Packets.{packets_in}
use Rattle.map_service.specs.declared.dropped.Dropped.{Dropped}
use Rattle.map_service.specs.AssemblerTable.{TakeOutcome, interruption, part_outcome, cell, take_step}
use Rattle.map_service.specs.Cutting.{pieces_of, flagged_segments, parts_of, groups_of, payloads}
use Rattle.map_service.proofs.Passage.{cuttable_from}
use Rattle.map_service.proofs.Parts.{segments-joined}
use Rattle.nodes.specs.Fates.{without_one, left_after, whole_within}
use Rattle.nodes.proofs.Owed.{fewer_left, left_more, Needs, none_whole, one_whole, with_one}
use Rattle.tc_link.specs.Whole.{segments_each, on_board, submitted_first, IsOneGroup, DeliversWhole}
use Rattle.tc_link.proofs.IdleStart.{InSession, in_session}
use Rattle.tc_link.proofs.Linked.{SessionBy, Linked, IsGiven, units_of_all}
use Rattle.tc_link.proofs.Sound.{Sound}
use Rattle.tc_link.proofs.InOrder.{all_given, is_in_order, accepted_length, delivered_so, sent_length}

abbrev pub total : List ℕ → ℕ
total [] = 0
total (n ∷ ns) = n + total ns

less_total : (ns : List ℕ) → total ns ≤ 1 + total (without_one ns)
less_total [] = omega arith
less_total (suc (suc n) ∷ ns) = omega arith
less_total (_ ∷ ns) = omega arith

-- submissions made later are left over as they are
pub left_with : (k : ℕ) (ns more : List ℕ) → k ≤ total ns → left_after k (ns ++ more) ≡ left_after k ns ++ more
left_with zero ns more le = refl
left_with (suc k) [] more le = absurd (omega (arith, le))
left_with (suc k) (n ∷ ns) more le =
    ap (left_after k) (with_one n ns more)
    ∙ left_with k (without_one (n ∷ ns)) more (omega (arith, le, less_total (n ∷ ns)))

pub whole_still : (k : ℕ) (ns more : List ℕ) → k ≤ total ns → whole_within k (ns ++ more) ≡ whole_within k ns
whole_still k ns more le =
    omega (arith, ap length (left_with k ns more le), length-append {A = ℕ}, (fewer_left k ns).0)

pub whole_more : (j k m : ℕ) (ns : List ℕ) → m ≡ j + k
    → whole_within m ns ≡ whole_within j ns + whole_within k (left_after j ns)
whole_more j k m ns is =
    omega (arith, ap length (left_more j k m ns is), (fewer_left j ns).0, (fewer_left k (left_after j ns)).0)

-- with more segments, at least as many submissions are whole
pub whole_rises : (j k : ℕ) (ns : List ℕ) → j ≤ k → whole_within j ns ≤ whole_within k ns
whole_rises j k ns le = omega (arith, whole_more j (k - j) k ns (omega (arith, le)))

-- ---- the first submission

needs : (n : ℕ) → 1 ≤ n → Needs n n
needs n some = (some, omega arith, λ h. omega arith, λ h. h)

-- within its segments, none is whole
pub whole_first : (k n : ℕ) (ns : List ℕ) → k < n → 0 ≡ whole_within k (n ∷ ns)
whole_first k n ns lt = sym (none_whole k n n ns (needs n (omega (arith, lt))) lt)

-- beyond its segments, there is one more whole than within the others
pub whole_past : (k n : ℕ) (ns : List ℕ) → 1 ≤ n → n ≤ k → suc (whole_within (k - n) ns) ≡ whole_within k (n ∷ ns)
whole_past k n ns some le = omega (arith, one_whole k n n ns (needs n some) le)

-- In a session that had an idle start, what is delivered is the packets of the submissions that are on board
-- whole.

-- ---- segments whose group continues after them deliver nothing

abbrev pub HasMore : SegmentFlags → Type 0
HasMore First = Unit {0}
HasMore Continuing = Unit {0}
HasMore Last = ⊥
HasMore Alone = ⊥

abbrev pub AllHaveMore : List SegmentView → Type 0
AllHaveMore segments = AllByRecursion (λ (s : SegmentView). HasMore s.header.flags) segments

opens_only : (limits : Limits) (earlier : Option Dropped) (octets : List ℕ)
    → (part_outcome limits earlier octets).packets ≡ []
opens_only limits earlier octets =
    cond_both (is_too_long limits octets) _ _ (λ (o : TakeOutcome). o.packets ≡ []) (λ t. refl) (λ t. refl)

cell_none : (limits : Limits) (flags : SegmentFlags) (part : Option (List ℕ)) (octets : List ℕ) → HasMore flags
    → (cell limits flags part octets).packets ≡ []
cell_none limits First part octets more = opens_only limits (interruption part) octets
cell_none limits Continuing None octets more = refl
cell_none limits Continuing (Some part) octets more = opens_only limits None (part ++ octets)
cell_none limits _ _ octets more = elim more [ ]

pub step_none : (limits : Limits) (part : Option (List ℕ)) (s : SegmentView) → HasMore s.header.flags
    → (take_step limits part s).packets ≡ []
step_none limits part s more =
    cond_both (is_open limits s.header.map) _ _ (λ (o : TakeOutcome). o.packets ≡ [])
    (λ t. cell_none limits s.header.flags part s.payload more) (λ t. refl)

one_none : (limits : Limits) (m : ℕ) (before : List SegmentView) (s : SegmentView) (same : Bool)
    → eqb s.header.map m ≡ same → HasMore s.header.flags
    → assembled limits m (before ++ s ∷ []) ≡ assembled limits m before
one_none limits m before s true own more =
    let is : s.header.map ≡ m = eqb-true _ _ own in
    subst (λ (k : ℕ). assembled limits k (before ++ s ∷ []) ≡ assembled limits k before) is
    (assembled-push limits before s _ refl
    ∙ ap (λ (ps : List (List ℕ)). assembled limits s.header.map before ++ ps)
    (step_none limits (open_part limits s.header.map before) s more)
    ∙ append-nil (assembled limits s.header.map before))
one_none limits m before s false other more =
    assembled-other limits before s m (λ (e : m ≡ s.header.map). eqb-false _ _ other (sym e))

all_none : (limits : Limits) (m : ℕ) (before segments : List SegmentView) → AllHaveMore segments
    → assembled limits m (before ++ segments) ≡ assembled limits m before
all_none limits m before [] h = ap (assembled limits m) (append-nil before)
all_none limits m before (s ∷ segments) h =
    ap (assembled limits m) (sym (append_assoc before (s ∷ []) segments))
    ∙ all_none limits m (before ++ s ∷ []) segments h.1
    ∙ one_none limits m before s (eqb s.header.map m) refl h.0

-- ---- a proper prefix of the segments of one group

flagged_more : (front single : SegmentFlags) (m : ℕ) (pieces : List (List ℕ)) (i : ℕ) → HasMore front
    → i < length (flagged_segments front single m pieces)
    → AllHaveMore (take i (flagged_segments front single m pieces))
flagged_more front single m pieces zero more lt = tt
flagged_more front single m (x ∷ y ∷ ys) (suc i) more lt =
    (more, flagged_more Continuing Last m (y ∷ ys) i tt (omega (arith, lt)))
flagged_more front single m _ _ more lt = absurd (omega (arith, lt))

only_group : (part m : ℕ) (groups : List (List (List ℕ))) → length groups ≡ 1
    → (group : List (List ℕ)) × (flat_map (λ g. parts_of part m (concat g)) groups ≡ parts_of part m (concat group))
only_group part m (g ∷ []) one = (g, append-nil (parts_of part m (concat g)))
only_group part m _ one = absurd (omega (arith, one))

begun_more : (part : ℕ) (p : PacketOn) (i : ℕ) → IsOneGroup part p → i < length (segments_of part p.on_map p.octets)
    → AllHaveMore (take i (segments_of part p.on_map p.octets))
begun_more part p i one lt =
    let t = only_group part p.on_map (groups_of part (packets_in p.octets)) one in
    let fewer : i < length (parts_of part p.on_map (concat t.0)) =
    subst (λ (ss : List SegmentView). i < length ss) t.1 lt in
    subst (λ (ss : List SegmentView). AllHaveMore (take i ss)) (sym t.1)
    (flagged_more First Alone p.on_map (pieces_of part (concat t.0)) i tt fewer)

-- ---- submissions that were accepted

some_in : (segments : List SegmentView) (octets : List ℕ) → concat (payloads segments) ≡ octets → 1 ≤ length octets
    → 1 ≤ length segments
some_in [] octets joined some = absurd (omega (arith, ap length joined, some))
some_in (s ∷ segments) octets joined some = omega arith

lone_group : (part : ℕ) (octets : List ℕ) → length (groups_of part (octets ∷ [])) ≡ 1
unfolding groups_of
lone_group part octets = refl

pub given_first : (c : Config) (j : ℕ) (ps : List PacketOn) → AllByRecursion (IsGiven c) ps
    → AllByRecursion (IsGiven c) (take j ps)
given_first c (suc j) (p ∷ ps) h = (h.0, given_first c j ps h.1)
given_first c _ _ h = tt

abbrev pub each : ℕ → List PacketOn → List ℕ
each part ps = map (λ (p : PacketOn). length (segments_of part p.on_map p.octets)) ps

-- without blocking each submission is one group, since it is one packet
pub all_single : (c : Config) → c.blocking ≢ 1 → (ps : List PacketOn) → AllByRecursion (IsGiven c) ps
    → AllByRecursion (IsOneGroup c.part) ps
all_single c without [] h = tt
all_single c without (p ∷ ps) h =
    let one : packets_in p.octets ≡ p.octets ∷ [] =
    (cuttable_from (limits_of c) p.octets h.0.cut).one (ne_eqb c.blocking 1 without) in
    let single : IsOneGroup c.part p =
    ap (λ (packets : List (List ℕ)). length (groups_of c.part packets)) one ∙ lone_group c.part p.octets in
    (single, all_single c without ps h.1)

-- The first k segments are those of the first whole submissions, and a part of the next
-- submission's.
pub record CutAt (c : Config) (k : ℕ) (ps : List PacketOn) : Type 0 where
  pub whole : ℕ
  pub whole_is : whole ≡ whole_within k (each c.part ps)
  pub part : List SegmentView
  pub taken : take k (units_of_all c ps) ≡ units_of_all c (take whole ps) ++ part
  rest : List SegmentView
  next : units_of_all c (take (suc whole) ps) ≡ take k (units_of_all c ps) ++ rest
  pub more : AllByRecursion (IsOneGroup c.part) ps → AllHaveMore part

module _ (c : Config) (one : 1 ≤ c.part) where
  abbrev cut_of : PacketOn → List SegmentView
  cut_of p = segments_of c.part p.on_map p.octets

  some_segments : (p : PacketOn) → IsGiven c p → 1 ≤ length (cut_of p)
  some_segments p h =
      let cut = cuttable_from (limits_of c) p.octets h.cut in
      some_in (cut_of p) p.octets (segments-joined c.part p.on_map p.octets one cut.whole) cut.some

  within_first : (k : ℕ) (p : PacketOn) (ps : List PacketOn) → k < length (cut_of p) → CutAt c k (p ∷ ps)
  within_first k p ps lt =
      let beginning : take k (cut_of p ++ units_of_all c ps) ≡ take k (cut_of p) =
      take-append-le k (cut_of p) (units_of_all c ps) (omega (arith, lt)) in
      record {
        whole = 0;
        whole_is = whole_first k (length (cut_of p)) (each c.part ps) lt;
        part = take k (cut_of p);
        taken = beginning;
        rest = drop k (cut_of p);
        next = append-nil (cut_of p) ∙ sym (take-append-drop k (cut_of p))
            ∙ ap (λ (xs : List SegmentView). xs ++ drop k (cut_of p)) (sym beginning);
        more = λ single. begun_more c.part p k single.0 lt;
      }

  past_first : (k : ℕ) (p : PacketOn) (ps : List PacketOn) → 1 ≤ length (cut_of p) → length (cut_of p) ≤ k
      → CutAt c (k - length (cut_of p)) ps → CutAt c k (p ∷ ps)
  past_first k p ps some le t =
      let n = length (cut_of p) in
      let split : k ≡ n + (k - n) = omega (arith, le) in
      let past : take k (cut_of p ++ units_of_all c ps) ≡ cut_of p ++ take (k - n) (units_of_all c ps) =
      ap (λ (j : ℕ). take j (cut_of p ++ units_of_all c ps)) split
      ∙ take-append-add (cut_of p) (units_of_all c ps) (k - n) in
      record {
        whole = suc t.whole;
        whole_is = ap (λ (j : ℕ). suc j) t.whole_is ∙ whole_past k n (each c.part ps) some le;
        part = t.part;
        taken = past ∙ ap (λ (xs : List SegmentView). cut_of p ++ xs) t.taken
            ∙ sym (append_assoc (cut_of p) (units_of_all c (take t.whole ps)) t.part);
        rest = t.rest;
        next = ap (λ (xs : List SegmentView). cut_of p ++ xs) t.next
            ∙ sym (append_assoc (cut_of p) (take (k - n) (units_of_all c ps)) t.rest)
            ∙ ap (λ (xs : List SegmentView). xs ++ t.rest) (sym past);
        more = λ single. t.more single.1;
      }

  cut_at : (k : ℕ) (ps : List PacketOn) → AllByRecursion (IsGiven c) ps → CutAt c k ps
  cut_at k [] h = record {
    whole = 0;
    whole_is = omega arith;
    part = [];
    taken = take_all k [] (omega arith);
    rest = [];
    next = sym (append-nil (take k []) ∙ take_all k [] (omega arith));
    more = λ single. tt;
  }
  cut_at k (p ∷ ps) h =
      elim (cases_lt k (length (cut_of p))) [
        | inl lt ↦ within_first k p ps lt
        | inr ge ↦ past_first k p ps (some_segments p h.0) ge (cut_at (k - length (cut_of p)) ps h.1)
      ]

-- ---- what is delivered

module _ (early : Bool) {Reached : PlainLink → Type 0} (c : Config) (d : Directive) (base : ℕ) (w : World)
    (g : SessionBy early Reached c d base w) (k : Sound c w) where
  abbrev plain : PlainLink
  plain = g.plain

  abbrev linked : Linked c d base w plain g.front g.frames g.reports
  linked = g.linked

  abbrev ps : List PacketOn
  ps = w.session.submissions

  board_is : on_board w ≡ whole_within plain.r (each c.part ps)
  board_is =
      ap (λ (n : ℕ). whole_within n (segments_each w)) (accepted_length early c d base w g k)
      ∙ ap (λ (x : Config). whole_within plain.r (each x.part ps)) k.ground_node.config

  pub cut : CutAt c plain.r ps
  cut = cut_at c k.ranges.part.0 plain.r ps linked.given

  pub is_cut : on_board w ≡ cut.whole
  is_cut = board_is ∙ sym cut.whole_is

  module _ (m : ℕ) where
    abbrev lims : Limits
    lims = limits_of c

    abbrev olds : List SegmentView
    olds = take w.session.before w.spacecraft.accepted

    -- the segments of the first submissions yield their packets
    first_give : (j : ℕ) → assembled lims m (olds ++ units_of_all c (take j ps)) ≡ assembled lims m olds
        ++ submitted_first j w m
    first_give j = all_given c m k.ranges.part.0 olds (take j ps) (given_first c j ps linked.given)

    abbrev front : List SegmentView
    front = olds ++ units_of_all c (take cut.whole ps)

    gives : assembled lims m olds ++ delivered w m ≡ assembled lims m (front ++ cut.part)
    gives =
        sym (delivered_so early c d base w g k m)
        ∙ ap (λ (us : List SegmentView). assembled lims m (olds ++ us)) (ap (take plain.r) linked.units_are ∙ cut.taken)
        ∙ ap (assembled lims m) (sym (append_assoc olds (units_of_all c (take cut.whole ps)) cut.part))

    delivers_exactly : AllByRecursion (IsOneGroup c.part) ps → delivered w m ≡ submitted_first (on_board w) w m
    delivers_exactly single =
        append_cancel_left (assembled lims m olds) (delivered w m) (submitted_first cut.whole w m)
        (gives ∙ all_none lims m front cut.part (cut.more single) ∙ first_give cut.whole)
        ∙ ap (λ (j : ℕ). submitted_first j w m) (sym is_cut)

    delivers_least : IsBeginning (submitted_first (on_board w) w m) (delivered w m)
    delivers_least =
        let more = assembled_begins lims m front cut.part in
        let both : assembled lims m olds ++ delivered w m
        ≡ assembled lims m olds ++ (submitted_first cut.whole w m ++ more.0) =
        gives ∙ more.1 ∙ ap (λ (xs : List (List ℕ)). xs ++ more.0) (first_give cut.whole)
        ∙ append_assoc (assembled lims m olds) (submitted_first cut.whole w m) more.0 in (
          more.0,
          append_cancel_left (assembled lims m olds) (delivered w m) (submitted_first cut.whole w m ++ more.0) both
              ∙ ap (λ (j : ℕ). submitted_first j w m ++ more.0) (sym is_cut),
        )

    delivers_most : IsBeginning (delivered w m) (submitted_first (suc (on_board w)) w m)
    delivers_most =
        let after = assembled_begins lims m (olds ++ take plain.r plain.units) cut.rest in
        let joined : olds ++ units_of_all c (take (suc cut.whole) ps) ≡ (olds ++ take plain.r plain.units) ++ cut.rest =
        ap (λ (us : List SegmentView). olds ++ us)
        (cut.next ∙ ap (λ (us : List SegmentView). take plain.r us ++ cut.rest) (sym linked.units_are))
        ∙ sym (append_assoc olds (take plain.r plain.units) cut.rest) in
        let both : assembled lims m olds ++ submitted_first (suc cut.whole) w m
        ≡ assembled lims m olds ++ (delivered w m ++ after.0) =
        sym (first_give (suc cut.whole)) ∙ ap (assembled lims m) joined ∙ after.1
        ∙ ap (λ (xs : List (List ℕ)). xs ++ after.0) (delivered_so early c d base w g k m)
        ∙ append_assoc (assembled lims m olds) (delivered w m) after.0 in (
          after.0,
          ap (λ (j : ℕ). submitted_first (suc j) w m) is_cut
              ∙ append_cancel_left (assembled lims m olds) (submitted_first (suc cut.whole) w m)
              (delivered w m ++ after.0) both,
        )

  whole_by : w.session.acknowledged ≤ length (accepted w) → DeliversWhole w
  whole_by acknowledged =
      let same : w.ground_node.config ≡ c = k.ground_node.config in
      let most : length (accepted w) ≤ length w.session.sent =
      omega (arith, accepted_length early c d base w g k, sent_length early c d base w g k, linked.r_n) in
      record {
        exactly = λ single m.
            delivers_exactly m (subst (λ (x : Config). AllByRecursion (IsOneGroup x.part) ps) same single);
        single = λ without. subst (λ (x : Config). AllByRecursion (IsOneGroup x.part) ps) (sym same)
            (all_single c (subst (λ (x : Config). x.blocking ≢ 1) same without) ps linked.given);
        least = delivers_least;
        most = delivers_most;
        acknowledged = whole_rises w.session.acknowledged (length (accepted w)) (segments_each w) acknowledged;
        sent = whole_rises (length (accepted w)) (length w.session.sent) (segments_each w) most;
      }

pub delivers_whole : (c : Config) (w : World) → Sound c w → InSession c w → DeliversWhole w
delivers_whole c w k s =
    in_session s (λ early g. whole_by early c s.directive s.base w g k (is_in_order c w k s).counted.1)
