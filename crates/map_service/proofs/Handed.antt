-- What a segment delivers is packets, each exactly one, on an open MAP.
use Rattle.std.proofs.Common.{◌≡◌, ◌<◌, ℕ, Bool, true, false, not, List, [], ◌∷◌, ◌++◌, Option, Some, None, refl}
use Rattle.std.proofs.Common.{sym, ap}
use Rattle.std.proofs.Common.{◌≤◌, length, subst}
use Rattle.std.specs.Prelude.{if◌then◌else◌, nat_lt, is_none}
use Rattle.std.specs.List.{AllByRecursion}
use Rattle.std.proofs.lemmas.Bool.{cond_both, ltb-true, ltb-false, and_parts, or_parts, not-false}
use Rattle.std.proofs.lemmas.List.{append-nil}
use Rattle.tc_frame.specs.declared.frame.SegmentFlags.{SegmentFlags}
use Rattle.tc_frame.specs.declared.frame.SegmentFlags.TheVariants.{First, Continuing, Last, Alone}
use Rattle.tc_frame.specs.Layout.{SegmentView}
use Rattle.map_service.specs.declared.limits.Limits.{Limits}
use Rattle.map_service.specs.declared.dropped.Dropped.{Dropped}
use Rattle.map_service.specs.declared.dropped.Dropped.TheVariants.{NotAPacket, TooLong}
use Rattle.map_service.specs.Assembly.{is_open, is_too_long}
use Rattle.map_service.specs.Packets.{packets_in, rest_in, is_packet, are_packets, is_some_over}
use Rattle.map_service.specs.declared.decision.Action.TheVariants.{HandOut}
use Rattle.map_service.specs.Decision.{outcome_with}
use Rattle.map_service.specs.AssemblerTable.{TakeOutcome, one_fault, several_fault, alone_fault, drop_outcome}
use Rattle.map_service.specs.AssemblerTable.{packets_outcome, part_outcome, interruption, cell, take_step}
use Rattle.map_service.specs.AssemblerTable.{alone_packets, hands_out, hands_out_cell}
use Rattle.map_service.proofs.Groups.{IsWhole, packets-split, again}
use Rattle.map_service.proofs.Passage.{one-from}
use Rattle.map_service.specs.AssemblerTable.{is_dropped_at_once}

abbrev pub AreWhole : List (List ℕ) → Type 0
AreWhole packets = AllByRecursion (λ (p : List ℕ). is_packet p ≡ true) packets

one_whole : (limits : Limits) (octets : List ℕ) → one_fault limits octets ≡ None → is_packet octets ≡ true
one_whole limits octets =
    cond_both (is_too_long limits octets) (Some TooLong) _ (λ (o : Option Dropped). o ≡ None → is_packet octets ≡ true)
    (λ t e. absurd (cc e))
    (λ t. cond_both (not (is_packet octets)) (Some NotAPacket) None
    (λ (o : Option Dropped). o ≡ None → is_packet octets ≡ true)
    (λ t e. absurd (cc e)) (λ t e. not-false (is_packet octets) t))

abbrev handing : Option Dropped → List (List ℕ) → TakeOutcome
handing dropped packets = record { dropped = dropped; packets = packets; part = None }

alone_by : (limits : Limits) (octets : List ℕ) (blocking : Bool)
    → (if blocking then several_fault limits octets else one_fault limits octets) ≡ None
    → packets_in octets ≡ (if blocking then packets_in octets else octets ∷ [])
alone_by limits octets true e = refl
alone_by limits octets false e = (one-from octets (one_whole limits octets e)).1

-- the packets that a segment flagged alone delivers
pub alone_packets_are : (limits : Limits) (octets : List ℕ) → alone_fault limits octets ≡ None
    → packets_in octets ≡ alone_packets limits octets
alone_packets_are limits octets none = alone_by limits octets limits.blocking none

-- a segment flagged alone whose packets are delivered; the open part is dropped
pub handed_out : (limits : Limits) (part : Option (List ℕ)) (octets : List ℕ) → alone_fault limits octets ≡ None
    → outcome_with limits HandOut (interruption part) part octets ≡ cell limits Alone part octets
handed_out limits part octets none =
    rw none (ap (handing (interruption part)) (alone_packets_are limits octets none))

no_fault : (fault : Option Dropped) → is_none fault ≡ true → fault ≡ None
no_fault None e = refl
no_fault (Some cause) e = absurd cc

handed_cell : (limits : Limits) (flags : SegmentFlags) (part : Option (List ℕ)) (octets : List ℕ)
    → hands_out_cell limits flags octets ≡ true → (cell limits flags part octets).packets ≡ packets_in octets
handed_cell limits Alone part octets e =
    let none : alone_fault limits octets ≡ None = no_fault (alone_fault limits octets) e in
    rw none (sym (alone_packets_are limits octets none))
handed_cell limits First part octets e = absurd cc
handed_cell limits Continuing part octets e = absurd cc
handed_cell limits Last part octets e = absurd cc

-- the packets delivered are those in the segment's octets
pub handed_packets : (limits : Limits) (part : Option (List ℕ)) (s : SegmentView) → hands_out limits s ≡ true
    → (take_step limits part s).packets ≡ packets_in s.payload
handed_packets limits part s e =
    let both = and_parts (is_open limits s.header.map) (hands_out_cell limits s.header.flags s.payload) e in
    rw both.0 (handed_cell limits s.header.flags part s.payload both.1)

pub lone_whole : (p : List ℕ) → IsWhole (p ∷ []) → is_packet p ≡ true
lone_whole p h =
    let only = subst (λ (xs : List ℕ). (p ∷ [] ≡ packets_in xs) × ([] ≡ rest_in xs)) (append-nil p) (again (p ∷ []) h)
    in
    rw (← only.0, ← only.1) refl

pub each_whole : (packets : List (List ℕ)) → IsWhole packets → AreWhole packets
each_whole [] h = tt
each_whole (p ∷ ps) h = (lone_whole p (h.0, tt), each_whole ps h.1)

several_whole : (limits : Limits) (octets : List ℕ) → several_fault limits octets ≡ None
    → AreWhole (packets_in octets)
several_whole limits octets =
    cond_both (not (are_packets octets)) (Some NotAPacket) _
    (λ (o : Option Dropped). o ≡ None → AreWhole (packets_in octets)) (λ t e. absurd (cc e))
    (λ t e. each_whole (packets_in octets) (packets-split octets).each)

alone_whole : (limits : Limits) (octets : List ℕ) (blocking : Bool)
    → (if blocking then several_fault limits octets else one_fault limits octets) ≡ None
    → AreWhole (if blocking then packets_in octets else octets ∷ [])
alone_whole limits octets true e = several_whole limits octets e
alone_whole limits octets false e = (one_whole limits octets e, tt)

-- What holds of no packets, of the packets that a segment flagged alone delivers, and of the packet that a last
-- segment delivers, holds of the packets of each cell.
module _ (P : List (List ℕ) → Type 0) (none : P []) where
  of_packets : (earlier : Option Dropped) (packets : List (List ℕ)) (fault : Option Dropped)
      → (fault ≡ None → P packets) → P (packets_outcome earlier packets fault).packets
  of_packets earlier packets None handed = handed refl
  of_packets earlier packets (Some cause) handed = none

  of_part : (limits : Limits) (earlier : Option Dropped) (octets : List ℕ)
      → P (part_outcome limits earlier octets).packets
  of_part limits earlier octets =
      cond_both (is_too_long limits octets) (drop_outcome TooLong) _ (λ o. P o.packets) (λ t. none) (λ t. none)

  of_cell : (limits : Limits)
      → ((octets : List ℕ) → alone_fault limits octets ≡ None → P (alone_packets limits octets))
      → ((octets : List ℕ) → one_fault limits octets ≡ None → P (octets ∷ []))
      → (flags : SegmentFlags) (part : Option (List ℕ)) (octets : List ℕ) → P (cell limits flags part octets).packets
  of_cell limits alone one Alone part octets =
      of_packets (interruption part) _ (alone_fault limits octets) (alone octets)
  of_cell limits alone one First part octets = of_part limits (interruption part) octets
  of_cell limits alone one Continuing None octets = none
  of_cell limits alone one Continuing (Some part) octets = of_part limits None (part ++ octets)
  of_cell limits alone one Last None octets = none
  of_cell limits alone one Last (Some part) octets =
      of_packets None _ (one_fault limits (part ++ octets)) (one (part ++ octets))

cell_whole : (limits : Limits) (flags : SegmentFlags) (part : Option (List ℕ)) (octets : List ℕ)
    → AreWhole (cell limits flags part octets).packets
cell_whole limits =
    of_cell AreWhole tt limits (λ octets. alone_whole limits octets limits.blocking)
    (λ octets e. (one_whole limits octets e, tt))

pub open_below : (limits : Limits) (m : ℕ) → is_open limits m ≡ true → m < 64
open_below limits m e = ltb-true m 64 (and_parts (nat_lt m 64) _ e).0

-- the property of a segment's packets, if it holds of no packets, and of whole packets on an open MAP
pub taken_whole : (P : List (List ℕ) → Type 0) (limits : Limits) (part : Option (List ℕ)) (s : SegmentView)
    → P [] → ((packets : List (List ℕ)) → s.header.map < 64 → AreWhole packets → P packets)
    → P (take_step limits part s).packets
taken_whole P limits part s none whole =
    cond_both (is_open limits s.header.map) (cell limits s.header.flags part s.payload) _ (λ o. P o.packets)
    (λ t. whole (cell limits s.header.flags part s.payload).packets (open_below limits s.header.map t)
    (cell_whole limits s.header.flags part s.payload)) (λ t. none)

-- ---- no packet that is delivered is longer than a packet may be

abbrev pub AreWithin : ℕ → List (List ℕ) → Type 0
AreWithin most packets = AllByRecursion (λ (p : List ℕ). length p ≤ most) packets

none_over : (most : ℕ) (packets : List (List ℕ)) → is_some_over most packets ≡ false → AreWithin most packets
none_over most [] e = tt
none_over most (p ∷ ps) e =
    let both = or_parts (nat_lt most (length p)) (is_some_over most ps) e in
    (ltb-false most (length p) both.0, none_over most ps both.1)

one_within : (limits : Limits) (octets : List ℕ) → one_fault limits octets ≡ None → length octets ≤ limits.max_packet
one_within limits octets =
    cond_both (is_too_long limits octets) (Some TooLong) _
    (λ (o : Option Dropped). o ≡ None → length octets ≤ limits.max_packet)
    (λ t e. absurd (cc e)) (λ t e. ltb-false limits.max_packet (length octets) t)

several_within : (limits : Limits) (octets : List ℕ) → several_fault limits octets ≡ None
    → AreWithin limits.max_packet (packets_in octets)
several_within limits octets =
    cond_both (not (are_packets octets)) (Some NotAPacket) _
    (λ (o : Option Dropped). o ≡ None → AreWithin limits.max_packet (packets_in octets)) (λ t e. absurd (cc e))
    (λ t. cond_both (is_some_over limits.max_packet (packets_in octets)) (Some TooLong) None
    (λ (o : Option Dropped). o ≡ None → AreWithin limits.max_packet (packets_in octets)) (λ t e. absurd (cc e))
    (λ t e. none_over limits.max_packet (packets_in octets) t))

alone_within : (limits : Limits) (octets : List ℕ) (blocking : Bool)
    → (if blocking then several_fault limits octets else one_fault limits octets) ≡ None
    → AreWithin limits.max_packet (if blocking then packets_in octets else octets ∷ [])
alone_within limits octets true e = several_within limits octets e
alone_within limits octets false e = (one_within limits octets e, tt)

pub taken_within : (limits : Limits) (part : Option (List ℕ)) (s : SegmentView)
    → AreWithin limits.max_packet (take_step limits part s).packets
taken_within limits part s =
    cond_both (is_open limits s.header.map) (cell limits s.header.flags part s.payload) _
    (λ o. AreWithin limits.max_packet o.packets)
    (λ t. of_cell (AreWithin limits.max_packet) tt limits (λ octets. alone_within limits octets limits.blocking)
    (λ octets e. (one_within limits octets e, tt)) s.header.flags part s.payload) (λ t. tt)

-- ---- a segment that is dropped without allocating memory delivers nothing

abbrev HandsNothingOut : TakeOutcome → Type 0
HandsNothingOut o = is_dropped_at_once o.dropped ≡ true → o.packets ≡ []

given : (part : Option (List ℕ)) (packets : List (List ℕ)) (fault : Option Dropped)
    → HandsNothingOut (packets_outcome (interruption part) packets fault)
given None packets None e = absurd (cc e)
given (Some part) packets None e = absurd (cc e)
given part packets (Some cause) e = refl

opened : (limits : Limits) (earlier : Option Dropped) (octets : List ℕ)
    → HandsNothingOut (part_outcome limits earlier octets)
opened limits earlier octets =
    cond_both (is_too_long limits octets) (drop_outcome TooLong) _ HandsNothingOut (λ t e. refl) (λ t e. refl)

in_cell : (limits : Limits) (flags : SegmentFlags) (part : Option (List ℕ)) (octets : List ℕ)
    → HandsNothingOut (cell limits flags part octets)
in_cell limits Alone part octets = given part (alone_packets limits octets) (alone_fault limits octets)
in_cell limits First part octets = opened limits (interruption part) octets
in_cell limits Continuing None octets = λ e. refl
in_cell limits Continuing (Some part) octets = opened limits None (part ++ octets)
in_cell limits Last None octets = λ e. refl
in_cell limits Last (Some part) octets = given None ((part ++ octets) ∷ []) (one_fault limits (part ++ octets))

pub none_at_once : (limits : Limits) (part : Option (List ℕ)) (s : SegmentView)
    → HandsNothingOut (take_step limits part s)
none_at_once limits part s =
    cond_both (is_open limits s.header.map) (cell limits s.header.flags part s.payload) _ HandsNothingOut
    (λ t. in_cell limits s.header.flags part s.payload) (λ t e. refl)
