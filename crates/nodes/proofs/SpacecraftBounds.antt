-- How many packets a spacecraft holds, and how long they are.
use Rattle.std.proofs.Common.{◌≡◌, ◌≤◌, ◌<◌, ◌+◌, ◌-◌, ◌*◌, ◌++◌, ◌∷◌, [], ℕ, true, false, List, Option, Some}
use Rattle.std.proofs.Common.{None, IfSome, length, take, ap, sym, ◌∙◌, ◌⊎◌, inl, inr, refl, arith, lit≤}
use Rattle.std.proofs.Common.{length-append, zero-add}
use Rattle.std.specs.Prelude.{◌==◌, max}
use Rattle.std.specs.List.{AllByRecursion, concat, sum_by}
use Rattle.std.proofs.Math.Nat.{mul-le-mul_right, suc-mul}
use Rattle.std.proofs.lemmas.Bool.{cond_both, and_parts, ltb-false, not-true}
use Rattle.std.proofs.lemmas.List.{length-drop, length-map}
use Rattle.std.proofs.lemmas.List.Sums.{sum_by-append}
use Rattle.circular_buffer.specs.Buffer.{keep_last}
use Rattle.octets.specs.Records.{IsRecord, IsSplit, records_of, rest_of}
use Rattle.octets.proofs.Streams.{split_of}
use Rattle.space_packet.specs.Decoding.{extent_at}
use Rattle.space_packet.specs.Laws.{extent_has_header, extent_is}
use Rattle.tc_frame.specs.declared.frame.SegmentFlags.{SegmentFlags}
use Rattle.tc_frame.specs.declared.frame.SegmentFlags.TheVariants.{First, Continuing, Last, Alone}
use Rattle.tc_frame.specs.Layout.{SegmentView}
use Rattle.map_service.specs.declared.dropped.Dropped.{Dropped}
use Rattle.map_service.specs.declared.dropped.Dropped.TheVariants.{TooLong}
use Rattle.map_service.specs.declared.limits.Limits.{Limits}
use Rattle.map_service.specs.Assembly.{is_open, is_too_long, open_part, unless_too_long, ending_part, of_map}
use Rattle.map_service.specs.AssemblerTable.{one_fault, alone_fault, alone_packets, drop_outcome, packets_outcome}
use Rattle.map_service.specs.AssemblerTable.{part_outcome, interruption, cell, take_step}
use Rattle.map_service.specs.Packets.{packets_in}
use Rattle.map_service.proofs.Groups.{behind-each}
use Rattle.map_service.proofs.Handed as handed
use Rattle.map_service.proofs.Parts.{all-append}
use Rattle.nodes.specs.declared.config.Config.{Config}
use Rattle.nodes.specs.BypassSegments.{is_kept}
use Rattle.nodes.specs.Packets.{PacketOn, AreWithin, packet_on, put_on_map}
use Rattle.nodes.specs.Parameters.{limits_of}
use Rattle.nodes.specs.Spacecraft.{SpacecraftState}
use Rattle.nodes.specs.SpacecraftBounds.{octets_together, most_ready, IsReadyWithin, IsPastWithin, IsBounded}

-- ---- the packets that a segment makes ready

-- at most one packet or, with blocking, several within these octets, each of at least 7 octets
AreMadeOf : Limits → List ℕ → List (List ℕ) → Type 0
AreMadeOf limits octets packets =
    (length packets ≤ 1)
    ⊎ ((limits.blocking ≡ true) × (7 * length packets ≤ length octets) × (sum_by length packets ≤ length octets))

sevens : (records : List (List ℕ)) → AllByRecursion (IsRecord 6 extent_at) records
    → 7 * length records ≤ length (concat records)
sevens [] h = omega arith
sevens (r ∷ rs) h =
    omega (arith, length-append r (concat rs), (extent_is (take 6 r) (length r) h.0.extent_is).total, sevens rs h.1)

sum_more : {X : Type 0} (f : X → ℕ) (x : X) (xs : List X) → sum_by f (x ∷ xs) ≡ f x + sum_by f xs
sum_more f x xs = sum_by-append f (x ∷ []) xs ∙ ap (λ (n : ℕ). n + sum_by f xs) (zero-add (f x))

joined : (records : List (List ℕ)) → sum_by length records ≡ length (concat records)
joined [] = refl
joined (r ∷ rs) = omega (arith, length-append r (concat rs), joined rs, sum_more (length {A = ℕ}) r rs)

several_made : (limits : Limits) (octets : List ℕ) → limits.blocking ≡ true
    → AreMadeOf limits octets (packets_in octets)
unfolding AreMadeOf
several_made limits octets blocking =
    let split : IsSplit 6 extent_at octets (records_of 6 extent_at octets) (rest_of 6 extent_at octets) =
    split_of 6 extent_at (lit≤ tt) extent_has_header octets in
    let records : List (List ℕ) = records_of 6 extent_at octets in
    let count = length-append (concat records) (rest_of 6 extent_at octets) in
    inr (
      blocking,
      omega (arith, ap length split.whole, count, sevens records split.each),
      omega (arith, ap length split.whole, count, joined records),
    )

lone_made : (limits : Limits) (octets packet : List ℕ) → AreMadeOf limits octets (packet ∷ [])
unfolding AreMadeOf
lone_made limits octets packet = inl (omega arith)

none_made : (limits : Limits) (octets : List ℕ) → AreMadeOf limits octets []
unfolding AreMadeOf
none_made limits octets = inl (omega arith)

alone_made : (limits : Limits) (octets : List ℕ) → AreMadeOf limits octets (alone_packets limits octets)
alone_made limits octets =
    cond_both limits.blocking (packets_in octets) (octets ∷ []) (AreMadeOf limits octets)
    (several_made limits octets) (λ _. lone_made limits octets octets)

given_made : (limits : Limits) (octets : List ℕ) (earlier : Option Dropped) (packets : List (List ℕ))
    (fault : Option Dropped) → AreMadeOf limits octets packets
    → AreMadeOf limits octets (packets_outcome earlier packets fault).packets
given_made limits octets earlier packets None made = made
given_made limits octets earlier packets (Some cause) made = none_made limits octets

opened_made : (limits : Limits) (earlier : Option Dropped) (octets part : List ℕ)
    → AreMadeOf limits octets (part_outcome limits earlier part).packets
opened_made limits earlier octets part =
    cond_both (is_too_long limits part) (drop_outcome TooLong) _ (λ o. AreMadeOf limits octets o.packets)
    (λ _. none_made limits octets) (λ _. none_made limits octets)

cell_made : (limits : Limits) (flags : SegmentFlags) (part : Option (List ℕ)) (octets : List ℕ)
    → AreMadeOf limits octets (cell limits flags part octets).packets
cell_made limits Alone part octets =
    given_made limits octets (interruption part) _ (alone_fault limits octets) (alone_made limits octets)
cell_made limits First part octets = opened_made limits (interruption part) octets octets
cell_made limits Continuing (Some part) octets = opened_made limits None octets (part ++ octets)
cell_made limits Last (Some part) octets =
    given_made limits octets None _ (one_fault limits (part ++ octets)) (lone_made limits octets (part ++ octets))
cell_made limits _ _ octets = none_made limits octets

taken_made : (limits : Limits) (part : Option (List ℕ)) (s : SegmentView)
    → AreMadeOf limits s.payload (take_step limits part s).packets
taken_made limits part s =
    cond_both (is_open limits s.header.map) (cell limits s.header.flags part s.payload) _
    (λ o. AreMadeOf limits s.payload o.packets)
    (λ _. cell_made limits s.header.flags part s.payload) (λ _. none_made limits s.payload)

-- ---- how many packets there are, and how long they are

pub record IsMade (limits : Limits) (packets : List (List ℕ)) : Type 0 where
  pub few : length packets ≤ 145
  pub unblocked : limits.blocking ≡ false → length packets ≤ 1
  pub within : handed.AreWithin limits.max_packet packets
  pub together : sum_by length packets ≤ max limits.max_packet 1016

one_together : (most : ℕ) (packets : List (List ℕ)) → length packets ≤ 1 → handed.AreWithin most packets
    → sum_by length packets ≤ most
one_together most [] few within = omega arith
one_together most (p ∷ []) few within = omega (arith, within.0)
one_together most (p ∷ q ∷ ps) few within = absurd (omega (arith, few))

pub is_made : (limits : Limits) (part : Option (List ℕ)) (s : SegmentView) → length s.payload ≤ 1016
    → IsMade limits (take_step limits part s).packets
unfolding AreMadeOf
is_made limits part s short =
    let packets : List (List ℕ) = (take_step limits part s).packets in
    let within = handed.taken_within limits part s in
    elim (taken_made limits part s) [
      | inl one ↦ record {
        few = omega (arith, one);
        unblocked = λ _. one;
        within = within;
        together = omega (arith, one_together limits.max_packet packets one within);
      }
      | inr several ↦ record {
        few = omega (arith, several.1, short);
        unblocked = λ none. absurd (cc (none, several.0));
        within = within;
        together = omega (arith, several.2, short);
      }
    ]

-- ---- the packets that wait

put_together : (m : ℕ) (packets : List (List ℕ)) → octets_together (put_on_map m packets) ≡ sum_by length packets
put_together m [] = refl
put_together m (p ∷ ps) =
    sum_more (λ (p : PacketOn). length p.octets) (packet_on m p) (put_on_map m ps)
    ∙ ap (λ (n : ℕ). length p + n) (put_together m ps) ∙ sym (sum_more length p ps)

put_within : (most m : ℕ) (packets : List (List ℕ)) → handed.AreWithin most packets
    → AreWithin most (put_on_map m packets)
put_within most m [] within = tt
put_within most m (p ∷ ps) within = (within.0, put_within most m ps within.1)

each_together : (most : ℕ) (packets : List PacketOn) → AreWithin most packets
    → octets_together packets ≤ length packets * most
each_together most [] within = omega arith
each_together most (p ∷ ps) within =
    let more : length (p ∷ ps) * most ≡ length ps * most + most = suc-mul (length ps) most in
    omega (
      arith,
      within.0,
      each_together most ps within.1,
      more,
      sum_more (λ (p : PacketOn). length p.octets) p ps,
    )

-- the packets of one more frame arrive while fewer wait than there are slots
pub ready_with : (c : Config) (ready : List PacketOn) (m : ℕ) (packets : List (List ℕ)) → IsReadyWithin c ready
    → length ready < c.ready_slots → IsMade (limits_of c) packets
    → IsReadyWithin c (ready ++ put_on_map m packets)
ready_with c ready m packets is below made =
    let count : length (ready ++ put_on_map m packets) ≡ length ready + length packets =
    omega (arith, length-append ready (put_on_map m packets), length-map packets (packet_on m)) in
    let sum : octets_together (ready ++ put_on_map m packets) ≡ octets_together ready + sum_by length packets =
    sum_by-append (λ (p : PacketOn). length p.octets) ready (put_on_map m packets)
    ∙ ap (λ (n : ℕ). octets_together ready + n) (put_together m packets) in
    let before : octets_together ready ≤ length ready * c.max_packet = each_together c.max_packet ready is.within in
    let slots : length ready * c.max_packet ≤ (c.ready_slots - 1) * c.max_packet =
    mul-le-mul_right c.max_packet (omega (arith, below)) in
    record {
      count = omega (arith, count, below, made.few);
      unblocked = λ none. omega (arith, count, below, made.unblocked (rw none refl));
      within = all-append (λ (p : PacketOn). length p.octets ≤ c.max_packet) ready (put_on_map m packets) is.within
          (put_within c.max_packet m packets made.within);
      together = omega (arith, sum, before, slots, made.together);
    }

-- there is room for them
pub room_for : (c : Config) (ready : List PacketOn) (packets : List (List ℕ)) → length ready < c.ready_slots
    → IsMade (limits_of c) packets → length ready + length packets ≤ most_ready c
room_for c ready packets below made =
    cond_both (c.blocking == 1) (c.ready_slots + 144) c.ready_slots
    (λ (n : ℕ). length ready + length packets ≤ n)
    (λ _. omega (arith, below, made.few)) (λ none. omega (arith, below, made.unblocked none))

-- ---- the packets of Type-BD frames

pub kept_few : {X : Type 0} → (n : ℕ) (xs : List X) → length (keep_last n xs) ≤ n
kept_few n xs = omega (arith, length-drop (length xs - n) xs)

-- one more packet is kept
kept_within : (most n : ℕ) (packets : List PacketOn) (packet : PacketOn) → AreWithin most packets
    → length packet.octets ≤ most
    → AreWithin most (keep_last n (packets ++ packet ∷ []))
kept_within most n packets packet within short =
    let all : List PacketOn = packets ++ packet ∷ [] in
    behind-each (λ (p : PacketOn). length p.octets ≤ most) (length all - n) all
    (all-append (λ (p : PacketOn). length p.octets ≤ most) packets (packet ∷ []) within (short, tt))

pub past_with : (c : Config) (bypass : List PacketOn) (packet : PacketOn) → IsPastWithin c bypass
    → length packet.octets ≤ c.max_packet → length packet.octets ≤ 1016
    → IsPastWithin c (keep_last c.bypass_slots (bypass ++ packet ∷ []))
past_with c bypass packet is within short = record {
  count = kept_few c.bypass_slots (bypass ++ packet ∷ []);
  within = kept_within c.max_packet c.bypass_slots bypass packet is.within within;
  short = kept_within 1016 c.bypass_slots bypass packet is.short short;
}

-- the packet of a segment that is kept
pub kept_short : (c : Config) (s : SegmentView) → is_kept c s ≡ true → length s.payload ≤ c.max_packet
kept_short c s kept =
    ltb-false c.max_packet (length s.payload) (not-true _ (and_parts _ _ (and_parts _ _ kept).0).1)

-- ---- open parts

not_too_long : (limits : Limits) (o : Option (List ℕ))
    → IfSome (unless_too_long limits o) (λ part. length part ≤ limits.max_packet)
not_too_long limits None = tt
not_too_long limits (Some octets) =
    cond_both (is_too_long limits octets) None (Some octets)
    (λ (o : Option (List ℕ)). IfSome o (λ part. length part ≤ limits.max_packet))
    (λ t. tt) (λ t. ltb-false limits.max_packet (length octets) t)

both_of : (o : Option (List ℕ)) (P : Type 0) (Q : List ℕ → Type 0) → P → IfSome o Q → IfSome o (λ part. P × Q part)
both_of None P Q p q = tt
both_of (Some part) P Q p q = (p, q)

pub parts_within : (limits : Limits) (m : ℕ) (segments : List SegmentView)
    → IfSome (open_part limits m segments)
    (λ part. (is_open limits m ≡ true) × (length part ≤ limits.max_packet))
parts_within limits m segments =
    cond_both (is_open limits m) (unless_too_long limits (ending_part (of_map m segments))) None
    (λ (o : Option (List ℕ)). IfSome o (λ part. (is_open limits m ≡ true) × (length part ≤ limits.max_packet)))
    (λ t. both_of _ _ _ t (not_too_long limits (ending_part (of_map m segments)))) (λ t. tt)

-- ---- the bounds of a spacecraft

pub bounded : (s : SpacecraftState) → IsReadyWithin s.config s.ready → IsPastWithin s.config s.bypass → IsBounded s
bounded s ready past = record {
  ready = ready;
  past = past;
  parts = λ m. parts_within (limits_of s.config) m s.accepted;
}
