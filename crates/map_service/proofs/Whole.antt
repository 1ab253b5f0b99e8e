-- Octets as whole packets, one after another: how they are judged, and that they are exactly those that spell
-- packets.
use Rattle.std.proofs.Common.{◌≡◌, ◌≤◌, ◌<◌, ℕ, Bool, true, false, ltb, eqb, List, length, take, drop, Some, None, sym}
use Rattle.std.proofs.Common.{refl, ap, ◌∙◌, arith, length-take, [], ◌∷◌, subst, length-append}
use Rattle.std.specs.Prelude.{◌||◌}
use Rattle.std.proofs.Math.Bool.{or-false}
use Rattle.std.proofs.lemmas.Bool.{lt-ltb}
use Rattle.std.proofs.lemmas.Bool.Decides.{nat_tests}
use Rattle.space_packet.specs.Packets.{first_packet, packets_in, rest_in}
use Rattle.space_packet.proofs.WholePackets.{one_more-by_len, no_more}
use Rattle.map_service.specs.Packets.{is_packet, are_packets, is_some_over, ArePackets}
use Rattle.std.specs.List.{AllByRecursion, concat}
use Rattle.octets.specs.Number.{IsOctets}
use Rattle.space_packet.specs.Layout.{IsSomePacket}
use Rattle.space_packet.proofs.Decoded.{records_are, record_again}
use Rattle.map_service.proofs.Groups.{IsWhole, packets-split, all_of, again}
use Rattle.map_service.proofs.Passage.{whole-from, one-from}

-- a nonempty list of octets is whole packets if nothing is left
pub are_packets-by_rest : (octets rest : List ℕ) → eqb (length octets) 0 ≡ false → rest_in rest ≡ rest_in octets
    → first_packet rest ≡ None
    → eqb (length rest) 0 ≡ are_packets octets
are_packets-by_rest octets rest some same none =
    let left : rest_in octets ≡ rest = sym same ∙ (no_more rest none).1 in
    let long : ltb 0 (length octets) ≡ true = lt-ltb 0 (length octets) (grind (arith, nat_tests)) in
    rw (left, long) refl

pub over-more : (most n : ℕ) (octets : List ℕ) → Some (take n octets) ≡ first_packet octets → n ≤ length octets
    → is_some_over most (packets_in octets) ≡ ltb most n || is_some_over most (packets_in (drop n octets))
over-more most n octets e le =
    let len : length (take n octets) ≡ n = omega (arith, length-take n octets) in
    ap (is_some_over most) (one_more-by_len octets n e le).0
    ∙ ap (λ (k : ℕ). ltb most k || is_some_over most (packets_in (drop n octets))) len

-- if no more packets are read, what was found for those before holds for all
pub over-none : (most : ℕ) (octets : List ℕ) (seen : Bool) → first_packet octets ≡ None
    → seen ≡ seen || is_some_over most (packets_in octets)
over-none most octets seen e =
    sym (or-false seen) ∙ ap (λ (ps : List (List ℕ)). seen || is_some_over most ps) (sym (no_more octets e).0)

-- exactly one packet
pub one_over : (most : ℕ) (octets : List ℕ) → is_packet octets ≡ true
    → is_some_over most (packets_in octets) ≡ ltb most (length octets)
one_over most octets h = ap (is_some_over most) (one-from octets h).1 ∙ or-false (ltb most (length octets))

-- ---- octets are judged to be packets exactly when they spell packets

spelled_in : (octets : List ℕ) → IsOctets octets → rest_in octets ≡ [] → AllByRecursion IsSomePacket (packets_in octets)
spelled_in octets fits none =
    records_are (packets_in octets) (subst IsOctets (all_of octets none) fits) (packets-split octets).each

some_in : (packets : List (List ℕ)) → 1 ≤ length (concat packets) → 1 ≤ length packets
some_in [] h = absurd (omega arith)
some_in (p ∷ ps) h = omega arith

pub several_are : (octets : List ℕ) → IsOctets octets → are_packets octets ≡ true
    → ArePackets octets (packets_in octets)
several_are octets fits h =
    let whole = whole-from octets h in
    let joined = all_of octets whole.1 in
    record {
      some = some_in (packets_in octets) (subst (λ (xs : List ℕ). 1 ≤ length xs) joined whole.0);
      each = spelled_in octets fits whole.1;
      joined = sym joined;
    }

-- ---- what is found in packets

records_again : (packets : List (List ℕ)) → AllByRecursion IsSomePacket packets → IsWhole packets
records_again [] h = tt
records_again (p ∷ ps) h = (record_again p h.0, records_again ps h.1)

some_octets : (packets : List (List ℕ)) → 1 ≤ length packets → AllByRecursion IsSomePacket packets
    → 0 < length (concat packets)
some_octets [] h each = absurd (omega arith)
some_octets (p ∷ ps) h each = omega (arith, each.0.1.least, length-append p (concat ps))

pub several_again : (octets : List ℕ) (packets : List (List ℕ)) → ArePackets octets packets
    → (are_packets octets ≡ true) × (packets ≡ packets_in octets)
several_again octets packets h =
    let only = subst (λ (xs : List ℕ). (packets ≡ packets_in xs) × ([] ≡ rest_in xs)) h.joined
    (again packets (records_again packets h.each)) in
    let long : 0 < length octets =
    subst (λ (xs : List ℕ). 0 < length xs) h.joined (some_octets packets h.some h.each) in
    (rw (← only.1, lt-ltb 0 (length octets) long) refl, only.0)
