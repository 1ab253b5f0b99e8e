-- How a decoder reads octets as whole packets.
use Rattle.std.proofs.Common.{◌≡◌, ◌≤◌, ◌<◌, ℕ, suc, Bool, true, false, cond, ltb, eqb, List, [], ◌∷◌, ◌++◌, length}
use Rattle.std.proofs.Common.{take, drop, Option, Some, None, Result, Ok, Err, refl, sym, ap, subst, ◌∙◌, arith, inl}
use Rattle.std.proofs.Common.{inr, length-take, length-drop}
use Rattle.std.specs.Prelude.{option_map, ◌&&◌}
use Rattle.std.proofs.lemmas.Bool.{ne_eqb, eq-eqb, cases_lt}
use Rattle.std.proofs.lemmas.Bool.Decides.{nat_tests}
use Rattle.std.proofs.lemmas.List.{drop_all, append-nil}
use Rattle.octets.specs.Number.{IsOctets}
use Rattle.octets.specs.Records.{IsRecord, first_record, by_record, record_of}
use Rattle.octets.proofs.Streams.{IsNoRecord, is_first, record_is as first_is_record, records_of-record}
use Rattle.octets.proofs.Streams.{records_of-none}
use Rattle.space_packet.specs.declared.fault.PacketFault.{PacketFault}
use Rattle.space_packet.specs.Layout.{PacketView, IsSomePacket}
use Rattle.space_packet.specs.Laws.{extent_has_header}
use Rattle.space_packet.specs.Packets.{first_packet, packets_in, rest_in, is_packet}
use Rattle.space_packet.specs.Decoding.{extent_at, packet_at, packet_of}
use Rattle.space_packet.proofs.Decoded.{record_is, record_again}

-- the number of octets of the packet that was read
abbrev pub len_of : Result (PacketView × ℕ) PacketFault → Option ℕ
len_of (Ok f) = Some f.1
len_of (Err e) = None

first_within : (octets : List ℕ) (n : ℕ) (p : PacketView) (e : PacketFault) (b : Bool)
    → by_record 6 extent_at (cond b None (Some (Ok (take n octets)))) None (λ r. Some r)
    ≡ option_map (λ k. take k octets) (len_of (cond b (Err e) (Ok (p, n))))
first_within octets n p e true = refl
first_within octets n p e false = refl

first_of : (octets : List ℕ) (r : Result ℕ PacketFault)
    → by_record 6 extent_at (record_of 6 extent_at octets r) None (λ p. Some p)
    ≡ option_map (λ k. take k octets) (len_of (packet_of octets r))
first_of octets (Ok n) = first_within octets n _ _ (ltb (length octets) n)
first_of octets (Err e) = refl

first_at : (octets : List ℕ) (e : PacketFault) (b : Bool)
    → by_record 6 extent_at (cond b None (record_of 6 extent_at octets (extent_at (take 6 octets)))) None (λ p. Some p)
    ≡ option_map (λ k. take k octets) (len_of (cond b (Err e) (packet_of octets (extent_at (take 6 octets)))))
first_at octets e true = refl
first_at octets e false = first_of octets (extent_at (take 6 octets))

-- the packet that octets begin with is the one that is read
pub first_is : (octets : List ℕ) → option_map (λ k. take k octets) (len_of (packet_at octets)) ≡ first_packet octets
unfolding packet_at
first_is octets = sym (first_at octets _ (ltb (length octets) 6))

-- ---- packets one after another

by_first : (o : Option (Result (List ℕ) PacketFault)) (p : List ℕ) → by_record 6 extent_at o None (λ r. Some r) ≡ Some p
    → o ≡ Some (Ok p)
by_first None p h = absurd cc
by_first (Some (Err e)) p h = absurd cc
by_first (Some (Ok r)) p h = cc

by_none : (o : Option (Result (List ℕ) PacketFault)) → by_record 6 extent_at o None (λ r. Some r) ≡ None
    → IsNoRecord 6 extent_at o
by_none None h = tt
by_none (Some (Err e)) h = tt
by_none (Some (Ok r)) h = absurd cc

-- the first packet and those after it
pub one_more : (octets p : List ℕ) → first_packet octets ≡ Some p
    → (packets_in octets ≡ p ∷ packets_in (drop (length p) octets))
    × (rest_in octets ≡ rest_in (drop (length p) octets))
one_more octets p h =
    records_of-record 6 extent_at (omega arith) extent_has_header octets p
    (by_first (first_record 6 extent_at octets) p h)

-- no packet, and all is left
pub no_more : (octets : List ℕ) → first_packet octets ≡ None → (packets_in octets ≡ []) × (rest_in octets ≡ octets)
no_more octets h =
    records_of-none 6 extent_at (omega arith) extent_has_header octets (by_none (first_record 6 extent_at octets) h)

not_none : (n : ℕ) (b : Bool) → eqb (suc n) 0 && b ≡ false
not_none n b = rw (ne_eqb (suc n) 0 (λ (e : suc n ≡ 0). omega arith)) refl

-- a nonempty list of octets has a packet or a rest
pub is_something : (octets : List ℕ) (o : Option (List ℕ)) → first_packet octets ≡ o → 0 < length octets
    → eqb (length (packets_in octets)) 0 && eqb (length (rest_in octets)) 0 ≡ false
is_something octets None e lt =
    let h = no_more octets e in rw (h.0, h.1) (ne_eqb _ _ (λ (e : length octets ≡ 0). omega arith))
is_something octets (Some p) e lt =
    let h = one_more octets p e in
    rw h.0 (not_none (length (packets_in (drop (length p) octets))) (eqb (length (rest_in octets)) 0))

next_is : (m n : ℕ) → eqb (suc m) 1 && eqb n 0 ≡ eqb m 0 && eqb n 0
next_is m n = grind (arith, nat_tests)

-- a packet after which nothing is left, or something
pub is_packet-all : (octets p : List ℕ) → first_packet octets ≡ Some p → length p ≡ length octets
    → is_packet octets ≡ true
is_packet-all octets p e len =
    let h = one_more octets p e in
    let none : drop (length p) octets ≡ [] = drop_all (length p) octets (omega arith) in
    let nothing = no_more [] refl in
    rw (h.0, h.1, none, nothing.0, nothing.1) refl

pub is_packet-more : (octets p : List ℕ) → first_packet octets ≡ Some p → length p < length octets
    → is_packet octets ≡ false
is_packet-more octets p e lt =
    let h = one_more octets p e in
    let more = is_something (drop (length p) octets) _ refl (omega (arith, length-drop (length p) octets)) in
    rw (h.0, h.1) (next_is (length (packets_in (drop (length p) octets))) (length (rest_in (drop (length p) octets)))
    ∙ more)

pub is_packet-none : (octets : List ℕ) → first_packet octets ≡ None → is_packet octets ≡ false
is_packet-none octets e = let h = no_more octets e in rw (h.0) refl

-- the packet that octets begin with is all of the octets, or not
pub is_packet-by_len : (octets : List ℕ) (n : ℕ) → Some (take n octets) ≡ first_packet octets → n ≤ length octets
    → eqb n (length octets) ≡ is_packet octets
is_packet-by_len octets n e le =
    let len : length (take n octets) ≡ n = omega (arith, length-take n octets) in
    elim (cases_lt n (length octets)) [
      | inl lt ↦ ne_eqb n (length octets) (λ (h : n ≡ length octets). omega arith)
          ∙ sym (is_packet-more octets (take n octets) (sym e) (omega arith))
      | inr ge ↦ eq-eqb n (length octets) (omega arith)
          ∙ sym (is_packet-all octets (take n octets) (sym e) (omega arith))
    ]

-- the same, if the first packet is given by its length
pub one_more-by_len : (octets : List ℕ) (n : ℕ) → Some (take n octets) ≡ first_packet octets → n ≤ length octets
    → (packets_in octets ≡ take n octets ∷ packets_in (drop n octets)) × (rest_in octets ≡ rest_in (drop n octets))
one_more-by_len octets n e le =
    let len : length (take n octets) ≡ n = omega (arith, length-take n octets) in
    let h = one_more octets (take n octets) (sym e) in (
      h.0 ∙ ap (λ (k : ℕ). take n octets ∷ packets_in (drop k octets)) len,
      h.1
          ∙ ap (λ (k : ℕ). rest_in (drop k octets)) len,
    )

-- ---- exactly one packet

-- octets that are judged to be one packet are a record of a stream of packets
record_by : (octets : List ℕ) (o : Option (List ℕ)) → first_packet octets ≡ o → is_packet octets ≡ true
    → IsRecord 6 extent_at octets
record_by octets None e h = absurd (let no : is_packet octets ≡ false = is_packet-none octets e in cc)
record_by octets (Some p) e h =
    let first = first_is_record 6 extent_at (omega arith) extent_has_header octets p
    (by_first (first_record 6 extent_at octets) p e) in
    elim (cases_lt (length p) (length octets)) [
      | inl lt ↦ absurd (let no : is_packet octets ≡ false = is_packet-more octets p e lt in cc)
      | inr ge ↦
          let none : drop (length p) octets ≡ [] = drop_all (length p) octets ge in
          subst (IsRecord 6 extent_at) (sym (append-nil p) ∙ ap (λ (xs : List ℕ). p ++ xs) (sym none) ∙ sym first.1)
          first.0
    ]

-- octets that are judged to be one packet spell one
pub packet_from : (octets : List ℕ) → IsOctets octets → is_packet octets ≡ true → IsSomePacket octets
packet_from octets fits h = record_is octets fits (record_by octets (first_packet octets) refl h)

-- octets that spell a packet are judged to be one packet
pub is_packet-again : (octets : List ℕ) → IsSomePacket octets → is_packet octets ≡ true
is_packet-again octets h =
    let found : first_record 6 extent_at octets ≡ Some (Ok octets) =
    ap (first_record 6 extent_at) (sym (append-nil octets))
    ∙ is_first 6 extent_at octets [] (record_again octets h) in
    is_packet-all octets octets (ap (λ o. by_record 6 extent_at o None (λ p. Some p)) found) refl
