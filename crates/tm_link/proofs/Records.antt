-- Packets at the beginning of octets, one by one.
use Rattle.std.proofs.Common.{◌≡◌, ◌≤◌, ℕ, ◌-◌, not, List, [], ◌∷◌, ◌++◌, length, take, drop, Some}
use Rattle.std.proofs.Common.{Ok, refl, sym, ap, ◌∙◌, arith, append_assoc}
use Rattle.std.proofs.lemmas.List.{length-drop, take_all}
use Rattle.std.proofs.lemmas.List.Elements.{filter-append}
use Rattle.octets.specs.Number.{IsOctets}
use Rattle.octets.specs.Records.{records_of, rest_of}
use Rattle.octets.proofs.Checked.{drop_fits}
use Rattle.octets.proofs.Checked.{two_below}
use Rattle.space_packet.specs.Laws.{extent_is}
use Rattle.space_packet.specs.Packets.{first_packet}
use Rattle.space_packet.specs.Decoding.{extent_at}
use Rattle.space_packet.proofs.WholePackets.{one_more-by_len}
use Rattle.tm_link.specs.Extractor.{is_idle, without_idle}

-- ---- whole packets at the beginning

-- all octets after the first
after_is : (octets : List ℕ) (n : ℕ) → take (length octets - n) (drop n octets) ≡ drop n octets
after_is octets n = take_all (length octets - n) (drop n octets) (omega (arith, length-drop n octets))

pub rest-next : (octets : List ℕ) (n : ℕ) → Some (take n octets) ≡ first_packet octets → n ≤ length octets
    → rest_of 6 extent_at (take (length octets - n) (drop n octets)) ≡ rest_of 6 extent_at octets
rest-next octets n e le =
    ap (rest_of 6 extent_at) (after_is octets n) ∙ sym (one_more-by_len octets n e le).1

pub records-next : (octets : List ℕ) (n : ℕ) → Some (take n octets) ≡ first_packet octets → n ≤ length octets
    → take n octets ∷ records_of 6 extent_at (take (length octets - n) (drop n octets)) ≡ records_of 6 extent_at octets
records-next octets n e le =
    ap (λ (xs : List ℕ). take n octets ∷ records_of 6 extent_at xs) (after_is octets n)
    ∙ sym (one_more-by_len octets n e le).0

-- ---- extents

pub extent_most : (head : List ℕ) (n : ℕ) → IsOctets head → extent_at head ≡ Ok n → n ≤ 65542
extent_most head n octets h =
    let has = extent_is head n h in omega (arith, two_below (drop 4 head) (drop_fits head 4 octets))

-- ---- packets delivered

pub without_idle-append : (xs ys : List (List ℕ)) → without_idle (xs ++ ys) ≡ without_idle xs ++ without_idle ys
without_idle-append xs ys = filter-append (λ (packet : List ℕ). not (is_idle packet)) xs ys

-- a packet, and then more, after those that were delivered
pub handed_on : (before now : List (List ℕ)) (packet : List ℕ) (more : List (List ℕ))
    → now ≡ before ++ without_idle (packet ∷ []) → now ++ without_idle more ≡ before ++ without_idle (packet ∷ more)
handed_on before now packet more h =
    ap (λ (xs : List (List ℕ)). xs ++ without_idle more) h
    ∙ append_assoc before (without_idle (packet ∷ [])) (without_idle more)
    ∙ ap (λ (xs : List (List ℕ)). before ++ xs) (sym (without_idle-append (packet ∷ []) more))

-- ---- no packet delivered

none_parts : (xs ys : List (List ℕ)) → xs ++ ys ≡ [] → (xs ≡ []) × (ys ≡ [])
none_parts [] ys h = (refl, h)
none_parts (x ∷ xs) ys h = absurd cc

pub none_handed : (xs ys : List (List ℕ)) → without_idle (xs ++ ys) ≡ []
    → (without_idle xs ≡ []) × (without_idle ys ≡ [])
none_handed xs ys h = none_parts (without_idle xs) (without_idle ys) (sym (without_idle-append xs ys) ∙ h)

pub none_handed-first : (x : List ℕ) (ys : List (List ℕ)) → without_idle (x ∷ ys) ≡ []
    → (without_idle (x ∷ []) ≡ []) × (without_idle ys ≡ [])
none_handed-first x ys h = none_handed (x ∷ []) ys h
