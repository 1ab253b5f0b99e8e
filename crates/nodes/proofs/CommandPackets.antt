-- What the result of the packet decoder implies for command packets.
use Rattle.std.proofs.Common.{◌≡◌, ℕ, Bool, true, false, not, eqb, ltb, List, [], ◌∷◌, length, take, drop, Some}
use Rattle.std.proofs.Common.{None, Result, Err, refl, sym, ap, ◌∙◌, arith, length-take, cond}
use Rattle.std.proofs.lemmas.Bool.Decides.{nat_tests}
use Rattle.std.specs.Prelude.{◌&&◌, ◌||◌, option_map}
use Rattle.std.specs.List.{list_all}
use Rattle.std.proofs.lemmas.Bool.{eq-eqb, ne_eqb, eqb-true, and_parts}
use Rattle.map_service.proofs.Passage.{one-from}
use Rattle.map_service.proofs.Whole.{over-more, one_over}
use Rattle.std.proofs.lemmas.List.{take-take, drop_all}
use Rattle.std.proofs.Math.Bool.{and-true, or-false}
use Rattle.space_packet.specs.declared.fault.PacketFault.{PacketFault}
use Rattle.space_packet.specs.Layout.{PacketView, IsFirstPacket}
use Rattle.space_packet.specs.Decoding.{packet_at}
use Rattle.space_packet.proofs.Decoded.{packet_again}
use Rattle.map_service.specs.Packets.{first_packet, packets_in, rest_in, is_packet, are_taken, is_some_over}
use Rattle.space_packet.proofs.WholePackets.{len_of, first_is, one_more-by_len, no_more, is_packet-by_len}
use Rattle.space_packet.proofs.WholePackets.{is_packet-none}
use Rattle.map_service.specs.declared.limits.Limits.{Limits}
use Rattle.nodes.specs.declared.fault.LinkFault.TheVariants.{NotCommand, TooLong}
use Rattle.nodes.specs.CommandPackets.{is_command_packet, finds_command, is_command, are_commands, commands_fault}

-- the packet that octets begin with, as their first record
first_read : (b : List ℕ) (p : PacketView) (n : ℕ) → IsFirstPacket p n b → Some (take n b) ≡ first_packet b
first_read b p n h =
    ap (λ (r : Result (PacketView × ℕ) PacketFault). option_map (λ k. take k b) (len_of r)) (sym (packet_again b p n h))
    ∙ first_is b

here : (b : List ℕ) (p : PacketView) (n : ℕ) → IsFirstPacket p n b → is_command (take n b) ≡ is_command_packet p
here b p n h =
    let again : IsFirstPacket p n (take n b) =
    record {
      within =
          omega (arith, h.within, length-take n b);
      spells = rw (take-take n n b (omega arith)) h.spells;
    } in
    ap finds_command (packet_again (take n b) p n again)

-- that packet and the ones after it
pub one_more : (b : List ℕ) (p : PacketView) (n : ℕ) → IsFirstPacket p n b
    → (packets_in b ≡ take n b ∷ packets_in (drop n b)) × (rest_in b ≡ rest_in (drop n b))
one_more b p n h = one_more-by_len b n (first_read b p n h) h.within

pub all_more : (b : List ℕ) (p : PacketView) (n : ℕ) → IsFirstPacket p n b
    → list_all is_command (packets_in b) ≡ is_command_packet p && list_all is_command (packets_in (drop n b))
all_more b p n h =
    ap (list_all is_command) (one_more b p n h).0
    ∙ ap (λ (t : Bool). t && list_all is_command (packets_in (drop n b))) (here b p n h)

none_read : (b : List ℕ) (e : PacketFault) → Err e ≡ packet_at b → first_packet b ≡ None
none_read b e h =
    sym (ap (λ (r : Result (PacketView × ℕ) PacketFault). option_map (λ k. take k b) (len_of r)) h ∙ first_is b)

-- if no packet is decoded, the octets contain none, and all are left
pub no_more_read : (b : List ℕ) (e : PacketFault) → Err e ≡ packet_at b → (packets_in b ≡ []) × (rest_in b ≡ b)
no_more_read b e h = no_more b (none_read b e h)

pub over_more : (most : ℕ) (b : List ℕ) (p : PacketView) (n : ℕ) → IsFirstPacket p n b
    → is_some_over most (packets_in b) ≡ ltb most n || is_some_over most (packets_in (drop n b))
over_more most b p n h = over-more most n b (first_read b p n h) h.within

-- ---- octets that are exactly one packet

pub one_command : (octets : List ℕ) (p : PacketView) (n : ℕ) → IsFirstPacket p n octets → n ≡ length octets
    → is_command_packet p ≡ are_commands false octets
one_command octets p n h e =
    let none : drop n octets ≡ [] = drop_all n octets (omega (arith, e)) in
    let one : is_packet octets ≡ true =
    sym (is_packet-by_len octets n (first_read octets p n h) h.within) ∙ eq-eqb n (length octets) e in
    let all : list_all is_command (packets_in octets) ≡ is_command_packet p =
    all_more octets p n h
    ∙ ap (λ (xs : List ℕ). is_command_packet p && list_all is_command (packets_in xs)) none
    ∙ ap (λ (xs : List (List ℕ)). is_command_packet p && list_all is_command xs) (no_more [] refl).0
    ∙ and-true (is_command_packet p) in
    sym all ∙ ap (λ (t : Bool). t && list_all is_command (packets_in octets)) (sym one)

-- octets that are more than the packet that they begin with
pub more_than_one : (octets : List ℕ) (p : PacketView) (n : ℕ) → IsFirstPacket p n octets
    → (n ≡ length octets → ⊥) → eqb n (length octets) ≡ are_commands false octets
more_than_one octets p n h ne =
    let other : eqb n (length octets) ≡ false = ne_eqb n (length octets) ne in
    let none : is_packet octets ≡ false =
    sym (is_packet-by_len octets n (first_read octets p n h) h.within) ∙ other in
    other ∙ ap (λ (t : Bool). t && list_all is_command (packets_in octets)) (sym none)

pub no_command : (octets : List ℕ) (e : PacketFault) → Err e ≡ packet_at octets → false ≡ are_commands false octets
no_command octets e h =
    ap (λ (t : Bool). t && list_all is_command (packets_in octets)) (sym (is_packet-none octets (none_read octets e h)))

-- ---- what a loop over packets has found

not_both : (t : Bool) → t && false ≡ false
not_both true = refl
not_both false = refl

-- a packet that is not a command
pub refused_here : (octets rest : List ℕ) (p : PacketView) (n : ℕ) → IsFirstPacket p n rest
    → is_command_packet p ≡ false
    → list_all is_command (packets_in rest) ≡ list_all is_command (packets_in octets)
    → are_commands true octets ≡ false
refused_here octets rest p n first other same =
    let all : list_all is_command (packets_in octets) ≡ false =
    sym same ∙ all_more rest p n first
    ∙ ap (λ (t : Bool). t && list_all is_command (packets_in (drop n rest))) other in
    ap (λ (t : Bool). are_taken true octets && t) all ∙ not_both (are_taken true octets)

-- no octets
pub none_there : (octets : List ℕ) → eqb (length octets) 0 ≡ true → are_commands true octets ≡ false
none_there octets h =
    let none : length octets ≡ 0 = eqb-true (length octets) 0 h in
    ap (λ (k : ℕ). (ltb 0 k && eqb (length (rest_in octets)) 0) && list_all is_command (packets_in octets)) none

-- octets after the last packet
pub not_whole : (octets rest : List ℕ) (e : PacketFault) → Err e ≡ packet_at rest → rest_in rest ≡ rest_in octets
    → eqb (length rest) 0 ≡ false → are_commands true octets ≡ false
not_whole octets rest e none same some =
    let left : rest_in octets ≡ rest = sym same ∙ (no_more_read rest e none).1 in
    ap (λ (t : Bool). t && list_all is_command (packets_in octets))
    (ap (λ (t : Bool). ltb 0 (length octets) && t) (ap (λ (xs : List ℕ). eqb (length xs) 0) left ∙ some)
    ∙ not_both (ltb 0 (length octets)))

-- no octets after the last packet, and each packet a command
all_commands : (octets rest : List ℕ) (e : PacketFault) → Err e ≡ packet_at rest
    → list_all is_command (packets_in rest) ≡ list_all is_command (packets_in octets)
    → list_all is_command (packets_in octets) ≡ true
all_commands octets rest e none same = sym same ∙ ap (list_all is_command) (no_more_read rest e none).0

nothing_left : (octets rest : List ℕ) (e : PacketFault) → Err e ≡ packet_at rest → rest_in rest ≡ rest_in octets
    → eqb (length rest) 0 ≡ true → eqb (length (rest_in octets)) 0 ≡ true
nothing_left octets rest e none same h =
    ap (λ (xs : List ℕ). eqb (length xs) 0) (sym same ∙ (no_more_read rest e none).1) ∙ h

both_true : (s t u : Bool) → t ≡ true → u ≡ true → (s && t) && u ≡ s
both_true true t u h k = cc
both_true false t u h k = refl

some_or_none : (n : ℕ) → not (eqb n 0) ≡ ltb 0 n
some_or_none n = grind (arith, nat_tests)

all_there : (octets rest : List ℕ) (e : PacketFault) → Err e ≡ packet_at rest → rest_in rest ≡ rest_in octets
    → eqb (length octets) 0 ≡ false → eqb (length rest) 0 ≡ true
    → list_all is_command (packets_in rest) ≡ list_all is_command (packets_in octets)
    → are_commands true octets ≡ true
all_there octets rest e none same some h all =
    both_true (ltb 0 (length octets)) _ _ (nothing_left octets rest e none same h) (all_commands octets rest e none all)
    ∙ sym (some_or_none (length octets)) ∙ ap not some

-- ---- why octets are refused

pub not_commands : (limits : Limits) (octets : List ℕ) → limits.blocking ≡ true → are_commands true octets ≡ false
    → commands_fault limits octets ≡ Some NotCommand
not_commands limits octets blocking none = rw (blocking, none) refl

-- one or more commands; one of them may be too long
pub judged : (limits : Limits) (octets rest : List ℕ) (e : PacketFault) (seen over : Bool) → limits.blocking ≡ true
    → Err e ≡ packet_at rest → rest_in rest ≡ rest_in octets
    → list_all is_command (packets_in rest) ≡ list_all is_command (packets_in octets)
    → seen || is_some_over limits.max_packet (packets_in rest) ≡ is_some_over limits.max_packet (packets_in octets)
    → eqb (length octets) 0 ≡ false → eqb (length rest) 0 ≡ true → seen ≡ over
    → commands_fault limits octets ≡ cond over (Some TooLong) None
judged limits octets rest e seen over blocking none same commands overs some whole is =
    let all : are_commands true octets ≡ true = all_there octets rest e none same some whole commands in
    let found : is_some_over limits.max_packet (packets_in octets) ≡ over =
    sym overs
    ∙ ap (λ (ps : List (List ℕ)). seen || is_some_over limits.max_packet ps) (no_more_read rest e none).0
    ∙ or-false seen ∙ is in
    rw (blocking, all, found) refl

-- exactly one command
pub one_packet : (octets : List ℕ) → are_commands false octets ≡ true → packets_in octets ≡ octets ∷ []
one_packet octets h = (one-from octets (and_parts _ _ h).0).1

pub one_fault : (limits : Limits) (octets : List ℕ) (over : Bool) → limits.blocking ≡ false
    → are_commands false octets ≡ true → ltb limits.max_packet (length octets) ≡ over
    → commands_fault limits octets ≡ cond over (Some TooLong) None
one_fault limits octets over blocking all is =
    let long : is_some_over limits.max_packet (packets_in octets) ≡ over =
    one_over limits.max_packet octets (and_parts _ _ all).0 ∙ is in
    rw (blocking, all, long) refl
