use Rattle.std.proofs.Common.{◌≡◌, ◌∙◌, ◌++◌, refl, List, ℕ, suc, [], ◌∷◌, take, drop, length, ap, sym, subst}
use Rattle.std.proofs.Common.{append_assoc, arith}
use Rattle.std.specs.List.{AllByRecursion}
use Rattle.std.proofs.lemmas.List.{append-nil, take_at}
use Rattle.space_packet.proofs.WholePackets.{no_more, one_more-by_len}
use Rattle.map_service.specs.Packets.{packets_in}
use Rattle.map_service.proofs.Parts.{still_before}
use Rattle.nodes.specs.Packets.{PacketOn, packet_on, put_on_map}
use Rattle.nodes.specs.PacketFields.{IsPacketOn}
use Rattle.nodes.proofs.map_packet.copy_each.Goals as goal

AreOn : ℕ → List (List ℕ) → Type 0
AreOn m packets = AllByRecursion IsPacketOn (put_on_map m packets)

first_on : (m : ℕ) (packets behind : List (List ℕ)) (first : List ℕ) → packets ≡ first ∷ behind → AreOn m packets
    → IsPacketOn (packet_on m first) × AreOn m behind
unfolding AreOn
first_on m packets behind first is each = subst (AreOn m) is each

pub new-requires : goal.new-requires
unfolding AreOn
new-requires c =
    let rest : List ℕ = c.packets.rest.now in
    let n : ℕ = c.in-Some.len in
    rw (c.in_ok-packet.ensures.items, c.split_at.ensures.front)
    (first_on c.args.on_map _ _ (take n rest)
    (one_more-by_len rest n c.in-Some.ensures.first c.in-Some.ensures.within.1).0 c.packets.invariant.whole).0

pub push_back_reserved-requires : goal.push_back_reserved-requires
push_back_reserved-requires c =
    let rest : List ℕ = c.packets.rest.now in
    let one : length (packets_in rest) ≡ suc (length (packets_in (drop c.in-Some.len rest))) =
    ap length (one_more-by_len rest c.in-Some.len c.in-Some.ensures.first c.in-Some.ensures.within.1).0 in
    omega (arith, one, c.packets.invariant.room)

pub packets-preserved : goal.packets-preserved
unfolding AreOn
packets-preserved c =
    let m : ℕ = c.args.on_map in
    let rest : List ℕ = c.packets.rest.now in
    let n : ℕ = c.in-Some.len in
    let ready : List PacketOn = c.packets.ready.items in
    let one = one_more-by_len rest n c.in-Some.ensures.first c.in-Some.ensures.within.1 in
    let fewer : length (packets_in rest) ≡ suc (length (packets_in (drop n rest))) = ap length one.0 in
    let front : PacketOn = packet_on m (take n rest) in
    record {
      items =
          rw (
            c.push_back_reserved.ensures.items,
            c.new.ensures,
            c.in_ok-packet.ensures.items,
            c.split_at.ensures.front,
            c.split_at.ensures.back,
          )
          (append_assoc ready (front ∷ []) (put_on_map m (packets_in (drop n rest)))
          ∙ ap (λ (ps : List (List ℕ)). ready ++ put_on_map m ps) (sym one.0) ∙ c.packets.invariant.items);
      before =
          rw c.push_back_reserved.ensures.items
          (still_before c.args.ready.now.items ready _ c.packets.invariant.before
          (take_at ready _ (length ready) refl));
      whole = rw c.split_at.ensures.back (first_on m _ _ (take n rest) one.0 c.packets.invariant.whole).1;
      room =
          rw c.split_at.ensures.back
          (omega (
            arith,
            fewer,
            c.push_back_reserved.ensures.len,
            c.push_back_reserved.ensures.capacity,
            c.packets.invariant.room,
          ));
      capacity = c.push_back_reserved.ensures.capacity ∙ c.packets.invariant.capacity;
    }

pub returns-clause-items : goal.returns-clause-items
returns-clause-items c =
    let ready : List PacketOn = c.packets.ready.items in
    sym (append-nil ready)
    ∙ ap (λ (ps : List (List ℕ)). ready ++ put_on_map c.args.on_map ps)
    (sym (no_more c.packets.rest.now (sym c.in_default.ensures.first)).0)
    ∙ c.packets.invariant.items
