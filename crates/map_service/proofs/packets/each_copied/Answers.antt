use Rattle.std.proofs.Common.{◌≡◌, ◌∙◌, ◌++◌, ◌+◌, List, ℕ, suc, [], ◌∷◌, take, drop, length, ap, sym, append_assoc}
use Rattle.std.proofs.Common.{length-append, arith}
use Rattle.std.proofs.lemmas.List.{append-nil, map_push}
use Rattle.map_service.specs.Packets.{packets_in}
use Rattle.map_service.specs.Views.{ready_view}
use Rattle.space_packet.proofs.WholePackets.{no_more, one_more-by_len}
use Rattle.map_service.proofs.packets.each_copied.Goals as goal

pub push_reserved-requires : goal.push_reserved-requires
push_reserved-requires c =
    let rest : List ℕ = c.packets.rest.now in
    let one : length (packets_in rest) ≡ suc (length (packets_in (drop c.in-Some.len rest))) =
    ap length (one_more-by_len rest c.in-Some.len c.in-Some.ensures.first c.in-Some.ensures.within.1).0 in
    omega (arith, one, c.packets.invariant.room)

pub packets-preserved : goal.packets-preserved
packets-preserved c =
    let rest : List ℕ = c.packets.rest.now in
    let n : ℕ = c.in-Some.len in
    let one = one_more-by_len rest n c.in-Some.ensures.first c.in-Some.ensures.within.1 in
    let fewer : length (packets_in rest) ≡ suc (length (packets_in (drop n rest))) = ap length one.0 in
    let longer : length c.push_reserved.new.self.items ≡ length c.packets.packets.items + 1 =
    ap length c.push_reserved.ensures.items ∙ length-append c.packets.packets.items _ in
    record {
      items =
          rw (c.push_reserved.ensures.items, map_push) (
          rw (
            c.in_ok-from_slice.ensures.items,
            c.split_at.ensures.front,
            c.split_at.ensures.back,
          )
          (c.packets.invariant.items
          ∙ ap (λ (xs : List (List ℕ)). ready_view c.packets.packets ++ xs) one.0
          ∙ sym (append_assoc (ready_view c.packets.packets) (take n rest ∷ []) (packets_in (drop n rest))))
          );
      room = rw (c.split_at.ensures.back)
          (omega (arith, fewer, longer, c.push_reserved.ensures.capacity, c.packets.invariant.room));
    }

pub returns : goal.returns
returns c =
    sym (c.packets.invariant.items
    ∙ ap (λ (xs : List (List ℕ)). ready_view c.packets.packets ++ xs)
    (no_more c.packets.rest.now (sym c.in_default.ensures.first)).0
    ∙ append-nil (ready_view c.packets.packets))
