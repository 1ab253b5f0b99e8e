use Rattle.std.proofs.Common.{List, ℕ, Bool, Some, None, cond, ap, sym, ◌∙◌}
use Rattle.std.specs.Prelude.{◌||◌, nat_lt}
use Rattle.std.proofs.Math.Bool.{or_assoc}
use Rattle.map_service.specs.Packets.{packets_in, rest_in, is_some_over}
use Rattle.space_packet.proofs.WholePackets.{one_more-by_len}
use Rattle.map_service.proofs.Whole.{are_packets-by_rest, over-more, over-none}
use Rattle.map_service.proofs.packets.are_packets_over.Goals as goal

pub packets-preserved : goal.packets-preserved
packets-preserved c =
    let rest : List ℕ = c.packets.rest.now in
    let behind : List ℕ = c.split_at.result.1.now in
    let n : ℕ = c.in-Some.len in
    let most : ℕ = c.args.most in
    record {
      rest = ap rest_in c.split_at.ensures.back
          ∙ sym (one_more-by_len rest n c.in-Some.ensures.first c.in-Some.ensures.within.1).1
          ∙ c.packets.invariant.rest;
      over = or_assoc c.packets.over (nat_lt most n) (is_some_over most (packets_in behind))
          ∙ ap (λ (xs : List ℕ). c.packets.over || (nat_lt most n || is_some_over most (packets_in xs)))
          c.split_at.ensures.back
          ∙ ap (λ (t : Bool). c.packets.over || t)
          (sym (over-more most n rest c.in-Some.ensures.first c.in-Some.ensures.within.1))
          ∙ c.packets.invariant.over;
    }

pub returns-then-not-is_empty : goal.returns-then-not-is_empty
returns-then-not-is_empty c =
    sym (ap (λ (t : Bool). cond t (Some (is_some_over c.args.most (packets_in c.args.octets.now))) None)
    (sym (are_packets-by_rest c.args.octets.now c.packets.rest.now (sym c.is_empty.ensures ∙ c.if-is_empty.false)
    c.packets.invariant.rest (sym c.in_default.ensures.first)) ∙ sym c.is_empty-2.ensures ∙ c.if-not-is_empty.true))

pub returns : goal.returns
returns c =
    ap (λ (t : Bool). Some t)
    (over-none c.args.most c.packets.rest.now c.packets.over (sym c.in_default.ensures.first)
    ∙ c.packets.invariant.over)
    ∙ sym (ap (λ (t : Bool). cond t (Some (is_some_over c.args.most (packets_in c.args.octets.now))) None)
    (sym (are_packets-by_rest c.args.octets.now c.packets.rest.now (sym c.is_empty.ensures ∙ c.if-is_empty.false)
    c.packets.invariant.rest (sym c.in_default.ensures.first)) ∙ sym c.is_empty-2.ensures ∙ c.if-not-is_empty.false))
