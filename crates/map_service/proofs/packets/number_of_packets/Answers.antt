use Rattle.std.proofs.Common.{◌≡◌, List, ℕ, suc, drop, length, ap, sym, arith}
use Rattle.map_service.specs.Packets.{packets_in}
use Rattle.space_packet.proofs.WholePackets.{no_more, one_more-by_len}
use Rattle.map_service.proofs.packets.number_of_packets.Goals as goal

pub packets-preserved : goal.packets-preserved
packets-preserved c =
    let rest : List ℕ = c.packets.rest.now in
    let n : ℕ = c.in-Some.len in
    let one : length (packets_in rest) ≡ suc (length (packets_in (drop n rest))) =
    ap length (one_more-by_len rest n c.in-Some.ensures.first c.in-Some.ensures.within.1).0 in
    let back = c.split_at.ensures.back in
    record {
      number = rw back (omega (arith, one, c.packets.invariant.number));
      bound = omega (
        arith,
        c.split_at.ensures.back_len,
        c.in-Some.ensures.within.0,
        c.in-Some.ensures.within.1,
        c.packets.invariant.bound,
      );
    }

pub returns : goal.returns
returns c =
    let none : length (packets_in c.packets.rest.now) ≡ 0 =
    ap length (no_more c.packets.rest.now (sym c.in_default.ensures.first)).0 in
    omega (arith, none, c.packets.invariant.number)
