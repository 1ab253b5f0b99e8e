use Rattle.std.proofs.Common.{◌≡◌, ℕ, ◌+◌, ◌-◌, List, ◌++◌, length, take, drop, ap, ◌∙◌, arith, length-append}
use Rattle.std.specs.List.{concat}
use Rattle.std.proofs.lemmas.List.{append_assoc}
use Rattle.sedgechisel.specs.Extractors.{octets_at, handed_from}
use Rattle.sedgechisel.proofs.Pieces.{piece_is, later}
use Rattle.sedgechisel.proofs.extracted_frames.put_each.Goals as goal

pub each-preserved : goal.each-preserved
each-preserved c =
    let payload : List ℕ = c.args.payload.now in
    let next : ℕ = c.in-Some.packet.from + c.in-Some.packet.count in
    let one : List ℕ = octets_at c.in-Some.packet payload in
    let piece : List ℕ = take (next - c.in-Some.packet.from) (drop c.in-Some.packet.from payload) in
    let same : piece ≡ one = piece_is payload c.in-Some.packet.from c.in-Some.packet.count in
    let more : List ℕ = handed_from next payload in
    let split : handed_from c.each.place payload ≡ one ++ more = ap concat c.in-Some.ensures.0 in
    let end : c.add-end.result ≡ c.each.end + length one =
    rw same at c.add-end.ensures.count in
    record {
      within = c.in-Some.ensures.1;
      after = omega (arith, c.each.invariant.after, end);
      long = c.add-end.ensures.room ∙ c.each.invariant.long;
      end = omega (arith, end, ap length split, length-append one more, c.each.invariant.end);
      packets = rw (c.add-end.ensures.joined, append_assoc (take c.each.end c.each.packets) piece more, same, ← split)
          c.each.invariant.packets;
      rest =
          c.add-end.ensures.rest
          ∙ later c.each.packets c.args.packets.now c.each.end c.add-end.result (omega (arith, end))
          c.each.invariant.rest;
    }
