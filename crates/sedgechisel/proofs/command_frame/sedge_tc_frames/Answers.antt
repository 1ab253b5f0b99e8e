use Rattle.std.proofs.Common.{◌≡◌, ◌<◌, ℕ, ◌+◌, ◌-◌, ◌/◌, Bool, List, ◌++◌, length, take, drop, sym, ap, ◌∙◌, arith}
use Rattle.std.proofs.lemmas.List.{append_assoc}
use Rattle.sedgechisel.specs.CommandFrames.{record_of, records_from}
use Rattle.sedgechisel.proofs.Pieces.{record_octets, piece_is, frames_next, frames_none, later, all_done}
use Rattle.sedgechisel.proofs.command_frame.sedge_tc_frames.Goals as goal

pub returns-then-count-eq0 : goal.returns-then-count-eq0
returns-then-count-eq0 c =
    let most : ℕ = length c.args.out.now / 12 in
    let none : 0 ≡ c.whole_len-count.result = omega (arith, c.if-count-eq0.true) in
    let ends = frames_none c.args.checked c.args.octets.now c.frames.from c.frames.frames most c.frames-test.true
    (none ∙ c.whole_len-count.ensures.count) in
    let all = all_done c.frames.out c.args.out.now (records_from c.args.checked c.args.octets.now 0 most) c.frames.at
    (omega (arith, c.frames.invariant.at, c.frames.invariant.frames, c.frames.invariant.long))
    (ap (λ (xs : List ℕ). take c.frames.at c.frames.out ++ xs) (sym ends.0) ∙ c.frames.invariant.records)
    c.frames.invariant.rest in
    record {
      records = all.1;
      frames = sym c.frames.invariant.at ∙ all.0;
      total = sym ends.1 ∙ c.frames.invariant.end;
    }

pub frames-preserved : goal.frames-preserved
frames-preserved c =
    let k : ℕ = c.frames.frames in
    let most : ℕ = length c.args.out.now / 12 in
    let from : ℕ = c.frames.from in
    let count : ℕ = c.whole_len-count.result in
    let checked : Bool = c.args.checked in
    let octets : List ℕ = c.args.octets.now in
    let done : List ℕ = take c.frames.at c.frames.out in
    let lt : k < most = c.frames-test.true in
    let some : 0 < count = omega (arith, c.if-count-eq0.false) in
    let one : List ℕ = c.record_of-record.result in
    let more : List ℕ = records_from checked octets (from + count) (most - (k + 1)) in
    let is : one ≡ record_of checked (take count (drop from octets)) =
    c.record_of-record.ensures ∙ ap (record_of checked) (piece_is octets from count) in
    let next = frames_next checked octets from count k most lt c.whole_len-count.ensures.count some in
    let long : length one ≡ 12 = ap length is ∙ record_octets checked (take count (drop from octets)) in
    record {
      frames = omega (arith, lt);
      within = omega (arith, c.whole_len-count.ensures.within, c.frames.invariant.within);
      long = c.add-at.ensures.room ∙ c.frames.invariant.long;
      at = omega (arith, c.add-at.ensures.count, long, c.frames.invariant.at);
      records = rw (c.add-at.ensures.joined, append_assoc done one more, is, ← next.0) c.frames.invariant.records;
      end = sym next.1 ∙ c.frames.invariant.end;
      rest =
          c.add-at.ensures.rest
          ∙ later c.frames.out c.args.out.now c.frames.at c.add-at.result (omega (arith, c.add-at.ensures.count))
          c.frames.invariant.rest;
    }
