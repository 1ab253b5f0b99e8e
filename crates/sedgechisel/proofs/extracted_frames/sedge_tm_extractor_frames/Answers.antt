use Rattle.std.proofs.Common.{◌≡◌, ◌<◌, ℕ, ◌+◌, ◌-◌, ◌/◌, List, length, take, drop, Bool, true, false}
use Rattle.std.proofs.Common.{Result, sym, ap, ◌∙◌, arith, length-drop}
use Rattle.std.proofs.lemmas.List.{drop-drop}
use Rattle.tm_link.specs.Extractor.{ExtractorState, Extracted}
use Rattle.sedgechisel.specs.Extractors.{extractor_described, Run, is_end, run_from, before, record_of, packets_by}
use Rattle.sedgechisel.specs.Extractors.{came_of, state_by}
use Rattle.sedgechisel.proofs.Pieces.{piece_is, later, all_done}
use Rattle.sedgechisel.proofs.Extractors.{IsNext, next_is, run_next, run_none, run_done, runs_on, end_is}
use Rattle.sedgechisel.proofs.Extractors.{record_is, came_equal}
use Rattle.sedgechisel.proofs.extracted_frames.sedge_tm_extractor_frames.Goals as goal

pub returns-then-is_end : goal.returns-then-is_end
returns-then-is_end c =
    let total : ℕ = c.args.frame_length in
    let state : Result ExtractorState ℕ = extractor_described c.frames.extractor c.frames.memory in
    let end : is_end total (length c.args.memory.now) (length c.args.packets.now - c.frames.end)
    (drop c.frames.from c.args.octets.now) ≡ true =
    end_is total c.frames.end c.frames.from c.frames.memory c.args.memory.now c.frames.packets c.args.packets.now
    c.args.octets.now c.frames.invariant.memory c.frames.invariant.place
    ∙ sym c.is_end.ensures ∙ c.if-is_end.true in
    let ends = rw (run_none total (length c.args.memory.now) (length c.args.packets.now - c.frames.end)
    (drop c.frames.from c.args.octets.now) state c.frames.frames (length c.args.out.now / 19) c.frames-test.true end)
    at c.frames.invariant.runs in
    let records = all_done c.frames.out c.args.out.now _ c.frames.at
    (omega (arith, c.frames.invariant.at, c.frames.invariant.frames, c.frames.invariant.out)) ends.records
    c.frames.invariant.after_records in
    let packets = all_done c.frames.packets c.args.packets.now _ c.frames.end c.frames.invariant.end ends.packets
    c.frames.invariant.after_packets in
    record {
      records = records.1;
      packets = packets.1;
      after = ends.after;
      frames = sym c.frames.invariant.at ∙ records.0;
      total = packets.0;
    }

pub returns-clause-packets : goal.returns-clause-packets
returns-clause-packets c =
    let most : ℕ = length c.args.out.now / 19 in
    let state : Result ExtractorState ℕ = extractor_described c.frames.extractor c.frames.memory in
    let ends = rw (run_done c.args.frame_length (length c.args.memory.now) (length c.args.packets.now - c.frames.end)
    (drop c.frames.from c.args.octets.now) state c.frames.frames most (omega (arith, c.frames-test.false)))
    at c.frames.invariant.runs in
    (all_done c.frames.packets c.args.packets.now _ c.frames.end c.frames.invariant.end ends.packets
    c.frames.invariant.after_packets).1

pub frames-preserved : goal.frames-preserved
frames-preserved c =
    let total : ℕ = c.args.frame_length in
    let room : ℕ = length c.args.memory.now in
    let most : ℕ = length c.args.out.now / 19 in
    let k : ℕ = c.frames.frames in
    let from : ℕ = c.frames.from in
    let octets : List ℕ = c.args.octets.now in
    let left : ℕ = length c.args.packets.now - c.frames.end in
    let state : Result ExtractorState ℕ = extractor_described c.frames.extractor c.frames.memory in
    let one : List ℕ = take total (drop from octets) in
    let came : Result (Extracted × Bool) ℕ = came_of state room one in
    let lt : k < most = c.frames-test.true in
    let goes : is_end total room left (drop from octets) ≡ false =
    end_is total c.frames.end from c.frames.memory c.args.memory.now c.frames.packets
    c.args.packets.now octets c.frames.invariant.memory c.frames.invariant.place
    ∙ sym c.is_end.ensures ∙ c.if-is_end.false in
    let next : IsNext total room left (drop from octets) = next_is total room left (drop from octets) goes in
    let piece : take (from + total - from) (drop from octets) ≡ one = piece_is octets from total in
    let is : c.take_one-taken.result.0 ≡ record_of state room one =
    c.take_one-taken.ensures.record ∙ record_is state _ room _ one c.frames.invariant.memory piece in
    let comes : came_of state (length c.frames.memory) (take (from + total - from) (drop from octets)) ≡ came =
    came_equal state _ room _ one c.frames.invariant.memory piece in
    let packets : List ℕ = packets_by came in
    let end : c.take_one-taken.result.1 ≡ c.frames.end + length packets = rw comes at c.take_one-taken.ensures.end in
    let after : extractor_described c.take_one-taken.new.extractor c.take_one-taken.new.memory ≡ state_by came state =
    rw comes at c.take_one-taken.ensures.state in
    let more : Run = run_from total room (length c.args.packets.now - c.take_one-taken.result.1)
    (drop (from + total) octets)
    (extractor_described c.take_one-taken.new.extractor c.take_one-taken.new.memory) (most - (k + 1)) in
    let long : length c.take_one-taken.result.0 ≡ 19 = ap length is in
    let same : run_from total room left (drop from octets) state (most - k)
    ≡ before (record_of state room one) packets more =
    run_next total room left _ (drop from octets) _ state _ k most lt goes (omega (arith, end))
    (drop-drop total from octets) (sym after) in
    let runs = runs_on (take c.frames.at c.frames.out) (take c.frames.end c.frames.packets)
    (record_of state room one) packets _ more _ c.frames.invariant.runs same in
    record {
      frames = omega (arith, lt);
      within = omega (arith, next.within, length-drop from octets, next.some);
      end = omega (arith, c.take_one-taken.ensures.within, c.take_one-taken.ensures.long);
      at = omega (arith, c.add-at.ensures.count, long, c.frames.invariant.at);
      out = c.add-at.ensures.room ∙ c.frames.invariant.out;
      place = c.take_one-taken.ensures.long ∙ c.frames.invariant.place;
      memory = c.take_one-taken.ensures.memory ∙ c.frames.invariant.memory;
      runs = record {
        records = rw (c.add-at.ensures.joined, is) runs.records;
        packets = rw (c.take_one-taken.ensures.packets, comes) runs.packets;
        after = runs.after;
      };
      after_records =
          c.add-at.ensures.rest
          ∙ later c.frames.out c.args.out.now c.frames.at c.add-at.result (omega (arith, c.add-at.ensures.count))
          c.frames.invariant.after_records;
      after_packets =
          c.take_one-taken.ensures.rest
          ∙ later c.frames.packets c.args.packets.now c.frames.end c.take_one-taken.result.1 (omega (arith, end))
          c.frames.invariant.after_packets;
    }
