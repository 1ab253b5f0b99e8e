use Rattle.std.proofs.Common.{◌≡◌, ℕ, ◌+◌, ◌-◌, List, length, take, true, Result, Err, refl, sym, ap}
use Rattle.std.proofs.Common.{◌∙◌, arith}
use Rattle.std.specs.List.{concat}
use Rattle.std.proofs.lemmas.List.{append-nil}
use Rattle.octets.specs.Outcome.{map_ok}
use Rattle.tm_link.specs.Extractor.{Extracted}
use Rattle.tm_link.specs.Layout.{FrameView}
use Rattle.sedgechisel.specs.declared.telemetry_extractor.KeptExtractor.{KeptExtractor}
use Rattle.sedgechisel.specs.declared.telemetry_extractor.TakenFrame.{TakenFrame}
use Rattle.sedgechisel.specs.declared.extracted_frames.Came.{Came}
use Rattle.sedgechisel.specs.TelemetryFrames.{frame_described}
use Rattle.sedgechisel.specs.Receivers.{flag_number}
use Rattle.sedgechisel.specs.Extractors.{is_extractor, state_of, extractor_described, extracted_described, extracted_at}
use Rattle.sedgechisel.specs.Extractors.{is_extracted, packets_described}
use Rattle.sedgechisel.proofs.Extractors.{paired, came_is, refused_is, IsTaken, taken_is, extracted_is}
use Rattle.sedgechisel.proofs.Extractors.{gap_is, came_same}
use Rattle.sedgechisel.proofs.extracted_frames.take_frame.Goals as goal
use Rattle.sedgechisel.proofs.extracted_frames.take_frame.Goals.{After-sedge_tm_extractor_frame-fault}

pub returns-then-fault-ne0 : goal.returns-then-fault-ne0
returns-then-fault-ne0 c =
    let x : KeptExtractor = c.args.extractor.now in
    let memory : List ℕ = c.args.memory.now in
    let f : FrameView = frame_described c.args.frame.now c.args.payload.now in
    let n : ℕ = c.sedge_tm_extractor_frame-fault.result in
    let r : Result Extracted ℕ = extracted_at x c.args.frame.now c.args.payload.now memory in
    let is : r ≡ Err n = refused_is r n c.sedge_tm_extractor_frame-fault.ensures.answer c.if-fault-ne0.true in
    let came = came_is x c.args.frame.now c.args.payload.now memory ∙ ap (map_ok (paired (state_of x memory) f)) is in
    let same = rw is at c.sedge_tm_extractor_frame-fault.ensures.unchanged in
    let none : c.refused.result.count ≡ 0 = ap (λ (k : Came). k.count) c.refused.ensures in
    let end : c.args.at + c.refused.result.count ≡ c.args.at = omega (arith, none) in
    record {
      came = rw came c.refused.ensures;
      state = rw came (
          ap (λ (y : KeptExtractor). extractor_described y c.sedge_tm_extractor_frame-fault.new.memory) same.0
          ∙ ap (extractor_described x) same.2
          );
      packets = rw (came, end) (sym (append-nil (take c.args.at c.args.packets.now)));
      count = rw came none;
      rest = refl;
      within = omega (arith, end, c.requires.room);
      long = refl;
      memory = c.sedge_tm_extractor_frame-fault.auto.memory;
    }

-- what becomes of a frame that is taken
taken : (c : After-sedge_tm_extractor_frame-fault) → 0 ≡ c.sedge_tm_extractor_frame-fault.result
    → IsTaken c.args.extractor.now c.args.frame.now c.args.payload.now c.args.memory.now
    (extracted_described c.sedge_tm_extractor_frame-fault.new.extractor c.sedge_tm_extractor_frame-fault.new.extracted
    c.sedge_tm_extractor_frame-fault.new.memory c.args.payload.now)
taken c zero =
    taken_is c.args.extractor.now c.args.frame.now c.args.payload.now c.args.memory.now _
    (zero ∙ c.sedge_tm_extractor_frame-fault.ensures.answer) c.sedge_tm_extractor_frame-fault.ensures.describes

pub put_packets-end-requires-clause-taken : goal.put_packets-end-requires-clause-taken
put_packets-end-requires-clause-taken c =
    let is = taken (goal.at.put_packets-end-requires-clause-taken c).After-sedge_tm_extractor_frame-fault
    (omega (arith, c.if-fault-ne0.false)) in
    ap (λ (n : ℕ). is_extracted c.sedge_tm_extractor_frame-fault.new.extracted n (length c.args.payload.now))
    c.sedge_tm_extractor_frame-fault.auto.memory
    ∙ (rw is.answer at c.sedge_tm_extractor_frame-fault.ensures.counted)

pub returns : goal.returns
returns c =
    let x : KeptExtractor = c.args.extractor.now in
    let y : KeptExtractor = c.sedge_tm_extractor_frame-fault.new.extractor in
    let memory : List ℕ = c.args.memory.now in
    let payload : List ℕ = c.args.payload.now in
    let t : TakenFrame = c.sedge_tm_extractor_frame-fault.new.extracted in
    let after : List ℕ = c.sedge_tm_extractor_frame-fault.new.memory in
    let is = taken (goal.at.returns c).After-sedge_tm_extractor_frame-fault (omega (arith, c.if-fault-ne0.false)) in
    let counted = rw is.answer at c.sedge_tm_extractor_frame-fault.ensures.counted in
    let gap = gap_is t (length memory) (length payload) (extracted_is t (length memory) (length payload) counted) in
    let drops = c.number_of_flag.ensures ∙ ap flag_number (c.is_dropped-dropped.ensures is.extractor is.fits) in
    let count : c.put_packets-end.result - c.args.at ≡ length (concat (packets_described t after payload)) =
    omega (arith, c.put_packets-end.ensures.end) in
    let room : length after ≡ length memory = c.sedge_tm_extractor_frame-fault.auto.memory in
    let whole : is_extractor y (length after) ≡ true =
    ap (is_extractor y) room ∙ (rw is.answer at c.sedge_tm_extractor_frame-fault.ensures.extractor) in
    let end : c.args.at + (c.put_packets-end.result - c.args.at) ≡ c.put_packets-end.result =
    omega (arith, c.put_packets-end.ensures.end) in
    record {
      came = rw is.came
          (came_same t.first t.lost c.number_of_flag.result (c.put_packets-end.result - c.args.at) _ _ _ _ gap.0 gap.1
          drops count);
      state = rw (is.came, whole) refl;
      packets = rw (is.came, end) c.put_packets-end.ensures.packets;
      count = rw is.came count;
      rest = rw end c.put_packets-end.ensures.rest;
      within = rw end c.put_packets-end.ensures.within;
      long = c.put_packets-end.ensures.long;
      memory = room;
    }
