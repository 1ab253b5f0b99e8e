use Rattle.std.proofs.Common.{◌≡◌, ◌≤◌, ◌-◌, ◌*◌, ◌/◌, length, take, drop}
use Rattle.sedgechisel.specs.Extractors.{extractor_described, run_from}
use Rattle.sedgechisel.proofs.Extractors.{RunsTo}
use Rattle.sedgechisel.proofs.extracted_frames.sedge_tm_extractor_frames.Given as goal

abbrev pub invariant-frames : goal.invariant-frames
invariant-frames l = record {
  frames : l.frames ≤ length l.fn.out / 19;
  within : l.from ≤ length l.octets;
  end : l.end ≤ length l.packets;
  at : l.at ≡ 19 * l.frames;
  out : length l.out ≡ length l.fn.out;
  place : length l.packets ≡ length l.fn.packets;
  memory : length l.memory ≡ length l.fn.memory;
  runs : RunsTo (take l.at l.out) (take l.end l.packets)
      (run_from l.frame_length (length l.fn.memory) (length l.fn.packets - l.end) (drop l.from l.octets)
      (extractor_described l.extractor l.memory) (length l.fn.out / 19 - l.frames))
      (run_from l.frame_length (length l.fn.memory) (length l.fn.packets) l.octets
      (extractor_described l.fn.extractor l.fn.memory) (length l.fn.out / 19));
  after_records : drop l.at l.out ≡ drop l.at l.fn.out;
  after_packets : drop l.end l.packets ≡ drop l.end l.fn.packets;
}

abbrev pub decreases-frames : goal.decreases-frames
decreases-frames l = length l.fn.out / 19 - l.frames
