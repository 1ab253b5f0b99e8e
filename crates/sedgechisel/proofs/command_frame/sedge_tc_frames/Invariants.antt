use Rattle.std.proofs.Common.{◌≡◌, ◌≤◌, ◌-◌, ◌*◌, ◌/◌, ◌++◌, length, take, drop}
use Rattle.sedgechisel.specs.CommandFrames.{records_from, end_from}
use Rattle.sedgechisel.proofs.command_frame.sedge_tc_frames.Given as goal

abbrev pub invariant-frames : goal.invariant-frames
invariant-frames l = record {
  frames : l.frames ≤ length l.fn.out / 12;
  within : l.from ≤ length l.octets;
  long : length l.out ≡ length l.fn.out;
  at : l.at ≡ 12 * l.frames;
  records : take l.at l.out ++ records_from l.checked l.octets l.from (length l.fn.out / 12 - l.frames)
      ≡ records_from l.checked l.octets 0 (length l.fn.out / 12);
  end : end_from l.checked l.octets l.from (length l.fn.out / 12 - l.frames)
      ≡ end_from l.checked l.octets 0 (length l.fn.out / 12);
  rest : drop l.at l.out ≡ drop l.at l.fn.out;
}

abbrev pub decreases-frames : goal.decreases-frames
decreases-frames l = length l.fn.out / 12 - l.frames
