use Rattle.commander.proofs.Frames.{each_frame}
use Rattle.commander.proofs.laws.law_of_frames.Goals as goal

pub returns : goal.returns
returns c = each_frame
