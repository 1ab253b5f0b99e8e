use Rattle.commander.proofs.Frames.{begins_in_silence}
use Rattle.commander.proofs.laws.law_of_silence.Goals as goal

pub returns : goal.returns
returns c = begins_in_silence
