use Rattle.tc_link.proofs.Silence.{silence_is_idle}
use Rattle.tc_link.proofs.laws.law_of_silence.Goals as goal

pub returns : goal.returns
returns c = silence_is_idle
