use Rattle.tc_link.proofs.Repeated.{repeats_nothing, repeats_nothing_of_frames}
use Rattle.tc_link.proofs.laws.law_of_repetition.Goals as goal

pub returns-clause-words : goal.returns-clause-words
returns-clause-words c = repeats_nothing

pub returns-clause-frames : goal.returns-clause-frames
returns-clause-frames c = repeats_nothing_of_frames
