use Rattle.tc_link.proofs.FramesAgain.{each_comes_again, each_goes_on_again, each_is_answered}
use Rattle.tc_link.proofs.FramesAgain.{each_goes_on_unchanged}
use Rattle.tc_link.proofs.laws.law_of_frames_again.Goals as goal

pub returns-clause-again : goal.returns-clause-again
returns-clause-again c = each_comes_again

pub returns-clause-goes_on : goal.returns-clause-goes_on
returns-clause-goes_on c = each_goes_on_again

pub returns-clause-unchanged : goal.returns-clause-unchanged
returns-clause-unchanged c = each_goes_on_unchanged

pub returns-clause-answered : goal.returns-clause-answered
returns-clause-answered c = each_is_answered
