use Rattle.tc_link.proofs.DeadLink.{each_notices_silence}
use Rattle.tc_link.proofs.GroundSession.{each_holds_what_is_not_acknowledged}
use Rattle.tc_link.proofs.Silent.{holds_what_is_not_acknowledged, gives_up_aloud}
use Rattle.tc_link.proofs.laws.law_of_loss.Goals as goal

pub returns-clause-held : goal.returns-clause-held
returns-clause-held c = holds_what_is_not_acknowledged

pub returns-clause-each : goal.returns-clause-each
returns-clause-each c = each_holds_what_is_not_acknowledged

pub returns-clause-aloud : goal.returns-clause-aloud
returns-clause-aloud c = gives_up_aloud

pub returns-clause-noticed : goal.returns-clause-noticed
returns-clause-noticed c = each_notices_silence
