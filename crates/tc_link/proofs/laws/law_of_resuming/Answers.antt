use Rattle.tc_link.proofs.Resumed.{resumes_in_order, resumes_so, each_answers_resuming, each_fails_over, each_has_room}
use Rattle.tc_link.proofs.Resumable.{each_knows_exactly}
use Rattle.tc_link.proofs.Shown.{shows_none_by_itself}
use Rattle.tc_link.proofs.Seen.{each_block_is_seen}
use Rattle.tc_link.proofs.laws.law_of_resuming.Goals as goal

pub returns-clause-in_order : goal.returns-clause-in_order
returns-clause-in_order c = resumes_in_order

pub returns-clause-ground : goal.returns-clause-ground
returns-clause-ground c = resumes_so

pub returns-clause-answers : goal.returns-clause-answers
returns-clause-answers c = each_answers_resuming

pub returns-clause-quiet : goal.returns-clause-quiet
returns-clause-quiet c = shows_none_by_itself

pub returns-clause-exactly : goal.returns-clause-exactly
returns-clause-exactly c = each_knows_exactly

pub returns-clause-fails_over : goal.returns-clause-fails_over
returns-clause-fails_over c = each_fails_over

pub returns-clause-room : goal.returns-clause-room
returns-clause-room c = each_has_room

pub returns-clause-blocks : goal.returns-clause-blocks
returns-clause-blocks c = each_block_is_seen
