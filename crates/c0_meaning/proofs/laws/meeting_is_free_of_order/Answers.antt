use Rattle.c0_meaning.proofs.LeastFault.{meeting_is_free, meeting_joins}
use Rattle.c0_meaning.proofs.laws.meeting_is_free_of_order.Goals as goal

pub returns-clause-free : goal.returns-clause-free
returns-clause-free c = meeting_is_free

pub returns-clause-joins : goal.returns-clause-joins
returns-clause-joins c = meeting_joins
