use Rattle.c0_meaning.proofs.CallsAreSafe.{calls_answer, dispatches_answer}
use Rattle.c0_meaning.proofs.run_laws.calls_answer_their_types.Goals as goal

pub returns-clause-calls : goal.returns-clause-calls
returns-clause-calls g c = calls_answer _ _

pub returns-clause-dispatches : goal.returns-clause-dispatches
returns-clause-dispatches g c = dispatches_answer _ _
