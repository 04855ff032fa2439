use Rattle.c0_meaning.proofs.CallsAreSafe.{calls_are_safe, dispatches_are_safe}
use Rattle.c0_meaning.proofs.run_laws.calls_are_safe.Goals as goal

pub returns-clause-calls : goal.returns-clause-calls
returns-clause-calls g c = calls_are_safe _ _

pub returns-clause-dispatches : goal.returns-clause-dispatches
returns-clause-dispatches g c = dispatches_are_safe _ _
