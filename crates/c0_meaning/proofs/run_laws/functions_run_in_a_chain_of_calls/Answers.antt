use Rattle.c0_meaning.proofs.RunningIsAChain.{functions_are_chained, frames_fit}
use Rattle.c0_meaning.proofs.run_laws.functions_run_in_a_chain_of_calls.Goals as goal

pub returns-clause-chained : goal.returns-clause-chained
returns-clause-chained g c = functions_are_chained _ _

pub returns-clause-fit : goal.returns-clause-fit
returns-clause-fit g c = frames_fit _ _
