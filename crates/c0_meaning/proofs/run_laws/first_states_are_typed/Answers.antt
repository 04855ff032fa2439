use Rattle.c0_meaning.proofs.CallsAreSafe.{first_is_typed}
use Rattle.c0_meaning.proofs.run_laws.first_states_are_typed.Goals as goal

pub returns : goal.returns
returns c = first_is_typed
