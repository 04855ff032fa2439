use Rattle.c0_meaning.proofs.TestedEntries.{dispatches_pass}
use Rattle.c0_meaning.proofs.CallsAreSafe.{dispatches_are_safe}
use Rattle.c0_meaning.proofs.run_laws.entries_pass.Goals as goal

pub returns : goal.returns
returns g c = dispatches_pass _ _ (dispatches_are_safe _ _)
