-- By the law that the body calls.
use Rattle.layer_contract.proofs.LoadedStarts.{loaded_starts, loaded_keeps}
use Rattle.layer_contract.proofs.the_loaded_machine_starts.Goals as goal

pub returns-clause-start : goal.returns-clause-start
returns-clause-start c = loaded_starts c.the_loaded_machine_resets.ensures

pub returns-clause-beyond : goal.returns-clause-beyond
returns-clause-beyond c = loaded_keeps
