use Rattle.run_scripts.proofs.laws.memory_keeps.Goals as goal
use Rattle.run_scripts.proofs.GetsKeep.{memory_keeps}

pub returns : goal.returns
returns c = memory_keeps
