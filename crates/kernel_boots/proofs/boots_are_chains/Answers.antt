use Rattle.kernel_boots.proofs.SystemsBoot.{boots_are_chains}
use Rattle.kernel_boots.proofs.boots_are_chains.Goals as goal

pub returns : goal.returns
returns c = boots_are_chains c.runs_are_lawful.ensures c.runs_are_chains.ensures
