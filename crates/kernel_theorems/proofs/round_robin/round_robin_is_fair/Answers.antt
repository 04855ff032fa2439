use Rattle.kernel_theorems.proofs.RoundRobins.{round_robin_is_fair}
use Rattle.kernel_theorems.proofs.round_robin.round_robin_is_fair.Goals as goal

pub returns : goal.returns
returns c = round_robin_is_fair c.runs_are_lawful.ensures
