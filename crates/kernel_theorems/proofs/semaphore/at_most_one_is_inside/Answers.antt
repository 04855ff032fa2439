use Rattle.kernel_theorems.proofs.AtMostOneInside.{at_most_one_is_inside}
use Rattle.kernel_theorems.proofs.semaphore.at_most_one_is_inside.Goals as goal

pub returns : goal.returns
returns c = at_most_one_is_inside c.sets_are_found.ensures c.runs_are_lawful.ensures
