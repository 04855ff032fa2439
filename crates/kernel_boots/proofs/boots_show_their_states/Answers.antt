use Rattle.kernel_boots.proofs.StatesShown.{boots_stand}
use Rattle.kernel_boots.proofs.boots_show_their_states.Goals as goal

pub returns : goal.returns
returns c = boots_stand c.runs_are_lawful.ensures
