use Rattle.kernel_boots.proofs.StatesPrinted.{saves_stand}
use Rattle.kernel_boots.proofs.saves_show_their_states.Goals as goal

pub returns : goal.returns
returns c = saves_stand c.runs_are_lawful.ensures c.turns_are_counted.ensures c.runs_are_taken_up.ensures
