use Rattle.kernel_boots.proofs.StatesPrinted.{traces_stand}
use Rattle.kernel_boots.proofs.traces_show_their_states.Goals as goal

pub returns : goal.returns
returns c = traces_stand c.runs_are_lawful.ensures c.units_replay.ensures c.users_are_isolated.ensures
