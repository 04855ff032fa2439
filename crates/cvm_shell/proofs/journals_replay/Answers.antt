use Rattle.cvm_shell.proofs.MachinesReplay.{journals_replayed}
use Rattle.cvm_shell.proofs.journals_replay.Goals as goal

pub returns : goal.returns
returns c = journals_replayed c.units_are_kernels.ensures c.units_dont_matter.ensures c.units_replay.ensures c.users_are_isolated.ensures
