use Rattle.program_systems.proofs.ProgramsCome.{calls_come}
use Rattle.program_systems.proofs.calls_come.Goals as goal

pub returns : goal.returns
returns c = calls_come c.users_go_on.ensures c.programs_come.ensures c.programs_trap.ensures c.traps_are_known.ensures
