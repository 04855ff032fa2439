use Rattle.program_systems.proofs.ProgramsCome.{ends_come}
use Rattle.program_systems.proofs.ends_come.Goals as goal

pub returns : goal.returns
returns c = ends_come c.users_go_on.ensures c.programs_come.ensures c.programs_trap.ensures c.traps_are_known.ensures
