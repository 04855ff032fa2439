use Rattle.program_systems.proofs.ProgramsCome.{programs_come}
use Rattle.program_systems.proofs.programs_come.Goals as goal

pub returns : goal.returns
returns c = programs_come c.users_go_on.ensures c.programs_stay.ensures
