use Rattle.program_systems.proofs.ProgramsCome.{first_calls_come}
use Rattle.program_systems.proofs.first_calls_come.Goals as goal

pub returns : goal.returns
returns c = first_calls_come c.users_go_on.ensures c.calls_come.ensures
