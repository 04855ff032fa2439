use Rattle.program_systems.proofs.ProgramsAskAndEnd.{programs_ask_and_end}
use Rattle.program_systems.proofs.programs_ask_and_end.Goals as goal

pub returns : goal.returns
returns c = programs_ask_and_end c.users_go_on.ensures c.calls_come.ensures c.ends_come.ensures c.ints_are_told.ensures
