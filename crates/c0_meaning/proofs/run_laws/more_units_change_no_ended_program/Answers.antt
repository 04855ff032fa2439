use Rattle.c0_meaning.proofs.EndedStaysSo.{programs_end}
use Rattle.c0_meaning.proofs.run_laws.more_units_change_no_ended_program.Goals as goal

pub returns : goal.returns
returns c = programs_end
