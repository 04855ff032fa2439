use Rattle.cvm_shell.proofs.ProgramJournals.{spent_programs}
use Rattle.cvm_shell.proofs.laws.spent_programs_run.Goals as goal

pub returns : goal.returns
returns c = spent_programs c.images_run.ensures
