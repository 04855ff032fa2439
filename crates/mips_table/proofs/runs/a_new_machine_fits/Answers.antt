-- Its lists are filled with zeros.
use Rattle.mips_table.proofs.StartFits.{start_fits}
use Rattle.mips_table.proofs.runs.a_new_machine_fits.Goals as goal

pub returns : goal.returns
returns c = start_fits
