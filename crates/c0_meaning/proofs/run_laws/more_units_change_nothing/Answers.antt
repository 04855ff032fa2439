use Rattle.c0_meaning.proofs.RunsWithinUnits.{more_units}
use Rattle.c0_meaning.proofs.run_laws.more_units_change_nothing.Goals as goal

pub returns : goal.returns
returns g c = more_units _ _
