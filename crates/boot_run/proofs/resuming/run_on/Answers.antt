use Rattle.std.proofs.Common.{sym}
use Rattle.boot_run.proofs.resuming.run_on.Goals as goal

pub returns-clause-script : goal.returns-clause-script
returns-clause-script g c = rw (sym c.turns_left-turns.ensures, sym c.steps_left-steps.ensures.value) c.run_to_end.ensures.script
