use Rattle.boot_turns.proofs.TurnScripts.{steps_join, rows_last}
use Rattle.boot_turns.proofs.step_scripts_join.Goals as goal

pub returns-clause-join : goal.returns-clause-join
returns-clause-join c = steps_join

pub returns-clause-last : goal.returns-clause-last
returns-clause-last c = rows_last
