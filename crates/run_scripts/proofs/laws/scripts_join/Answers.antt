use Rattle.run_scripts.proofs.SavesJoin.{scripts_join}
use Rattle.run_scripts.proofs.laws.scripts_join.Goals as goal

pub returns : goal.returns
returns c = scripts_join c.units_dont_matter.ensures c.turns_are_counted.ensures c.step_scripts_join.ensures.join
