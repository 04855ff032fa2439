use Rattle.run_scripts.proofs.YesIsEnough.{yes_is_enough}
use Rattle.run_scripts.proofs.laws.yes_is_enough.Goals as goal

pub returns : goal.returns
returns c = yes_is_enough c.scripts_blame.ensures c.sources_have_one_answer.ensures c.bytes_have_one_answer.ensures.one c.opened_units_are_their_sources.ensures
    c.longest_chains_are_kept.ensures
