use Rattle.run_scripts.proofs.KeysOfEachRun.{ends_are_over}
use Rattle.run_scripts.proofs.laws.ends_are_over.Goals as goal

pub returns : goal.returns
returns c = ends_are_over c.laws_below.ensures.runs
