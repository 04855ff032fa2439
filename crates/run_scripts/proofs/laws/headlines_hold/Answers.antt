use Rattle.run_scripts.proofs.RunPromises.{headlines_hold}
use Rattle.run_scripts.proofs.laws.headlines_hold.Goals as goal

pub returns : goal.returns
returns c = headlines_hold c.laws_below.ensures
