use Rattle.run_scripts.proofs.FaultsLeave.{faults_leave}
use Rattle.run_scripts.proofs.laws.faults_leave.Goals as goal

pub returns : goal.returns
returns c = faults_leave c.laws_below.ensures
