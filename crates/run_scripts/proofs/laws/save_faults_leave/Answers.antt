use Rattle.run_scripts.proofs.FaultsLeave.{save_faults_leave}
use Rattle.run_scripts.proofs.laws.save_faults_leave.Goals as goal

pub returns : goal.returns
returns c = save_faults_leave c.laws_below.ensures
