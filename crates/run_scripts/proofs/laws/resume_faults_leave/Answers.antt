use Rattle.run_scripts.proofs.ResumeFaults.{resume_faults_leave}
use Rattle.run_scripts.proofs.laws.resume_faults_leave.Goals as goal

pub returns : goal.returns
returns c = resume_faults_leave c.laws_below.ensures c.resumable_words_are_answered.ensures.resumable
