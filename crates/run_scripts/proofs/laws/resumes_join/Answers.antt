use Rattle.run_scripts.proofs.laws.resumes_join.Goals as goal
use Rattle.run_scripts.proofs.ResumeScripts.{resumes_join}

pub returns : goal.returns
returns c = resumes_join
