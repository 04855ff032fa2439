-- How the command ends is what was performed; all else follows of each command that ends so.
use Rattle.cvm_shell.proofs.run.Goals as goal

pub returns : goal.returns
returns g c = record {
  script = c.run_command.ensures;
  headline = c.headlines_hold.ensures _ _ _ _ c.run_command.ensures;
  complete = c.runs_are_complete.ensures _ _ _ _ c.run_command.ensures;
  isolated = c.traces_are_isolated.ensures _ _ _ _ c.run_command.ensures;
  suffices = c.yes_is_enough.ensures _ _ _ _ c.run_command.ensures;
  saves = c.saves_are_held.ensures _ _ _ _ c.run_command.ensures;
  saves_complete = c.saves_are_complete.ensures _ _ _ _ c.run_command.ensures;
  resumes = c.resumes_are_held.ensures _ _ _ _ c.run_command.ensures;
  resumes_complete = c.resumes_are_complete.ensures _ _ _ _ c.run_command.ensures;
}
