use Rattle.run_bounds.proofs.FewTurnsHaveLines.{raised_lines_are_few}
use Rattle.run_bounds.proofs.raised_lines_are_few.Goals as goal

pub returns : goal.returns
returns c = raised_lines_are_few c.turns_with_lines_are_few.ensures
