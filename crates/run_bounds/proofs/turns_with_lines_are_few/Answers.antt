use Rattle.run_bounds.proofs.FewTurnsHaveLines.{lines_are_few}
use Rattle.run_bounds.proofs.turns_with_lines_are_few.Goals as goal

pub returns : goal.returns
returns c = lines_are_few
