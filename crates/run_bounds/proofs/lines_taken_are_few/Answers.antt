use Rattle.run_bounds.proofs.LinesTaken.{lines_taken_are_few}
use Rattle.run_bounds.proofs.lines_taken_are_few.Goals as goal

pub returns : goal.returns
returns c = lines_taken_are_few
