use Rattle.std.proofs.Common.{◌≡◌, drop, max}
use Rattle.bound_check.specs.Marks.{most}
use Rattle.bound_check.proofs.marks.most_told.Given as goal

abbrev pub invariant-loop-function : goal.invariant-loop-function
invariant-loop-function l = max l.words (most l.marks (drop l.function-index l.functions)) ≡ most l.marks l.functions
