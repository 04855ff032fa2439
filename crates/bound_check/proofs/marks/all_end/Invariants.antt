use Rattle.std.proofs.Common.{◌≡◌, drop}
use Rattle.bound_check.specs.Marks.{all_end}
use Rattle.bound_check.proofs.marks.all_end.Given as goal

abbrev pub invariant-loop-function : goal.invariant-loop-function
invariant-loop-function l = all_end l.marks (drop l.function-index l.functions) ≡ all_end l.marks l.functions
