-- No call of the new shelf is to fail.
use Rattle.std.proofs.Common.{◌≡◌, []}
use Rattle.cvm_outside.specs.Shelves.{calls_of}
use Rattle.shell_cases.proofs.sure.copied.Given as goal

abbrev pub invariant-loop-name : goal.invariant-loop-name
invariant-loop-name l = (calls_of l.shelf).failing ≡ []
