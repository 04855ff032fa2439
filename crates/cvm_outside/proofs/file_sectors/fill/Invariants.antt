-- The bytes filled so far are within the buffer.
use Rattle.std.proofs.Common.{◌≤◌}
use Rattle.cvm_outside.proofs.file_sectors.fill.Given as goal

abbrev pub invariant-loop : goal.invariant-loop
invariant-loop g l = l.filled ≤ 4096
