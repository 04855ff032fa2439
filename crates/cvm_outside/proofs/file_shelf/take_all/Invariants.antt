-- Fewer bytes were taken so far than are too long.
use Rattle.std.proofs.Common.{◌<◌, length}
use Rattle.cvm_outside.proofs.file_shelf.take_all.Given as goal

abbrev pub invariant-loop : goal.invariant-loop
invariant-loop g l = length l.bytes.items < 67108865
