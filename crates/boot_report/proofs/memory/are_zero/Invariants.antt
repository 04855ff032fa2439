use Rattle.std.proofs.Common.{◌≡◌, ℕ, ◌<◌, ◌≤◌}
use Rattle.std.specs.Prelude.{slice_index}
use Rattle.boot_report.proofs.memory.are_zero.Given as goal

abbrev pub invariant-loop-i : goal.invariant-loop-i
invariant-loop-i l = record {
  most : (k : ℕ) → k < l.i → slice_index l.words k ≤ l.seen;
  zero : ((k : ℕ) → k < l.i → slice_index l.words k ≡ 0) → l.seen ≡ 0;
}
