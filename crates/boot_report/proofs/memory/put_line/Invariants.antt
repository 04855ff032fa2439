use Rattle.std.proofs.Common.{None, ◌+◌}
use Rattle.std.specs.Prelude.{slice_index}
use Rattle.cvm_outside.specs.Outside.{output}
use Rattle.cvm_outside.specs.Script.{Puts}
use Rattle.boot_report.specs.Texts.{texts, memory_row}
use Rattle.boot_report.proofs.memory.put_line.Given as goal

abbrev pub invariant-loop-i : goal.invariant-loop-i
invariant-loop-i g l = Puts (texts (λ i. memory_row (l.first + i) (slice_index l.words i)) l.i) (output g.O.Sink l.fn.out) (output g.O.Sink l.out) None
