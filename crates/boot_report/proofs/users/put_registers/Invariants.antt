use Rattle.std.proofs.Common.{None}
use Rattle.cvm_outside.specs.Outside.{output}
use Rattle.cvm_outside.specs.Script.{Puts}
use Rattle.boot_report.specs.Texts.{register_rows, shown_cpu}
use Rattle.boot_report.proofs.users.put_registers.Given as goal

abbrev pub invariant-loop-i : goal.invariant-loop-i
invariant-loop-i g l = Puts (register_rows (shown_cpu l.machine l.runs l.user) l.i) (output g.O.Sink l.fn.out) (output g.O.Sink l.out) None
