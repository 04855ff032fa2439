use Rattle.std.proofs.Common.{None, take}
use Rattle.layer_map.specs.Map.{globals_at}
use Rattle.cvm_outside.specs.Outside.{output}
use Rattle.cvm_outside.specs.Script.{Puts}
use Rattle.boot_report.specs.Globals.{globals_rows}
use Rattle.boot_report.proofs.globals.put_globals.Given as goal

abbrev pub invariant-loop-i : goal.invariant-loop-i
invariant-loop-i g l = Puts (globals_rows (take l.i l.decls) l.machine.hardware.memory (globals_at l.map) l.offsets) (output g.O.Sink l.fn.out) (output g.O.Sink l.out) None
