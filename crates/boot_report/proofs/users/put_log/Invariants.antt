use Rattle.std.proofs.Common.{None, codes}
use Rattle.std.specs.Prelude.{slice_index}
use Rattle.cvm_outside.specs.Outside.{output}
use Rattle.cvm_outside.specs.Script.{Puts}
use Rattle.cvm_model.specs.Text.{hex_row}
use Rattle.boot_report.specs.Texts.{texts}
use Rattle.boot_report.proofs.users.put_log.Given as goal

abbrev pub invariant-loop-i : goal.invariant-loop-i
invariant-loop-i g l = Puts (texts (λ i. hex_row (codes "con") (slice_index l.log i)) l.i) (output g.O.Sink l.fn.out) (output g.O.Sink l.out) None
