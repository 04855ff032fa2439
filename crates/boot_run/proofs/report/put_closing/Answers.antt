use Rattle.std.proofs.Common.{Some, [], ◌∷◌, refl}
use Rattle.std.proofs.lemmas.Result.{err_from_is_err_and}
use Rattle.cvm_outside.specs.Script.{Printed}
use Rattle.cvm_outside.proofs.ScriptsFollow.{both, first}
use Rattle.cvm_outside.proofs.RowsPut.{performed}
use Rattle.boot_run.specs.Report.{kernel_rows}
use Rattle.boot_run.proofs.report.put_closing.Goals as goal

pub returns-in_err-put_kernel : goal.returns-in_err-put_kernel
returns-in_err-put_kernel g c =
    let h = err_from_is_err_and c.from_residual.result c.from_residual.ensures.1 in
    let rows = kernel_rows c.args.standing.halted c.args.machine.now c.args.layout.now.map c.args.layout.now.offsets.items c.args.decls.now in
    rw (h.1, h.2) (λ shelf. first (Printed (Some rows) ∷ []) _ _ _ _ (performed (Some rows) rows shelf _ _ _ _ refl c.in_err-put_kernel.ensures))

pub returns : goal.returns
returns g c = λ shelf.
    let rows = kernel_rows c.args.standing.halted c.args.machine.now c.args.layout.now.map c.args.layout.now.offsets.items c.args.decls.now in
    both (Printed (Some rows) ∷ []) _ _ _ _ _ (performed (Some rows) rows shelf _ _ _ _ refl c.in_ok-put_kernel.ensures) (rw c.runs_now-running.ensures at (c.put_users.ensures shelf))
