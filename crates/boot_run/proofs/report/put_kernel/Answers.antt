use Rattle.std.proofs.lemmas.Result.{err_from_is_err_and}
use Rattle.cvm_outside.proofs.RowsPut.{puts_both, puts_first}
use Rattle.boot_report.specs.Texts.{end_row}
use Rattle.boot_run.proofs.report.put_kernel.Goals as goal

pub returns-in_err-put_end : goal.returns-in_err-put_end
returns-in_err-put_end g c =
    let h = err_from_is_err_and c.from_residual.result c.from_residual.ensures.1 in
    rw h.1 (puts_first _ _ _ _ _ (puts_first (end_row c.args.halted) _ _ _ _ c.in_err-put_end.ensures))

pub returns-in_err-put_globals : goal.returns-in_err-put_globals
returns-in_err-put_globals g c =
    let h = err_from_is_err_and c.from_residual-in_err-put_globals.result c.from_residual-in_err-put_globals.ensures.1 in
    rw h.1 (puts_first _ _ _ _ _ (puts_both (end_row c.args.halted) _ _ _ _ _ c.in_ok-put_end.ensures (rw c.deref.ensures.value at c.in_err-put_globals.ensures)))

pub returns-in_err-put_log : goal.returns-in_err-put_log
returns-in_err-put_log g c =
    let h = err_from_is_err_and c.from_residual-in_err-put_log.result c.from_residual-in_err-put_log.ensures.1 in
    rw h.1 (puts_both _ _ _ _ _ _ (puts_both (end_row c.args.halted) _ _ _ _ _ c.in_ok-put_end.ensures (rw c.deref.ensures.value at c.in_ok-put_globals.ensures)) (rw c.log.ensures at c.in_err-put_log.ensures))

pub returns : goal.returns
returns g c =
    puts_both _ _ _ _ _ _ (puts_both (end_row c.args.halted) _ _ _ _ _ c.in_ok-put_end.ensures (rw c.deref.ensures.value at c.in_ok-put_globals.ensures)) (rw c.log.ensures at c.in_ok-put_log.ensures)
