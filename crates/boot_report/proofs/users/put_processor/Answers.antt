use Rattle.std.proofs.lemmas.Result.{err_from_is_err_and}
use Rattle.cvm_outside.proofs.RowsPut.{puts_both, puts_first}
use Rattle.boot_report.proofs.users.put_processor.Goals as goal

pub returns-in_err-put_user : goal.returns-in_err-put_user
returns-in_err-put_user g c =
    let h = err_from_is_err_and c.from_residual.result c.from_residual.ensures.1 in
    rw h.1 (puts_first _ _ _ _ _ (puts_first _ _ _ _ _ (puts_first _ _ _ _ _ (rw c.pc_of.ensures at c.in_err-put_user.ensures))))

pub returns-in_err-put_registers : goal.returns-in_err-put_registers
returns-in_err-put_registers g c =
    let h = err_from_is_err_and c.from_residual-in_err-put_registers.result c.from_residual-in_err-put_registers.ensures.1 in
    rw h.1 (puts_first _ _ _ _ _ (puts_first _ _ _ _ _ (puts_both _ _ _ _ _ _ (rw c.pc_of.ensures at c.in_ok-put_user.ensures) c.in_err-put_registers.ensures)))

pub returns-in_err-put_hi : goal.returns-in_err-put_hi
returns-in_err-put_hi g c =
    let h = err_from_is_err_and c.from_residual-in_err-put_hi.result c.from_residual-in_err-put_hi.ensures.1 in
    rw h.1 (puts_first _ _ _ _ _ (puts_both _ _ _ _ _ _ (puts_both _ _ _ _ _ _ (rw c.pc_of.ensures at c.in_ok-put_user.ensures) c.in_ok-put_registers.ensures) (rw c.hi_of.ensures at c.in_err-put_hi.ensures)))

pub returns-in_err-put_lo : goal.returns-in_err-put_lo
returns-in_err-put_lo g c =
    let h = err_from_is_err_and c.from_residual-in_err-put_lo.result c.from_residual-in_err-put_lo.ensures.1 in
    rw h.1 (puts_both _ _ _ _ _ _ (puts_both _ _ _ _ _ _ (puts_both _ _ _ _ _ _ (rw c.pc_of.ensures at c.in_ok-put_user.ensures) c.in_ok-put_registers.ensures) (rw c.hi_of.ensures at c.in_ok-put_hi.ensures)) (rw c.lo_of.ensures at c.in_err-put_lo.ensures))

pub returns : goal.returns
returns g c =
    puts_both _ _ _ _ _ _ (puts_both _ _ _ _ _ _ (puts_both _ _ _ _ _ _ (rw c.pc_of.ensures at c.in_ok-put_user.ensures) c.in_ok-put_registers.ensures) (rw c.hi_of.ensures at c.in_ok-put_hi.ensures)) (rw c.lo_of.ensures at c.in_ok-put_lo.ensures)
