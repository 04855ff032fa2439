use Rattle.std.proofs.Common.{◌≡◌, refl, arith}
use Rattle.std.proofs.lemmas.Result.{err_from_is_err_and}
use Rattle.boot_report.proofs.TextsInTurn.{rows_none, rows_more, rows_stop}
use Rattle.boot_report.proofs.users.put_registers.Goals as goal

pub loop-i-init : goal.loop-i-init
loop-i-init g c = rows_none _ _

pub loop-i-preserved : goal.loop-i-preserved
loop-i-preserved g c = rows_more _ _ _ _ _ _ _ refl c.loop-i.invariant (rw c.register_of.ensures at c.in_ok-put_register.ensures)

pub returns-in_err-put_register : goal.returns-in_err-put_register
returns-in_err-put_register g c =
    let h = err_from_is_err_and c.from_residual.result c.from_residual.ensures.1 in
    rw h.1 (rows_stop _ _ _ _ _ _ _ (omega arith) c.loop-i.invariant (rw c.register_of.ensures at c.in_err-put_register.ensures))

pub returns : goal.returns
returns g c = let all : c.loop-i.i ≡ 31 = omega arith in rw all at c.loop-i.invariant
