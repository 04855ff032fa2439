use Rattle.std.proofs.Common.{codes, ◌++◌}
use Rattle.std.proofs.lemmas.Result.{err_from_is_err_and}
use Rattle.cvm_outside.proofs.RowsPut.{puts_both, puts_first, puts_same}
use Rattle.boot_report.proofs.GlobalInThreeParts.{row_is, not_empty}
use Rattle.boot_report.proofs.globals.put_named.Goals as goal

pub returns-in_err-put : goal.returns-in_err-put
returns-in_err-put g c =
    let h = err_from_is_err_and c.from_residual.result c.from_residual.ensures.1 in
    let ne = not_empty c.args.end.now c.is_empty.result c.is_empty.ensures c.if-is_empty.false in
    rw h.1 (puts_same _ _ _ _ _ (row_is c.args.name.now c.args.end.now ne) (puts_first (codes "global " ++ c.args.name.now) c.args.end.now _ _ _ (puts_first (codes "global ") c.args.name.now _ _ _ c.in_err-put.ensures)))

pub returns-in_err-put-2 : goal.returns-in_err-put-2
returns-in_err-put-2 g c =
    let h = err_from_is_err_and c.from_residual-in_err-put-2.result c.from_residual-in_err-put-2.ensures.1 in
    let ne = not_empty c.args.end.now c.is_empty.result c.is_empty.ensures c.if-is_empty.false in
    rw h.1 (puts_same _ _ _ _ _ (row_is c.args.name.now c.args.end.now ne) (puts_first (codes "global " ++ c.args.name.now) c.args.end.now _ _ _ (puts_both (codes "global ") c.args.name.now _ _ _ _ c.in_ok-put.ensures c.in_err-put-2.ensures)))

pub returns-in_err-put-3 : goal.returns-in_err-put-3
returns-in_err-put-3 g c =
    let h = err_from_is_err_and c.from_residual-in_err-put-3.result c.from_residual-in_err-put-3.ensures.1 in
    let ne = not_empty c.args.end.now c.is_empty.result c.is_empty.ensures c.if-is_empty.false in
    rw h.1 (puts_same _ _ _ _ _ (row_is c.args.name.now c.args.end.now ne) (puts_both _ _ _ _ _ _ (puts_both _ _ _ _ _ _ c.in_ok-put.ensures c.in_ok-put-2.ensures) c.in_err-put-3.ensures))

pub returns : goal.returns
returns g c =
    let ne = not_empty c.args.end.now c.is_empty.result c.is_empty.ensures c.if-is_empty.false in
    puts_same _ _ _ _ _ (row_is c.args.name.now c.args.end.now ne) (puts_both _ _ _ _ _ _ (puts_both _ _ _ _ _ _ c.in_ok-put.ensures c.in_ok-put-2.ensures) c.in_ok-put-3.ensures)
