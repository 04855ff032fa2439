use Rattle.std.proofs.Common.{◌∙◌}
use Rattle.std.proofs.lemmas.Result.{err_from_is_err_and}
use Rattle.cvm_outside.proofs.RowsPut.{puts_both, puts_first, puts_same}
use Rattle.boot_run.proofs.turn_rows.put_both.Goals as goal

pub returns-in_err-put : goal.returns-in_err-put
returns-in_err-put g c =
    let h = err_from_is_err_and c.from_residual.result c.from_residual.ensures.1 in
    rw h.1 (puts_first _ _ _ _ _ (puts_same _ _ _ _ _ (c.as_bytes.ensures.value ∙ c.as_str.ensures.value ∙ c.steps_row.ensures) c.in_err-put.ensures))

pub returns : goal.returns
returns g c =
    puts_both _ _ _ _ _ _ (puts_same _ _ _ _ _ (c.as_bytes.ensures.value ∙ c.as_str.ensures.value ∙ c.steps_row.ensures) c.in_ok-put.ensures)
    (puts_same _ _ _ _ _ (c.as_bytes-2.ensures.value ∙ c.as_str-2.ensures.value ∙ c.fault_row.ensures) c.put-2.ensures)
