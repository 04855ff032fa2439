use Rattle.std.proofs.Common.{Some, [], ◌∷◌, ◌++◌, refl}
use Rattle.std.proofs.lemmas.Result.{err_from_is_err_and}
use Rattle.cvm_outside.specs.Script.{Printed}
use Rattle.cvm_outside.proofs.ScriptsFollow.{both, first}
use Rattle.cvm_outside.proofs.RowsPut.{performed}
use Rattle.cvm_model.specs.Text.{steps_row}
use Rattle.boot_report.specs.Texts.{end_row}
use Rattle.boot_run.proofs.report.put_trace_closing.Goals as goal

pub returns-in_err-put_last : goal.returns-in_err-put_last
returns-in_err-put_last g c =
    let h = err_from_is_err_and c.from_residual.result c.from_residual.ensures.1 in
    let rows = steps_row c.args.tracer.steps ++ end_row c.args.standing.halted in
    rw (h.1, h.2) (λ shelf. first (Printed (Some rows) ∷ []) _ _ _ _ (performed (Some rows) rows shelf _ _ _ _ refl c.in_err-put_last.ensures))

pub returns : goal.returns
returns g c = λ shelf.
    let rows = steps_row c.args.tracer.steps ++ end_row c.args.standing.halted in
    both (Printed (Some rows) ∷ []) _ _ _ _ _ (performed (Some rows) rows shelf _ _ _ _ refl c.in_ok-put_last.ensures) (rw c.runs_now-running.ensures at (c.put_user_rows.ensures shelf))
