use Rattle.std.proofs.Common.{◌∙◌, append-nil, ap, sym}
use Rattle.cvm_outside.proofs.RowsPut.{puts_same}
use Rattle.cvm_model.specs.Text.{rows_text}
use Rattle.boot_run.specs.TurnCalls.{rows_of_turn}
use Rattle.boot_run.proofs.turn_rows.put_row.Goals as goal

pub returns-in-Dispatch-clause-put : goal.returns-in-Dispatch-clause-put
returns-in-Dispatch-clause-put g c =
    puts_same _ _ _ _ _ (c.as_bytes.ensures.value ∙ c.as_str.ensures.value ∙ c.row_text.ensures ∙ sym (append-nil _) ∙ ap (λ t. rows_text (rows_of_turn t)) (sym c.in-Dispatch.is)) c.put.ensures
