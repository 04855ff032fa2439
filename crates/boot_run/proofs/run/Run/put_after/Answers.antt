use Rattle.std.proofs.Common.{◌∙◌, ap, sym}
use Rattle.cvm_outside.proofs.RowsPut.{puts_same}
use Rattle.boot_run.specs.LoadEnds.{Kept}
use Rattle.boot_run.specs.TurnParts.{rows_after}
use Rattle.boot_run.proofs.run.Run.put_after.Goals as goal

pub returns-in-None-clause-put : goal.returns-in-None-clause-put
returns-in-None-clause-put g c =
    puts_same _ _ _ _ _ (ap (λ o. rows_after o c.self.inside.ended c.args.answer) (sym c.in-None.is) ∙ ap (λ (q : Kept _). rows_after q.tracer q.ended c.args.answer) c.self.view_is) c.put_row.ensures.put

pub returns-in-Some-clause-put : goal.returns-in-Some-clause-put
returns-in-Some-clause-put g c =
    puts_same _ _ _ _ _ (ap (λ o. rows_after o c.self.inside.ended c.args.answer) (sym c.in-Some.is) ∙ ap (λ (q : Kept _). rows_after q.tracer q.ended c.args.answer) c.self.view_is) c.put_fault.ensures.put
