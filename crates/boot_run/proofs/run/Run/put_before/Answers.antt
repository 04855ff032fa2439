use Rattle.std.proofs.Common.{Some, ◌∙◌, ap, sym}
use Rattle.cvm_outside.proofs.RowsPut.{puts_same}
use Rattle.boot_run.specs.LoadEnds.{Kept}
use Rattle.boot_run.specs.TurnParts.{rows_before}
use Rattle.boot_run.proofs.run.Run.put_before.Goals as goal

pub returns-then-first-clause-put : goal.returns-then-first-clause-put
returns-then-first-clause-put g c = puts_same _ _ _ _ _
    (ap (rows_before c.self.inside.boot (Some c.in-Some.tracer)) (sym c.if-first.true) ∙ ap (λ o. rows_before c.self.inside.boot o c.self.inside.turns) (sym c.in-Some.is)
    ∙ ap (λ (q : Kept _). rows_before q.boot q.tracer q.turns) c.self.view_is)
    c.put_start.ensures
