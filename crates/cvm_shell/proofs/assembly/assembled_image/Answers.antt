use Rattle.std.proofs.lemmas.Result.{err_from_is_err_and}
use Rattle.cvm_shell.proofs.FilesComeToPlans.{text_fault, text_assembled}
use Rattle.cvm_shell.proofs.assembly.assembled_image.Goals as goal

pub returns-in_err-words-clause-comes : goal.returns-in_err-words-clause-comes
returns-in_err-words-clause-comes c = λ name.
    let p = err_from_is_err_and c.from_residual.result c.from_residual.ensures.1 in
    rw (p.1, p.2) (text_fault name _ c.in_err-words.field-0.0 c.in_err-words.ensures.err)

pub returns-in-Ok-clause-comes : goal.returns-in-Ok-clause-comes
returns-in-Ok-clause-comes c = λ name. rw (c.in-Ok.ensures, c.deref.ensures.value) (text_assembled name _ _ c.in_ok-words.ensures.ok)
