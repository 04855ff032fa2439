-- The source's fault is refused, or an image that is too large is, or the image is put.
use Rattle.std.proofs.Common.{ap, ◌∙◌}
use Rattle.std.proofs.lemmas.Result.{err_from_is_err_and}
use Rattle.c0_tree.specs.declared.primitive.Program.TheVariants.{User}
use Rattle.run_scripts.specs.Plan.{program_plan, user_bytes}
use Rattle.cvm_shell.proofs.CodePlans.{few_for_unit, one_fault, source_fault}
use Rattle.cvm_shell.proofs.ProgramPlans.{refused_plan, put_plan}
use Rattle.cvm_shell.proofs.program.compiled_program.Goals as goal

pub returns-in_err-unit-clause-comes : goal.returns-in_err-unit-clause-comes
returns-in_err-unit-clause-comes c = λ name.
    let p = err_from_is_err_and c.from_residual.result c.from_residual.ensures.1 in
    rw (p.1, p.2) (source_fault User (program_plan name) c.least_fault_is_there.ensures _ c.in_err-unit.field-0.0 (λ h. one_fault _ _ (c.in_err-unit.ensures.too_long h)) c.in_err-unit.ensures.fault c.in_err-unit.ensures.only)

pub returns-in_err-words-clause-comes : goal.returns-in_err-words-clause-comes
returns-in_err-words-clause-comes c = λ name.
    let p = err_from_is_err_and c.from_residual-in_err-words.result c.from_residual-in_err-words.ensures.1 in
    rw (p.1, p.2) (refused_plan c.least_fault_is_there.ensures name _ _ c.in_err-words.field-0.0 (few_for_unit _ _ c.in_ok-unit.ensures.too_long) c.in_ok-unit.ensures.found c.in_ok-unit.ensures.only c.in_err-words.ensures.fault)

pub returns-in-Ok-clause-comes : goal.returns-in-Ok-clause-comes
returns-in-Ok-clause-comes c = λ name.
    put_plan c.least_fault_is_there.ensures name _ _ _ _ (few_for_unit _ _ c.in_ok-unit.ensures.too_long) c.in_ok-unit.ensures.found c.in_ok-unit.ensures.only c.in_ok-words.ensures.words c.in_ok-words.ensures.most (c.in-Ok.ensures ∙ ap user_bytes c.deref.ensures.value)
