use Rattle.std.proofs.lemmas.Result.{err_from_is_err_and}
use Rattle.c0_tree.specs.View.{unit_view}
use Rattle.cvm_shell.proofs.LinkPlans.{fault_unless}
use Rattle.cvm_shell.proofs.CheckPlans.{bytes_fault, open_fault, open_told}
use Rattle.cvm_shell.proofs.check.object_text.Goals as goal

pub returns-in_err-object-clause-comes : goal.returns-in_err-object-clause-comes
returns-in_err-object-clause-comes c =
    let p = err_from_is_err_and c.from_residual.result c.from_residual.ensures.1 in
    rw (p.1, p.2) (bytes_fault c.answers_are_one.ensures c.sources_have_one_answer.ensures c.bytes_have_one_answer.ensures.one c.args.stack c.args.bytes.now c.in_err-object.field-0.0 (fault_unless _ _ c.in_err-object.ensures.answer))

pub returns-in_err-unit-clause-comes : goal.returns-in_err-unit-clause-comes
returns-in_err-unit-clause-comes c =
    let p = err_from_is_err_and c.from_residual-in_err-unit.result c.from_residual-in_err-unit.ensures.1 in
    rw (p.1, p.2) (open_fault c.answers_are_one.ensures c.sources_have_one_answer.ensures c.bytes_have_one_answer.ensures.one c.args.stack c.args.bytes.now unit_view c.in_ok-object.object c.in_err-unit.field-0.0 c.in_ok-object.ensures.answer c.in_err-unit.ensures)

pub returns-in-Ok-clause-comes : goal.returns-in-Ok-clause-comes
returns-in-Ok-clause-comes c =
    open_told c.answers_are_one.ensures c.sources_have_one_answer.ensures c.bytes_have_one_answer.ensures.one c.args.stack c.args.bytes.now unit_view c.in_ok-object.object c.in_ok-unit.unit _ c.in_ok-object.ensures.answer c.in_ok-unit.ensures c.in-Ok.ensures
