-- The source's fault is refused, or the object of its unit is put.
use Rattle.std.proofs.Common.{ap}
use Rattle.std.proofs.lemmas.Result.{err_from_is_err_and}
use Rattle.c0_tree.specs.declared.primitive.Program.TheVariants.{Kernel}
use Rattle.run_scripts.specs.Plan.{object_plan, puts}
use Rattle.cvm_shell.proofs.CodePlans.{few_for_unit, one_fault, source_fault, plan_compiles}
use Rattle.cvm_shell.proofs.object.compiled_object.Goals as goal

pub returns-in_err-unit-clause-comes : goal.returns-in_err-unit-clause-comes
returns-in_err-unit-clause-comes c = λ name.
    let p = err_from_is_err_and c.from_residual.result c.from_residual.ensures.1 in
    rw (p.1, p.2) (source_fault Kernel (object_plan name c.args.source.now) c.least_fault_is_there.ensures _ c.in_err-unit.field-0.0 (λ h. one_fault _ _ (c.in_err-unit.ensures.too_long h)) c.in_err-unit.ensures.fault c.in_err-unit.ensures.only)

pub returns-in-Ok-clause-comes : goal.returns-in-Ok-clause-comes
returns-in-Ok-clause-comes c = λ name.
    plan_compiles Kernel (object_plan name c.args.source.now) c.least_fault_is_there.ensures _ _ (few_for_unit _ _ c.in_ok-unit.ensures.too_long) c.in_ok-unit.ensures.found c.in_ok-unit.ensures.only _ (ap (puts name) c.in-Ok.ensures)
