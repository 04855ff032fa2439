use Rattle.std.proofs.Common.{refl}
use Rattle.std.proofs.lemmas.Result.{err_from_is_err_and}
use Rattle.real_layer.specs.Image.{layer_image}
use Rattle.kernel_linker.specs.Accept.{image_system}
use Rattle.cvm_shell.proofs.BootPlans.{accept_fault, schedule_fault, ready_plan}
use Rattle.cvm_shell.proofs.boot.ready_of.Goals as goal

pub returns-in_err-accepted-clause-comes : goal.returns-in_err-accepted-clause-comes
returns-in_err-accepted-clause-comes c = λ session.
    let p = err_from_is_err_and c.from_residual.result c.from_residual.ensures.1 in
    rw (p.1, p.2) (accept_fault c.sources_have_one_answer.ensures layer_image (λ a. image_system a.boot) session c.args.image.now c.args.schedule.now _ c.in_err-accepted.field-0.0 refl c.in_err-accepted.ensures.is)

pub returns-in_err-schedule-clause-comes : goal.returns-in_err-schedule-clause-comes
returns-in_err-schedule-clause-comes c = λ session.
    let p = err_from_is_err_and c.from_residual-in_err-schedule.result c.from_residual-in_err-schedule.ensures.1 in
    rw (p.1, p.2) (schedule_fault c.sources_have_one_answer.ensures layer_image (λ a. image_system a.boot) session c.args.image.now c.args.schedule.now c.in_ok-accepted.accepted c.in_err-schedule.field-0.0 c.in_ok-accepted.ensures.is c.in_err-schedule.ensures)

pub returns-clause-comes : goal.returns-clause-comes
returns-clause-comes c = λ session.
    ready_plan c.sources_have_one_answer.ensures layer_image (λ a. image_system a.boot) session c.args.image.now c.args.schedule.now c.in_ok-accepted.accepted _ c.in_ok-accepted.ensures.is c.in_ok-schedule.ensures

pub returns-clause-follows : goal.returns-clause-follows
returns-clause-follows c = c.in_ok-accepted.ensures.follows
