use Rattle.std.proofs.Common.{◌≡◌, ap, subst}
use Rattle.std.specs.Prelude.{⊤}
use Rattle.std.proofs.lemmas.Result.{err_from_is_err_and}
use Rattle.real_layer.specs.Image.{layer_image}
use Rattle.sample_maker.specs.Parts.{SampleParts as Sampled}
use Rattle.run_scripts.specs.Command.{sample_session}
use Rattle.run_scripts.specs.Plan.{PartsPlan, IsPlan}
use Rattle.cvm_shell.specs.Stages.{ready_for}
use Rattle.cvm_shell.specs.Views.{IfPlan, IfRefused}
use Rattle.cvm_shell.proofs.SamplePlans.{parts_booted}
use Rattle.cvm_shell.proofs.sampling.sampled.Goals as goal

pub returns-in_err-image-clause-comes : goal.returns-in_err-image-clause-comes
returns-in_err-image-clause-comes c =
    let p = err_from_is_err_and c.from_residual-in_err-image.result c.from_residual-in_err-image.ensures.1 in
    rw (p.1, p.2) (subst (λ (x : Sampled). IfRefused (IsPlan ⊤ (PartsPlan layer_image sample_session x)) c.in_err-image.field-0.0) c.in_ok-parts.ensures.is (c.in_err-image.ensures.stops sample_session))

pub returns-clause-comes : goal.returns-clause-comes
returns-clause-comes c =
    let schedule : c.deref-2.result.now ≡ c.in_ok-parts.parts.schedule = cc (c.deref-2.ensures.value, ap (λ (o : Sampled). o.schedule) c.parts.view_is) in
    subst (λ (x : Sampled). IfPlan (ready_for sample_session) (IsPlan ⊤ (PartsPlan layer_image sample_session x)) c.ready_of.result) c.in_ok-parts.ensures.is
    (parts_booted (ready_for sample_session) c.sources_have_one_answer.ensures layer_image sample_session c.in_ok-parts.parts c.in_ok-image.image.items c.deref-2.result.now c.ready_of.result c.in_ok-image.ensures.linked schedule
    (rw c.deref.ensures.value at (c.ready_of.ensures.comes sample_session)))
