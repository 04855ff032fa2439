use Rattle.std.proofs.Common.{◌≡◌, ap, ◌∙◌, map, List, ℕ, Vec, Global}
use Rattle.std.proofs.lemmas.Result.{err_from_is_err_and}
use Rattle.kernel_linker.specs.Object.{object_of}
use Rattle.c0_tree.specs.View.{unit_view}
use Rattle.sample_maker.specs.Parts.{SampleParts as Sampled}
use Rattle.cvm_shell.proofs.SamplePlans.{parts_source_fault, parts_link_fault, parts_linked}
use Rattle.cvm_shell.proofs.sampling.linked_parts.Goals as goal

pub returns-in_err-unit-clause-stops : goal.returns-in_err-unit-clause-stops
returns-in_err-unit-clause-stops g c = λ session.
    let p = err_from_is_err_and c.from_residual.result c.from_residual.ensures.1 in
    let same : c.deref.result.now ≡ c.args.parts.now.source = cc (c.deref.ensures.value, ap (λ (o : Sampled). o.source) c.parts.view_is) in
    rw (p.1, p.2) (parts_source_fault c.sources_have_one_answer.ensures g.M.LayerMaker.made session c.args.parts.now _ _ c.in_err-unit.ensures.fault same)

pub returns-in_err-image-clause-stops : goal.returns-in_err-image-clause-stops
returns-in_err-image-clause-stops g c = λ session.
    let p = err_from_is_err_and c.from_residual-in_err-image.result c.from_residual-in_err-image.ensures.1 in
    let is = c.in_err-image.ensures.is in
    let same : c.deref.result.now ≡ c.args.parts.now.source = cc (c.deref.ensures.value, ap (λ (o : Sampled). o.source) c.parts.view_is) in
    let again : c.deref-2.result.now ≡ c.deref.result.now = cc (c.deref.ensures.value, c.deref-2.ensures.value) in
    let users : map (λ (u : Vec ℕ Global). u.items) c.deref-3.result.now ≡ c.args.parts.now.users = cc (c.deref-3.ensures.value, ap (λ (o : Sampled). o.users) c.parts.view_is) in
    rw (p.1, p.2) (parts_link_fault c.sources_have_one_answer.ensures g.M.LayerMaker.made session c.args.parts.now _ _ _ _ _ is.0 c.in_err-image.field-0.0 c.in_ok-unit.ensures.found
    (c.in_ok-object.ensures.object ∙ ap (λ (s : List ℕ). object_of s (unit_view c.in_ok-unit.unit)) again) is.1 is.2
    (record { source_is = same; params_are = cc (ap (λ (o : Sampled). o.params) c.parts.view_is); users_are = users }))

pub returns-clause-linked : goal.returns-clause-linked
returns-clause-linked g c =
    let is = c.in_ok-image.ensures.is in
    let same : c.deref.result.now ≡ c.args.parts.now.source = cc (c.deref.ensures.value, ap (λ (o : Sampled). o.source) c.parts.view_is) in
    let again : c.deref-2.result.now ≡ c.deref.result.now = cc (c.deref.ensures.value, c.deref-2.ensures.value) in
    let users : map (λ (u : Vec ℕ Global). u.items) c.deref-3.result.now ≡ c.args.parts.now.users = cc (c.deref-3.ensures.value, ap (λ (o : Sampled). o.users) c.parts.view_is) in
    parts_linked c.sources_have_one_answer.ensures g.M.LayerMaker.made c.args.parts.now _ _ _ _ _ is.0 _ _ c.in_ok-unit.ensures.found
    (c.in_ok-object.ensures.object ∙ ap (λ (s : List ℕ). object_of s (unit_view c.in_ok-unit.unit)) again) is.1 is.2 c.in_ok-bytes.ensures.spelled
    (record { source_is = same; params_are = cc (ap (λ (o : Sampled). o.params) c.parts.view_is); users_are = users })
