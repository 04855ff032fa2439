use Rattle.std.proofs.Common.{ℕ, ◌≡◌, Vec, Global, length, map, ap, arith}
use Rattle.std.proofs.lemmas.List.{length-map}
use Rattle.std.proofs.lemmas.Result.{err_from_is_err_and}
use Rattle.c0_tree.specs.View.{unit_view}
use Rattle.object_file.specs.Parts.{ObjectParts as Object}
use Rattle.kernel_linker.specs.declared.opening.Opened.{Opened}
use Rattle.kernel_linker.proofs.LinkSteps.{unfit, wanting, unopened, made, written}
use Rattle.kernel_linker.proofs.linking.link.Goals as goal

pub returns-in_err-fit-clause-is : goal.returns-in_err-fit-clause-is
returns-in_err-fit-clause-is g c =
    let p = err_from_is_err_and c.from_residual.result c.from_residual.ensures.1 in
    unfit g.M.LayerMaker.made c.args.object.now c.args.params.now _ c.from_residual.result p.0 c.in_err-fit.field-0.0 p.1 p.2 c.in_err-fit.ensures.is

pub returns-in_err-opened-clause-is : goal.returns-in_err-opened-clause-is
returns-in_err-opened-clause-is g c =
    let p = err_from_is_err_and c.from_residual-in_err-opened.result c.from_residual-in_err-opened.ensures.1 in
    unopened (λ (o : Opened). unit_view o.unit) g.M.LayerMaker.made c.args.object.now c.args.params.now _ c.from_residual-in_err-opened.result p.0 c.in_err-opened.field-0.0 c.in_ok-fit.field-0 p.1 p.2 c.in_ok-fit.ensures.is c.in_err-opened.ensures.is

pub returns-in_err-joined-clause-is : goal.returns-in_err-joined-clause-is
returns-in_err-joined-clause-is g c =
    let p = err_from_is_err_and c.from_residual-in_err-joined.result c.from_residual-in_err-joined.ensures.1 in
    wanting g.M.LayerMaker.made c.args.object.now c.args.params.now _ c.from_residual-in_err-joined.result p.0 p.1 p.2

pub returns-in_err-from_slice-clause-is : goal.returns-in_err-from_slice-clause-is
returns-in_err-from_slice-clause-is g c =
    let p = err_from_is_err_and c.from_residual-in_err-from_slice.result c.from_residual-in_err-from_slice.ensures.1 in
    wanting g.M.LayerMaker.made c.args.object.now c.args.params.now _ c.from_residual-in_err-from_slice.result p.0 p.1 p.2

pub returns-in_err-copies-clause-is : goal.returns-in_err-copies-clause-is
returns-in_err-copies-clause-is g c =
    let p = err_from_is_err_and c.from_residual-in_err-copies.result c.from_residual-in_err-copies.ensures.1 in
    wanting g.M.LayerMaker.made c.args.object.now c.args.params.now _ c.from_residual-in_err-copies.result p.0 p.1 p.2

pub returns-clause-is : goal.returns-clause-is
returns-clause-is g c =
    let kept : c.in_ok-from_slice.field-0.items ≡ c.args.object.now.source = cc (c.in_ok-from_slice.ensures.items, c.deref-2.ensures.value, ap (λ (o : Object). o.source) c.object.view_is) in
    made (λ (o : Opened). unit_view o.unit) g.M.LayerMaker.made c.args.object.now c.args.params.now _ c.in_ok-opened.opened _ _ _ c.in_ok-fit.field-0
    c.in_ok-fit.ensures.is c.in_ok-opened.ensures.is kept c.in_ok-joined.ensures.words c.in_ok-copies.ensures

pub returns-clause-spelled : goal.returns-clause-spelled
returns-clause-spelled g c =
    let kept : c.in_ok-from_slice.field-0.items ≡ c.args.object.now.source = cc (c.in_ok-from_slice.ensures.items, c.deref-2.ensures.value, ap (λ (o : Object). o.source) c.object.view_is) in
    let len : length (map (λ (u : Vec ℕ Global). u.items) c.args.users.now) ≡ length c.args.users.now = length-map c.args.users.now (λ (u : Vec ℕ Global). u.items) in
    written c.args.params.now _ c.args.object.now.source _ _ (map (λ (u : Vec ℕ Global). u.items) c.args.users.now) c.in_ok-opened.ensures.short kept c.in_ok-fit.ensures.params c.in_ok-joined.ensures.least c.in_ok-joined.ensures.most
    (omega (arith, c.in_ok-fit.ensures.few)) c.in_ok-fit.ensures.short c.in_ok-copies.ensures
