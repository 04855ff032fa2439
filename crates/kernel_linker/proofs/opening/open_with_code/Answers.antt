-- Each way out of the opening gives what is due.
use Rattle.std.proofs.Common.{◌≡◌, ◌≤◌, ℕ, List, length, ap, subst}
use Rattle.std.proofs.lemmas.Result.{err_from_is_err_and}
use Rattle.c0_tree.specs.View.{unit_view}
use Rattle.c0_unit.specs.Code.{unit_words}
use Rattle.object_file.specs.Parts.{ObjectParts as Object}
use Rattle.kernel_linker.specs.declared.opening.Opened.{Opened}
use Rattle.kernel_linker.proofs.OpenSteps.{wanting, unread, forged, opened}
use Rattle.kernel_linker.proofs.opening.open_with_code.Goals as goal

pub returns-in_err-unit-clause-is : goal.returns-in_err-unit-clause-is
returns-in_err-unit-clause-is c =
    let p = err_from_is_err_and c.from_residual.result c.from_residual.ensures.1 in
    let same : c.deref.result.now ≡ c.args.object.now.source = cc (c.deref.ensures.value, ap (λ (o : Object). o.source) c.object.view_is) in
    unread (λ (o : Opened). unit_view o.unit) c.args.object.now c.from_residual.result p.0 c.in_err-unit.field-0.0 c.deref.result.now p.1 p.2 c.in_err-unit.ensures.fault same

pub returns-in_err-code-clause-is : goal.returns-in_err-code-clause-is
returns-in_err-code-clause-is c =
    let p = err_from_is_err_and c.from_residual-in_err-code.result c.from_residual-in_err-code.ensures.1 in
    wanting (λ (o : Opened). unit_view o.unit) c.args.object.now c.from_residual-in_err-code.result p.0 p.1 p.2

pub returns-in_err-compare-clause-is : goal.returns-in_err-compare-clause-is
returns-in_err-compare-clause-is c =
    let p = err_from_is_err_and c.from_residual-in_err-compare.result c.from_residual-in_err-compare.ensures.1 in
    let same : c.deref.result.now ≡ c.args.object.now.source = cc (c.deref.ensures.value, ap (λ (o : Object). o.source) c.object.view_is) in
    let stored : c.deref-2.result.now ≡ c.args.object.now.words = cc (c.deref-2.ensures.value, ap (λ (o : Object). o.words) c.object.view_is) in
    let code : c.deref-3.result.now ≡ unit_words (unit_view c.in_ok-unit.unit) = cc (c.deref-3.ensures.value, c.in_ok-code.ensures.words) in
    forged (λ (o : Opened). unit_view o.unit) c.args.object.now c.from_residual-in_err-compare.result p.0 c.in_err-compare.field-0.0 (unit_view c.in_ok-unit.unit) c.deref.result.now c.deref-2.result.now c.deref-3.result.now p.1 p.2
    c.in_ok-unit.ensures.found same c.in_err-compare.ensures stored code

pub returns-clause-is : goal.returns-clause-is
returns-clause-is c =
    let same : c.deref.result.now ≡ c.args.object.now.source = cc (c.deref.ensures.value, ap (λ (o : Object). o.source) c.object.view_is) in
    let stored : c.deref-2.result.now ≡ c.args.object.now.words = cc (c.deref-2.ensures.value, ap (λ (o : Object). o.words) c.object.view_is) in
    let code : c.deref-3.result.now ≡ unit_words (unit_view c.in_ok-unit.unit) = cc (c.deref-3.ensures.value, c.in_ok-code.ensures.words) in
    opened (λ (o : Opened). unit_view o.unit) c.args.object.now (record { unit = c.in_ok-unit.unit; code = c.in_ok-code.code }) c.deref.result.now c.deref-2.result.now c.deref-3.result.now c.in_ok-compare.field-0 c.in_ok-unit.ensures.found same c.in_ok-compare.ensures stored code

pub returns-clause-short : goal.returns-clause-short
returns-clause-short c =
    let same : c.deref.result.now ≡ c.args.object.now.source = cc (c.deref.ensures.value, ap (λ (o : Object). o.source) c.object.view_is) in
    subst (λ (s : List ℕ). length s ≤ 1048576) same c.in_ok-unit.ensures.found.short
