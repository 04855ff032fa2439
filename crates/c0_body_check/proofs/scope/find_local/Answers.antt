-- The number that the map tells is that of the first parameter or local of the name.
use Rattle.std.proofs.Common.{sym, ◌∙◌}
use Rattle.c0_body_check.specs.Scope.{typed_view}
use Rattle.c0_body_check.proofs.NumbersFindNames.{second_within, first_of_two, second_of_two}
use Rattle.c0_body_check.proofs.scope.find_local.Goals as goal

pub bounds-scope-place-else-place-count : goal.bounds-scope-place-else-place-count
bounds-scope-place-else-place-count c =
    second_within typed_view (λ v. v.text) c.args.text.now _ c.args.scope.now.params.now c.args.scope.now.locals.now
    (sym (c.requires.locals c.args.text.now) ∙ sym c.in-Some.ensures.value) c.if-place-count.false

pub returns-then-place-count : goal.returns-then-place-count
returns-then-place-count c =
    sym (first_of_two typed_view (λ v. v.text) c.args.text.now _ c.args.scope.now.params.now c.args.scope.now.locals.now
    (sym (c.requires.locals c.args.text.now) ∙ sym c.in-Some.ensures.value) c.index-scope-place.result c.if-place-count.true)

pub returns-else-place-count : goal.returns-else-place-count
returns-else-place-count c =
    sym (second_of_two typed_view (λ v. v.text) c.args.text.now _ c.args.scope.now.params.now c.args.scope.now.locals.now
    (sym (c.requires.locals c.args.text.now) ∙ sym c.in-Some.ensures.value) c.index-scope-place-else-place-count.result c.if-place-count.false)
