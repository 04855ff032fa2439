-- Each kind of expression: its parts are checked, and then its rule is asked.
use Rattle.std.proofs.Common.{rules, ◌≡◌, ap, ◌∙◌}
use Rattle.c0_tree.specs.declared.tree.Expr.{Expr}
use Rattle.c0_tree.specs.declared.tree.Expr as rust
use Rattle.c0_tree.specs.declared.tree.Expr.TheFolds as folds
use Rattle.c0_tree.specs.Tree.{field, arrow, index, deref, address, unary, binary}
use Rattle.c0_tree.specs.View.{expr_view, name_view}
use Rattle.c0_meaning.specs.Expression.{rule_on_one, is_lvalue, is_local, span_of, is_null, member, deref_rule, unary_rule}
use Rattle.c0_body_check.specs.Scope.{env_view}
use Rattle.c0_body_check.proofs.NodeChecks.{seen, part, part_asked, tested, one_part, field_node, arrow_node, index_node, address_node, null_left_node, no_null_left_node}
use Rattle.c0_body_check.proofs.check.+expression.Goals as goal

view_field : (s : _) (b : _) (f : _) → expr_view (rust.Field s b f) ≡ field s (expr_view b.value) (name_view f)
view_field s b f = search (rules, folds.the_lemmas)

view_arrow : (s : _) (b : _) (f : _) → expr_view (rust.Arrow s b f) ≡ arrow s (expr_view b.value) (name_view f)
view_arrow s b f = search (rules, folds.the_lemmas)

view_index : (s : _) (a b : _) → expr_view (rust.Index s a b) ≡ index s (expr_view a.value) (expr_view b.value)
view_index s a b = search (rules, folds.the_lemmas)

view_deref : (s : _) (b : _) → expr_view (rust.Deref s b) ≡ deref s (expr_view b.value)
view_deref s b = search (rules, folds.the_lemmas)

view_address : (s : _) (b : _) → expr_view (rust.AddressOf s b) ≡ address s (expr_view b.value)
view_address s b = search (rules, folds.the_lemmas)

view_unary : (s : _) (o : _) (b : _) → expr_view (rust.Unary s o b) ≡ unary s o (expr_view b.value)
view_unary s o b = search (rules, folds.the_lemmas)

view_binary : (s : _) (o : _) (a b : _) → expr_view (rust.Binary s o a b) ≡ binary s o (expr_view a.value) (expr_view b.value)
view_binary s o a b = search (rules, folds.the_lemmas)

pub check-returns-in-Deref-clause-checks : goal.check-returns-in-Deref-clause-checks
check-returns-in-Deref-clause-checks t c =
    let env = env_view c.args.scope.now in
    let w = part env _ _ _ _ _ _ c.deref_mut-in-Deref.ensures.value c.check-in-Deref.ensures.checks in
    let d = one_part env _ (λ x. rule_on_one x (deref_rule c.in-Deref.span)) _ _ _ _ _ _ _ w (ap (λ x. rule_on_one x (deref_rule c.in-Deref.span)) c.form-form-in-Deref.ensures) c.deref-in-Deref.ensures.settles in
    seen env _ _ _ _ _ _ _ (ap expr_view c.in-Deref.is ∙ view_deref _ _) (view_deref _ _) (d.0, d.1, ap (deref c.in-Deref.span) w.2)

pub check-returns-in-Unary-clause-checks : goal.check-returns-in-Unary-clause-checks
check-returns-in-Unary-clause-checks t c =
    let env = env_view c.args.scope.now in
    let w = part env _ _ _ _ _ _ c.deref_mut-in-Unary.ensures.value c.check-in-Unary.ensures.checks in
    let d = one_part env _ (λ x. rule_on_one x (unary_rule c.in-Unary.span c.in-Unary.op)) _ _ _ _ _ _ _ w (ap (λ x. rule_on_one x (unary_rule c.in-Unary.span c.in-Unary.op)) c.form-form-in-Unary.ensures) c.unary.ensures in
    seen env _ _ _ _ _ _ _ (ap expr_view c.in-Unary.is ∙ view_unary _ _ _) (view_unary _ _ _) (d.0, d.1, ap (unary c.in-Unary.span c.in-Unary.op) w.2)

pub check-returns-in-Field-clause-checks : goal.check-returns-in-Field-clause-checks
check-returns-in-Field-clause-checks t c =
    let env = env_view c.args.scope.now in
    let w = part env _ _ _ _ _ _ c.deref_mut.ensures.value c.check.ensures.checks in
    seen env _ _ _ _ _ _ _ (ap expr_view c.in-Field.is ∙ view_field _ _ _) (view_field _ _ _)
    (field_node env c.in-Field.span _ _ (name_view c.in-Field.name) _ _ _ _ _ _ _ _ _ _ w c.form-form.ensures
    (c.is_place-place.ensures ∙ ap (λ z. is_lvalue (expr_view z)) c.deref.ensures)
    (c.span_of-at.ensures ∙ ap (λ z. span_of (expr_view z)) c.deref-in-Field.ensures)
    (c.member-found.ensures ∙ ap (member env _) c.as_slice.ensures.value)
    c.number_field.ensures c.place_field.ensures.settles)

pub check-returns-in-Arrow-clause-checks : goal.check-returns-in-Arrow-clause-checks
check-returns-in-Arrow-clause-checks t c =
    let env = env_view c.args.scope.now in
    let w = part env _ _ _ _ _ _ c.deref_mut-in-Arrow.ensures.value c.check-in-Arrow.ensures.checks in
    seen env _ _ _ _ _ _ _ (ap expr_view c.in-Arrow.is ∙ view_arrow _ _ _) (view_arrow _ _ _)
    (arrow_node env c.in-Arrow.span _ (name_view c.in-Arrow.name) _ _ _ _ _ _ _ _ _ _ w c.form-form-in-Arrow.ensures c.target.ensures
    (c.member-found-in-Arrow.ensures ∙ ap (member env _) c.as_slice-in-Arrow.ensures.value)
    c.number_field-in-Arrow.ensures c.arrow.ensures.settles)

pub check-returns-in-Index-clause-checks : goal.check-returns-in-Index-clause-checks
check-returns-in-Index-clause-checks t c =
    let env = env_view c.args.scope.now in
    let w = part env _ _ _ _ _ _ c.deref_mut-in-Index.ensures.value c.check-in-Index.ensures.checks in
    let v = part env _ _ _ _ _ _ c.deref_mut-in-Index-2.ensures.value c.check-in-Index-2.ensures.checks in
    seen env _ _ _ _ _ _ _ (ap expr_view c.in-Index.is ∙ view_index _ _ _) (view_index _ _ _)
    (index_node env c.in-Index.span _ _ _ _ _ _ _ _ _ _ _ _ _ _ _ w v c.form-form-in-Index.ensures c.form-number.ensures
    (c.is_place-is_there.ensures ∙ ap (λ z. is_lvalue (expr_view z)) c.deref-in-Index.ensures)
    (c.span_of-at-in-Index.ensures ∙ ap (λ z. span_of (expr_view z)) c.deref-in-Index-2.ensures)
    c.index.ensures.settles)

pub check-returns-in-AddressOf-clause-checks : goal.check-returns-in-AddressOf-clause-checks
check-returns-in-AddressOf-clause-checks t c =
    let env = env_view c.args.scope.now in
    let w = part env _ _ _ _ _ _ c.deref_mut-in-AddressOf.ensures.value c.check-found.ensures.checks in
    seen env _ _ _ _ _ _ _ (ap expr_view c.in-AddressOf.is ∙ view_address _ _) (view_address _ _)
    (address_node env c.in-AddressOf.field-0 _ _ _ _ _ _ _ _ _ _ w
    (c.is_place-place-in-AddressOf.ensures ∙ ap (λ z. is_lvalue (expr_view z)) c.deref-in-AddressOf.ensures)
    (c.is_local-local.ensures ∙ ap (λ z. is_local env (expr_view z)) c.deref-in-AddressOf-2.ensures)
    (c.span_of-at-in-AddressOf.ensures ∙ ap (λ z. span_of (expr_view z)) c.deref-in-AddressOf-3.ensures)
    c.address.ensures)

pub check-returns-then-is_null-clause-checks : goal.check-returns-then-is_null-clause-checks
check-returns-then-is_null-clause-checks t c =
    let env = env_view c.args.scope.now in
    let v = part env _ _ _ _ _ _ c.deref_mut-then-is_null.ensures.value c.check-beside.ensures.checks in
    let w = part_asked env _ _ _ _ _ _ _ c.deref_mut-then-is_null-2.ensures.value c.check_asked-found.ensures in
    seen env _ _ _ _ _ _ _ (ap expr_view c.in-Binary.is ∙ view_binary _ _ _ _) (view_binary _ _ _ _)
    (null_left_node env c.in-Binary.span c.in-Binary.op _ _ _ _ _ _ _ _ _ _ _ _ _ _ c.meeting_is_free_of_order.ensures.joins.swapped
    (tested is_null _ _ _ _ c.deref-in-Binary.ensures c.is_null.ensures c.if-is_null.true)
    v c.asked_by.ensures w c.form.ensures c.form-then-is_null.ensures c.binary.ensures)

pub check-returns-else-is_null-clause-checks : goal.check-returns-else-is_null-clause-checks
check-returns-else-is_null-clause-checks t c =
    let env = env_view c.args.scope.now in
    let v = part env _ _ _ _ _ _ c.deref_mut-else-is_null.ensures.value c.check-found-else-is_null.ensures.checks in
    let w = part_asked env _ _ _ _ _ _ _ c.deref_mut-else-is_null-2.ensures.value c.check_asked-beside.ensures in
    seen env _ _ _ _ _ _ _ (ap expr_view c.in-Binary.is ∙ view_binary _ _ _ _) (view_binary _ _ _ _)
    (no_null_left_node env c.in-Binary.span c.in-Binary.op _ _ _ _ _ _ _ _ _ _ _ _ _ _
    (tested is_null _ _ _ _ c.deref-in-Binary.ensures c.is_null.ensures c.if-is_null.false)
    v c.asked_by-else-is_null.ensures w c.form-else-is_null.ensures c.form-else-is_null-2.ensures c.binary-else-is_null.ensures)
