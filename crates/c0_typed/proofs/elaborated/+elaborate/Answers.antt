-- What is behind a pointer, and the address of a place, are resolved as these are.
use Rattle.std.proofs.Common.{◌≡◌, IfOk, sym, subst, rules}
use Rattle.c0_tree.specs.Tree.{CExpr, deref, address}
use Rattle.c0_tree.specs.View.{expr_view}
use Rattle.c0_tree.specs.declared.tree.Expr.TheFolds as folds
use Rattle.c0_typed.specs.Elaborated.{IsElaborated}
use Rattle.c0_typed.proofs.KeptTypes.{target_is, address_is}
use Rattle.c0_typed.proofs.elaborated.+elaborate.Goals as goal

pub returns-in_ok-elaborate-in-Deref : goal.returns-in_ok-elaborate-in-Deref
returns-in_ok-elaborate-in-Deref t c =
    let e : expr_view c.args.expr.now ≡ deref c.in-Deref.field-0 (expr_view c.deref-in-Deref.result.now) = search (rules, folds.the_lemmas) in
    subst (λ (x : CExpr). IfOk c.target-in-Deref.result (IsElaborated c.args.function.now x)) (sym e)
    (target_is c.args.function.now c.in-Deref.field-0 _ _ _ c.in_ok-elaborate-in-Deref.ensures c.target-in-Deref.ensures)

pub returns-in_ok-elaborate-in-AddressOf : goal.returns-in_ok-elaborate-in-AddressOf
returns-in_ok-elaborate-in-AddressOf t c =
    let e : expr_view c.args.expr.now ≡ address c.in-AddressOf.field-0 (expr_view c.deref-in-AddressOf.result.now) = search (rules, folds.the_lemmas) in
    let d : expr_view c.deref-in-AddressOf-2.result.now ≡ expr_view c.deref-in-AddressOf.result.now = search rules in
    let is = subst (λ (x : CExpr). IsElaborated c.args.function.now x c.in_ok-elaborate-in-AddressOf.field-0) d c.in_ok-elaborate-in-AddressOf.ensures in
    subst (λ (x : CExpr). IfOk c.address.result (IsElaborated c.args.function.now x)) (sym e)
    (address_is c.args.function.now c.in-AddressOf.field-0 _ _ _ is c.address.ensures)
