-- The judgement looks at structs, globals and variables alone.
use Rattle.std.proofs.Common.{◌≡◌, ℕ, List, Some, sym, ap, ◌∙◌}
use Rattle.std.specs.Prelude.{slice_get}
use Rattle.c0_tree.specs.declared.tree.Kind.{Kind}
use Rattle.c0_tree.specs.declared.tree.Kind.TheVariants.{Unresolved, Struct, Field, Global, Local, Function, Primitive}
use Rattle.c0_tree.specs.Tree.{CExpr}
use Rattle.c0_meaning.specs.Ty.{Ty, int, bool, pointer, named, array}
use Rattle.c0_meaning.specs.Env.{Env, Typed}
use Rattle.c0_meaning.specs.Words.{shape_fields}
use Rattle.c0_meaning.specs.Numbered.{variable_at, HasNumberedType, a_number, a_true, a_false, a_variable, a_field, a_target_field, an_element, a_target, an_address, a_negative, a_negation, arithmetic, order, logic, equality, null_left, null_right}
use Rattle.c0_expr_code.specs.Laws.{HaveSameNames}

module _ (a b : Env) (same : HaveSameNames a b) where
  variable : (k : Kind) (n : ℕ) (d : Typed) → variable_at a k n ≡ Some d → variable_at b k n ≡ Some d
  variable Global n d h = ap (λ (x : List Typed). slice_get x n) (sym same.globals) ∙ h
  variable Local n d h = ap (λ (x : List Typed). slice_get x n) (sym same.locals) ∙ h
  variable Unresolved n d h = h
  variable Struct n d h = h
  variable Field n d h = h
  variable Function n d h = h
  variable Primitive n d h = h

  member : (x : List ℕ) (n : ℕ) (d : Typed) → slice_get (shape_fields a.structs x) n ≡ Some d → slice_get (shape_fields b.structs x) n ≡ Some d
  member x n d h = ap (λ s. slice_get (shape_fields s x) n) (sym same.structs) ∙ h

  pub typed : (e : CExpr) (t : Ty) → HasNumberedType a e t → HasNumberedType b e t
  typed _ _ (a_number h) = a_number h
  typed _ _ a_true = a_true
  typed _ _ a_false = a_false
  typed _ _ (a_variable {x = x} {d = d} h) = a_variable (variable x.kind x.number d h)
  typed _ _ (a_field {e = e} {f = f} {x = x} {d = d} p h q) = a_field p (typed e (named x) h) (member x f.number d q)
  typed _ _ (a_target_field {e = e} {f = f} {x = x} {d = d} h q) = a_target_field (typed e (pointer (named x)) h) (member x f.number d q)
  typed _ t (an_element {e = e} {i = i} {n = n} p h g) = an_element p (typed e (array t n) h) (typed i int g)
  typed _ t (a_target {e = e} h) = a_target (typed e (pointer t) h)
  typed _ _ (an_address {e = e} {t = t} p away h) = an_address p away (typed e t h)
  typed _ _ (a_negative {e = e} h) = a_negative (typed e int h)
  typed _ _ (a_negation {e = e} h) = a_negation (typed e bool h)
  typed _ _ (arithmetic {a = x} {b = y} k h g) = arithmetic k (typed x int h) (typed y int g)
  typed _ _ (order {a = x} {b = y} k h g) = order k (typed x int h) (typed y int g)
  typed _ _ (logic {a = x} {b = y} k h g) = logic k (typed x bool h) (typed y bool g)
  typed _ _ (equality {a = x} {b = y} {t = t} k s h g) = equality k s (typed x t h) (typed y t g)
  typed _ _ (null_left {b = y} {t = t} k g) = null_left k (typed y (pointer t) g)
  typed _ _ (null_right {a = x} {t = t} k h) = null_right k (typed x (pointer t) h)
