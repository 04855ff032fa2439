-- The table of types as rules. They know no fault, no order and no traversal.
use Rattle.std.specs.Prelude.{ℕ, ◌≡◌, false, List, [], Some, IsTrue}
use Rattle.c0_tree.specs.declared.tree.Span.{Span}
use Rattle.c0_tree.specs.declared.tree.UnaryOp.TheVariants.{Negate, Not}
use Rattle.c0_tree.specs.declared.tree.BinaryOp.{BinaryOp}
use Rattle.c0_tree.specs.declared.tree.BinaryOp.TheVariants.{Add, Sub, Mul, Div, Rem, Lt, Le, Gt, Ge, Eq, Ne, And, Or}
use Rattle.c0_tree.specs.Tree.{CName, CExpr, num, true_, false_, null, var, field, arrow, index, deref, address, unary, binary}
use Rattle.c0_meaning.specs.Ty.{Ty, int, bool, pointer, named, array, is_scalar}
use Rattle.c0_meaning.specs.Env.{Env, Typed, Variable, variable_named, field_named}
use Rattle.c0_meaning.specs.Expression.{is_lvalue, is_local, faults, type_of}

-- `+ - * / %`
pub data IsArithmetic : BinaryOp → Type 0 where
  add : IsArithmetic Add
  sub : IsArithmetic Sub
  mul : IsArithmetic Mul
  div : IsArithmetic Div
  rem : IsArithmetic Rem

-- `< <= > >=`
pub data IsOrdering : BinaryOp → Type 0 where
  lt : IsOrdering Lt
  le : IsOrdering Le
  gt : IsOrdering Gt
  ge : IsOrdering Ge

-- `== !=`
pub data IsEquality : BinaryOp → Type 0 where
  eq : IsEquality Eq
  ne : IsEquality Ne

-- `&& ||`
pub data IsLogical : BinaryOp → Type 0 where
  and : IsLogical And
  or : IsLogical Or

-- an expression has a type
pub data HasType (env : Env) : CExpr → Ty → Type 0 where
  a_number : {s : Span} {n : ℕ} → HasType env (num s n) int
  a_true : {s : Span} → HasType env (true_ s) bool
  a_false : {s : Span} → HasType env (false_ s) bool
  a_variable : {x : CName} {v : Variable} → variable_named env x.text ≡ Some v → HasType env (var x) v.ty
  a_field : {s : Span} {e : CExpr} {f : CName} {x : List ℕ} {found : ℕ × Typed}
      → IsTrue (is_lvalue e) → HasType env e (named x) → field_named env x f.text ≡ Some found → HasType env (field s e f) found.1.ty
  a_target_field : {s : Span} {e : CExpr} {f : CName} {x : List ℕ} {found : ℕ × Typed}
      → HasType env e (pointer (named x)) → field_named env x f.text ≡ Some found → HasType env (arrow s e f) found.1.ty
  an_element : {s : Span} {e i : CExpr} {t : Ty} {n : ℕ}
      → IsTrue (is_lvalue e) → HasType env e (array t n) → HasType env i int → HasType env (index s e i) t
  a_target : {s : Span} {e : CExpr} {t : Ty} → HasType env e (pointer t) → HasType env (deref s e) t
  an_address : {s : Span} {e : CExpr} {t : Ty}
      → IsTrue (is_lvalue e) → is_local env e ≡ false → HasType env e t → HasType env (address s e) (pointer t)
  a_negative : {s : Span} {e : CExpr} → HasType env e int → HasType env (unary s Negate e) int
  a_negation : {s : Span} {e : CExpr} → HasType env e bool → HasType env (unary s Not e) bool
  arithmetic : {s : Span} {o : BinaryOp} {a b : CExpr}
      → IsArithmetic o → HasType env a int → HasType env b int → HasType env (binary s o a b) int
  order : {s : Span} {o : BinaryOp} {a b : CExpr}
      → IsOrdering o → HasType env a int → HasType env b int → HasType env (binary s o a b) bool
  logic : {s : Span} {o : BinaryOp} {a b : CExpr}
      → IsLogical o → HasType env a bool → HasType env b bool → HasType env (binary s o a b) bool
  equality : {s : Span} {o : BinaryOp} {a b : CExpr} {t : Ty}
      → IsEquality o → IsTrue (is_scalar t) → HasType env a t → HasType env b t → HasType env (binary s o a b) bool
  null_left : {s r : Span} {o : BinaryOp} {b : CExpr} {t : Ty}
      → IsEquality o → HasType env b (pointer t) → HasType env (binary s o (null r) b) bool
  null_right : {s r : Span} {o : BinaryOp} {a : CExpr} {t : Ty}
      → IsEquality o → HasType env a (pointer t) → HasType env (binary s o a (null r)) bool

-- an expression may stand where a type is asked: it has that type, or it is `null` and a pointer is asked
pub data IsGiven (env : Env) : CExpr → Ty → Type 0 where
  a_value : {e : CExpr} {t : Ty} → HasType env e t → IsGiven env e t
  a_null : {s : Span} {t : Ty} → IsGiven env (null s) (pointer t)

-- a law: what has a type has no fault, and that type
abbrev pub TypedIsFaultless : Type 0
TypedIsFaultless = (env : Env) (e : CExpr) (t : Ty) → HasType env e t → (faults env e ≡ []) × (type_of env e ≡ Some t)

-- a law: where no fault stands there is a type
abbrev pub FaultlessIsTyped : Type 0
FaultlessIsTyped = (env : Env) (e : CExpr) → faults env e ≡ [] → (t : Ty) × HasType env e t

-- a law: an expression has one type at most
abbrev pub HasOneType : Type 0
HasOneType = (env : Env) (e : CExpr) (t u : Ty) → HasType env e t → HasType env e u → t ≡ u
