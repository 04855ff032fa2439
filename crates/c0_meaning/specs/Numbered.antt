-- The rules of typing by numbers. What a name stands for is found by its kind and its number, and no text of a name in an expression or a
-- statement is looked at: so a compiler reads a unit whose names are resolved.
use Rattle.std.specs.Prelude.{ℕ, ◌≡◌, ◌≤◌, Bool, true, false, List, [], ◌∷◌, ◌++◌, Option, None, Some, IsTrue, slice_get}
use Rattle.std.specs.List.{All}
use Rattle.c0_tree.specs.declared.tree.Span.{Span}
use Rattle.c0_tree.specs.declared.tree.Kind.{Kind}
use Rattle.c0_tree.specs.declared.tree.Kind.TheVariants.{Unresolved, Struct, Field, Global, Local, Function, Primitive}
use Rattle.c0_tree.specs.declared.tree.UnaryOp.TheVariants.{Negate, Not}
use Rattle.c0_tree.specs.declared.tree.BinaryOp.{BinaryOp}
use Rattle.c0_tree.specs.Tree.{CName, CTy, CExpr, num, true_, false_, null, var, field, arrow, index, deref, address, unary}
use Rattle.c0_tree.specs.Tree.{binary, CStmt, assign, call, new, choice, loop, CStmts, done, next, CBody, code, asm, CUnit}
use Rattle.c0_tree.specs.Primitives.{CPrimitive}
use Rattle.c0_tree.specs.Size.{need}
use Rattle.c0_meaning.specs.Ty.{Ty, int, bool, pointer, named, array, ty_of, is_scalar}
use Rattle.c0_meaning.specs.Env.{Env, Typed, Signature, env_of}
use Rattle.c0_meaning.specs.Words.{shape_fields}
use Rattle.c0_meaning.specs.Expression.{is_lvalue}
use Rattle.c0_meaning.specs.Judgement.{IsArithmetic, IsOrdering, IsEquality, IsLogical}
use Rattle.c0_meaning.specs.Limits.{locals_of}
use Rattle.c0_meaning.specs.Resolved.{IsResolved}
use Rattle.c0_meaning.specs.Statement.{MAX_NEED, assign_need, call_need, new_need}
use Rattle.c0_meaning.specs.Typed.{IsDeclarable}
use Rattle.c0_meaning.specs.Unit.{IsWellFormed}

-- the declaration of a variable: a parameter or local, or a global
abbrev pub variable_at : Env → Kind → ℕ → Option Typed
variable_at env Unresolved n = None
variable_at env Struct n = None
variable_at env Field n = None
variable_at env Global n = slice_get env.globals n
variable_at env Local n = slice_get env.locals n
variable_at env Function n = None
variable_at env Primitive n = None

-- what is called: a function, or a primitive
abbrev pub callee_at : Env → Kind → ℕ → Option Signature
callee_at env Unresolved n = None
callee_at env Struct n = None
callee_at env Field n = None
callee_at env Global n = None
callee_at env Local n = None
callee_at env Function n = slice_get env.functions n
callee_at env Primitive n = slice_get env.primitives n

-- the field of a number in the struct of a name
abbrev pub field_at : Env → List ℕ → ℕ → Option Typed
field_at env owner n = slice_get (shape_fields env.structs owner) n

-- the kind of a parameter or local
abbrev pub is_in_frame : Kind → Bool
is_in_frame Unresolved = false
is_in_frame Struct = false
is_in_frame Field = false
is_in_frame Global = false
is_in_frame Local = true
is_in_frame Function = false
is_in_frame Primitive = false

-- whether a place's variable is a parameter or a local, by its kind: `*e` and `e->f` are never local
abbrev pub is_frame_place : CExpr → Bool
is_frame_place (num s n) = false
is_frame_place (true_ s) = false
is_frame_place (false_ s) = false
is_frame_place (null s) = false
is_frame_place (var x) = is_in_frame x.kind
is_frame_place (field s e f) = is_frame_place e
is_frame_place (arrow s e f) = false
is_frame_place (index s e i) = is_frame_place e
is_frame_place (deref s e) = false
is_frame_place (address s e) = false
is_frame_place (unary s o e) = false
is_frame_place (binary s o a b) = false

-- an expression has a type
pub data HasNumberedType (env : Env) : CExpr → Ty → Type 0 where
  a_number : {s : Span} {n : ℕ} → n ≤ 2147483647 → HasNumberedType env (num s n) int
  a_true : {s : Span} → HasNumberedType env (true_ s) bool
  a_false : {s : Span} → HasNumberedType env (false_ s) bool
  a_variable : {x : CName} {d : Typed} → variable_at env x.kind x.number ≡ Some d → HasNumberedType env (var x) d.ty
  a_field : {s : Span} {e : CExpr} {f : CName} {x : List ℕ} {d : Typed}
      → IsTrue (is_lvalue e) → HasNumberedType env e (named x) → field_at env x f.number ≡ Some d → HasNumberedType env (field s e f) d.ty
  a_target_field : {s : Span} {e : CExpr} {f : CName} {x : List ℕ} {d : Typed}
      → HasNumberedType env e (pointer (named x)) → field_at env x f.number ≡ Some d → HasNumberedType env (arrow s e f) d.ty
  an_element : {s : Span} {e i : CExpr} {t : Ty} {n : ℕ}
      → IsTrue (is_lvalue e) → HasNumberedType env e (array t n) → HasNumberedType env i int → HasNumberedType env (index s e i) t
  a_target : {s : Span} {e : CExpr} {t : Ty} → HasNumberedType env e (pointer t) → HasNumberedType env (deref s e) t
  an_address : {s : Span} {e : CExpr} {t : Ty}
      → IsTrue (is_lvalue e) → is_frame_place e ≡ false → HasNumberedType env e t → HasNumberedType env (address s e) (pointer t)
  a_negative : {s : Span} {e : CExpr} → HasNumberedType env e int → HasNumberedType env (unary s Negate e) int
  a_negation : {s : Span} {e : CExpr} → HasNumberedType env e bool → HasNumberedType env (unary s Not e) bool
  arithmetic : {s : Span} {o : BinaryOp} {a b : CExpr}
      → IsArithmetic o → HasNumberedType env a int → HasNumberedType env b int → HasNumberedType env (binary s o a b) int
  order : {s : Span} {o : BinaryOp} {a b : CExpr}
      → IsOrdering o → HasNumberedType env a int → HasNumberedType env b int → HasNumberedType env (binary s o a b) bool
  logic : {s : Span} {o : BinaryOp} {a b : CExpr}
      → IsLogical o → HasNumberedType env a bool → HasNumberedType env b bool → HasNumberedType env (binary s o a b) bool
  equality : {s : Span} {o : BinaryOp} {a b : CExpr} {t : Ty}
      → IsEquality o → IsTrue (is_scalar t) → HasNumberedType env a t → HasNumberedType env b t → HasNumberedType env (binary s o a b) bool
  null_left : {s r : Span} {o : BinaryOp} {b : CExpr} {t : Ty}
      → IsEquality o → HasNumberedType env b (pointer t) → HasNumberedType env (binary s o (null r) b) bool
  null_right : {s r : Span} {o : BinaryOp} {a : CExpr} {t : Ty}
      → IsEquality o → HasNumberedType env a (pointer t) → HasNumberedType env (binary s o a (null r)) bool

-- an expression may stand where a type is asked: it has that type, or it is `null` and a pointer is asked
pub data IsNumberedGiven (env : Env) : CExpr → Ty → Type 0 where
  a_value : {e : CExpr} {t : Ty} → HasNumberedType env e t → IsNumberedGiven env e t
  a_null : {s : Span} {t : Ty} → IsNumberedGiven env (null s) (pointer t)

-- a left side for values of a type: a place of that scalar type
pub record IsNumberedLeft (env : Env) (p : CExpr) (t : Ty) : Type 0 where
  pub place : IsTrue (is_lvalue p)
  pub scalar : IsTrue (is_scalar t)
  pub typed : HasNumberedType env p t

-- arguments for parameters of these types
pub data AreNumberedGiven (env : Env) : List CExpr → List Ty → Type 0 where
  none : AreNumberedGiven env [] []
  more : {e : CExpr} {es : List CExpr} {t : Ty} {ts : List Ty} → IsNumberedGiven env e t → AreNumberedGiven env es ts → AreNumberedGiven env (e ∷ es) (t ∷ ts)

-- a condition, or a returned expression, of a type
pub record IsNumberedTest (env : Env) (e : CExpr) (t : Ty) : Type 0 where
  pub value : IsNumberedGiven env e t
  pub shallow : need e ≤ MAX_NEED

-- a statement is typed, and so is a list of them
mutual
  pub data IsNumbered (env : Env) : CStmt → Type 0 where
    an_assignment : {s : Span} {p v : CExpr} {t : Ty}
        → IsNumberedLeft env p t → IsNumberedGiven env v t → assign_need p v ≤ MAX_NEED → IsNumbered env (assign s p v)
    a_call : {s cs : Span} {p : CExpr} {f : CName} {args : List CExpr} {c : Signature}
        → callee_at env f.kind f.number ≡ Some c → IsNumberedLeft env p c.answer → AreNumberedGiven env args c.params → call_need p args ≤ MAX_NEED
        → IsNumbered env (call s p cs f args)
    an_object : {s ts : Span} {p : CExpr} {t : CTy}
        → IsNumberedLeft env p (pointer (ty_of t)) → IsDeclarable env.structs t → IsResolved env.structs t → new_need p ≤ MAX_NEED
        → IsNumbered env (new s p t ts)
    a_choice : {s : Span} {t : CExpr} {a b : CStmts} → IsNumberedTest env t bool → AreNumbered env a → AreNumbered env b → IsNumbered env (choice s t a b)
    a_loop : {s : Span} {t : CExpr} {b : CStmts} → IsNumberedTest env t bool → AreNumbered env b → IsNumbered env (loop s t b)

  pub data AreNumbered (env : Env) : CStmts → Type 0 where
    no_statement : AreNumbered env done
    a_statement : {s : CStmt} {rest : CStmts} → IsNumbered env s → AreNumbered env rest → AreNumbered env (next s rest)

-- a body that is typed in its environment, where its result has this type
abbrev pub IsNumberedBody : Env → Ty → CBody → Type 0
IsNumberedBody env result (code locals stmts answer) = AreNumbered env stmts × IsNumberedTest env answer result
IsNumberedBody env result (asm text span words) = Unit {0}

-- a law: each body of a well formed unit is typed by numbers
abbrev pub NumbersTell : Type 0
NumbersTell = (primitives : List CPrimitive) (u : CUnit) → IsWellFormed primitives u
    → All (λ f. IsNumberedBody (env_of primitives u (f.params ++ locals_of f.body)) (ty_of f.answer) f.body) u.functions
