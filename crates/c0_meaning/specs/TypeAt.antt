-- The type of an expression, found by the kinds and numbers of its names alone.
use Rattle.std.specs.Prelude.{◌≡◌, ℕ, List, [], ◌++◌, Option, Some, None, option_map, if◌then◌else◌, slice_get}
use Rattle.c0_tree.specs.declared.tree.Kind.{Kind}
use Rattle.c0_tree.specs.declared.tree.UnaryOp.{UnaryOp}
use Rattle.c0_tree.specs.declared.tree.UnaryOp.TheVariants.{Negate, Not}
use Rattle.c0_tree.specs.declared.tree.BinaryOp.{BinaryOp}
use Rattle.c0_tree.specs.declared.tree.BinaryOp.TheVariants.{Add, Sub, Mul, Div, Rem, Lt, Le, Gt, Ge, Eq, Ne, And, Or}
use Rattle.c0_tree.specs.Tree.{CExpr, num, true_, false_, null, var, field, arrow, index, deref, address, unary, binary, CFunction, CUnit}
use Rattle.c0_tree.specs.View.{type_view}
use Rattle.c0_meaning.specs.Ty.{Ty, int, bool, pointer, named, array}
use Rattle.c0_meaning.specs.Env.{Env, Shape, Typed, env_of}
use Rattle.c0_meaning.specs.Words.{shape_fields}
use Rattle.c0_meaning.specs.Expression.{is_lvalue, target}
use Rattle.c0_meaning.specs.Limits.{locals_of}
use Rattle.c0_meaning.specs.Numbered.{variable_at}
use Rattle.c0_meaning.specs.Resolved.{IsResolved}
use Rattle.c0_meaning.specs.declared.form.Found.{Found}
use Rattle.c0_meaning.specs.declared.form.Found.TheVariants.{Nothing, Int, Bool as Boolean, To, Of}

-- the type of the declaration of a number
abbrev pub declared_at : List Typed → ℕ → Option Ty
declared_at decls n = option_map (λ d. d.ty) (slice_get decls n)

-- the function of a number in a unit
abbrev pub IsAt : ℕ → CUnit → CFunction → Type 0
IsAt n u f = slice_get u.functions n ≡ Some f

-- the type of the field of a number, where a type is a struct
abbrev pub field_type : List Shape → Option Ty → ℕ → Option Ty
field_type structs None n = None
field_type structs (Some int) n = None
field_type structs (Some bool) n = None
field_type structs (Some (pointer t)) n = None
field_type structs (Some (named x)) n = option_map (λ d. d.ty) (slice_get (shape_fields structs x) n)
field_type structs (Some (array t size)) n = None

-- the type of the elements, where a type is an array
abbrev pub element : Option Ty → Option Ty
element None = None
element (Some int) = None
element (Some bool) = None
element (Some (pointer t)) = None
element (Some (named x)) = None
element (Some (array t size)) = Some t

-- the type that an operator before its operand gives
abbrev pub unary_type : UnaryOp → Ty
unary_type Negate = int
unary_type Not = bool

-- the type that an operator between two operands gives
abbrev pub binary_type : BinaryOp → Ty
binary_type Add = int
binary_type Sub = int
binary_type Mul = int
binary_type Div = int
binary_type Rem = int
binary_type Lt = bool
binary_type Le = bool
binary_type Gt = bool
binary_type Ge = bool
binary_type Eq = bool
binary_type Ne = bool
binary_type And = bool
binary_type Or = bool

-- the type of an expression; `null` has none by itself
abbrev pub type_at : Env → CExpr → Option Ty
type_at env (num s n) = Some int
type_at env (true_ s) = Some bool
type_at env (false_ s) = Some bool
type_at env (null s) = None
type_at env (var x) = option_map (λ d. d.ty) (variable_at env x.kind x.number)
type_at env (field s e f) = field_type env.structs (type_at env e) f.number
type_at env (arrow s e f) = field_type env.structs (target (type_at env e)) f.number
type_at env (index s e i) = element (type_at env e)
type_at env (deref s e) = target (type_at env e)
type_at env (address s e) = if is_lvalue e then option_map pointer (type_at env e) else None
type_at env (unary s o e) = Some (unary_type o)
type_at env (binary s o a b) = Some (binary_type o)

-- the environment of a function's body; no primitive stands in an expression
abbrev pub env_in : CUnit → CFunction → Env
env_in u f = env_of [] u (f.params ++ locals_of f.body)

-- the type of a variable in the body of a function, by its kind and number
abbrev pub variable_type : CUnit → CFunction → Kind → ℕ → Option Ty
variable_type u f k n = option_map (λ d. d.ty) (variable_at (env_in u f) k n)

-- the names in a type that was found are resolved
abbrev pub IsFoundResolved : List Shape → Found → Type 0
IsFoundResolved structs Nothing = Unit {0}
IsFoundResolved structs Int = Unit {0}
IsFoundResolved structs Boolean = Unit {0}
IsFoundResolved structs (To t) = IsResolved structs (type_view t.now)
IsFoundResolved structs (Of t) = IsResolved structs (type_view t.now)
