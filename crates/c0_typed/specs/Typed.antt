-- The typed tree of a unit, by the types that its names' numbers tell. It is there for every tree: what isn't there counts 0.
use Rattle.std.specs.Prelude.{ℕ, ◌*◌, ◌-◌, ◌%◌, ◌^◌, nat_lt, if◌then◌else◌, List, [], length, map, Option, Some, None, slice_get, unwrap_or}
use Rattle.c0_tree.specs.declared.tree.Kind.{Kind}
use Rattle.c0_tree.specs.declared.tree.Kind.TheVariants as kind
use Rattle.c0_tree.specs.declared.tree.UnaryOp.{UnaryOp}
use Rattle.c0_tree.specs.declared.tree.UnaryOp.TheVariants.{Negate, Not}
use Rattle.c0_tree.specs.declared.tree.BinaryOp.{BinaryOp}
use Rattle.c0_tree.specs.declared.tree.BinaryOp.TheVariants.{Add, Sub, Mul, Div, Rem, Lt, Le, Gt, Ge, Eq, Ne, And, Or}
use Rattle.c0_tree.specs.Tree.{CExpr, num, true_, false_, null, var, field, arrow, index, deref, unary, binary, CStmt, CStmts, CBody, CDecl, CFunction, CUnit}
use Rattle.c0_tree.specs.Tree as tree
use Rattle.c0_meaning.specs.Ty.{Ty, named, array, is_scalar, ty_of}
use Rattle.c0_meaning.specs.Env.{Env, Shape}
use Rattle.c0_meaning.specs.Words.{shape_fields, words}
use Rattle.c0_meaning.specs.Expression as expression
use Rattle.c0_meaning.specs.Limits.{words_of_frame}
use Rattle.c0_meaning.specs.Offsets.{offsets}
use Rattle.c0_meaning.specs.Sizes.{capped}
use Rattle.c0_meaning.specs.Sound.{shapes}
use Rattle.c0_meaning.specs.TypeAt.{env_in, type_at}
use Rattle.c0_meaning.specs.TypedState.{types_of}
use Rattle.c0_typed.specs.declared.sorted.Order.TheVariants.{Less, LessOrEqual, Greater, GreaterOrEqual}
use Rattle.c0_typed.specs.declared.sorted.Plain.TheVariants.{Sum, Difference, Product, Order, Equal, Different}
use Rattle.c0_typed.specs.declared.tree.Elements.{Elements}
use Rattle.c0_typed.specs.declared.tree.LocalType.{LocalType}
use Rattle.c0_typed.specs.Leaf.{calls_in, keeps_registers}
use Rattle.c0_typed.specs.Tree.{TExpr, global, local, part, element, target, constant, address, negative, negation, plain, quotient, remainder, both}
use Rattle.c0_typed.specs.Tree.{either, TStmt, assign, call, new, choice, loop, TStmts, done, next, TBody, code, asm, TFunction}

-- the entry of a number, and 0 where there is none
abbrev pub entry : List ℕ → ℕ → ℕ
entry xs n = unwrap_or (slice_get xs n) 0

-- where the value of a number begins, of values of some types one after another, in words from the first one
abbrev pub words_ahead : List Shape → List Ty → ℕ → ℕ
words_ahead structs ts n = entry (offsets structs ts) n

-- a variable, by its kind and number
abbrev pub typed_variable : Env → Kind → ℕ → TExpr
typed_variable env kind.Unresolved n = constant 0
typed_variable env kind.Struct n = constant 0
typed_variable env kind.Field n = constant 0
typed_variable env kind.Global n = global (4 * words_ahead env.structs (types_of env.globals) n % 2 ^ 32)
typed_variable env kind.Local n = local n (words_ahead env.structs (types_of env.locals) n)
typed_variable env kind.Function n = constant 0
typed_variable env kind.Primitive n = constant 0

-- the types of the fields, where a type is a struct
abbrev pub field_types : List Shape → Option Ty → List Ty
field_types structs (Some (named x)) = types_of (shape_fields structs x)
field_types structs _ = []

-- the bytes before the field of a number, where a type is a struct, modulo 2 ^ 32
abbrev pub field_bytes : List Shape → Option Ty → ℕ → ℕ
field_bytes structs t n = 4 * words_ahead structs (field_types structs t) n % 2 ^ 32

-- the elements, where a type is an array: how many there are, the words of one, up to the cap, and its bytes modulo 2 ^ 32
abbrev pub elements_in : List Shape → Option Ty → Elements
elements_in structs (Some (array t n)) = record { count = n; words = capped structs t; bytes = 4 * words structs t % 2 ^ 32 }
elements_in structs _ = record { count = 0; words = 0; bytes = 0 }

-- the number that an expression is written as
abbrev pub written_number : CExpr → Option ℕ
written_number (num s n) = Some n
written_number _ = None

-- an element of a place: a number below the length needs no test, and leads to a part
abbrev pub typed_element : Elements → TExpr → TExpr → Option ℕ → TExpr
typed_element x p i None = element p i x
typed_element x p i (Some c) = if nat_lt c x.count then part p (c * x.bytes % 2 ^ 32) else element p i x

-- `-` before an expression: before a written number it makes a constant
abbrev pub typed_negative : TExpr → Option ℕ → TExpr
typed_negative e None = negative e
typed_negative e (Some n) = constant ((2 ^ 32 - n) % 2 ^ 32)

-- an operator before its operand
abbrev pub typed_unary : UnaryOp → TExpr → Option ℕ → TExpr
typed_unary Negate e n = typed_negative e n
typed_unary Not e n = negation e

-- an operator between its operands
abbrev pub typed_binary : BinaryOp → TExpr → TExpr → TExpr
typed_binary Add a b = plain Sum a b
typed_binary Sub a b = plain Difference a b
typed_binary Mul a b = plain Product a b
typed_binary Div a b = quotient a b
typed_binary Rem a b = remainder a b
typed_binary Lt a b = plain (Order Less) a b
typed_binary Le a b = plain (Order LessOrEqual) a b
typed_binary Gt a b = plain (Order Greater) a b
typed_binary Ge a b = plain (Order GreaterOrEqual) a b
typed_binary Eq a b = plain Equal a b
typed_binary Ne a b = plain Different a b
typed_binary And a b = both a b
typed_binary Or a b = either a b

-- every expression
abbrev pub typed_of_expr : Env → CExpr → TExpr
typed_of_expr env (num s n) = constant n
typed_of_expr env (true_ s) = constant 1
typed_of_expr env (false_ s) = constant 0
typed_of_expr env (null s) = constant 0
typed_of_expr env (var x) = typed_variable env x.kind x.number
typed_of_expr env (field s e f) = part (typed_of_expr env e) (field_bytes env.structs (type_at env e) f.number)
typed_of_expr env (arrow s e f) = part (target (typed_of_expr env e)) (field_bytes env.structs (expression.target (type_at env e)) f.number)
typed_of_expr env (index s e i) = typed_element (elements_in env.structs (type_at env e)) (typed_of_expr env e) (typed_of_expr env i) (written_number i)
typed_of_expr env (deref s e) = target (typed_of_expr env e)
typed_of_expr env (tree.address s e) = address (typed_of_expr env e)
typed_of_expr env (unary s o e) = typed_unary o (typed_of_expr env e) (written_number e)
typed_of_expr env (binary s o a b) = typed_binary o (typed_of_expr env a) (typed_of_expr env b)

-- a statement, and statements one after another
abbrev mutual
  pub typed_of_stmt : Env → CStmt → TStmt
  typed_of_stmt env (tree.assign s p v) = assign (typed_of_expr env p) (typed_of_expr env v)
  typed_of_stmt env (tree.call s p cs f args) = call f.kind f.number (map (typed_of_expr env) args) (typed_of_expr env p)
  typed_of_stmt env (tree.new s p t ts) = new (words env.structs (ty_of t)) (typed_of_expr env p)
  typed_of_stmt env (tree.choice s t a b) = choice (typed_of_expr env t) (typed_of_stmts env a) (typed_of_stmts env b)
  typed_of_stmt env (tree.loop s t b) = loop (typed_of_expr env t) (typed_of_stmts env b)

  pub typed_of_stmts : Env → CStmts → TStmts
  typed_of_stmts env tree.done = done
  typed_of_stmts env (tree.next s rest) = next (typed_of_stmt env s) (typed_of_stmts env rest)

-- a local: its words, and whether it is a scalar
abbrev pub typed_of_local : List Shape → CDecl → LocalType
typed_of_local structs d = record { words = words structs (ty_of d.ty); scalar = is_scalar (ty_of d.ty) }

-- a body
abbrev pub typed_of_body : Env → CBody → TBody
typed_of_body env (tree.code locals stmts answer) = code (map (typed_of_local env.structs) locals) (typed_of_stmts env stmts) (typed_of_expr env answer)
typed_of_body env (tree.asm text span words) = asm words

-- a function whose names stand for these, and whose frame has so many words
abbrev pub typed_in : Env → (frame : ℕ) → CFunction → TFunction
typed_in env frame f = record {
  params = length f.params;
  frame = frame;
  in_registers = keeps_registers f;
  calling = calls_in f.body;
  body = typed_of_body env f.body;
}

-- a function of a unit
abbrev pub typed_of_function : CUnit → CFunction → TFunction
typed_of_function u f = typed_in (env_in u f) (words_of_frame (shapes u) f) f

-- the functions of a unit
abbrev pub typed_of_unit : CUnit → List TFunction
typed_of_unit u = map (typed_of_function u) u.functions
