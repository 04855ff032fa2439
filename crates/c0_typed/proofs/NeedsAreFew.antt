-- A typed tree needs no more registers than the expression.
use Rattle.std.proofs.Common.{ℕ, ◌+◌, ◌*◌, ◌%◌, ◌^◌, ◌≤◌, max, Bool, true, false, nat_lt, if◌then◌else◌, Option, Some, None, arith}
use Rattle.c0_tree.specs.declared.tree.Kind.{Kind}
use Rattle.c0_tree.specs.declared.tree.Kind.TheVariants.{Unresolved, Struct, Field, Global, Local, Function, Primitive}
use Rattle.c0_tree.specs.declared.tree.UnaryOp.TheVariants.{Negate, Not}
use Rattle.c0_tree.specs.declared.tree.BinaryOp.{BinaryOp}
use Rattle.c0_tree.specs.declared.tree.BinaryOp.TheVariants.{Add, Sub, Mul, Div, Rem, Lt, Le, Gt, Ge, Eq, Ne, And, Or}
use Rattle.c0_tree.specs.Size.{need, binary_need}
use Rattle.c0_tree.specs.Tree.{CExpr, num, true_, false_, null, var, field, arrow, index, deref, address, unary, binary}
use Rattle.c0_meaning.specs.Env.{Env}
use Rattle.c0_meaning.specs.TypeAt.{type_at}
use Rattle.c0_typed.specs.declared.tree.Elements.{Elements}
use Rattle.c0_typed.specs.Size.{typed_need, NeedsAreFew}
use Rattle.c0_typed.specs.Tree.{TExpr, part, element}
use Rattle.c0_typed.specs.Typed.{elements_in, written_number, typed_variable, typed_element, typed_negative, typed_binary}

variable_need : (env : Env) (k : Kind) (n : ℕ) → typed_need (typed_variable env k n) ≤ 1
variable_need env Unresolved n = omega arith
variable_need env Struct n = omega arith
variable_need env Field n = omega arith
variable_need env Global n = omega arith
variable_need env Local n = omega arith
variable_need env Function n = omega arith
variable_need env Primitive n = omega arith

element_need : (x : Elements) (p i : TExpr) (o : Option ℕ) (a b : ℕ) → typed_need p ≤ a → typed_need i ≤ b → typed_need (typed_element x p i o) ≤ max a (b + 1)
element_need x p i None a b h g = omega (arith, h, g)
element_need x p i (Some c) a b h g = by (nat_lt c x.count)
  where
    by : (t : Bool) → typed_need (if t then part p (c * x.bytes % 2 ^ 32) else element p i x) ≤ max a (b + 1)
    by true = omega (arith, h)
    by false = omega (arith, h, g)

negative_need : (e : CExpr) (x : TExpr) → typed_need x ≤ need e → typed_need (typed_negative x (written_number e)) ≤ need e
negative_need (num s n) x h = omega arith
negative_need (true_ s) x h = h
negative_need (false_ s) x h = h
negative_need (null s) x h = h
negative_need (var y) x h = h
negative_need (field s e f) x h = h
negative_need (arrow s e f) x h = h
negative_need (index s e i) x h = h
negative_need (deref s e) x h = h
negative_need (address s e) x h = h
negative_need (unary s o e) x h = h
negative_need (binary s o a b) x h = h

operator_need : (o : BinaryOp) (x y : TExpr) (a b : ℕ) → typed_need x ≤ a → typed_need y ≤ b → typed_need (typed_binary o x y) ≤ binary_need o a b
operator_need Add x y a b h g = omega (arith, h, g)
operator_need Sub x y a b h g = omega (arith, h, g)
operator_need Mul x y a b h g = omega (arith, h, g)
operator_need Div x y a b h g = omega (arith, h, g)
operator_need Rem x y a b h g = omega (arith, h, g)
operator_need Lt x y a b h g = omega (arith, h, g)
operator_need Le x y a b h g = omega (arith, h, g)
operator_need Gt x y a b h g = omega (arith, h, g)
operator_need Ge x y a b h g = omega (arith, h, g)
operator_need Eq x y a b h g = omega (arith, h, g)
operator_need Ne x y a b h g = omega (arith, h, g)
operator_need And x y a b h g = omega (arith, h, g)
operator_need Or x y a b h g = omega (arith, h, g)

pub needs_few : NeedsAreFew
needs_few env (num s n) = omega arith
needs_few env (true_ s) = omega arith
needs_few env (false_ s) = omega arith
needs_few env (null s) = omega arith
needs_few env (var x) = variable_need env x.kind x.number
needs_few env (field s e f) = needs_few env e
needs_few env (arrow s e f) = needs_few env e
needs_few env (index s e i) = element_need (elements_in env.structs (type_at env e)) _ _ (written_number i) _ _ (needs_few env e) (needs_few env i)
needs_few env (deref s e) = needs_few env e
needs_few env (address s e) = needs_few env e
needs_few env (unary s Negate e) = negative_need e _ (needs_few env e)
needs_few env (unary s Not e) = needs_few env e
needs_few env (binary s o a b) = operator_need o _ _ _ _ (needs_few env a) (needs_few env b)
