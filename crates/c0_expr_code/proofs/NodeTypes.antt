-- The types that the code goes by, and which numbers are written.
use Rattle.std.specs.Prelude.{option_map}
use Rattle.std.proofs.Common.{◌≡◌, ℕ, Bool, true, false, cond, Option, Some, None, refl, ap, ◌∙◌}
use Rattle.std.proofs.lemmas.Bool.{cond-true}
use Rattle.c0_tree.specs.declared.tree.Kind.{Kind}
use Rattle.c0_tree.specs.declared.tree.Kind.TheVariants.{Unresolved, Struct, Field, Global, Local, Function, Primitive}
use Rattle.c0_tree.specs.declared.tree.UnaryOp.{UnaryOp}
use Rattle.c0_tree.specs.declared.tree.UnaryOp.TheVariants.{Negate, Not}
use Rattle.c0_tree.specs.declared.tree.BinaryOp.{BinaryOp}
use Rattle.c0_tree.specs.declared.tree.BinaryOp.TheVariants.{Add, Sub, Mul, Div, Rem, Lt, Le, Gt, Ge, Eq, Ne, And, Or}
use Rattle.c0_tree.specs.Tree.{CExpr, num, true_, false_, null, var, field, arrow, index, deref, address, unary, binary}
use Rattle.c0_meaning.specs.Ty.{Ty}
use Rattle.c0_meaning.specs.Ty as ty
use Rattle.c0_meaning.specs.Env.{Env, Typed}
use Rattle.c0_meaning.specs.Expression.{target}
use Rattle.c0_meaning.specs.Judgement.{IsArithmetic, add, sub, mul, div, rem, IsOrdering, lt, le, gt, ge, IsEquality, eq, ne, IsLogical, and, or}
use Rattle.c0_meaning.specs.Numbered.{HasNumberedType, a_number, a_true, a_false, a_variable, a_field, a_target_field, an_element, a_target, an_address, a_negative, a_negation, arithmetic, order, logic, equality, null_left, null_right}
use Rattle.c0_meaning.specs.TypeAt.{field_type, element, binary_type, type_at}
use Rattle.c0_typed.specs.Typed.{typed_of_expr, written_number}
use Rattle.c0_expr_code.specs.declared.facts.Facts.{Facts}
use Rattle.c0_expr_code.specs.Facts.{register_holding}
use Rattle.c0_expr_code.specs.Scope.{Scope}
use Rattle.c0_expr_code.specs.Code.{Made, frame_made, right_facts, register_made, register_of_variable, local_address, variable_made, negative_made, unary_made, Immediate, immediate_of, operator_made, sum_made, binary_made, made}

arithmetic_gives : (o : BinaryOp) → IsArithmetic o → binary_type o ≡ ty.int
arithmetic_gives _ add = refl
arithmetic_gives _ sub = refl
arithmetic_gives _ mul = refl
arithmetic_gives _ div = refl
arithmetic_gives _ rem = refl

order_gives : (o : BinaryOp) → IsOrdering o → binary_type o ≡ ty.bool
order_gives _ lt = refl
order_gives _ le = refl
order_gives _ gt = refl
order_gives _ ge = refl

equality_gives : (o : BinaryOp) → IsEquality o → binary_type o ≡ ty.bool
equality_gives _ eq = refl
equality_gives _ ne = refl

logic_gives : (o : BinaryOp) → IsLogical o → binary_type o ≡ ty.bool
logic_gives _ and = refl
logic_gives _ or = refl

-- the type that the code goes by
pub type_is : (env : Env) (e : CExpr) (t : Ty) → HasNumberedType env e t → type_at env e ≡ Some t
type_is env _ _ (a_number h) = refl
type_is env _ _ a_true = refl
type_is env _ _ a_false = refl
type_is env _ _ (a_variable {x = x} {d = d} h) = ap (option_map (λ (d : Typed). d.ty)) h
type_is env _ _ (a_field {e = e} {f = n} {x = x} {d = d} p h q) =
    ap (λ (o : Option Ty). field_type env.structs o n.number) (type_is env e (ty.named x) h) ∙ ap (option_map (λ (d : Typed). d.ty)) q
type_is env _ _ (a_target_field {e = e} {f = n} {x = x} {d = d} h q) =
    ap (λ (o : Option Ty). field_type env.structs (target o) n.number) (type_is env e (ty.pointer (ty.named x)) h) ∙ ap (option_map (λ (d : Typed). d.ty)) q
type_is env _ _ (an_element {e = e} {t = t} {n = n} p h g) = ap element (type_is env e (ty.array t n) h)
type_is env _ _ (a_target {e = e} {t = t} h) = ap target (type_is env e (ty.pointer t) h)
type_is env _ _ (an_address {e = e} {t = t} p away h) = cond-true _ (option_map ty.pointer (type_at env e)) None p ∙ ap (option_map ty.pointer) (type_is env e t h)
type_is env _ _ (a_negative h) = refl
type_is env _ _ (a_negation h) = refl
type_is env _ _ (arithmetic {o = o} k h g) = ap Some (arithmetic_gives o k)
type_is env _ _ (order {o = o} k h g) = ap Some (order_gives o k)
type_is env _ _ (logic {o = o} k h g) = ap Some (logic_gives o k)
type_is env _ _ (equality {o = o} k s h g) = ap Some (equality_gives o k)
type_is env _ _ (null_left {o = o} k h) = ap Some (equality_gives o k)
type_is env _ _ (null_right {o = o} k h) = ap Some (equality_gives o k)

-- a node that is no constant
pub record IsNotConstant (m : Made) : Type 0 where
  pub literal : m.literal ≡ None
  pub known : m.known ≡ None

operator_not_constant : (im : Immediate) (o : BinaryOp) (a b : Made) → IsNotConstant (operator_made im o a b)
operator_not_constant (Some g) o a b = record { literal = refl; known = refl }
operator_not_constant None o a b = record { literal = refl; known = refl }

sum_not_constant : (i j : Immediate) (a b : Made) → IsNotConstant (sum_made i j a b)
sum_not_constant (Some g) j a b = record { literal = refl; known = refl }
sum_not_constant None (Some g) a b = record { literal = refl; known = refl }
sum_not_constant None None a b = record { literal = refl; known = refl }

module _ (sc : Scope) where
  pub binary_not_constant : (o : BinaryOp) (a b : Made) → IsNotConstant (binary_made sc o a b)
  binary_not_constant Add a b = sum_not_constant (immediate_of Add b.known) (immediate_of Add a.known) a b
  binary_not_constant Sub a b = operator_not_constant (immediate_of Sub b.known) Sub a b
  binary_not_constant Mul a b = record { literal = refl; known = refl }
  binary_not_constant Div a b = record { literal = refl; known = refl }
  binary_not_constant Rem a b = record { literal = refl; known = refl }
  binary_not_constant Lt a b = operator_not_constant (immediate_of Lt b.known) Lt a b
  binary_not_constant Le a b = operator_not_constant (immediate_of Le b.known) Le a b
  binary_not_constant Gt a b = record { literal = refl; known = refl }
  binary_not_constant Ge a b = operator_not_constant (immediate_of Ge b.known) Ge a b
  binary_not_constant Eq a b = operator_not_constant (immediate_of Eq b.known) Eq a b
  binary_not_constant Ne a b = operator_not_constant (immediate_of Ne b.known) Ne a b
  binary_not_constant And a b = record { literal = refl; known = refl }
  binary_not_constant Or a b = record { literal = refl; known = refl }

  pub variable_not_constant : (fs : Facts) (k : Kind) (n : ℕ) → IsNotConstant (variable_made sc fs k n)
  variable_not_constant fs Global n = record { literal = refl; known = refl }
  variable_not_constant fs Local n = by_form sc.in_registers
    where
      by_form : (b : Bool) → IsNotConstant (cond b (register_made (register_of_variable n)) (frame_made (register_holding fs n) (λ r. local_address sc n)))
      by_form true = record { literal = refl; known = refl }
      by_form false = record { literal = refl; known = refl }
  variable_not_constant fs Unresolved n = record { literal = refl; known = refl }
  variable_not_constant fs Struct n = record { literal = refl; known = refl }
  variable_not_constant fs Field n = record { literal = refl; known = refl }
  variable_not_constant fs Function n = record { literal = refl; known = refl }
  variable_not_constant fs Primitive n = record { literal = refl; known = refl }

  pub negative_literal : (o : Option ℕ) (m : Made) → (negative_made o m).literal ≡ None
  negative_literal (Some n) m = refl
  negative_literal None m = refl

  unary_literal : (o : UnaryOp) (m : Made) → (unary_made o m).literal ≡ None
  unary_literal Negate m = negative_literal m.literal m
  unary_literal Not m = refl

  -- the number that is written is the one that the expression is written as
  pub literal_written : (fs : Facts) (e : CExpr) → (made sc fs e).literal ≡ written_number e
  literal_written fs (num p n) = refl
  literal_written fs (true_ p) = refl
  literal_written fs (false_ p) = refl
  literal_written fs (null p) = refl
  literal_written fs (var x) = (variable_not_constant fs x.kind x.number).literal
  literal_written fs (field p a f) = refl
  literal_written fs (arrow p a f) = refl
  literal_written fs (index p a i) = refl
  literal_written fs (deref p a) = refl
  literal_written fs (address p a) = refl
  literal_written fs (unary p o a) = unary_literal o (made sc fs a)
  literal_written fs (binary p o a b) = (binary_not_constant o (made sc fs a) (made sc (right_facts o (typed_of_expr sc.env a) fs) b)).literal
