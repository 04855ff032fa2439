-- Only a variable of a function that keeps its variables in registers is a register itself.
use Rattle.std.specs.Prelude.{Option, Some, None, if◌then◌else◌}
use Rattle.std.proofs.Common.{◌≡◌, ℕ, ◌<◌, Bool, true, false, refl, arith}
use Rattle.c0_tree.specs.declared.tree.Kind.{Kind}
use Rattle.c0_tree.specs.declared.tree.Kind.TheVariants.{Unresolved, Struct, Field, Global, Local, Function, Primitive}
use Rattle.c0_tree.specs.declared.tree.UnaryOp.{UnaryOp}
use Rattle.c0_tree.specs.declared.tree.UnaryOp.TheVariants.{Negate, Not}
use Rattle.c0_tree.specs.declared.tree.BinaryOp.{BinaryOp}
use Rattle.c0_tree.specs.declared.tree.BinaryOp.TheVariants.{Add, Sub, Mul, Div, Rem, Lt, Le, Gt, Ge, Eq, Ne, And, Or}
use Rattle.c0_tree.specs.Tree.{CExpr, num, true_, false_, null, var, field, arrow, index, deref, address, unary, binary}
use Rattle.c0_typed.specs.Typed.{typed_of_expr}
use Rattle.c0_expr_code.specs.declared.facts.Facts.{Facts}
use Rattle.c0_expr_code.specs.Facts.{register_holding, register_of_variable}
use Rattle.c0_expr_code.specs.Scope.{Scope}
use Rattle.c0_expr_code.specs.Code.{Immediate, Made, binary_made, frame_made, immediate_of, local_address, made, negative_made, operator_made, register_made, right_facts, sum_made, unary_made, variable_made}

no_sum : (f g : Immediate) (a b : Made) → (sum_made f g a b).register ≡ None
no_sum (Some f) g a b = refl
no_sum None (Some g) a b = refl
no_sum None None a b = refl

no_operator : (f : Immediate) (o : BinaryOp) (a b : Made) → (operator_made f o a b).register ≡ None
no_operator (Some f) o a b = refl
no_operator None o a b = refl

no_binary : (sc : Scope) (o : BinaryOp) (a b : Made) → (binary_made sc o a b).register ≡ None
no_binary sc Add a b = no_sum (immediate_of Add b.known) (immediate_of Add a.known) a b
no_binary sc Sub a b = no_operator (immediate_of Sub b.known) Sub a b
no_binary sc Mul a b = refl
no_binary sc Div a b = refl
no_binary sc Rem a b = refl
no_binary sc Lt a b = no_operator (immediate_of Lt b.known) Lt a b
no_binary sc Le a b = no_operator (immediate_of Le b.known) Le a b
no_binary sc Gt a b = refl
no_binary sc Ge a b = no_operator (immediate_of Ge b.known) Ge a b
no_binary sc Eq a b = no_operator (immediate_of Eq b.known) Eq a b
no_binary sc Ne a b = no_operator (immediate_of Ne b.known) Ne a b
no_binary sc And a b = refl
no_binary sc Or a b = refl

no_negative : (o : Option ℕ) (m : Made) → (negative_made o m).register ≡ None
no_negative (Some n) m = refl
no_negative None m = refl

no_unary : (o : UnaryOp) (m : Made) → (unary_made o m).register ≡ None
no_unary Negate m = no_negative m.literal m
no_unary Not m = refl

not_some : (o : Option ℕ) (y : ℕ) → o ≡ None → o ≡ Some y → ⊥
not_some o y n e = cc

-- so its function keeps its variables in registers, and it is one of the 32
is_one : (sc : Scope) (fs : Facts) (p : CExpr) (y : ℕ) → (made sc fs p).register ≡ Some y → (sc.in_registers ≡ true) × (y < 32)
is_one sc fs (var x) y e = by_kind x.kind e
  where
    by_form : (b : Bool) → (if b then register_made (register_of_variable x.number) else frame_made (register_holding fs x.number) (λ r. local_address sc x.number)).register ≡ Some y → (b ≡ true) × (y < 32)
    by_form true q = let h : register_of_variable x.number ≡ y = cc in (refl, omega (arith, h))
    by_form false q = absurd (cc)

    by_kind : (k : Kind) → (variable_made sc fs k x.number).register ≡ Some y → (sc.in_registers ≡ true) × (y < 32)
    by_kind Local q = by_form sc.in_registers q
    by_kind Unresolved q = absurd (cc)
    by_kind Struct q = absurd (cc)
    by_kind Field q = absurd (cc)
    by_kind Global q = absurd (cc)
    by_kind Function q = absurd (cc)
    by_kind Primitive q = absurd (cc)
is_one sc fs (unary s o e) y q = absurd (not_some _ y (no_unary o (made sc fs e)) q)
is_one sc fs (binary s o a b) y q = absurd (not_some _ y (no_binary sc o (made sc fs a) (made sc (right_facts o (typed_of_expr sc.env a) fs) b)) q)
is_one sc fs (num s n) y q = absurd (cc)
is_one sc fs (true_ s) y q = absurd (cc)
is_one sc fs (false_ s) y q = absurd (cc)
is_one sc fs (null s) y q = absurd (cc)
is_one sc fs (field s e f) y q = absurd (cc)
is_one sc fs (arrow s e f) y q = absurd (cc)
is_one sc fs (index s e i) y q = absurd (cc)
is_one sc fs (deref s e) y q = absurd (cc)
is_one sc fs (address s e) y q = absurd (cc)

pub keeps_them : (sc : Scope) (fs : Facts) (p : CExpr) (y : ℕ) → (made sc fs p).register ≡ Some y → sc.in_registers ≡ true
keeps_them sc fs p y e = (is_one sc fs p y e).0

pub is_small : (sc : Scope) (fs : Facts) (p : CExpr) (y : ℕ) → (made sc fs p).register ≡ Some y → y < 32
is_small sc fs p y e = (is_one sc fs p y e).1
