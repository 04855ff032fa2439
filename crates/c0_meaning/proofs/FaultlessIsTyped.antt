-- Where no fault stands there is a type by the rules.
use Rattle.std.proofs.Common.{◌≡◌, ℕ, Bool, true, false, ◌&&◌, if◌then◌else◌, List, [], ◌∷◌, ◌++◌, Option, Some, None, refl, sym, ap, ◌∙◌, subst}
use Rattle.c0_tree.specs.declared.tree.Span.{Span}
use Rattle.c0_tree.specs.declared.tree.UnaryOp.{UnaryOp}
use Rattle.c0_tree.specs.declared.tree.UnaryOp.TheVariants.{Negate, Not}
use Rattle.c0_tree.specs.declared.tree.BinaryOp.{BinaryOp}
use Rattle.c0_tree.specs.declared.tree.BinaryOp.TheVariants.{Add, Sub, Mul, Div, Rem, Lt, Le, Gt, Ge, Eq, Ne, And, Or}
use Rattle.c0_tree.specs.Tree.{CName, CExpr, num, true_, false_, null, var, field, arrow, address, index, deref, unary, binary}
use Rattle.c0_meaning.specs.Ty.{Ty, int, bool, pointer, named, array, same_ty, is_scalar}
use Rattle.c0_meaning.specs.Env.{Env, Typed, Variable, variable_named, field_named}
use Rattle.c0_meaning.specs.Fault.{Fault, fault, WRONG_TYPE}
use Rattle.c0_meaning.specs.Expression.{Verdict, has, wrong, own, rule_on_one, rule_on_both, span_of, is_lvalue, is_local, is_null, is_pointer, is_null_for, variable_rule, sought_rule, member, target, field_rule, place_field_rule, arrow_rule, element_rule, index_rule, deref_rule, address_rule, unary_rule, ints_rule, bools_rule, alike_rule, binary_rule, compares, operand_type, type_of, faults}
use Rattle.c0_meaning.specs.Judgement.{IsArithmetic, add, sub, mul, div, rem, IsOrdering, lt, le, gt, ge, IsEquality, eq, ne, IsLogical, and, or, HasType, a_number, a_true, a_false, a_variable, a_field, a_target_field, an_element, a_target, an_address, a_negative, a_negation, arithmetic, order, logic, equality, null_left, null_right, FaultlessIsTyped}
use Rattle.c0_meaning.proofs.TypeEquality.{equal-same_ty}
use Rattle.c0_meaning.proofs.ComparedOperands.{right_free, Filled, filled_tells}
use Rattle.c0_meaning.proofs.TypedIsFaultless.{typed_is_faultless}

pub nonempty : {A : Type 0} {f : Fault} {fs : List Fault} → f ∷ fs ≡ [] → A
nonempty h = absurd (cc)

pub left_nil : (fs gs : List Fault) → fs ++ gs ≡ [] → fs ≡ []
left_nil [] gs h = refl
left_nil (f ∷ fs) gs h = nonempty h

pub right_nil : (fs gs : List Fault) → fs ++ gs ≡ [] → gs ≡ []
right_nil [] gs h = h
right_nil (f ∷ fs) gs h = nonempty h

-- an expression has some type
abbrev IsTyped : Env → CExpr → Type 0
IsTyped env e = (t : Ty) × HasType env e t

pub type_is : (env : Env) (e : CExpr) (t : Ty) → HasType env e t → type_of env e ≡ Some t
type_is env e t h = (typed_is_faultless env e t h).1

ints_there : (s : Span) (r t u : Ty) → own (ints_rule s r t u) ≡ [] → (t ≡ int) × (u ≡ int)
ints_there s r int int h = (refl, refl)
ints_there s r _ _ h = nonempty h

bools_there : (s : Span) (t u : Ty) → own (bools_rule s t u) ≡ [] → (t ≡ bool) × (u ≡ bool)
bools_there s bool bool h = (refl, refl)
bools_there s _ _ h = nonempty h

both_hold : (s : Span) (x y : Bool) → own (if x && y then has bool else wrong (fault WRONG_TYPE s)) ≡ [] → (x ≡ true) × (y ≡ true)
both_hold s true true h = (refl, refl)
both_hold s true false h = nonempty h
both_hold s false y h = nonempty h

of_ints : (env : Env) (s : Span) (o : BinaryOp) (a b : CExpr) (t u : Ty) → IsArithmetic o → HasType env a t → HasType env b u → own (ints_rule s int t u) ≡ [] → IsTyped env (binary s o a b)
of_ints env s o a b t u q h k e =
    let p = ints_there s int t u e in (int, arithmetic q (subst (HasType env a) p.0 h) (subst (HasType env b) p.1 k))

of_order : (env : Env) (s : Span) (o : BinaryOp) (a b : CExpr) (t u : Ty) → IsOrdering o → HasType env a t → HasType env b u → own (ints_rule s bool t u) ≡ [] → IsTyped env (binary s o a b)
of_order env s o a b t u q h k e =
    let p = ints_there s bool t u e in (bool, order q (subst (HasType env a) p.0 h) (subst (HasType env b) p.1 k))

of_bools : (env : Env) (s : Span) (o : BinaryOp) (a b : CExpr) (t u : Ty) → IsLogical o → HasType env a t → HasType env b u → own (bools_rule s t u) ≡ [] → IsTyped env (binary s o a b)
of_bools env s o a b t u q h k e =
    let p = bools_there s t u e in (bool, logic q (subst (HasType env a) p.0 h) (subst (HasType env b) p.1 k))

of_alike : (env : Env) (s : Span) (o : BinaryOp) (a b : CExpr) (t u : Ty) → IsEquality o → HasType env a t → HasType env b u → own (alike_rule s t u) ≡ [] → IsTyped env (binary s o a b)
of_alike env s o a b t u q h k e =
    let p = both_hold s (is_scalar t) (same_ty t u) e in
    (bool, equality q p.0 h (subst (HasType env b) (sym (equal-same_ty t u p.1)) k))

of_operands : (env : Env) (s : Span) (o : BinaryOp) (a b : CExpr) (t u : Ty) → HasType env a t → HasType env b u → own (binary_rule s o t u) ≡ [] → IsTyped env (binary s o a b)
of_operands env s Add a b t u h k e = of_ints env s Add a b t u add h k e
of_operands env s Sub a b t u h k e = of_ints env s Sub a b t u sub h k e
of_operands env s Mul a b t u h k e = of_ints env s Mul a b t u mul h k e
of_operands env s Div a b t u h k e = of_ints env s Div a b t u div h k e
of_operands env s Rem a b t u h k e = of_ints env s Rem a b t u rem h k e
of_operands env s Lt a b t u h k e = of_order env s Lt a b t u lt h k e
of_operands env s Le a b t u h k e = of_order env s Le a b t u le h k e
of_operands env s Gt a b t u h k e = of_order env s Gt a b t u gt h k e
of_operands env s Ge a b t u h k e = of_order env s Ge a b t u ge h k e
of_operands env s Eq a b t u h k e = of_alike env s Eq a b t u eq h k e
of_operands env s Ne a b t u h k e = of_alike env s Ne a b t u ne h k e
of_operands env s And a b t u h k e = of_bools env s And a b t u and h k e
of_operands env s Or a b t u h k e = of_bools env s Or a b t u or h k e

of_variable : (env : Env) (x : CName) (v : Option Variable) → variable_named env x.text ≡ v → own (variable_rule x v) ≡ [] → IsTyped env (var x)
of_variable env x (Some v) e h = (v.ty, a_variable e)
of_variable env x None e h = nonempty h

of_target : (env : Env) (s : Span) (e : CExpr) (t : Ty) → HasType env e t → own (deref_rule s t) ≡ [] → IsTyped env (deref s e)
of_target env s e (pointer t) h k = (t, a_target h)
of_target env s e int h k = nonempty k
of_target env s e bool h k = nonempty k
of_target env s e (named x) h k = nonempty k
of_target env s e (array t n) h k = nonempty k

of_unary : (env : Env) (s : Span) (o : UnaryOp) (e : CExpr) (t : Ty) → HasType env e t → own (unary_rule s o t) ≡ [] → IsTyped env (unary s o e)
of_unary env s Negate e int h k = (int, a_negative h)
of_unary env s Not e bool h k = (bool, a_negation h)
of_unary env s _ e _ h k = nonempty k

of_element : (env : Env) (s : Span) (e i : CExpr) (t u : Ty) → is_lvalue e ≡ true → HasType env e t → HasType env i u → own (element_rule s t u) ≡ [] → IsTyped env (index s e i)
of_element env s e i (array t n) int p h k x = (t, an_element p h k)
of_element env s e i _ _ p h k x = nonempty x

of_index : (env : Env) (s at : Span) (e i : CExpr) (t u : Ty) (p : Bool) → is_lvalue e ≡ p → HasType env e t → HasType env i u → own (index_rule s p at t u) ≡ [] → IsTyped env (index s e i)
of_index env s at e i t u true p h k x = of_element env s e i t u p h k x
of_index env s at e i t u false p h k x = nonempty x

of_address : (env : Env) (s at : Span) (e : CExpr) (t : Ty) (p l : Bool) → is_lvalue e ≡ p → is_local env e ≡ l → HasType env e t → own (address_rule p l at t) ≡ [] → IsTyped env (address s e)
of_address env s at e t true false p l h x = (pointer t, an_address p l h)
of_address env s at e t true true p l h x = nonempty x
of_address env s at e t false l' p l h x = nonempty x

of_member : (env : Env) (s : Span) (e : CExpr) (f : CName) (x : List ℕ) (found : Option (ℕ × Typed)) → is_lvalue e ≡ true → HasType env e (named x)
    → field_named env x f.text ≡ found → own (sought_rule f.span found) ≡ [] → IsTyped env (field s e f)
of_member env s e f x (Some p) place h found k = (p.1.ty, a_field place h found)
of_member env s e f x None place h found k = nonempty k

of_struct : (env : Env) (s : Span) (e : CExpr) (f : CName) (t : Ty) → is_lvalue e ≡ true → HasType env e t
    → own (field_rule s f.span (member env (Some t) f.text) t) ≡ [] → IsTyped env (field s e f)
of_struct env s e f (named x) place h k = of_member env s e f x (field_named env x f.text) place h refl k
of_struct env s e f int place h k = nonempty k
of_struct env s e f bool place h k = nonempty k
of_struct env s e f (pointer t) place h k = nonempty k
of_struct env s e f (array t n) place h k = nonempty k

of_field : (env : Env) (s at : Span) (e : CExpr) (f : CName) (t : Ty) (p : Bool) → is_lvalue e ≡ p → HasType env e t
    → own (place_field_rule s p at f.span (member env (Some t) f.text) t) ≡ [] → IsTyped env (field s e f)
of_field env s at e f t true place h k = of_struct env s e f t place h k
of_field env s at e f t false place h k = nonempty k

of_target_member : (env : Env) (s : Span) (e : CExpr) (f : CName) (x : List ℕ) (found : Option (ℕ × Typed)) → HasType env e (pointer (named x))
    → field_named env x f.text ≡ found → own (sought_rule f.span found) ≡ [] → IsTyped env (arrow s e f)
of_target_member env s e f x (Some p) h found k = (p.1.ty, a_target_field h found)
of_target_member env s e f x None h found k = nonempty k

of_target_struct : (env : Env) (s : Span) (e : CExpr) (f : CName) (t : Ty) → HasType env e (pointer t)
    → own (field_rule s f.span (member env (Some t) f.text) t) ≡ [] → IsTyped env (arrow s e f)
of_target_struct env s e f (named x) h k = of_target_member env s e f x (field_named env x f.text) h refl k
of_target_struct env s e f int h k = nonempty k
of_target_struct env s e f bool h k = nonempty k
of_target_struct env s e f (pointer t) h k = nonempty k
of_target_struct env s e f (array t n) h k = nonempty k

of_arrow : (env : Env) (s : Span) (e : CExpr) (f : CName) (t : Ty) → HasType env e t
    → own (arrow_rule s f.span (member env (target (Some t)) f.text) t) ≡ [] → IsTyped env (arrow s e f)
of_arrow env s e f (pointer t) h k = of_target_struct env s e f t h k
of_arrow env s e f int h k = nonempty k
of_arrow env s e f bool h k = nonempty k
of_arrow env s e f (named x) h k = nonempty k
of_arrow env s e f (array t n) h k = nonempty k

-- a rule on parts that have types speaks
open_one : (env : Env) (e : CExpr) (t : Ty) (rule : Option Ty → Verdict) → HasType env e t → own (rule (type_of env e)) ≡ [] → own (rule (Some t)) ≡ []
open_one env e t rule h x = ap (λ v. own (rule v)) (sym (type_is env e t h)) ∙ x

open_two : (env : Env) (a b : CExpr) (t u : Ty) (rule : Ty → Ty → Verdict) → HasType env a t → HasType env b u → own (rule_on_both (type_of env a) (type_of env b) rule) ≡ [] → own (rule t u) ≡ []
open_two env a b t u rule h k x =
    ap (λ v. own (rule_on_both v (Some u) rule)) (sym (type_is env a t h)) ∙ (ap (λ v. own (rule_on_both (type_of env a) v rule)) (sym (type_is env b u k)) ∙ x)

equality_of : (o : BinaryOp) → compares o ≡ true → IsEquality o
equality_of Eq h = eq
equality_of Ne h = ne
equality_of _ h = absurd (cc)

pub null_of : (e : CExpr) → is_null e ≡ true → (r : Span) × (null r ≡ e)
null_of (null r) h = (r, refl)
null_of _ h = absurd (cc)

pub pointer_of : (t : Ty) → is_pointer (Some t) ≡ true → (u : Ty) × (t ≡ pointer u)
pointer_of (pointer u) h = (u, refl)
pointer_of _ h = absurd (cc)

null_on_left : (env : Env) (s : Span) (o : BinaryOp) (a b : CExpr) (u : Ty) → Filled o a (Some u) → HasType env b u → IsTyped env (binary s o a b)
null_on_left env s o a b u f k =
    let n = null_of a f.null_there in
    let p = pointer_of u f.pointer_beside in
    subst (λ (x : CExpr). (t : Ty) × HasType env (binary s o x b) t) n.1 (bool, null_left (equality_of o f.compared) (subst (HasType env b) p.1 k))

null_on_right : (env : Env) (s : Span) (o : BinaryOp) (a b : CExpr) (t : Ty) → Filled o b (Some t) → HasType env a t → IsTyped env (binary s o a b)
null_on_right env s o a b t f h =
    let n = null_of b f.null_there in
    let p = pointer_of t f.pointer_beside in
    subst (λ (x : CExpr). (r : Ty) × HasType env (binary s o a x) r) n.1 (bool, null_right (equality_of o f.compared) (subst (HasType env a) p.1 h))

-- no fault stands, where it is known which operand is a null that is filled
abbrev Clean : Env → Span → BinaryOp → CExpr → CExpr → Bool → Bool → Type 0
Clean env s o a b p q =
    (if p then [] else faults env a) ++ ((if q then [] else faults env b)
    ++ own (rule_on_both (if p then operand_type o (type_of env b) else type_of env a) (if q then operand_type o (type_of env a) else type_of env b) (binary_rule s o))) ≡ []

of_binary : (env : Env) (s : Span) (o : BinaryOp) (a b : CExpr) → (faults env a ≡ [] → IsTyped env a) → (faults env b ≡ [] → IsTyped env b) → (p q : Bool)
    → is_null_for (operand_type o (type_of env b)) a ≡ p → is_null_for (operand_type o (type_of env a)) b ≡ q → Clean env s o a b p q → IsTyped env (binary s o a b)
of_binary env s o a b ia ib false false fp fq x =
    let v = ia (left_nil (faults env a) _ x) in
    let r = right_nil (faults env a) _ x in
    let w = ib (left_nil (faults env b) _ r) in
    of_operands env s o a b v.0 w.0 v.1 w.1 (open_two env a b v.0 w.0 (binary_rule s o) v.1 w.1 (right_nil (faults env b) _ r))
of_binary env s o a b ia ib true false fp fq x =
    let w = ib (left_nil (faults env b) _ x) in
    null_on_left env s o a b w.0 (subst (Filled o a) (type_is env b w.0 w.1) (filled_tells o a (type_of env b) fp)) w.1
of_binary env s o a b ia ib false true fp fq x =
    let v = ia (left_nil (faults env a) _ x) in
    null_on_right env s o a b v.0 (subst (Filled o b) (type_is env a v.0 v.1) (filled_tells o b (type_of env a) fq)) v.1
of_binary env s o a b ia ib true true fp fq x =
    absurd (apart (sym (right_free env o a b (filled_tells o a (type_of env b) fp).null_there) ∙ fq))
  where
    apart : false ≡ true → ⊥
    apart e = cc

pub faultless_is_typed : FaultlessIsTyped
faultless_is_typed env (num s n) x = (int, a_number)
faultless_is_typed env (true_ s) x = (bool, a_true)
faultless_is_typed env (false_ s) x = (bool, a_false)
faultless_is_typed env (null s) x = nonempty x
faultless_is_typed env (var y) x = of_variable env y (variable_named env y.text) refl x
faultless_is_typed env (field s e f) x =
    let a = faultless_is_typed env e (left_nil (faults env e) _ x) in
    of_field env s (span_of e) e f a.0 (is_lvalue e) refl a.1
    (open_one env e a.0 (λ o. rule_on_one o (place_field_rule s (is_lvalue e) (span_of e) f.span (member env o f.text))) a.1 (right_nil (faults env e) _ x))
faultless_is_typed env (arrow s e f) x =
    let a = faultless_is_typed env e (left_nil (faults env e) _ x) in
    of_arrow env s e f a.0 a.1 (open_one env e a.0 (λ o. rule_on_one o (arrow_rule s f.span (member env (target o) f.text))) a.1 (right_nil (faults env e) _ x))
faultless_is_typed env (index s e i) x =
    let a = faultless_is_typed env e (left_nil (faults env e) _ x) in
    let r = right_nil (faults env e) _ x in
    let b = faultless_is_typed env i (left_nil (faults env i) _ r) in
    of_index env s (span_of e) e i a.0 b.0 (is_lvalue e) refl a.1 b.1
    (open_two env e i a.0 b.0 (index_rule s (is_lvalue e) (span_of e)) a.1 b.1 (right_nil (faults env i) _ r))
faultless_is_typed env (deref s e) x =
    let a = faultless_is_typed env e (left_nil (faults env e) _ x) in
    of_target env s e a.0 a.1 (open_one env e a.0 (λ o. rule_on_one o (deref_rule s)) a.1 (right_nil (faults env e) _ x))
faultless_is_typed env (address s e) x =
    let a = faultless_is_typed env e (left_nil (faults env e) _ x) in
    of_address env s (span_of e) e a.0 (is_lvalue e) (is_local env e) refl refl a.1
    (open_one env e a.0 (λ o. rule_on_one o (address_rule (is_lvalue e) (is_local env e) (span_of e))) a.1 (right_nil (faults env e) _ x))
faultless_is_typed env (unary s o e) x =
    let a = faultless_is_typed env e (left_nil (faults env e) _ x) in
    of_unary env s o e a.0 a.1 (open_one env e a.0 (λ t. rule_on_one t (unary_rule s o)) a.1 (right_nil (faults env e) _ x))
faultless_is_typed env (binary s o a b) x =
    of_binary env s o a b (faultless_is_typed env a) (faultless_is_typed env b) (is_null_for (operand_type o (type_of env b)) a) (is_null_for (operand_type o (type_of env a)) b) refl refl x
