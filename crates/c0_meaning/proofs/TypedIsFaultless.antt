-- What has a type by the rules has no fault, and that type.
use Rattle.std.proofs.Common.{◌≡◌, ℕ, Bool, true, false, ◌&&◌, if◌then◌else◌, List, [], ◌++◌, Option, Some, refl, sym, ap, ◌∙◌}
use Rattle.c0_tree.specs.declared.tree.Span.{Span}
use Rattle.c0_tree.specs.declared.tree.UnaryOp.{UnaryOp}
use Rattle.c0_tree.specs.declared.tree.UnaryOp.TheVariants.{Negate, Not}
use Rattle.c0_tree.specs.declared.tree.BinaryOp.{BinaryOp}
use Rattle.c0_tree.specs.Tree.{CName, CExpr, num, true_, false_, null, var, field, arrow, address, index, deref, unary, binary}
use Rattle.c0_meaning.specs.Ty.{Ty, int, bool, pointer, named, array, same_ty, is_scalar}
use Rattle.c0_meaning.specs.Env.{Env, Typed, Variable, field_named}
use Rattle.c0_meaning.specs.Fault.{Fault, fault, WRONG_TYPE}
use Rattle.c0_meaning.specs.Expression.{Verdict, has, wrong, type_given, own, rule_on_one, rule_on_both, span_of, is_lvalue, is_local, is_null, is_pointer, is_null_for, type_asked, variable_rule, sought_rule, member, target, place_field_rule, arrow_rule, index_rule, deref_rule, address_rule, unary_rule, alike_rule, binary_rule, operand_type, verdict, type_of, faults}
use Rattle.c0_meaning.specs.Judgement.{IsArithmetic, add, sub, mul, div, rem, IsOrdering, lt, le, gt, ge, IsEquality, eq, ne, IsLogical, and, or, HasType, a_number, a_true, a_false, a_variable, a_field, a_target_field, an_element, a_target, an_address, a_negative, a_negation, arithmetic, order, logic, equality, null_left, null_right, TypedIsFaultless, HasOneType}
use Rattle.c0_meaning.proofs.TypeEquality.{same_ty-itself}
use Rattle.c0_meaning.proofs.ComparedOperands.{right_free, unfilled}

-- an expression whose node's rule gives a type, and whose parts have no fault
record Good (env : Env) (e : CExpr) (t : Ty) : Type 0 where
  typed : verdict env e ≡ has t
  clean : faults env e ≡ []

pub no_faults : (fs gs : List Fault) → fs ≡ [] → gs ≡ [] → fs ++ gs ≡ []
no_faults fs gs a b = ap (λ (x : List Fault). x ++ gs) a ∙ b

in_place : (s at f : Span) (place : Bool) (found : Option (ℕ × Typed)) (p : ℕ × Typed) (x : List ℕ) → place ≡ true → found ≡ Some p
    → place_field_rule s place at f found (named x) ≡ has p.1.ty
in_place s at f place found p x a b = ap (λ v. place_field_rule s v at f found (named x)) a ∙ ap (sought_rule f) b

good_field : (env : Env) (s : Span) (e : CExpr) (f : CName) (x : List ℕ) (p : ℕ × Typed)
    → is_lvalue e ≡ true → Good env e (named x) → field_named env x f.text ≡ Some p → Good env (field s e f) p.1.ty
good_field env s e f x p place a found =
    let v : verdict env (field s e f) ≡ has p.1.ty =
    ap (λ (w : Verdict). rule_on_one (type_given w) (place_field_rule s (is_lvalue e) (span_of e) f.span (member env (type_given w) f.text))) a.typed
    ∙ in_place s (span_of e) f.span (is_lvalue e) (field_named env x f.text) p x place found in
    record { typed = v; clean = no_faults _ _ a.clean (ap own v) }

good_arrow : (env : Env) (s : Span) (e : CExpr) (f : CName) (x : List ℕ) (p : ℕ × Typed)
    → Good env e (pointer (named x)) → field_named env x f.text ≡ Some p → Good env (arrow s e f) p.1.ty
good_arrow env s e f x p a found =
    let v : verdict env (arrow s e f) ≡ has p.1.ty =
    ap (λ (w : Verdict). rule_on_one (type_given w) (arrow_rule s f.span (member env (target (type_given w)) f.text))) a.typed ∙ ap (sought_rule f.span) found in
    record { typed = v; clean = no_faults _ _ a.clean (ap own v) }

good_element : (env : Env) (s : Span) (e i : CExpr) (t : Ty) (n : ℕ) → is_lvalue e ≡ true → Good env e (array t n) → Good env i int → Good env (index s e i) t
good_element env s e i t n p a b =
    let v : verdict env (index s e i) ≡ has t =
    ap (λ (x : Verdict). rule_on_both (type_given x) (type_given (verdict env i)) (index_rule s (is_lvalue e) (span_of e))) a.typed
    ∙ (ap (λ (x : Verdict). rule_on_both (Some (array t n)) (type_given x) (index_rule s (is_lvalue e) (span_of e))) b.typed
    ∙ ap (λ (x : Bool). index_rule s x (span_of e) (array t n) int) p) in
    record { typed = v; clean = no_faults _ _ a.clean (no_faults _ _ b.clean (ap own v)) }

good_target : (env : Env) (s : Span) (e : CExpr) (t : Ty) → Good env e (pointer t) → Good env (deref s e) t
good_target env s e t a =
    let v : verdict env (deref s e) ≡ has t = ap (λ (x : Verdict). rule_on_one (type_given x) (deref_rule s)) a.typed in
    record { typed = v; clean = no_faults _ _ a.clean (ap own v) }

good_address : (env : Env) (s : Span) (e : CExpr) (t : Ty) → is_lvalue e ≡ true → is_local env e ≡ false → Good env e t → Good env (address s e) (pointer t)
good_address env s e t p l a =
    let v : verdict env (address s e) ≡ has (pointer t) =
    ap (λ (x : Verdict). rule_on_one (type_given x) (address_rule (is_lvalue e) (is_local env e) (span_of e))) a.typed
    ∙ (ap (λ (x : Bool). address_rule x (is_local env e) (span_of e) t) p ∙ ap (λ (x : Bool). address_rule true x (span_of e) t) l) in
    record { typed = v; clean = no_faults _ _ a.clean (ap own v) }

good_unary : (env : Env) (s : Span) (o : UnaryOp) (e : CExpr) (t : Ty) → unary_rule s o t ≡ has t → Good env e t → Good env (unary s o e) t
good_unary env s o e t rule a =
    let v : verdict env (unary s o e) ≡ has t = ap (λ (x : Verdict). rule_on_one (type_given x) (unary_rule s o)) a.typed ∙ rule in
    record { typed = v; clean = no_faults _ _ a.clean (ap own v) }

not_null : (env : Env) (e : CExpr) (t : Ty) → verdict env e ≡ has t → is_null e ≡ false
not_null env (null s) t h = cc
not_null env (num s n) t h = refl
not_null env (true_ s) t h = refl
not_null env (false_ s) t h = refl
not_null env (var x) t h = refl
not_null env (field s e f) t h = refl
not_null env (arrow s e f) t h = refl
not_null env (index s e i) t h = refl
not_null env (deref s e) t h = refl
not_null env (address s e) t h = refl
not_null env (unary s o e) t h = refl
not_null env (binary s o a b) t h = refl

-- what the operands give when it is known which of them is a null that is filled
from_operands : (env : Env) (s : Span) (o : BinaryOp) (a b : CExpr) (x y : Bool) (t u r : Ty)
    → is_null_for (operand_type o (type_of env b)) a ≡ x → is_null_for (operand_type o (type_of env a)) b ≡ y
    → (if x then operand_type o (type_of env b) else type_of env a) ≡ Some t → (if y then operand_type o (type_of env a) else type_of env b) ≡ Some u
    → (if x then [] else faults env a) ≡ [] → (if y then [] else faults env b) ≡ []
    → binary_rule s o t u ≡ has r → Good env (binary s o a b) r
from_operands env s o a b x y t u r fx fy p q c d rule =
    let left : type_asked (operand_type o (type_of env b)) a (type_of env a) ≡ Some t = ap (λ v. if v then operand_type o (type_of env b) else type_of env a) fx ∙ p in
    let right : type_asked (operand_type o (type_of env a)) b (type_of env b) ≡ Some u = ap (λ v. if v then operand_type o (type_of env a) else type_of env b) fy ∙ q in
    let v : verdict env (binary s o a b) ≡ has r =
    ap (λ z. rule_on_both z (type_asked (operand_type o (type_of env a)) b (type_of env b)) (binary_rule s o)) left ∙ (ap (λ z. rule_on_both (Some t) z (binary_rule s o)) right ∙ rule) in
    record {
      typed = v;
      clean = no_faults _ _ (ap (λ v. if v then [] else faults env a) fx ∙ c)
          (no_faults _ _ (ap (λ v. if v then [] else faults env b) fy ∙ d) (ap own v));
    }

two : (env : Env) (s : Span) (o : BinaryOp) (a b : CExpr) (t u r : Ty) → binary_rule s o t u ≡ has r → Good env a t → Good env b u → Good env (binary s o a b) r
two env s o a b t u r rule v w =
    from_operands env s o a b false false t u r (unfilled _ a (not_null env a t v.typed)) (unfilled _ b (not_null env b u w.typed))
    (ap type_given v.typed) (ap type_given w.typed) v.clean w.clean rule

arithmetic_gives : (s : Span) (o : BinaryOp) → IsArithmetic o → binary_rule s o int int ≡ has int
arithmetic_gives s _ add = refl
arithmetic_gives s _ sub = refl
arithmetic_gives s _ mul = refl
arithmetic_gives s _ div = refl
arithmetic_gives s _ rem = refl

order_gives : (s : Span) (o : BinaryOp) → IsOrdering o → binary_rule s o int int ≡ has bool
order_gives s _ lt = refl
order_gives s _ le = refl
order_gives s _ gt = refl
order_gives s _ ge = refl

logic_gives : (s : Span) (o : BinaryOp) → IsLogical o → binary_rule s o bool bool ≡ has bool
logic_gives s _ and = refl
logic_gives s _ or = refl

alike_gives : (s : Span) (t : Ty) → is_scalar t ≡ true → alike_rule s t t ≡ has bool
alike_gives s t a =
    ap (λ (x : Bool). if x && same_ty t t then has bool else wrong (fault WRONG_TYPE s)) a
    ∙ ap (λ (x : Bool). if x then has bool else wrong (fault WRONG_TYPE s)) (same_ty-itself t)

equality_gives : (s : Span) (o : BinaryOp) (t : Ty) → IsEquality o → is_scalar t ≡ true → binary_rule s o t t ≡ has bool
equality_gives s _ t eq a = alike_gives s t a
equality_gives s _ t ne a = alike_gives s t a

-- an equality asks what is beside it
equality_asks : (o : BinaryOp) (t : Option Ty) → IsEquality o → operand_type o t ≡ t
equality_asks _ t eq = refl
equality_asks _ t ne = refl

null_first : (env : Env) (s r : Span) (o : BinaryOp) (b : CExpr) (t : Ty) → IsEquality o → Good env b (pointer t) → Good env (binary s o (null r) b) bool
null_first env s r o b t q v =
    let there : operand_type o (type_of env b) ≡ Some (pointer t) = equality_asks o (type_of env b) q ∙ ap type_given v.typed in
    from_operands env s o (null r) b true false (pointer t) (pointer t) bool (ap is_pointer there) (right_free env o (null r) b refl)
    there (ap type_given v.typed) refl v.clean (equality_gives s o (pointer t) q refl)

null_second : (env : Env) (s r : Span) (o : BinaryOp) (a : CExpr) (t : Ty) → IsEquality o → Good env a (pointer t) → Good env (binary s o a (null r)) bool
null_second env s r o a t q v =
    let there : operand_type o (type_of env a) ≡ Some (pointer t) = equality_asks o (type_of env a) q ∙ ap type_given v.typed in
    from_operands env s o a (null r) false true (pointer t) (pointer t) bool (unfilled _ a (not_null env a (pointer t) v.typed)) (ap is_pointer there)
    (ap type_given v.typed) there v.clean refl (equality_gives s o (pointer t) q refl)

good : (env : Env) (e : CExpr) (t : Ty) → HasType env e t → Good env e t
good env _ _ a_number = record { typed = refl; clean = refl }
good env _ _ a_true = record { typed = refl; clean = refl }
good env _ _ a_false = record { typed = refl; clean = refl }
good env _ _ (a_variable {x = x} e) = record { typed = ap (variable_rule x) e; clean = ap (λ (f : Option Variable). own (variable_rule x f)) e }
good env _ _ (a_field p h found) = good_field env _ _ _ _ _ p (good env _ _ h) found
good env _ _ (a_target_field h found) = good_arrow env _ _ _ _ _ (good env _ _ h) found
good env _ _ (an_element p h k) = good_element env _ _ _ _ _ p (good env _ _ h) (good env _ _ k)
good env _ _ (a_target h) = good_target env _ _ _ (good env _ _ h)
good env _ _ (an_address p l h) = good_address env _ _ _ p l (good env _ _ h)
good env _ _ (a_negative h) = good_unary env _ Negate _ _ refl (good env _ _ h)
good env _ _ (a_negation h) = good_unary env _ Not _ _ refl (good env _ _ h)
good env _ _ (arithmetic q h k) = two env _ _ _ _ _ _ _ (arithmetic_gives _ _ q) (good env _ _ h) (good env _ _ k)
good env _ _ (order q h k) = two env _ _ _ _ _ _ _ (order_gives _ _ q) (good env _ _ h) (good env _ _ k)
good env _ _ (logic q h k) = two env _ _ _ _ _ _ _ (logic_gives _ _ q) (good env _ _ h) (good env _ _ k)
good env _ _ (equality q a h k) = two env _ _ _ _ _ _ _ (equality_gives _ _ _ q a) (good env _ _ h) (good env _ _ k)
good env _ _ (null_left q h) = null_first env _ _ _ _ _ q (good env _ _ h)
good env _ _ (null_right q h) = null_second env _ _ _ _ _ q (good env _ _ h)

pub typed_no_null : (env : Env) (e : CExpr) (t : Ty) → HasType env e t → is_null e ≡ false
typed_no_null env e t h = not_null env e t (good env e t h).typed

pub typed_is_faultless : TypedIsFaultless
typed_is_faultless env e t h = ((good env e t h).clean, ap type_given (good env e t h).typed)

pub has_one_type : HasOneType
has_one_type env e t u h k = same (sym (ap type_given (good env e t h).typed) ∙ ap type_given (good env e u k).typed)
  where
    same : {t u : Ty} → Some t ≡ Some u → t ≡ u
    same e = cc
